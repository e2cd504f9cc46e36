-- Words that stand at an address of a memory: the one relation by which the laws of the map speak of addresses. What is written stands where
-- it is written, and what stands somewhere is read there; a list that stands somewhere is taken apart into its words, its parts and its
-- records, each at its own address, by the equation of addresses alone. Assumes nothing.
use Prim.Native.Nat.{ℕ, zero, suc, ◌+◌, ◌-◌, ◌*◌, ◌≤◌, ◌<◌}
use mathlib.Core.Path.{◌≡◌, refl, sym, subst, ap, ◌∙◌}
use mathlib.Core.Logic.Iff
use mathlib.Core.Logic.{◌↔◌, ◌⊎◌, inl, inr}
use mathlib.Core.Bool.{true, and-eq-true_iff}
use mathlib.Core.List.{List, [], ◌∷◌, ◌++◌, head-eq_of_cons-eq, tail-eq_of_cons-eq}
use native.Mathlib.Omega.{arith}
use native.Mathlib.Nat.{add-zero, eq-or-lt_of_le}
use native.Mathlib.Numerals.{add-one}
use lib.Dec.{eqb}
use lib.ListN.{length, take, drop, get_or, replicate, length-append, take-append-drop}
use lib.Seq.{drop-cons, take-append_seam}
use borrow.Author.Tests.{eqb-true, eq-eqb}
use Rattle.rules.specs.Lists.{Every, concat_map, up_from, pad}
use Rattle.rules.specs.Memory.{word, words_at}
use Rattle.rules.specs.MemoryTest.{zero_at}
use Rattle.rules.proofs.Steps.ListLaws.{pad-fits}

-- the words ws stand at address a of the memory m
unfoldable pub Stands : List ℕ → ℕ → List ℕ → Type 0
Stands m a ws = words_at m a (length ws) ≡ ws

module _ (m : List ℕ) where
  -- k words are read where k are asked for
  pub length-words_at : (a k : ℕ) → length (words_at m a k) ≡ k
  unfolding words_at
  length-words_at a zero = refl
  length-words_at a (suc k) = ap suc (length-words_at (a + 1) k)

  -- what is read at an address stands there
  pub stands-words_at : (a k : ℕ) → Stands m a (words_at m a k)
  unfolding Stands
  stands-words_at a k = ap (words_at m a) (length-words_at a k)

  -- and what stands there is read
  pub words_at-stands : (a k : ℕ) (ws : List ℕ) → length ws ≡ k → Stands m a ws → words_at m a k ≡ ws
  unfolding Stands
  words_at-stands a k ws e h = rw (← e) h

  -- no words stand anywhere
  pub stands-nil : (a : ℕ) → Stands m a []
  unfolding Stands words_at
  stands-nil a = refl

  -- a word and others behind it
  pub stands-cons : (a w : ℕ) (ws : List ℕ) → Stands m a (w ∷ ws) ↔ ((word m a ≡ w) × Stands m (a + 1) ws)
  unfolding Stands words_at
  stands-cons a w ws = (λ e. (head-eq_of_cons-eq e, tail-eq_of_cons-eq e), λ e. cc (e.0, e.1))

  -- words and others behind them
  pub stands-append : (a : ℕ) (us vs : List ℕ) → Stands m a (us ++ vs) ↔ (Stands m a us × Stands m (a + length us) vs)
  stands-append a [] vs = rw (add-zero a) (λ h. (stands-nil a, h), λ h. h.1)
  stands-append a (u ∷ us) vs =
      let r = stands-append (a + 1) us vs in
      let e : a + 1 + length us ≡ a + suc (length us) = omega arith in
      simp (stands-cons, r, e) (λ h. ((h.0, h.1.0), h.1.1), λ h. (h.0.0, (h.0.1, h.1)))

  -- the first of the words that are read
  pub take-words_at : (a j k : ℕ) → j ≤ k → take j (words_at m a k) ≡ words_at m a j
  unfolding words_at
  take-words_at a zero k h = refl
  take-words_at a (suc j) zero h = absurd (omega arith)
  take-words_at a (suc j) (suc k) h = ap (λ (r : List ℕ). word m a ∷ r) (take-words_at (a + 1) j k (omega arith))

  -- word i of them
  pub getD-words_at : (a k i : ℕ) → i < k → get_or (words_at m a k) i 0 ≡ word m (a + i)
  unfolding words_at
  getD-words_at a zero i h = absurd (omega arith)
  getD-words_at a (suc k) zero h = rw (add-zero a)
  getD-words_at a (suc k) (suc i) h =
      let e : a + 1 + i ≡ a + suc i = omega arith in
      rw (← e) (getD-words_at (a + 1) k i (omega arith))

  -- within the memory they are its words
  pub words_at-part : (a k : ℕ) → a + k ≤ length m → words_at m a k ≡ take k (drop a m)
  unfolding words_at word
  words_at-part a zero h = refl
  words_at-part a (suc k) h =
      let l : a < length m = omega arith in
      let r = words_at-part (a + 1) k (omega arith) in
      rw (drop-cons m a 0, r, add-one)

  -- zeros stand where the test says so
  pub zeros-stand : (a k : ℕ) → Stands m a (replicate k 0) ↔ (zero_at m a k ≡ true)
  unfolding zero_at words_at
  zeros-stand a zero = (λ h. refl, λ e. stands-nil a)
  zeros-stand a (suc k) =
      let r = zeros-stand (a + 1) k in
      let one : (word m a ≡ 0) ↔ (eqb 0 (word m a) ≡ true) = (λ e. eq-eqb 0 (word m a) (sym e), λ e. sym (eqb-true 0 (word m a) e)) in
      simp (stands-cons, and-eq-true_iff) (Iff.and one r)

  -- a padded list: its elements, then zeros
  pub pad-stands : (a n : ℕ) (xs : List ℕ) → length xs ≤ n → Stands m a (pad n xs) ↔ (Stands m a xs × (zero_at m (a + length xs) (n - length xs) ≡ true))
  pad-stands a n xs h = simp (pad-fits, stands-append, zeros-stand) Iff.rfl

  -- k lists of s words each, one behind the other
  pub parts-stand : (w : ℕ → List ℕ) (a s i k : ℕ) → ((j : ℕ) → i ≤ j → j < i + k → length (w j) ≡ s)
      → Stands m (a + s * i) (concat_map w (up_from i k)) ↔ ((j : ℕ) → i ≤ j → j < i + k → Stands m (a + s * j) (w j))
  parts-stand w a s i zero h = (λ p j l g. absurd (omega arith), λ p. stands-nil (a + s * i))
  parts-stand w a s i (suc k) h =
      let r = parts-stand w a s (suc i) k (λ j l g. h j (omega arith) (omega arith)) in
      let one = h i (omega arith) (omega arith) in
      let next : a + s * i + length (w i) ≡ a + s * suc i = omega arith in
      let both = stands-append (a + s * i) (w i) (concat_map w (up_from (suc i) k)) in (
        λ p j l g. first j (both.0 p).0 (λ l'. r.0 (rw next at (both.0 p).1) j l' (omega arith)) (eq-or-lt_of_le l),
        λ p. both.1 (p i (omega arith) (omega arith), rw next (r.1 (λ j l g. p j (omega arith) (omega arith)))),
      )
    where
      first : (j : ℕ) → Stands m (a + s * i) (w i) → (i < j → Stands m (a + s * j) (w j)) → (i ≡ j) ⊎ (i < j) → Stands m (a + s * j) (w j)
      first j p f (inl q) = subst (λ (d : ℕ). Stands m (a + s * d) (w d)) q p
      first j p f (inr l) = f l

-- the front of a memory stands at 0
pub front-stands : (ws rest : List ℕ) → Stands (ws ++ rest) 0 ws
unfolding Stands
front-stands ws rest =
    let h : 0 + length ws ≤ length (ws ++ rest) = simp length-append (omega arith) in
    words_at-part (ws ++ rest) 0 (length ws) h ∙ take-append_seam ws rest

-- and what stands at 0 is the front
pub stands-front : (m ws : List ℕ) → length ws ≤ length m → Stands m 0 ws → ws ++ drop (length ws) m ≡ m
unfolding Stands
stands-front m ws h e =
    let f : take (length ws) m ≡ ws = sym (words_at-part m 0 (length ws) (omega arith)) ∙ e in
    subst (λ (us : List ℕ). us ++ drop (length ws) m ≡ m) f (take-append-drop (length ws) m)

-- Records of s words each.

-- the reader `from` reads k records from an address on, each by `at`, s words apart
pub record Records {X : Type 0} (at : ℕ → X) (s : ℕ) (from : ℕ → ℕ → List X) : Type 0 where
  pub none : (a : ℕ) → from a 0 ≡ []
  pub more : (a k : ℕ) → from a (suc k) ≡ at a ∷ from (a + s) k

-- what holds at k + 1 addresses, s apart, holds at the first and at k others
stride : (Q : ℕ → Type 0) (a s k : ℕ) → ((i : ℕ) → i < suc k → Q (a + s * i)) ↔ (Q a × ((i : ℕ) → i < k → Q (a + s + s * i)))
stride Q a s k = (
  λ q.
      let here : a + s * 0 ≡ a = omega arith in
      let up : (i : ℕ) → a + s * suc i ≡ a + s + s * i = λ i. omega arith in
      (rw here at (q 0 (omega arith)), λ i l. rw (up i) at (q (suc i) (omega arith))),
  λ q. go q.0 q.1,
)
  where
    go : Q a → ((i : ℕ) → i < k → Q (a + s + s * i)) → (i : ℕ) → i < suc k → Q (a + s * i)
    go p f zero l = let here : a + s * 0 ≡ a = omega arith in rw here p
    go p f (suc i) l = let up : a + s * suc i ≡ a + s + s * i = omega arith in rw up (f i (omega arith))

module _ {X : Type 0} {at : ℕ → X} {s : ℕ} {from : ℕ → ℕ → List X} (r : Records at s from) where
  -- as many as are asked for
  pub length-records : (a k : ℕ) → length (from a k) ≡ k
  length-records a zero = rw (r.none a)
  length-records a (suc k) = rw (r.more a k) (ap suc (length-records (a + s) k))

  -- what holds of any that is read holds of every one
  pub every-record : (P : X → Type 0) → ((a : ℕ) → P (at a)) → (a k : ℕ) → Every P (from a k)
  every-record P f a zero = rw (r.none a) tt
  every-record P f a (suc k) = rw (r.more a k) (f a, every-record P f (a + s) k)

  -- record i stands i times s words behind the first
  pub record-at : (d : X) (a k i : ℕ) → i < k → get_or (from a k) i d ≡ at (a + s * i)
  record-at d a zero i h = absurd (omega arith)
  record-at d a (suc k) zero h = let e : a + s * 0 ≡ a = omega arith in rw (r.more a k, e)
  record-at d a (suc k) (suc i) h =
      let e : a + s * suc i ≡ a + s + s * i = omega arith in
      rw (r.more a k, e) (record-at d (a + s) k i (omega arith))

  module _ (m : List ℕ) (w : X → List ℕ) (Q : ℕ → Type 0) where
    -- records that stand at an address are read there; what holds where one of them stands holds where each of them does
    pub read-records : (P : X → Type 0) → ((x : X) → P x → length (w x) ≡ s) → ((a : ℕ) (x : X) → P x → Stands m a (w x) → (at a ≡ x) × Q a)
        → (xs : List X) → Every P xs → (a : ℕ) → Stands m a (concat_map w xs)
        → (from a (length xs) ≡ xs) × ((i : ℕ) → i < length xs → Q (a + s * i))
    read-records P sized one [] e a h = (r.none a, λ i l. absurd (omega arith))
    read-records P sized one (x ∷ xs) e a h =
        let k = (stands-append m a (w x) (concat_map w xs)).0 h in
        let first = one a x e.0 k.0 in
        let rest = read-records P sized one xs e.1 (a + s) (rw (sized x e.0) at k.1) in
        (rw (r.more a (length xs), first.0, rest.0), (stride Q a s (length xs)).1 (first.1, rest.1))

    -- and where it holds, the records that are read stand
    pub records-stand : ((a : ℕ) → Q a → (length (w (at a)) ≡ s) × Stands m a (w (at a)))
        → (a k : ℕ) → ((i : ℕ) → i < k → Q (a + s * i)) → Stands m a (concat_map w (from a k))
    records-stand one a zero q = rw (r.none a) (stands-nil m a)
    records-stand one a (suc k) q =
        let each = (stride Q a s k).0 q in
        let first = one a each.0 in
        let rest = records-stand one (a + s) k each.1 in
        rw (r.more a k) ((stands-append m a (w (at a)) (concat_map w (from (a + s) k))).1 (first.1, rw first.0 rest))
