-- What follows from a write: words that stand elsewhere stand as before, two writes side by side are one, a write within words that stand is
-- one of the whole, and a write into a lent part is one into the memory that the part was lent from. Assumes nothing.
use Prim.Native.Nat.{ℕ, zero, suc, ◌+◌, ◌-◌, ◌≤◌, ◌<◌}
use mathlib.Core.Path.{◌≡◌, refl, sym, subst, ap, ◌∙◌}
use mathlib.Core.List.{List, [], ◌∷◌, ◌++◌, append-nil, append_assoc}
use native.Mathlib.Decide.{dec_lt}
use native.Mathlib.Omega.{arith}
use native.Mathlib.Nat.{add-zero}
use lib.ListN.{length, take, drop, get_or, get_or-eq_default, set, replicate, length-append, length-set, length-drop, get_or-append, take-append-drop, replicate-append-replicate, length-replicate}
use lib.Seq.{get_or-set_same, get_or-set_other, get_or-append-add, get_or-append_right, length-take-le, take_all}
use borrow.Rule.Slice.PartMut.{put_mid}
use Rattle.rules.specs.Lists.{pad}
use Rattle.rules.specs.Memory.{word, words_at}
use Rattle.rules.proofs.Steps.ListLaws.{pad-fits}
use Rattle.rules.proofs.Map.MapWords.{Stands, stands-append, stands-cons, words_at-part, words_at-stands}
use Rattle.memory.specs.Writes.{Wrote}

-- the same words at the same addresses are read the same
pub same-words_at : (m m' : List ℕ) (a k : ℕ) → ((b : ℕ) → a ≤ b → b < a + k → word m' b ≡ word m b) → words_at m' a k ≡ words_at m a k
unfolding words_at
same-words_at m m' a zero same = refl
same-words_at m m' a (suc k) same =
    let first = same a (omega arith) (omega arith) in
    let rest = same-words_at m m' (a + 1) k (λ b l h. same b (omega arith) (omega arith)) in
    cc

-- and stand the same
pub same-stands : (m m' : List ℕ) (a : ℕ) (ws : List ℕ) → ((b : ℕ) → a ≤ b → b < a + length ws → word m' b ≡ word m b) → Stands m a ws → Stands m' a ws
unfolding Stands
same-stands m m' a ws same h = same-words_at m m' a (length ws) same ∙ h

-- a word of those that stand
pub stands_word : (m : List ℕ) (a : ℕ) (ws : List ℕ) (j : ℕ) → j < length ws → Stands m a ws → word m (a + j) ≡ get_or ws j 0
stands_word m a [] j h s = absurd (omega arith)
stands_word m a (w ∷ ws) zero h s = rw (add-zero a) ((stands-cons m a w ws).0 s).0
stands_word m a (w ∷ ws) (suc j) h s =
    let e : a + suc j ≡ a + 1 + j = omega arith in
    rw e (stands_word m (a + 1) ws j (omega arith) ((stands-cons m a w ws).0 s).1)

-- one word more
pub words_at-more : (m : List ℕ) (a k : ℕ) → words_at m a (k + 1) ≡ words_at m a k ++ (word m (a + k) ∷ [])
unfolding words_at
words_at-more m a zero = rw add-zero
words_at-more m a (suc k) =
    let e : suc k + 1 ≡ suc (k + 1) = omega arith in
    let f : a + 1 + k ≡ a + suc k = omega arith in
    rw e (rw (words_at-more m (a + 1) k, f))

-- a list that is read whole
pub words_at-whole : (ws : List ℕ) (k : ℕ) → length ws ≡ k → ws ≡ words_at ws 0 k
words_at-whole ws k e = sym (words_at-part ws 0 k (omega arith) ∙ take_all k ws (omega arith))

-- the same words by another name
pub wrote_as : {m m' : List ℕ} {a : ℕ} {us vs : List ℕ} → Wrote m m' a us → us ≡ vs → Wrote m m' a vs
wrote_as {m} {m'} {a} w e = subst (Wrote m m' a) e w

-- and the same address
pub wrote_at : {m m' : List ℕ} {a b : ℕ} {ws : List ℕ} → Wrote m m' a ws → a ≡ b → Wrote m m' b ws
wrote_at {m} {m'} {ws = ws} w e = subst (λ (k : ℕ). Wrote m m' k ws) e w

-- nothing is written
pub wrote_none : (m : List ℕ) (a : ℕ) → Wrote m m a []
unfolding words_at
wrote_none m a = record { same_length = refl; here = refl; below = λ b h. refl; above = λ b h. refl }

-- a word is written
pub wrote-set : (m : List ℕ) (a w : ℕ) → a < length m → Wrote m (set m a w) a (w ∷ [])
unfolding words_at word
wrote-set m a w h =
    record {
      same_length = length-set m a w;
      here = ap (λ (x : ℕ). x ∷ []) (get_or-set_same m a w 0 h);
      below = λ b l. get_or-set_other m a b w 0 (λ e. omega arith);
      above = λ b l. get_or-set_other m a b w 0 (λ e. omega arith);
    }

module _ {m m' : List ℕ} {a : ℕ} {ws : List ℕ} (w : Wrote m m' a ws) where
  -- what is written stands
  pub wrote-stands : Stands m' a ws
  unfolding Stands
  wrote-stands = w.here

  -- what stands below it stands as before
  pub kept-below : (b : ℕ) (us : List ℕ) → b + length us ≤ a → Stands m b us → Stands m' b us
  kept-below b us h = same-stands m m' b us (λ c l k. w.below c (omega arith))

  -- and what stands above it
  pub kept_above : (b : ℕ) (us : List ℕ) → a + length ws ≤ b → Stands m b us → Stands m' b us
  kept_above b us h = same-stands m m' b us (λ c l k. w.above c (omega arith))

  -- words written behind those written
  pub wrote_then : {m'' : List ℕ} {vs : List ℕ} (a' : ℕ) → a' ≡ a + length ws → Wrote m' m'' a' vs → Wrote m m'' a (ws ++ vs)
  unfolding Stands
  wrote_then {m''} {vs} a' e v =
      let stands : Stands m'' a ws = same-stands m' m'' a ws (λ c l k. v.below c (omega arith)) w.here in
      let behind : Stands m'' (a + length ws) vs = rw e at v.here in
      record {
        same_length = v.same_length ∙ w.same_length;
        here = (stands-append m'' a ws vs).1 (stands, behind);
        below = λ b l. v.below b (omega arith) ∙ w.below b l;
        above = λ b l. let k = rw (length-append ws vs) at l in v.above b (omega arith) ∙ w.above b (omega arith);
      }

  -- one word written behind those written
  pub wrote-next : (a' x : ℕ) → a' ≡ a + length ws → a' < length m → Wrote m (set m' a' x) a (ws ++ (x ∷ []))
  wrote-next a' x e h = wrote_then a' e (wrote-set m' a' x (omega (arith, w.same_length)))

-- a write within words that stand is a write of the whole of them
pub widened : {m m' : List ℕ} {b : ℕ} {us : List ℕ} → Wrote m m' b us → (a : ℕ) (xs old ys : List ℕ) → b ≡ a + length xs → length old ≡ length us
    → Stands m a (xs ++ (old ++ ys)) → Wrote m m' a (xs ++ (us ++ ys))
unfolding Stands
widened {m} {m'} {b} {us} w a xs old ys at same h =
    let first = (stands-append m a xs (old ++ ys)).0 h in
    let second = (stands-append m (a + length xs) old ys).0 first.1 in
    let l = length-append us ys in
    let k = length-append xs (us ++ ys) in
    let before : Stands m' a xs = kept-below w a xs (omega arith) first.0 in
    let written : Stands m' (a + length xs) us = rw at at w.here in
    let behind : Stands m' (a + length xs + length us) ys =
    kept_above w (a + length xs + length us) ys (omega arith) (rw same at second.1) in
    record {
      same_length = w.same_length;
      here = (stands-append m' a xs (us ++ ys)).1 (before, (stands-append m' (a + length xs) us ys).1 (written, behind));
      below = λ c g. w.below c (omega arith);
      above = λ c g. w.above c (omega arith);
    }

-- the same at the end of words that stand
pub widened-end : {m m' : List ℕ} {b : ℕ} {us : List ℕ} → Wrote m m' b us → (a : ℕ) (xs old : List ℕ) → b ≡ a + length xs → length old ≡ length us
    → Stands m a (xs ++ old) → Wrote m m' a (xs ++ us)
widened-end {us = us} w a xs old at same h =
    wrote_as (widened w a xs old [] at same (rw append-nil h)) (rw append-nil)

-- a write within an area is one of all that then stands there
pub covered : {m m' : List ℕ} {b : ℕ} {us : List ℕ} → Wrote m m' b us → (a : ℕ) (ws : List ℕ) → a ≤ b → b + length us ≤ a + length ws → Stands m' a ws → Wrote m m' a ws
unfolding Stands
covered w a ws low high h =
    record { same_length = w.same_length; here = h; below = λ c l. w.below c (omega arith); above = λ c l. w.above c (omega arith) }

-- words written over words written
pub wrote-over : {m m' m'' : List ℕ} {a : ℕ} {us vs : List ℕ} → Wrote m m' a us → Wrote m' m'' a vs → length us ≡ length vs → Wrote m m'' a vs
wrote-over w v e =
    record {
      same_length = v.same_length ∙ w.same_length;
      here = v.here;
      below = λ b l. v.below b l ∙ w.below b l;
      above = λ b l. v.above b l ∙ w.above b (omega arith);
    }

-- the front of a padded list is gone, and what stood behind it has moved down
pub shifted : {m m' : List ℕ} (a N : ℕ) (us vs : List ℕ) → length us + length vs ≤ N → Stands m a (pad N (us ++ vs))
    → Wrote m m' a (words_at m (a + length us) (length vs) ++ replicate (length us) 0) → Stands m' a (pad N vs)
shifted {m} {m'} a N us vs fits h w =
    let l = length-append us vs in
    let k = N - (length us + length vs) in
    let e : pad N (us ++ vs) ≡ us ++ (vs ++ replicate k 0) = pad-fits N (us ++ vs) (omega arith) ∙ rw (l, append_assoc) in
    let first = (stands-append m a us (vs ++ replicate k 0)).0 (rw e at h) in
    let second = (stands-append m (a + length us) vs (replicate k 0)).0 first.1 in
    let same : words_at m (a + length us) (length vs) ≡ vs = words_at-stands m (a + length us) (length vs) vs refl second.0 in
    let zeros : List ℕ = replicate (length us) 0 in
    let lz : length zeros ≡ length us = length-replicate {A = ℕ} (length us) 0 in
    let lw = length-append vs zeros in
    let w' : Wrote m m' a (vs ++ zeros) = wrote_as w (ap (λ (t : List ℕ). t ++ zeros) same) in
    let behind : Stands m' (a + length (vs ++ zeros)) (replicate k 0) =
    subst (λ (b : ℕ). Stands m' b (replicate k 0)) (omega arith) (kept_above w' (a + length us + length vs) (replicate k 0) (omega arith) second.1) in
    let j : length us + k ≡ N - length vs = omega arith in
    let f : pad N vs ≡ (vs ++ zeros) ++ replicate k 0 =
    pad-fits N vs (omega arith) ∙ ap (λ (t : ℕ). vs ++ replicate t 0) (sym j)
    ∙ ap (λ (t : List ℕ). vs ++ t) (sym (replicate-append-replicate (length us) k 0)) ∙ sym (append_assoc vs zeros (replicate k 0)) in
    rw f ((stands-append m' a (vs ++ zeros) (replicate k 0)).1 (wrote-stands w', behind))

-- a padded list is one longer
pub lengthened : {m m' : List ℕ} (a N x : ℕ) (us : List ℕ) (b : ℕ) → b ≡ a + length us → length us < N → Stands m a (pad N us) → Wrote m m' b (x ∷ [])
    → Wrote m m' a (pad N (us ++ (x ∷ [])))
lengthened {m} {m'} a N x us b at fits h w =
    let k = N - length us - 1 in
    let l : length (us ++ (x ∷ [])) ≡ length us + 1 = length-append us (x ∷ []) in
    let j : N - length us ≡ suc k = omega arith in
    let e : pad N us ≡ us ++ ((0 ∷ []) ++ replicate k 0) = pad-fits N us (omega arith) ∙ ap (λ (t : ℕ). us ++ replicate t 0) j in
    let i : N - length (us ++ (x ∷ [])) ≡ k = omega arith in
    let f : pad N (us ++ (x ∷ [])) ≡ us ++ ((x ∷ []) ++ replicate k 0) =
    pad-fits N (us ++ (x ∷ [])) (omega arith) ∙ ap (λ (t : ℕ). (us ++ (x ∷ [])) ++ replicate t 0) i ∙ append_assoc us (x ∷ []) (replicate k 0) in
    wrote_as (widened w a us (0 ∷ []) (replicate k 0) at refl (rw e at h)) (sym f)

-- a padded list is longer by several words; what is not written of them is 0 as it was
pub lengthened-by : {m m' : List ℕ} (a N : ℕ) (us vs : List ℕ) (k b : ℕ) → b ≡ a + length us → length us + (length vs + k) ≤ N → Stands m a (pad N us) → Wrote m m' b vs
    → Wrote m m' a (pad N (us ++ (vs ++ replicate k 0)))
lengthened-by {m} {m'} a N us vs k b at fits h w =
    let j = N - (length us + (length vs + k)) in
    let zv : List ℕ = replicate (length vs) 0 in
    let lv : length zv ≡ length vs = length-replicate {A = ℕ} (length vs) 0 in
    let lk : length (replicate {A = ℕ} k 0) ≡ k = length-replicate {A = ℕ} k 0 in
    let split : N - length us ≡ length vs + (k + j) = omega arith in
    let e : pad N us ≡ us ++ (zv ++ (replicate k 0 ++ replicate j 0)) =
    pad-fits N us (omega arith) ∙ ap (λ (t : ℕ). us ++ replicate t 0) split
    ∙ ap (λ (t : List ℕ). us ++ t) (sym (replicate-append-replicate (length vs) (k + j) 0) ∙ ap (λ (t : List ℕ). zv ++ t) (sym (replicate-append-replicate k j 0))) in
    let l1 = length-append vs (replicate k 0) in
    let l2 = length-append us (vs ++ replicate k 0) in
    let i : N - length (us ++ (vs ++ replicate k 0)) ≡ j = omega arith in
    let f : pad N (us ++ (vs ++ replicate k 0)) ≡ us ++ (vs ++ (replicate k 0 ++ replicate j 0)) =
    pad-fits N (us ++ (vs ++ replicate k 0)) (omega arith) ∙ ap (λ (t : ℕ). (us ++ (vs ++ replicate k 0)) ++ replicate t 0) i
    ∙ append_assoc us (vs ++ replicate k 0) (replicate j 0) ∙ ap (λ (t : List ℕ). us ++ t) (append_assoc vs (replicate k 0) (replicate j 0)) in
    wrote_as (widened w a us zv (replicate k 0 ++ replicate j 0) at lv (rw e at h)) (sym f)

-- a memory is written whole
pub wrote-whole : (m m' : List ℕ) → length m' ≡ length m → Wrote m m' 0 m'
unfolding words_at word
wrote-whole m m' e =
    record {
      same_length = e;
      here = sym (words_at-whole m' (length m') refl);
      below = λ b h. absurd (omega arith);
      above = λ b h. get_or-eq_default m' 0 (omega arith) ∙ sym (get_or-eq_default m 0 (omega arith));
    }

-- a write is one with words behind it
pub wrote-front : {m m' : List ℕ} {a : ℕ} {ws : List ℕ} → Wrote m m' a ws → a + length ws ≤ length m → (r : List ℕ) → Wrote (m ++ r) (m' ++ r) a ws
unfolding word
wrote-front {m} {m'} {a} {ws} w inside r =
    let l = w.same_length in
    record {
      same_length = omega (arith, length-append m r, length-append m' r);
      here = same-words_at m' (m' ++ r) a (length ws) (λ b g h. get_or-append m' r 0 b (omega arith)) ∙ w.here;
      below = λ b h. get_or-append m' r 0 b (omega arith) ∙ w.below b h ∙ sym (get_or-append m r 0 b (omega arith));
      above = λ b h. go b h (dec_lt b (length m));
    }
  where
    go : (b : ℕ) → a + length ws ≤ b → Dec (b < length m) → get_or (m' ++ r) b 0 ≡ get_or (m ++ r) b 0
    go b h (yes g) =
        let l = w.same_length in
        get_or-append m' r 0 b (omega arith) ∙ w.above b h ∙ sym (get_or-append m r 0 b g)
    go b h (no g) =
        get_or-append_right m' r b 0 (omega (arith, w.same_length))
        ∙ rw w.same_length (sym (get_or-append_right m r b 0 (omega arith)))

-- and one with words before it
pub wrote-behind : {m m' : List ℕ} {a : ℕ} {ws : List ℕ} → Wrote m m' a ws → (us : List ℕ) → Wrote (us ++ m) (us ++ m') (length us + a) ws
unfolding word words_at
wrote-behind {m} {m'} {a} {ws} w us =
    record {
      same_length = omega (arith, length-append us m, length-append us m', w.same_length);
      here = moved a (length ws) ∙ w.here;
      below = λ b h. go b h (dec_lt b (length us));
      above = λ b h.
          let e : length us + (b - length us) ≡ b = omega arith in
          rw (sym e) (get_or-append-add us m' (b - length us) 0 ∙ w.above (b - length us) (omega arith) ∙ sym (get_or-append-add us m (b - length us) 0));
    }
  where
    moved : (b k : ℕ) → words_at (us ++ m') (length us + b) k ≡ words_at m' b k
    moved b zero = refl
    moved b (suc k) =
        let e : length us + b + 1 ≡ length us + (b + 1) = omega arith in
        let r = moved (b + 1) k in
        let f = get_or-append-add us m' b 0 in
        rw e (cc (r, f))

    go : (b : ℕ) → b < length us + a → Dec (b < length us) → get_or (us ++ m') b 0 ≡ get_or (us ++ m) b 0
    go b h (yes g) = get_or-append us m' 0 b g ∙ sym (get_or-append us m 0 b g)
    go b h (no g) =
        let e : length us + (b - length us) ≡ b = omega arith in
        rw (sym e) (get_or-append-add us m' (b - length us) 0 ∙ w.below (b - length us) (omega arith) ∙ sym (get_or-append-add us m (b - length us) 0))

-- a part that is written keeps the memory's length
pub length-part : (m p : List ℕ) (a k : ℕ) → length p ≡ length (take k (drop a m)) → length (put_mid a k m p) ≡ length m
length-part m p a k e =
    let us = drop a m in
    omega (
      arith,
      length-append (take a m) (p ++ drop k us),
      length-append p (drop k us),
      length-append (take a m) us,
      ap length (take-append-drop a m),
      length-append (take k us) (drop k us),
      ap length (take-append-drop k us),
    )

-- a write into a lent part is one into the memory
pub wrote-part : (m p : List ℕ) (a k : ℕ) (ws : List ℕ) → a ≤ length m → 0 + length ws ≤ length (take k (drop a m)) → Wrote (take k (drop a m)) p 0 ws
    → Wrote m (put_mid a k m p) a ws
wrote-part m p a k ws h l v =
    let behind : List ℕ = drop k (drop a m) in
    let parts : take a m ++ (take k (drop a m) ++ behind) ≡ m =
    ap (λ (t : List ℕ). take a m ++ t) (take-append-drop k (drop a m)) ∙ take-append-drop a m in
    let w = wrote-behind (wrote-front v l behind) (take a m) in
    subst (λ (t : List ℕ). Wrote t (put_mid a k m p) a ws) parts (wrote_at w (omega (arith, length-take-le a m h)))

-- and so is a part that is written whole
pub wrote_range : (m p : List ℕ) (a k : ℕ) → a + k ≤ length m → length p ≡ k → Wrote m (put_mid a k m p) a p
wrote_range m p a k h e =
    let l : length (take k (drop a m)) ≡ k = length-take-le k (drop a m) (omega (arith, length-drop a m)) in
    wrote-part m p a k p (omega arith) (omega arith) (wrote-whole (take k (drop a m)) p (omega arith))

-- six words, written one behind the other
pub wrote-six : (m : List ℕ) (a t u v x y z : ℕ) → a + 6 ≤ length m
    → Wrote m (set (set (set (set (set (set m a t) (a + 1) u) (a + 2) v) (a + 3) x) (a + 4) y) (a + 5) z) a (t ∷ u ∷ v ∷ x ∷ y ∷ z ∷ [])
wrote-six m a t u v x y z h =
    let w₁ = wrote-set m a t (omega arith) in
    let w₂ = wrote-next w₁ (a + 1) u refl (omega arith) in
    let w₃ = wrote-next w₂ (a + 2) v refl (omega arith) in
    let w₄ = wrote-next w₃ (a + 3) x refl (omega arith) in
    let w₅ = wrote-next w₄ (a + 4) y refl (omega arith) in
    wrote-next w₅ (a + 5) z refl (omega arith)
