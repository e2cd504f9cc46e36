-- Where a number stands in a list: its index, found word by word in memory, and the list without it. Assumes nothing.
use Prim.Native.Nat.{ℕ, zero, suc, ◌+◌, ◌≤◌, ◌<◌}
use native.Mathlib.Decide.{dec_lt}
use native.Mathlib.Nat.{add-zero}
use native.Mathlib.Omega.{arith}
use mathlib.Core.Bool.{Bool, true, false, not, cond}
use mathlib.Core.List.{List, [], ◌∷◌}
use mathlib.Core.Path.{◌∙◌, ◌≡◌, ap, refl, sym}
use lib.Dec.{eqb, ltb}
use lib.ListN.{length}
use borrow.Author.Tests.{le-ltb, lt-ltb}
use Rattle.std.specs.Prelude.{Option, Some, None}
use Rattle.std.specs.List.{position, position_or_len, range_with_len}
use Rattle.std.specs.Option.{IsSome, SomeIff, unwrap_or}
use Rattle.std.proofs.lemmas.List.FromFn.{length-range_with_len}
use Rattle.rules.specs.Frames.{without}
use Rattle.rules.specs.Lists.{count_of}
use Rattle.rules.specs.Memory.{word, words_at}
use Rattle.rules.proofs.Steps.ListLaws.{filter-fail, filter-pass}
use Rattle.memory.specs.Lines.{index_of}
use Rattle.memory.proofs.lines.LineLaws.{lacking}

-- none is left out where the number does not stand
without-none : (f : ℕ) (xs : List ℕ) → count_of f xs ≡ 0 → without f xs ≡ xs
unfolding without
without-none f [] none = refl
without-none f (x ∷ xs) none = go (eqb x f) refl (without-none f xs)
  where
    go : (t : Bool) → eqb x f ≡ t → (count_of f xs ≡ 0 → without f xs ≡ xs) → without f (x ∷ xs) ≡ x ∷ xs
    go true e r = absurd (let l = rw e at none in omega arith)
    go false e r =
        let l : count_of f xs ≡ 0 = let k = rw e at none in omega arith in
        filter-pass (λ y. not (eqb y f)) x xs (ap not e) ∙ ap (λ (t : List ℕ). x ∷ t) (r l)

module _ (f : ℕ) where
  -- a number that stands in a list has an index there
  pub index_below : (xs : List ℕ) → 1 ≤ count_of f xs → index_of f xs < length xs
  unfolding index_of
  index_below [] some = absurd (omega arith)
  index_below (x ∷ xs) some = go (eqb x f) refl (index_below xs)
    where
      go : (t : Bool) → eqb x f ≡ t → (1 ≤ count_of f xs → index_of f xs < length xs) → cond t 0 (suc (index_of f xs)) < suc (length xs)
      go true e r = omega arith
      go false e r = let l = rw e at some in let k = r (omega arith) in omega arith

  -- and one that stands once is left out with that index
  pub without-index : (xs : List ℕ) → count_of f xs ≡ 1 → lacking (index_of f xs) xs ≡ without f xs
  unfolding index_of without
  without-index [] once = absurd (omega arith)
  without-index (x ∷ xs) once = go (eqb x f) refl (without-index xs)
    where
      go : (t : Bool) → eqb x f ≡ t → (count_of f xs ≡ 1 → lacking (index_of f xs) xs ≡ without f xs)
          → lacking (cond t 0 (suc (index_of f xs))) (x ∷ xs) ≡ without f (x ∷ xs)
      go true e r =
          let l : count_of f xs ≡ 0 = let k = rw e at once in omega arith in
          sym (filter-fail (λ y. not (eqb y f)) x xs (ap not e) ∙ without-none f xs l)
      go false e r =
          let l : count_of f xs ≡ 1 = let k = rw e at once in omega arith in
          ap (λ (t : List ℕ). x ∷ t) (r l) ∙ sym (filter-pass (λ y. not (eqb y f)) x xs (ap not e))

-- The search for it: the library's position over a range of numbers, and what it answers.

module _ (m : List ℕ) (a x : ℕ) where
  -- the i-th word from address a on is x
  abbrev pub is_here : ℕ → Bool
  is_here i = eqb (word m (a + i)) x

  index-position : (b n : ℕ) → index_of x (words_at m (a + b) n) ≡ position_or_len is_here (range_with_len b n)
  unfolding index_of words_at
  index-position b zero = refl
  index-position b (suc n) =
      let e : a + b + 1 ≡ a + (b + 1) = omega arith in
      rw e (go (is_here b) (index-position (b + 1) n))
    where
      go : (t : Bool) {i j : ℕ} → i ≡ j → cond t 0 (suc i) ≡ cond (not t) (1 + j) 0
      go true e = refl
      go false e = omega arith

  -- what is found is the index, where x stands among the n words
  pub found-index : (n : ℕ) {r : Option ℕ} → r ≡ position is_here (range_with_len 0 n)
      → SomeIff r (index_of x (words_at m a n) < n) (index_of x (words_at m a n))
  found-index n {r} e = go (dec_lt (index_of x (words_at m a n)) n)
    where
      index : index_of x (words_at m a n) ≡ position_or_len is_here (range_with_len 0 n)
      index = let k = add-zero a in rw k at (index-position 0 n)

      found : r ≡ cond (ltb (index_of x (words_at m a n)) n) (Some (index_of x (words_at m a n))) None
      found = let l = length-range_with_len 0 n in rw index (rw l at e)

      go : Dec (index_of x (words_at m a n) < n) → SomeIff r (index_of x (words_at m a n) < n) (index_of x (words_at m a n))
      go (yes h) = rw (found, lt-ltb (index_of x (words_at m a n)) n h) (h, refl)
      go (no h) = let le : n ≤ index_of x (words_at m a n) = omega arith in rw (found, le-ltb (index_of x (words_at m a n)) n le) h

module _ {P : Type 0} (v : ℕ) where
  -- where it stands it is found
  pub some_there : (r : Option ℕ) → P → SomeIff r P v → IsSome r
  some_there None p f = absurd (f p)
  some_there (Some i) p f = refl

  -- at its index
  pub some-index : (r : Option ℕ) (i : ℕ) → P → SomeIff r P v → r ≡ Some i → i ≡ v
  some-index None i p f e = absurd (f p)
  some-index (Some j) i p f e = sym (ap (λ (o : Option ℕ). unwrap_or o 0) e) ∙ f.1
