-- Where each frame and swap page stands once: a page of one list stands in no other. Told by counts, which add over joined lists. Assumes nothing.
use Prim.Native.Nat.{ℕ, zero, suc, pred, ◌+◌, ◌≤◌, ◌<◌}
use mathlib.Core.Path.{◌≡◌, refl, ap}
use mathlib.Core.Logic.{◌≢◌}
use mathlib.Core.Bool.{Bool, true, false}
use mathlib.Core.List.{List, [], ◌∷◌}
use native.Mathlib.Omega.{arith}
use lib.Dec.{eqb}
use lib.ListN.{length, get_or, length-append}
use borrow.Author.Tests.{eqb-false}
use Rattle.rules.specs.Lists.{Every, concat_map, count_of}
use Rattle.rules.specs.Build.{paper01, page_count, group_count}
use Rattle.rules.specs.Node.{Node, empty_group, group_of}
use Rattle.rules.specs.Valid.{frame_list, idle, frame_numbers}
use Rattle.rules.proofs.Steps.EveryLaws.{every-getD, every_append, every-concat}
use Rattle.rules.proofs.Steps.ListLaws.{count-append, count_at, count-part, once-bounded}
use Rattle.rules.specs.Sound.{Mapped}

-- what stands nowhere is none of the elements
pub count_none : (k : ℕ) (xs : List ℕ) → count_of k xs ≡ 0 → Every (λ x. x ≢ k) xs
count_none k [] e = tt
count_none k (x ∷ xs) e = go (eqb x k) refl (count_none k xs)
  where
    go : (b : Bool) → eqb x k ≡ b → (count_of k xs ≡ 0 → Every (λ y. y ≢ k) xs) → (x ≢ k) × Every (λ y. y ≢ k) xs
    go true q r = absurd (let l = rw q at e in omega arith)
    go false q r = (eqb-false x k q, r (let l = rw q at e in omega arith))

-- of joined lists, two hold no more than all
pub count-parts : {A : Type 0} (k : ℕ) (f : A → List ℕ) (d : A) (xs : List A) (i j : ℕ) → i < length xs → j < length xs → i ≢ j
    → count_of k (f (get_or xs i d)) + count_of k (f (get_or xs j d)) ≤ count_of k (concat_map f xs)
count-parts k f d [] i j h l other = absurd (omega arith)
count-parts k f d (x ∷ xs) zero zero h l other = absurd (other refl)
count-parts k f d (x ∷ xs) zero (suc j) h l other = omega (arith, count-append k (f x) (concat_map f xs), count-part k f d xs j (omega arith))
count-parts k f d (x ∷ xs) (suc i) zero h l other = omega (arith, count-append k (f x) (concat_map f xs), count-part k f d xs i (omega arith))
count-parts k f d (x ∷ xs) (suc i) (suc j) h l other =
    omega (arith, count-append k (f x) (concat_map f xs), count-parts k f d xs i j (omega arith) (omega arith) (λ e. other (ap suc e)))

-- one of joined lists is no longer than all of them
length_part : {A : Type 0} (f : A → List ℕ) (d : A) (xs : List A) (i : ℕ) → i < length xs → length (f (get_or xs i d)) ≤ length (concat_map f xs)
length_part f d [] i h = absurd (omega arith)
length_part f d (x ∷ xs) zero h = omega (arith, length-append (f x) (concat_map f xs))
length_part f d (x ∷ xs) (suc i) h = omega (arith, length-append (f x) (concat_map f xs), length_part f d xs i (omega arith))

module _ {n : Node} (v : Mapped n) where
  -- the two lines and a group's list together are no longer than the pages are many
  pub lists-short : (g : ℕ) → 1 ≤ g → g ≤ group_count
      → length n.free + length n.paging.swap + length (group_of n g).buffer.frames ≤ page_count paper01
  unfolding idle frame_numbers frame_list group_of
  lists-short g low high =
      let count = v.group-count in
      omega (
        arith,
        v.frames-all,
        length-append (idle n) (concat_map frame_list n.groups),
        length-append n.free n.paging.swap,
        length_part frame_list empty_group n.groups (pred g) (omega arith),
      )

  -- the numbers of a group's pages are below 96
  pub list-bounded : (g : ℕ) → 1 ≤ g → g ≤ group_count → Every (λ f. f < page_count paper01) (group_of n g).buffer.frames
  unfolding frame_numbers frame_list group_of
  list-bounded g low high =
      let count = v.group-count in
      let all = once-bounded (page_count paper01) (frame_numbers n) v.frames-once v.frames-all in
      let lists = ((every_append (λ f. f < page_count paper01) (idle n) (concat_map frame_list n.groups)).0 all).1 in
      every-getD (λ G. Every (λ f. f < page_count paper01) (frame_list G)) n.groups (pred g) empty_group
      ((every-concat (λ f. f < page_count paper01) frame_list n.groups).0 lists) (omega arith)

  module _ (g : ℕ) (low : 1 ≤ g) (high : g ≤ group_count) (j : ℕ) (inside : j < length (group_of n g).buffer.frames) where
    -- a page of a group's list
    abbrev its : ℕ
    its = get_or (group_of n g).buffer.frames j 0

    -- is below 96
    pub its-bounded : its < page_count paper01
    its-bounded = every-getD (λ f. f < page_count paper01) (group_of n g).buffer.frames j 0 (list-bounded g low high) inside

    its-counted : count_of its n.free + count_of its n.paging.swap + count_of its (concat_map frame_list n.groups) ≡ 1
    unfolding idle frame_numbers
    its-counted =
        omega (
          arith,
          v.frames-once its its-bounded,
          count-append its (idle n) (concat_map frame_list n.groups),
          count-append its n.free n.paging.swap,
        )

    -- stands once in it
    pub its-once : count_of its (group_of n g).buffer.frames ≡ 1
    unfolding frame_list group_of
    its-once =
        let count = v.group-count in
        omega (arith, its-counted, count_at its (group_of n g).buffer.frames j inside refl, count-part its frame_list empty_group n.groups (pred g) (omega arith))

    -- not in the free line, nor in the swap line
    pub its-free : count_of its n.free ≡ 0
    unfolding frame_list group_of
    its-free =
        let count = v.group-count in
        omega (arith, its-counted, its-once, count-part its frame_list empty_group n.groups (pred g) (omega arith))

    pub its-swap : count_of its n.paging.swap ≡ 0
    unfolding frame_list group_of
    its-swap =
        let count = v.group-count in
        omega (arith, its-counted, its-once, count-part its frame_list empty_group n.groups (pred g) (omega arith))

    -- and in no other group's list
    pub its-other : (i : ℕ) → i < group_count → i ≢ pred g → count_of its (get_or n.groups i empty_group).buffer.frames ≡ 0
    unfolding frame_list group_of
    its-other i h other =
        let count = v.group-count in
        omega (arith, its-counted, its-once, count-parts its frame_list empty_group n.groups i (pred g) (omega arith) (omega arith) other)
