-- Laws of the functions on lists that the rules are written with. A sum of weights over joined lists, and over lists of which one is
-- exchanged, is told additively, so that counts and lengths are two cases of one law; sums over a range are compared term by term; where
-- each of the numbers below k stands once among k numbers, there is no room for another, so all of them are below k. Assumes nothing.
use Prim.Native.Nat.{ℕ, zero, suc, ◌+◌, ◌-◌, ◌*◌, ◌≤◌, ◌<◌}
use mathlib.Core.Path.{◌≡◌, refl, sym, subst, ap, ◌∙◌}
use mathlib.Core.Logic.{◌≢◌}
use mathlib.Core.Bool.{Bool, true, false, true≢false, cond}
use mathlib.Core.List.{List, [], ◌∷◌, ◌++◌, map, Memᴰ}
use native.Mathlib.Nat.{zero-add, suc-add, le_of_suc-le-suc, not-suc-le-zero, add-zero, mul-zero, mul-suc}
use native.Mathlib.Decide.{ℕ_discrete, dec_lt}
use native.Mathlib.Omega.{arith}
use lib.Dec.{ltb, eqb}
use borrow.Author.Tests.{ltb-true, ltb-false, lt-ltb, le-ltb, eqb-true, eqb-false, eq-eqb, ne_eqb}
use lib.Seq.{take-nil, drop-nil, get_or-append-add}
use lib.ListN.{length, take, drop, get_or, set, replicate, length-append, get_or-append}
use Rattle.rules.specs.Lists.{filter, is_empty, Every, concat_map, sum, count_of, up_from, pad}
use Rattle.rules.proofs.Steps.EveryLaws.{every-getD}

-- an element that passes is kept, one that fails is not
pub filter-pass : {A : Type 0} (p : A → Bool) (x : A) (xs : List A) → p x ≡ true → filter p (x ∷ xs) ≡ x ∷ filter p xs
filter-pass {A} p x xs e = ap (λ (t : Bool). elim t as (λ u. List A) [ true ↦ x ∷ filter p xs | false ↦ filter p xs ]) e

pub filter-fail : {A : Type 0} (p : A → Bool) (x : A) (xs : List A) → p x ≡ false → filter p (x ∷ xs) ≡ filter p xs
filter-fail {A} p x xs e = ap (λ (t : Bool). elim t as (λ u. List A) [ true ↦ x ∷ filter p xs | false ↦ filter p xs ]) e

-- whether it is kept or not, an equal rest gives an equal whole
pub filter-tail : {A : Type 0} (p : A → Bool) (x : A) (xs ys : List A) → filter p xs ≡ filter p ys → filter p (x ∷ xs) ≡ filter p (x ∷ ys)
filter-tail {A} p x xs ys e = ap (λ (r : List A). elim (p x) as (λ u. List A) [ true ↦ x ∷ r | false ↦ r ]) e

-- filtering goes through joining
pub filter-append : {A : Type 0} (p : A → Bool) (xs ys : List A) → filter p (xs ++ ys) ≡ filter p xs ++ filter p ys
filter-append p [] ys = refl
filter-append {A} p (x ∷ xs) ys = go (p x) (filter-append p xs ys)
  where
    go : (t : Bool) → filter p (xs ++ ys) ≡ filter p xs ++ filter p ys
        → ◌≡◌ {A = List A} (elim t [ true ↦ x ∷ filter p (xs ++ ys) | false ↦ filter p (xs ++ ys) ])
        ((elim t [ true ↦ x ∷ filter p xs | false ↦ filter p xs ]) ++ filter p ys)
    go true e = ap {B = List A} (λ r. x ∷ r) e
    go false e = e

-- of a shorter list no more pass
pub filter-drop : {A : Type 0} (p : A → Bool) (n : ℕ) (xs : List A) → length (filter p (drop n xs)) ≤ length (filter p xs)
filter-drop p zero xs = omega arith
filter-drop p (suc n) [] = omega arith
filter-drop p (suc n) (x ∷ xs) = go (p x) refl (filter-drop p n xs)
  where
    go : (t : Bool) → p x ≡ t → length (filter p (drop n xs)) ≤ length (filter p xs) → length (filter p (drop n xs)) ≤ length (filter p (x ∷ xs))
    go true e less = rw (filter-pass p x xs e) (omega arith)
    go false e less = rw (filter-fail p x xs e) less

-- tests that agree on a list leave the same of it
pub filter-agree : {A : Type 0} (p q : A → Bool) (xs : List A) → Every (λ x. p x ≡ q x) xs → filter p xs ≡ filter q xs
filter-agree p q [] same = refl
filter-agree {A} p q (x ∷ xs) same =
    ap (λ (t : Bool). elim t as (λ t. List A) [ true ↦ x ∷ filter p xs | false ↦ filter p xs ]) same.0
    ∙ ap (λ (l : List A). elim (q x) as (λ t. List A) [ true ↦ x ∷ l | false ↦ l ]) (filter-agree p q xs same.1)

-- a list is not empty where it has an element
pub some-length : {A : Type 0} (xs : List A) → is_empty xs ≡ false → 1 ≤ length xs
some-length [] some = absurd (true≢false some)
some-length (x ∷ xs) some = omega arith

pub length_some : {A : Type 0} (xs : List A) → 1 ≤ length xs → is_empty xs ≡ false
length_some [] h = absurd (omega arith)
length_some (x ∷ xs) h = refl

-- a list with one more at its end is not empty
pub some-last : {A : Type 0} (xs : List A) (y : A) → is_empty (xs ++ (y ∷ [])) ≡ false
some-last [] y = refl
some-last (x ∷ xs) y = refl

-- an empty list has no element
pub empty-none : {A : Type 0} (xs : List A) → is_empty xs ≡ true → xs ≡ []
empty-none [] e = refl
empty-none (x ∷ xs) e = absurd (true≢false (sym e))

-- a list of no length is empty
pub no_length : {A : Type 0} (xs : List A) → length xs ≡ 0 → xs ≡ []
no_length [] e = refl
no_length (x ∷ xs) e = absurd (omega arith)

-- a list with something in front is not empty
pub some-append : {A : Type 0} (xs ys : List A) → is_empty xs ≡ false → is_empty (xs ++ ys) ≡ false
some-append [] ys some = absurd (true≢false some)
some-append (x ∷ xs) ys some = refl

-- the last of what a cut leaves is a cut of the front
pub take-drop : {A : Type 0} (n m : ℕ) (xs : List A) → take m (drop n xs) ≡ drop n (take (n + m) xs)
take-drop zero m xs = rw zero-add
take-drop (suc n) m [] = simp (take-nil, drop-nil)
take-drop (suc n) m (x ∷ xs) = rw suc-add (take-drop n m xs)

-- a function goes through a cut
pub map-drop : {A B : Type 0} (f : A → B) (n : ℕ) (xs : List A) → map f (drop n xs) ≡ drop n (map f xs)
map-drop f zero xs = refl
map-drop f (suc n) [] = refl
map-drop f (suc n) (x ∷ xs) = map-drop f n xs

-- the weights of the elements, summed
abbrev pub weight : {A : Type 0} → (A → ℕ) → List A → ℕ
weight w xs = sum (map w xs)

module _ {A : Type 0} (w : A → ℕ) where
  -- joined lists weigh what they weigh
  pub weight-append : (xs ys : List A) → weight w (xs ++ ys) ≡ weight w xs + weight w ys
  weight-append [] ys = omega arith
  weight-append (x ∷ xs) ys = omega (arith, weight-append xs ys)

  -- joined lists of which one is exchanged
  pub weight-exchange : {B : Type 0} (f : B → List A) (xs : List B) (i : ℕ) (y d : B) → i < length xs
      → weight w (concat_map f (set xs i y)) + weight w (f (get_or xs i d)) ≡ weight w (concat_map f xs) + weight w (f y)
  weight-exchange f [] i y d h = absurd (not-suc-le-zero h)
  weight-exchange f (x ∷ xs) zero y d h =
      omega (arith, weight-append (f y) (concat_map f xs), weight-append (f x) (concat_map f xs))
  weight-exchange f (x ∷ xs) (suc i) y d h =
      omega (
        arith,
        weight-append (f x) (concat_map f (set xs i y)),
        weight-append (f x) (concat_map f xs),
        weight-exchange f xs i y d (le_of_suc-le-suc h),
      )

-- how often a number stands in a list is a weight
abbrev pub hit : ℕ → ℕ → ℕ
hit k x = cond (eqb x k) 1 0

pub count-weight : (k : ℕ) (xs : List ℕ) → count_of k xs ≡ weight (hit k) xs
count-weight k [] = refl
count-weight k (x ∷ xs) = ap (λ (r : ℕ). hit k x + r) (count-weight k xs)

-- counts add
pub count-append : (k : ℕ) (xs ys : List ℕ) → count_of k (xs ++ ys) ≡ count_of k xs + count_of k ys
count-append k [] ys = omega arith
count-append k (x ∷ xs) ys = omega (arith, count-append k xs ys)

-- what stands at an index is counted
pub count_at : (k : ℕ) (xs : List ℕ) (i : ℕ) → i < length xs → get_or xs i 0 ≡ k → 1 ≤ count_of k xs
count_at k [] i h e = absurd (omega arith)
count_at k (x ∷ xs) zero h e = rw (eq-eqb x k e) (omega arith)
count_at k (x ∷ xs) (suc i) h e = let r = count_at k xs i (omega arith) e in omega arith

-- and in one of the lists, in all of them joined
pub count-part : {A : Type 0} (k : ℕ) (f : A → List ℕ) (d : A) (xs : List A) (i : ℕ) → i < length xs
    → count_of k (f (get_or xs i d)) ≤ count_of k (concat_map f xs)
count-part k f d [] i h = absurd (omega arith)
count-part k f d (x ∷ xs) zero h = omega (arith, count-append k (f x) (concat_map f xs))
count-part k f d (x ∷ xs) (suc i) h = omega (arith, count-append k (f x) (concat_map f xs), count-part k f d xs i (omega arith))

-- a number counted in two of the parts
pub count-two : {A : Type 0} (k : ℕ) (f : A → List ℕ) (d : A) (xs : List A) (i j : ℕ) → i < length xs → j < length xs → i ≢ j
    → count_of k (f (get_or xs i d)) + count_of k (f (get_or xs j d)) ≤ count_of k (concat_map f xs)
count-two k f d [] i j low high other = absurd (omega arith)
count-two k f d (x ∷ xs) zero zero low high other = absurd (other refl)
count-two k f d (x ∷ xs) zero (suc j) low high other = omega (arith, count-append k (f x) (concat_map f xs), count-part k f d xs j (omega arith))
count-two k f d (x ∷ xs) (suc i) zero low high other = omega (arith, count-append k (f x) (concat_map f xs), count-part k f d xs i (omega arith))
count-two k f d (x ∷ xs) (suc i) (suc j) low high other =
    omega (arith, count-append k (f x) (concat_map f xs), count-two k f d xs i j (omega arith) (omega arith) (λ e. other (ap suc e)))

-- and back: a number that is counted stands at an index
pub count_index : (k : ℕ) (xs : List ℕ) → 1 ≤ count_of k xs → (i : ℕ) × ((i < length xs) × (get_or xs i 0 ≡ k))
count_index k [] h = absurd (omega arith)
count_index k (x ∷ xs) h = go (eqb x k) refl (count_index k xs)
  where
    go : (t : Bool) → eqb x k ≡ t → (1 ≤ count_of k xs → (i : ℕ) × ((i < length xs) × (get_or xs i 0 ≡ k)))
        → (i : ℕ) × ((i < length (x ∷ xs)) × (get_or (x ∷ xs) i 0 ≡ k))
    go true q r = (0, (omega arith, eqb-true x k q))
    go false q r =
        let l = rw q at h in
        let t = r (omega arith) in
        let inside = t.1.0 in
        (suc t.0, (omega arith, t.1.1))

-- and one that is counted in joined lists is in one of them
pub count-whose : {A : Type 0} (k : ℕ) (f : A → List ℕ) (d : A) (xs : List A) → 1 ≤ count_of k (concat_map f xs)
    → (i : ℕ) × ((i < length xs) × (1 ≤ count_of k (f (get_or xs i d))))
count-whose k f d [] h = absurd (omega arith)
count-whose {A} k f d (x ∷ xs) h = go (dec_lt 0 (count_of k (f x))) (count-whose k f d xs)
  where
    go : Dec (0 < count_of k (f x)) → (1 ≤ count_of k (concat_map f xs) → (i : ℕ) × ((i < length xs) × (1 ≤ count_of k (f (get_or xs i d)))))
        → (i : ℕ) × ((i < length (x ∷ xs)) × (1 ≤ count_of k (f (get_or (x ∷ xs) i d))))
    go (yes here) r = (0, (omega arith, here))
    go (no not) r =
        let t = r (omega (arith, count-append k (f x) (concat_map f xs))) in
        let inside = t.1.0 in
        (suc t.0, (omega arith, t.1.1))

-- what holds of every element holds of a number that is counted
pub every-counted : (P : ℕ → Type 0) (k : ℕ) (xs : List ℕ) → Every P xs → 1 ≤ count_of k xs → P k
every-counted P k xs e h =
    let t = count_index k xs h in
    subst P t.1.1 (every-getD P xs t.0 0 e t.1.0)

-- a member is
pub count-member : {k : ℕ} {xs : List ℕ} → Memᴰ k xs → 1 ≤ count_of k xs
count-member {k} (Memᴰ.head {x = x} q) = rw (eq-eqb x k (sym q)) (omega arith)
count-member (Memᴰ.tail h) = let r = count-member h in omega arith

-- and so is a length
abbrev pub unit : {A : Type 0} → A → ℕ
unit x = 1

pub length-weight : {A : Type 0} (xs : List A) → length xs ≡ weight unit xs
length-weight [] = refl
length-weight (x ∷ xs) = omega (arith, length-weight xs)

-- the length of joined lists
pub length-concat_map : {A B : Type 0} (f : A → List B) (xs : List A) → length (concat_map f xs) ≡ sum (map (λ x. length (f x)) xs)
length-concat_map f [] = refl
length-concat_map f (x ∷ xs) = omega (arith, length-append (f x) (concat_map f xs), length-concat_map f xs)

-- a function that reads a list by numbers upward from a gives the list
pub map-up_from : {A : Type 0} (f : ℕ → A) (xs : List A) (a : ℕ) (d : A) → ((i : ℕ) → i < length xs → f (a + i) ≡ get_or xs i d)
    → map f (up_from a (length xs)) ≡ xs
map-up_from f [] a d h = refl
map-up_from {A} f (x ∷ xs) a d h =
    let first : f a ≡ x = ap f (sym (add-zero a)) ∙ h 0 (omega arith) in
    let rest : map f (up_from (suc a) (length xs)) ≡ xs = map-up_from f xs (suc a) d (λ i below. ap f (omega arith) ∙ h (suc i) (omega arith)) in
    cc

-- a number below a range does not stand in it
count-below : (f a n : ℕ) → f < a → count_of f (up_from a n) ≡ 0
count-below f a zero below = refl
count-below f a (suc n) below = rw (ne_eqb a f (λ e. omega arith)) (omega (arith, count-below f (suc a) n (omega arith)))

-- one of the range stands in it once
pub count-within : (f a n : ℕ) → a ≤ f → f < a + n → count_of f (up_from a n) ≡ 1
count-within f a zero low high = absurd (omega arith)
count-within f a (suc n) low high = go (ℕ_discrete a f) (λ later. count-within f (suc a) n later (omega arith))
  where
    go : Dec (a ≡ f) → (suc a ≤ f → count_of f (up_from (suc a) n) ≡ 1) → count_of f (up_from a (suc n)) ≡ 1
    go (yes here) later = rw (eq-eqb a f here) (omega (arith, count-below f (suc a) n (omega arith)))
    go (no other) later = rw (ne_eqb a f other) (omega (arith, later (omega arith)))

-- a range has the length asked for
pub length-up_from : (a n : ℕ) → length (up_from a n) ≡ n
length-up_from a zero = refl
length-up_from a (suc n) = ap suc (length-up_from (suc a) n)

-- two ranges side by side are one
pub up_from-append : (a n k : ℕ) → up_from a (n + k) ≡ up_from a n ++ up_from (a + n) k
up_from-append a zero k = simp (zero-add, add-zero)
up_from-append a (suc n) k =
    rw suc-add (ap (λ (r : List ℕ). a ∷ r) (up_from-append (suc a) n k ∙ ap (λ (c : ℕ). up_from (suc a) n ++ up_from c k) (omega arith)))

-- sums over one range, compared term by term
pub sum-le : (f g : ℕ → ℕ) (a n : ℕ) → ((i : ℕ) → a ≤ i → i < a + n → f i ≤ g i) → sum (map f (up_from a n)) ≤ sum (map g (up_from a n))
sum-le f g a zero h = omega arith
sum-le f g a (suc n) h = omega (arith, h a (omega arith) (omega arith), sum-le f g (suc a) n (λ i low high. h i (omega arith) (omega arith)))

-- and where one term is less
pub sum_lt : (f g : ℕ → ℕ) (a n : ℕ) → ((i : ℕ) → a ≤ i → i < a + n → f i ≤ g i) → (k : ℕ) → a ≤ k → k < a + n → f k < g k
    → sum (map f (up_from a n)) < sum (map g (up_from a n))
sum_lt f g a zero h k low high less = omega arith
sum_lt f g a (suc n) h k low high less = go (dec_lt a k) (λ after. sum_lt f g (suc a) n tail k after (omega arith) less)
  where
    tail : (i : ℕ) → suc a ≤ i → i < suc a + n → f i ≤ g i
    tail i above below = h i (omega arith) (omega arith)

    go : Dec (a < k) → (a < k → sum (map f (up_from (suc a) n)) < sum (map g (up_from (suc a) n)))
        → sum (map f (up_from a (suc n))) < sum (map g (up_from a (suc n)))
    go (yes after) later = omega (arith, h a (omega arith) (omega arith), later after)
    go (no first) later =
        let same : k ≡ a = omega arith in
        let here : f a < g a = rw same at less in
        omega (arith, sum-le f g (suc a) n tail)

-- a padded list has the length asked for
pub length-pad : (n : ℕ) (xs : List ℕ) → length (pad n xs) ≡ n
length-pad zero xs = refl
length-pad (suc n) [] = ap suc (length-pad n [])
length-pad (suc n) (x ∷ xs) = ap suc (length-pad n xs)

-- a list that is not too long stands at the front of the padded one
pub take-pad : (n : ℕ) (xs : List ℕ) → length xs ≤ n → take (length xs) (pad n xs) ≡ xs
take-pad n [] h = refl
take-pad zero (x ∷ xs) h = absurd (not-suc-le-zero h)
take-pad (suc n) (x ∷ xs) h = ap {B = List ℕ} (λ r. x ∷ r) (take-pad n xs (le_of_suc-le-suc h))

-- and behind it stand zeros
pub drop-pad : (P : ℕ → Type 0) → P 0 → (n : ℕ) (xs : List ℕ) → Every P (drop (length xs) (pad n xs))
drop-pad P z zero [] = tt
drop-pad P z (suc n) [] = (z, drop-pad P z n [])
drop-pad P z zero (x ∷ xs) = tt
drop-pad P z (suc n) (x ∷ xs) = drop-pad P z n xs

-- Lengths.

module _ {A B : Type 0} (f : A → List B) where
  -- lists of s elements each
  pub length-parts : (s : ℕ) (xs : List A) → Every (λ x. length (f x) ≡ s) xs → length (concat_map f xs) ≡ s * length xs
  length-parts s [] e = sym (mul-zero s)
  length-parts s (x ∷ xs) e =
      let r = length-parts s xs e.1 in
      let h = e.0 in
      simp (length-append, mul-suc) (omega arith)

  -- one of the lists is no longer than all
  pub part-short : {x : A} {xs : List A} → Memᴰ x xs → length (f x) ≤ length (concat_map f xs)
  part-short {x} (Memᴰ.head {x = y} {xs = ys} q) = simp length-append (rw q (omega arith))
  part-short {x} (Memᴰ.tail {x = y} {xs = ys} h) = let r = part-short h in simp length-append (omega arith)

  -- element i of the j-th, where each has s
  pub getD-parts : (s : ℕ) → ((x : A) → length (f x) ≡ s) → (xs : List A) (j i : ℕ) (c : A) (d : B) → j < length xs → i < s
      → get_or (concat_map f xs) (s * j + i) d ≡ get_or (f (get_or xs j c)) i d
  getD-parts s sized [] j i c d h l = absurd (omega arith)
  getD-parts s sized (x ∷ xs) zero i c d h l =
      let z : s * 0 + i ≡ i = omega arith in
      rw z (get_or-append (f x) (concat_map f xs) d i (rw (sized x) l))
  getD-parts s sized (x ∷ xs) (suc j) i c d h l =
      let z : s * suc j + i ≡ length (f x) + (s * j + i) = omega (arith, sized x, mul-suc s j) in
      rw z (get_or-append-add (f x) (concat_map f xs) (s * j + i) d ∙ getD-parts s sized xs j i c d (omega arith) l)

-- A list padded with 0.

-- to more than its length: zeros behind it
pub pad-append : (xs : List ℕ) (j : ℕ) → pad (length xs + j) xs ≡ xs ++ replicate j 0
pad-append [] j = rw zero-add (zeros j)
  where
    zeros : (j : ℕ) → pad j [] ≡ replicate j 0
    zeros zero = refl
    zeros (suc j) = ap (λ (r : List ℕ). 0 ∷ r) (zeros j)
pad-append (x ∷ xs) j = rw (suc-add (length xs) j) (ap (λ (r : List ℕ). x ∷ r) (pad-append xs j))

-- to any length that it fits
pub pad-fits : (n : ℕ) (xs : List ℕ) → length xs ≤ n → pad n xs ≡ xs ++ replicate (n - length xs) 0
pad-fits n xs h =
    let e : length xs + (n - length xs) ≡ n = omega arith in
    subst (λ (k : ℕ). pad k xs ≡ xs ++ replicate (n - length xs) 0) e (pad-append xs (n - length xs))

-- Numbers that stand once.

-- how many of the numbers are below k
unfoldable pub below : ℕ → List ℕ → ℕ
below k [] = 0
below k (x ∷ xs) = cond (ltb x k) 1 0 + below k xs

-- none is below 0
below-zero : (xs : List ℕ) → below 0 xs ≡ 0
unfolding below
below-zero [] = refl
below-zero (x ∷ xs) = rw (le-ltb x 0 (omega arith)) (rw (below-zero xs) refl)

-- the numbers below k + 1 are those below k and those that are k
below_suc : (k : ℕ) (xs : List ℕ) → below (suc k) xs ≡ below k xs + count_of k xs
unfolding below
below_suc k [] = refl
below_suc k (x ∷ xs) =
    let one = go (ltb x k) (eqb x k) refl refl in
    let more = below_suc k xs in
    omega arith
  where
    go : (l e : Bool) → ltb x k ≡ l → eqb x k ≡ e → cond (ltb x (suc k)) 1 0 ≡ cond (ltb x k) 1 0 + cond (eqb x k) 1 0
    go true true p q = absurd (omega (arith, ltb-true x k p, eqb-true x k q))
    go true false p q = rw (p, q, lt-ltb x (suc k) (omega (arith, ltb-true x k p)))
    go false true p q = rw (p, q, lt-ltb x (suc k) (omega (arith, eqb-true x k q)))
    go false false p q = rw (p, q, le-ltb x (suc k) (omega (arith, ltb-false x k p, eqb-false x k q)))

-- where each number below k stands once, k of them are below k
pub below-once : (k : ℕ) (xs : List ℕ) → ((f : ℕ) → f < k → count_of f xs ≡ 1) → below k xs ≡ k
below-once zero xs h = below-zero xs
below-once (suc k) xs h =
    let less = below-once k xs (λ f l. h f (omega arith)) in
    let last = h k (omega arith) in
    omega (arith, below_suc k xs)

-- no more are below k than there are
pub below_length : (k : ℕ) (xs : List ℕ) → below k xs ≤ length xs
unfolding below
below_length k [] = omega arith
below_length k (x ∷ xs) = go (ltb x k) (below_length k xs)
  where
    go : (l : Bool) → below k xs ≤ length xs → cond l 1 0 + below k xs ≤ suc (length xs)
    go true r = omega arith
    go false r = omega arith

-- of joined lists
pub below-append : (k : ℕ) (xs ys : List ℕ) → below k (xs ++ ys) ≡ below k xs + below k ys
unfolding below
below-append k [] ys = omega arith
below-append k (x ∷ xs) ys = omega (arith, below-append k xs ys)

-- none of those from k on is below k
pub below_none : (k : ℕ) (xs : List ℕ) → Every (λ x. k ≤ x) xs → below k xs ≡ 0
unfolding below
below_none k [] e = refl
below_none k (x ∷ xs) e = rw (le-ltb x k e.0) (rw (below_none k xs e.1) refl)

-- and where as many are, all are
below_all : (k : ℕ) (xs : List ℕ) → below k xs ≡ length xs → Every (λ x. x < k) xs
unfolding below
below_all k [] e = tt
below_all k (x ∷ xs) e = go (ltb x k) refl (below_all k xs)
  where
    go : (l : Bool) → ltb x k ≡ l → (below k xs ≡ length xs → Every (λ y. y < k) xs) → (x < k) × Every (λ y. y < k) xs
    go true p r = (ltb-true x k p, r (let q = rw p at e in omega arith))
    go false p r = absurd (let q = rw p at e in omega (arith, below_length k xs))

-- numbers as many as k, among which each below k stands once, are below k
pub once-bounded : (k : ℕ) (xs : List ℕ) → ((f : ℕ) → f < k → count_of f xs ≡ 1) → length xs ≡ k → Every (λ x. x < k) xs
once-bounded k xs h e = below_all k xs (below-once k xs h ∙ sym e)
