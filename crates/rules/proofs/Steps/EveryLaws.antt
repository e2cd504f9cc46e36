-- What holds of every element of a list: by membership, and through joining, cutting, setting and mapping. Assumes nothing.
use Prim.Native.Nat.{ℕ, zero, suc, ◌+◌, ◌≤◌, ◌<◌}
use mathlib.Core.Path.{◌≡◌, refl, sym, subst}
use mathlib.Core.Logic.Iff
use mathlib.Core.Logic.{◌↔◌}
use mathlib.Core.List.{List, [], ◌∷◌, ◌++◌, map, Memᴰ}
use native.Mathlib.Omega.{arith}
use native.Mathlib.Nat.{le_of_suc-le-suc, not-suc-le-zero}
use lib.ListN.{length, take, drop, get_or, set, replicate}
use Rattle.rules.specs.Lists.{Every, concat_map, up_from}

module _ {A : Type 0} (P : A → Type 0) where
  -- what holds of each member holds of every element
  pub every_of : (xs : List A) → ((x : A) → Memᴰ x xs → P x) → Every P xs
  every_of [] f = tt
  every_of (x ∷ xs) f = (f x (Memᴰ.head refl), every_of xs (λ y h. f y (Memᴰ.tail h)))

  -- and back
  pub every-at : {x : A} {xs : List A} → Every P xs → Memᴰ x xs → P x
  every-at e (Memᴰ.head q) = subst P (sym q) e.0
  every-at e (Memᴰ.tail h) = every-at e.1 h

  -- of two lists joined
  pub every_append : (xs ys : List A) → Every P (xs ++ ys) ↔ (Every P xs × Every P ys)
  every_append [] ys = (λ e. (tt, e), λ e. e.1)
  every_append (x ∷ xs) ys =
      (λ e. let r = (every_append xs ys).0 e.1 in ((e.0, r.0), r.1), λ e. (e.0.0, (every_append xs ys).1 (e.0.1, e.1)))

  -- of the elements that f gives
  pub every-unmap : {B : Type 0} (f : B → A) (xs : List B) → Every P (map f xs) → Every (λ x. P (f x)) xs
  every-unmap f [] e = tt
  every-unmap f (x ∷ xs) e = (e.0, every-unmap f xs e.1)

  -- of many lists joined
  pub every-concat : {B : Type 0} (f : B → List A) (xs : List B) → Every P (concat_map f xs) ↔ Every (λ x. Every P (f x)) xs
  every-concat f [] = Iff.rfl
  every-concat f (x ∷ xs) = Iff.trans (every_append (f x) (concat_map f xs)) (Iff.and Iff.rfl (every-concat f xs))

  -- an element set
  pub every_set : (xs : List A) (i : ℕ) (y : A) → Every P xs → P y → Every P (set xs i y)
  every_set [] i y hs h = hs
  every_set (x ∷ xs) zero y hs h = (h, hs.1)
  every_set (x ∷ xs) (suc i) y hs h = (hs.0, every_set xs i y hs.1 h)

  -- one element
  pub every-getD : (xs : List A) (i : ℕ) (d : A) → Every P xs → i < length xs → P (get_or xs i d)
  every-getD [] i d hs h = absurd (not-suc-le-zero h)
  every-getD (x ∷ xs) zero d hs h = hs.0
  every-getD (x ∷ xs) (suc i) d hs h = every-getD xs i d hs.1 (le_of_suc-le-suc h)

  -- the first elements
  pub every_take : (n : ℕ) (xs : List A) → Every P xs → Every P (take n xs)
  every_take zero xs hs = tt
  every_take (suc n) [] hs = tt
  every_take (suc n) (x ∷ xs) hs = (hs.0, every_take n xs hs.1)

  -- the elements but the first
  pub every_drop : (n : ℕ) (xs : List A) → Every P xs → Every P (drop n xs)
  every_drop zero xs hs = hs
  every_drop (suc n) [] hs = tt
  every_drop (suc n) (x ∷ xs) hs = every_drop n xs hs.1

  -- one element many times
  pub every-replicate : (n : ℕ) (x : A) → P x → Every P (replicate n x)
  every-replicate zero x h = tt
  every-replicate (suc n) x h = (h, every-replicate n x h)

  -- the values of a function
  pub every_map : {B : Type 0} (f : B → A) → ((x : B) → P (f x)) → (xs : List B) → Every P (map f xs)
  every_map f h [] = tt
  every_map f h (x ∷ xs) = (h x, every_map f h xs)

-- of values, where it holds of what they are the values of
pub every-mapped : {A B : Type 0} (P : A → Type 0) (Q : B → Type 0) (f : A → B) → ((x : A) → P x → Q (f x)) → (xs : List A) → Every P xs → Every Q (map f xs)
every-mapped P Q f h [] e = tt
every-mapped P Q f h (x ∷ xs) e = (h x e.0, every-mapped P Q f h xs e.1)

-- a weaker fact
pub every-mono : {A : Type 0} (P Q : A → Type 0) → ((x : A) → P x → Q x) → (xs : List A) → Every P xs → Every Q xs
every-mono P Q f [] e = tt
every-mono P Q f (x ∷ xs) e = (f x e.0, every-mono P Q f xs e.1)

-- a list whose elements all are one
pub every-same : {A : Type 0} (y : A) (xs : List A) → Every (λ x. x ≡ y) xs → xs ≡ replicate (length xs) y
every-same y [] e = refl
every-same y (x ∷ xs) e = let r = every-same y xs e.1 in let q = e.0 in cc

-- k numbers from a on
pub every-up_from : (P : ℕ → Type 0) (a k : ℕ) → ((i : ℕ) → a ≤ i → i < a + k → P i) → Every P (up_from a k)
every-up_from P a zero f = tt
every-up_from P a (suc k) f =
    (f a (omega arith) (omega arith), every-up_from P (suc a) k (λ i l h. f i (omega arith) (omega arith)))
