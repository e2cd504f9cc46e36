-- `all` over a range of numbers, with a closure that answers a test of a number: it answers the test of them all. Assumes nothing.
use Prim.Native.Nat.{ℕ, zero, suc, ◌-◌}
use mathlib.Core.Path.{◌≡◌, refl, sym, ap, ◌∙◌}
use mathlib.Core.Bool.{Bool, ◌&&◌}
use mathlib.Core.List.{List, [], ◌∷◌}
use native.Mathlib.Numerals.{add-one}
use denote.Param.Members.{Mut}
use Rattle.std.specs.declared.ops.Range.{Range}
use Rattle.std.specs.Iterator.{ChecksAll}
use Rattle.std.specs.List.{list_all, range_with_len}
use Rattle.std.specs.Fn.{Called}
use Rattle.std.proofs.iter.Yields.{nat_range_steps}
use Rattle.std.proofs.lemmas.Iterator.{YieldsList-from_range}
use Rattle.std.proofs.lemmas.Iterator.Search.{all_from_yields_List}
use Rattle.rules.specs.Lists.{all, up_from}

-- a range's numbers, and a test of a list, as std and as the rules write them
same_numbers : (a n : ℕ) → range_with_len a n ≡ up_from a n
same_numbers a zero = refl
same_numbers a (suc n) = rw add-one (ap {B = List ℕ} (λ xs. a ∷ xs) (same_numbers (suc a) n))

same_all : (p : ℕ → Bool) (xs : List ℕ) → list_all p xs ≡ all p xs
same_all p [] = refl
same_all p (x ∷ xs) = ap (λ b. p x && b) (same_all p xs)

same : (p : ℕ → Bool) (a n : ℕ) (r : Bool) → r ≡ list_all p (range_with_len a n) → all p (up_from a n) ≡ r
same p a n r e = sym (e ∙ same_all p (range_with_len a n) ∙ ap (all p) (same_numbers a n))

-- over a..b, which has n numbers
module _ {F : Type 0} {g : Mut F (ℕ × Unit {0}) Bool} {f : F} {r : Bool} where
  pub all_range : {s u : Range ℕ} (p : ℕ → Bool) (a b n : ℕ) → s ≡ record { start = a; end = b } → b - a ≡ n → ChecksAll nat_range_steps g s f r u
      → ((x : ℕ) (t : Bool) (q : F) → Called g f (x, tt) t q → (q ≡ f) × (t ≡ p x)) → all p (up_from a n) ≡ r
  all_range {s} {u} p a b n e m ran answers = same p a n r (all_from_yields_List p u f r ran (YieldsList-from_range a b n e m) answers)
