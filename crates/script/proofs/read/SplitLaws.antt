-- A text split at the commas: digits in front of it join its first part, and a byte that is no digit makes a part no number. Assumes nothing.
use Prim.Native.Nat.{ℕ}
use native.Mathlib.Omega.{arith}
use borrow.Author.Tests.{ne_eqb}
use mathlib.Core.Bool.{true, false, and-false}
use mathlib.Core.Path.{◌≡◌, refl, sym, ap}
use mathlib.Core.List.{List, [], ◌∷◌, ◌++◌, append-nil}
use mathlib.Core.Option.{Option, none, some}
use lib.Dec.{eqb}
use lib.ListN.{length}
use Rattle.rules.specs.Lists.{all}
use Rattle.rules.specs.Text.{extend_first, split, is_digit}
use Rattle.rules.specs.Script.{is_number, number, and_number, numbers}
use Rattle.script.specs.Read.{digits_of, numbers_behind}
use Rattle.script.proofs.read.NumberLaws.{both-pass, digit-range}
use Rattle.script.proofs.read.LineEndLaws.{by-test}

-- bytes in front of the first part
unfoldable lead_first : List ℕ → List (List ℕ) → List (List ℕ)
lead_first ds [] = ds ∷ []
lead_first ds (p ∷ ps) = (ds ++ p) ∷ ps

-- one of them at a time
lead-cons : (d : ℕ) (ds : List ℕ) (ps : List (List ℕ)) → extend_first d (lead_first ds ps) ≡ lead_first (d ∷ ds) ps
unfolding extend_first lead_first
lead-cons d ds [] = refl
lead-cons d ds (p ∷ ps) = refl

-- none of them
lead-none : (x : ℕ) (ps : List (List ℕ)) → extend_first x ps ≡ lead_first [] (extend_first x ps)
unfolding extend_first lead_first
lead-none x [] = refl
lead-none x (p ∷ ps) = refl

-- the split has a first part
first_part : (xs : List ℕ) → split 44 xs ≡ lead_first [] (split 44 xs)
unfolding split lead_first
first_part [] = refl
first_part (x ∷ xs) = by-test (eqb x 44) (λ e. rw (split, e)) (λ e. rw (split, e) (lead-none x (split 44 xs)))

-- digits in front of a text stand in front of its first part
split-digits : (ds xs : List ℕ) → all is_digit ds ≡ true → split 44 (ds ++ xs) ≡ lead_first ds (split 44 xs)
unfolding split
split-digits [] xs e = first_part xs
split-digits (d ∷ ds) xs e =
    let p = both-pass (is_digit d) (all is_digit ds) e in
    let range = digit-range d p.0 in
    rw (split, ne_eqb d 44 (λ q. omega arith), split-digits ds xs p.1) (lead-cons d ds (split 44 xs))

-- one byte that is no digit, wherever it stands
all-bad : (ds : List ℕ) (c : ℕ) (p : List ℕ) → is_digit c ≡ false → all is_digit (ds ++ (c ∷ p)) ≡ false
all-bad [] c p e = rw e
all-bad (d ∷ ds) c p e = rw (all-bad ds c p e, and-false)

-- such bytes are no number
pub number-bad : (cs : List ℕ) → all is_digit cs ≡ false → number cs ≡ none
unfolding number is_number
number-bad cs e = rw (e, and-false, and-false)

-- nor are the fields with such a field in front
lead-bad : (ds : List ℕ) (c : ℕ) (ps : List (List ℕ)) → is_digit c ≡ false → numbers (lead_first ds (extend_first c ps)) ≡ none
unfolding lead_first extend_first numbers and_number
lead-bad ds c [] e = rw (number-bad (ds ++ (c ∷ [])) (all-bad ds c [] e))
lead-bad ds c (p ∷ ps) e = rw (number-bad (ds ++ (c ∷ p)) (all-bad ds c p e))

-- a text that begins with no digit has a first byte that is none
no_digit : (c : ℕ) (r : List ℕ) → digits_of (c ∷ r) ≡ [] → is_digit c ≡ false
unfolding digits_of
no_digit c r e =
    by-test
    (is_digit c)
    (λ t. let q = ap length (rw (digits_of, t) at e) in absurd (omega arith))
    (λ t. t)

-- a number in front of none is none
pub number-none : (n : Option ℕ) → and_number n none ≡ none
unfolding and_number
number-none none = refl
number-none (some n) = refl

-- behind a comma: the number that the digits write, and those behind it
pub behind-comma :
    (ds r : List ℕ) → all is_digit ds ≡ true → digits_of r ≡ [] → numbers_behind (44 ∷ (ds ++ r)) ≡ and_number (number ds) (numbers_behind r)
unfolding numbers_behind split lead_first numbers
behind-comma ds [] e n = rw (split-digits ds [] e, append-nil)
behind-comma ds (c ∷ r) e n =
    by-test
    (eqb c 44)
    (λ t. rw (split-digits ds (c ∷ r) e, split, numbers_behind, t, append-nil))
    (λ t. rw (split-digits ds (c ∷ r) e, split, numbers_behind, t, lead-bad ds c (split 44 r) (no_digit c r n)) (sym (number-none (number ds))))
