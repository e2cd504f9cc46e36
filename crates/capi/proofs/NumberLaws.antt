-- An operation by its letter and numbers: the first number and the words behind it are read off the lent part. Assumes nothing.
use Prim.Native.Nat.{ℕ, ◌-◌}
use native.Mathlib.Omega.{arith}
use mathlib.Core.List.{List, [], ◌∷◌}
use mathlib.Core.Option.{some}
use mathlib.Core.Path.{◌≡◌, ◌∙◌, ap, refl}
use lib.ListN.{length, take, drop, get_or, length-drop}
use lib.Seq.{take_all}
use Rattle.rules.specs.Script as script
use Rattle.rules.specs.Types.{operation_of}
use Rattle.rules.specs.declared.Operation.{Operation as Operation·rt}
use Rattle.script.specs.Read.{Lettered}

-- the first, whatever stands for one that is not there
first-same : (ns : List ℕ) → get_or ns 0 (get_or ns 0 0) ≡ get_or ns 0 0
first-same [] = refl
first-same (n ∷ ns) = refl

-- the words behind the first are all that are left
behind-first : (ns : List ℕ) → take (length ns - 1) (drop 1 ns) ≡ drop 1 ns
behind-first ns = take_all (length ns - 1) (drop 1 ns) (rw (length-drop 1 ns) (omega arith))

-- so the operation with these words is that of the letter and all numbers
pub lettered-whole : (letter : ℕ) (ns : List ℕ) (op : Operation·rt) {first : ℕ} {ws : List ℕ} → first ≡ get_or ns 0 0
    → ws ≡ take (length ns - 1) (drop 1 ns)
    → Lettered letter (length ns) first op
    → operation_of op ws ≡ script.operation_of letter (some ns)
unfolding Lettered
lettered-whole letter ns op f w l = ap (operation_of op) (w ∙ behind-first ns) ∙ l ns refl (rw f (first-same ns))
