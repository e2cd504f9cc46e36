-- `script::read::read_fields` meets its contract: before each comma the numbers up to it are read, and those behind it decide the rest; a bad
-- number, a byte that is none, or a comma past the line's room ends the reading. Assumes nothing.
use Prim.Native.Nat.{◌-◌}
use mathlib.Core.Path.{◌≡◌}
use lib.ListN.{length}
use Rattle.script.proofs.read.FieldLaws.{Fielding}
use Rattle.script.proofs.read.read_fields.Given as goal

abbrev pub invariant-loop-i : goal.invariant-loop-i
invariant-loop-i l = Fielding l.s l.at l.count l.fields l.i × (length l.fields ≡ length l.initial.fields)

abbrev pub decreases-loop-i : goal.decreases-loop-i
decreases-loop-i l = length l.s - l.i
