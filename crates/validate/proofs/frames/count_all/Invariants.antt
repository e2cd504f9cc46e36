-- `validate::frames::count_all` meets its contract: the total is the length of the lists passed, of at most 96 numbers each. Assumes nothing.
use Prim.Native.Nat.{◌-◌, ◌*◌, ◌≤◌}
use mathlib.Core.Path.{◌≡◌}
use lib.ListN.{length}
use Rattle.validate.specs.Clauses.{listed}
use Rattle.validate.proofs.frames.count_all.Given as goal

abbrev pub invariant-loop-l : goal.invariant-loop-l
invariant-loop-l l = (l.total ≡ length (listed l.m l.from (l.l - l.from))) × (l.total ≤ 96 * l.l)
