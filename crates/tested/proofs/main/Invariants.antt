-- `tested::main` is safe and ends: at each turn of the loop the line number is at most what the times so far can have counted. Assumes nothing.
use Prim.Native.Nat.{◌*◌, ◌≤◌}
use mathlib.Core.Path.{◌≡◌}
use lib.ListN.{length}
use Rattle.tested.specs.Counted.{CountsTo}
use Rattle.tested.proofs.main.Given as goal

abbrev pub invariant-loop : goal.invariant-loop
invariant-loop l =
    (length l.memory ≡ 8104) × ((length l.out ≡ 65536) × ((l.at ≤ 65536) × CountsTo l.number (65536 * l.counter)))
