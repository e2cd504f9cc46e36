-- `script::read::number` meets its contract: before each digit at most ten are read, and write the value; where they stop they are judged, and
-- an eleventh is refused. Assumes nothing.
use Rattle.script.proofs.read.NumberLaws.{Reading}
use Rattle.script.proofs.read.number.Given as goal

abbrev pub invariant-loop-i : goal.invariant-loop-i
invariant-loop-i l = Reading l.s l.at l.value l.i
