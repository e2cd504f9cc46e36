-- `script::write::put_fields` meets its contract. The loop's invariant: so many of the numbers are written as fields, each of at most eleven bytes.
-- Assumes nothing.
use Prim.Native.Nat.{◌+◌, ◌*◌, ◌≤◌}
use lib.ListN.{take}
use Rattle.script.specs.Written.{Appended, fields}
use Rattle.script.proofs.write.put_fields.Given as goal

abbrev pub invariant-loop-i : goal.invariant-loop-i
invariant-loop-i l = Appended l.initial.out l.at l.out l.end (fields (take l.i l.numbers)) × (l.end ≤ l.at + 11 * l.i)
