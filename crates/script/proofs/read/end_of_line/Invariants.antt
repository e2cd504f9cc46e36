-- `script::read::end_of_line` meets its contract: no newline is passed, so the line that goes on here ends where the first does. Assumes nothing.
use Prim.Native.Nat.{◌≤◌}
use mathlib.Core.Path.{◌≡◌}
use lib.ListN.{length}
use Rattle.script.specs.Read.{line_end}
use Rattle.script.proofs.read.end_of_line.Given as goal

abbrev pub invariant-loop-i : goal.invariant-loop-i
invariant-loop-i l = (l.i ≤ length l.s) × (line_end l.s l.i ≡ line_end l.s l.from)
