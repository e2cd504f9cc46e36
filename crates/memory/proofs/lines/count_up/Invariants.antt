-- `memory::lines::count_up` meets its contract. The loop's invariant: the numbers passed are written. Assumes nothing.
use Rattle.rules.specs.Lists.{up_from}
use Rattle.memory.specs.Writes.{Wrote}
use Rattle.memory.proofs.lines.count_up.Given as goal

abbrev pub invariant-loop-i : goal.invariant-loop-i
invariant-loop-i l = Wrote l.initial.m l.m l.line (up_from l.from l.i)
