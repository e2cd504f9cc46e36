-- `validate::lines::Lines::new` meets its contract: the counts are those of the places before i. Assumes nothing.
use Rattle.validate.specs.Known.{QueueCounts}
use Rattle.validate.proofs.lines.Lines.new.Given as goal

abbrev pub invariant-loop-i : goal.invariant-loop-i
invariant-loop-i l = QueueCounts l.m l.i l.queued
