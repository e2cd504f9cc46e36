-- `memory::words::copy` meets its contract. The invariant: i words are copied, and those to come are as they were. Assumes nothing.
use Rattle.rules.specs.Memory.{words_at}
use Rattle.memory.specs.Writes.{Wrote}
use Rattle.memory.proofs.words.copy.Given as goal

abbrev pub invariant-loop-i : goal.invariant-loop-i
invariant-loop-i l = Wrote l.initial.m l.m l.to (words_at l.initial.m l.from l.i)
