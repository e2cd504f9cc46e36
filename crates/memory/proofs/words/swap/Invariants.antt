-- `memory::words::swap` meets its contract. The invariant: i words are exchanged. Assumes nothing.
use Rattle.memory.specs.Writes.{Swapped}
use Rattle.memory.proofs.words.swap.Given as goal

abbrev pub invariant-loop-i : goal.invariant-loop-i
invariant-loop-i l = Swapped l.initial.m l.m l.a l.b l.i
