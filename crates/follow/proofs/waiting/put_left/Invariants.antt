-- `follow::waiting::put_left` meets its contract: at each turn the lines of so many are written. Assumes nothing.
use Rattle.follow.proofs.waiting.TellLaws.{Putting}
use Rattle.follow.proofs.waiting.put_left.Given as goal

abbrev pub invariant-loop-k : goal.invariant-loop-k
invariant-loop-k l = Putting l.initial.out l.at l.waiting l.i l.gone l.out l.end l.k
