-- `follow::waiting::leave` meets its contract: at each turn so many of those that stay are moved to the front. Assumes nothing.
use Rattle.follow.proofs.waiting.ShiftLaws.{Shifted}
use Rattle.follow.proofs.waiting.leave.Given as goal

abbrev pub invariant-loop-k : goal.invariant-loop-k
invariant-loop-k l = Shifted l.initial.waiting l.count l.n l.waiting l.k
