-- `why::one::answer` meets its contract: power-on, a new state, a run, what is told of it, and its text. Assumes nothing.
use Rattle.why.proofs.RunLaws.{answers-told}
use Rattle.why.proofs.one.answer.Goals as goal

pub returns : goal.returns
returns g c = answers-told c.requires.0 c.start.ensures c.new.ensures c.in_ok-told.ensures c.put_told.ensures
