-- `tested::list` meets its contract: any report has room in a line. Assumes nothing.
use Rattle.script.proofs.play.PlayLaws.{answered-few}
use Rattle.tested.proofs.list.Goals as goal

pub put_line-requires-clause-words : goal.put_line-requires-clause-words
put_line-requires-clause-words c = answered-few _ _ c.line-r.ensures
