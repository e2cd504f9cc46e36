-- `validate::frames::entered_all` meets its contract: the order of entry and the free line hold the node's frames. Assumes nothing.
use Rattle.validate.proofs.frames.WalkLaws.{order-length}
use Rattle.validate.proofs.frames.entered_all.Goals as goal

pub returns : goal.returns
returns c = rw (order-length c.args.m.now, ← c.count_all.ensures)
