-- `validate::frames::pages_all` meets its contract: the lists from the free line on hold the node's pages. Assumes nothing.
use Rattle.validate.proofs.frames.WalkLaws.{pages-length}
use Rattle.validate.proofs.frames.pages_all.Goals as goal

pub returns : goal.returns
returns c = rw (pages-length c.args.m.now, ← c.count_all.ensures)
