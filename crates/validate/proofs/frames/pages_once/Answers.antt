-- `validate::frames::pages_once` meets its contract: the lists from the free line on hold the node's pages. Assumes nothing.
use mathlib.Core.Path.{sym, ◌∙◌}
use native.Mathlib.Omega.{arith}
use Rattle.validate.proofs.frames.WalkLaws.{pages-length, pages-walked}
use Rattle.validate.proofs.frames.pages_once.Goals as goal

pub frames_once-requires : goal.frames_once-requires
frames_once-requires c =
    record { counted = c.requires.counted; from_le_to = (omega arith, (omega arith, omega arith)); from_len = sym (pages-length c.args.m.now) ∙ c.requires.m_len }

pub returns : goal.returns
returns c = pages-walked c.args.m.now _ c.frames_once.ensures
