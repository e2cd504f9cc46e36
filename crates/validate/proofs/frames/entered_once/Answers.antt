-- `validate::frames::entered_once` meets its contract: the order of entry and the free line hold the node's frames. Assumes nothing.
use mathlib.Core.Path.{sym, ◌∙◌}
use native.Mathlib.Omega.{arith}
use Rattle.validate.proofs.frames.WalkLaws.{order-length, order-walked}
use Rattle.validate.proofs.frames.entered_once.Goals as goal

pub frames_once-requires : goal.frames_once-requires
frames_once-requires c =
    record { counted = c.requires.counted; from_le_to = (omega arith, (omega arith, omega arith)); from_len = sym (order-length c.args.m.now) ∙ c.requires.m_len }

pub returns : goal.returns
returns c = order-walked c.args.m.now _ c.frames_once.ensures
