-- `memory::group::holds` meets its contract: the count is read, and a buffer holds messages where it is above 0. Assumes nothing.
use mathlib.Core.Path.{◌∙◌, ap, sym}
use lib.Dec.{ltb}
use Rattle.memory.proofs.group.GroupLaws.{holds_read}
use Rattle.memory.proofs.group.holds.Goals as goal

pub returns : goal.returns
returns c n r h = holds_read h c.args.g c.requires.low c.requires.high ∙ ap (ltb 0) (sym c.group_word.ensures)
