-- `memory::group::buffered` meets its contract: a group is buffered where its buffer holds messages, and else where the flag revoked is on. Assumes nothing.
use mathlib.Core.Path.{◌∙◌, ap, sym}
use lib.Dec.{ltb}
use Rattle.rules.specs.Node.{buffered}
use Rattle.memory.proofs.group.GroupLaws.{revoked-read}
use Rattle.memory.proofs.group.buffered.Goals as goal

pub returns-then-holds : goal.returns-then-holds
unfolding buffered
returns-then-holds c n r h = rw (c.holds.ensures n r h, c.if-holds.true)

pub returns-else-holds : goal.returns-else-holds
unfolding buffered
returns-else-holds c n r h =
    rw (c.holds.ensures n r h, c.if-holds.false) (revoked-read h c.args.g c.requires.low c.requires.high ∙ ap (ltb 0) (sym c.group_word.ensures))
