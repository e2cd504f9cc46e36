-- `validate::numbers::message_good` meets its contract: a group of 1 to 8 and some words; not too many is known of its length. Assumes nothing.
use Rattle.std.proofs.Common.{arith}
use Rattle.std.proofs.lemmas.Grind.{common_steps}
use Rattle.validate.proofs.numbers.PartLaws.{message_parted}
use Rattle.validate.proofs.numbers.message_good.Goals as goal

pub returns-then-g-le-GROUPS : goal.returns-then-g-le-GROUPS
returns-then-g-le-GROUPS c =
    let s = c.args in
    grind (arith, common_steps, message_parted s.m.now s.i c.queue_word-g.result c.queue_word-g.ensures (c.requires.counted.lengths s.i c.requires.i_bound))

pub returns-else-g-le-GROUPS : goal.returns-else-g-le-GROUPS
returns-else-g-le-GROUPS c =
    let s = c.args in
    grind (arith, common_steps, message_parted s.m.now s.i c.queue_word-g.result c.queue_word-g.ensures (c.requires.counted.lengths s.i c.requires.i_bound))
