-- `validate::numbers::buffer_good` meets its contract. A buffer of more than 768 messages has a longer list than the 96 pages that its count of
-- pages is known to be within, and below that the sum of the last comparison fits. Assumes nothing.
use Rattle.std.proofs.Common.{arith}
use Rattle.std.proofs.lemmas.Grind.{common_steps}
use Rattle.validate.proofs.numbers.PartLaws.{buffer_parted}
use Rattle.validate.proofs.numbers.buffer_good.Goals as goal

pub returns-then-used-eq0 : goal.returns-then-used-eq0
returns-then-used-eq0 c =
    let s = c.args in
    let few = c.requires.counted.held s.g c.requires.le_g.0 c.requires.le_g.1 in
    grind (arith, common_steps, buffer_parted s.m.now s.g _ _ _ c.group_word-used.ensures c.group_word-count.ensures c.group_word-held.ensures (omega (arith, few)))

pub returns-else-used-eq0 : goal.returns-else-used-eq0
returns-else-used-eq0 c =
    let s = c.args in
    let few = c.requires.counted.held s.g c.requires.le_g.0 c.requires.le_g.1 in
    grind (arith, common_steps, buffer_parted s.m.now s.g _ _ _ c.group_word-used.ensures c.group_word-count.ensures c.group_word-held.ensures (omega (arith, few)))
