-- `follow::seen::own_reason` meets its contract: who runs and how many the buffer holds are words of the node. Assumes nothing.
use native.Mathlib.Omega.{arith}
use Rattle.follow.proofs.seen.ReadLaws.{arrival-long, arrival-count, own-other, own-older, own_alone}
use Rattle.follow.proofs.seen.own_reason.Goals as goal

pub bounds-memory-0 : goal.bounds-memory-0
bounds-memory-0 c = let l = arrival-long c.requires in omega arith

pub returns-then-g-memory : goal.returns-then-g-memory
returns-then-g-memory c = own-other c.requires c.if-g-memory.true

pub group_word-requires : goal.group_word-requires
group_word-requires c = arrival-count c.requires

pub returns-then-group_word-gt1 : goal.returns-then-group_word-gt1
returns-then-group_word-gt1 c = own-older c.requires c.if-g-memory.false c.group_word.ensures c.if-group_word-gt1.true

pub returns-else-group_word-gt1 : goal.returns-else-group_word-gt1
returns-else-group_word-gt1 c = own_alone c.requires c.if-g-memory.false c.group_word.ensures c.if-group_word-gt1.false
