-- `capi::paging::fugu_paging` meets its contract: the two counts are told as they are. Assumes nothing.
use Rattle.capi.proofs.ToldLaws.{pair-told, pair-nothing}
use Rattle.capi.proofs.paging.fugu_paging.Goals as goal

pub returns-then-part : goal.returns-then-part
returns-then-part c = pair-nothing _ _ _ c.if-part.true

pub returns : goal.returns
returns c = rw c.page_counts-counts.ensures (pair-told _ _ _ c.if-part.false)
