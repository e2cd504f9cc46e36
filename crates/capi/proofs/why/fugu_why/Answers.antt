-- `capi::why::fugu_why` meets its contract: what the call under it answers is told, where the part has room. Assumes nothing.
use Rattle.capi.proofs.WhyLaws.{why-told, why-nothing}
use Rattle.capi.proofs.why.fugu_why.Goals as goal

pub returns-then-part : goal.returns-then-part
returns-then-part c = why-nothing _ _ _ c.if-part.true

pub returns : goal.returns
returns c =
    why-told c.if-part.false c.ask-told.ensures c.put_told.ensures
