-- `capi::why::put_told` meets its contract: four words, one behind the other; a line number's high half is a word, since the number has 64 bits.
-- Assumes nothing.
use Rattle.capi.proofs.WhyLaws.{why-written}
use Rattle.capi.proofs.why.put_told.Goals as goal

pub returns : goal.returns
returns c = why-written c.args.part.now c.args.told c.requires
