-- `why::one::put_told` meets its contract. Assumes nothing.
use Rattle.follow.specs.One.{told_of}
use Rattle.why.proofs.TextLaws.{refusal-written, why-written}
use Rattle.why.proofs.one.put_told.Goals as goal

pub returns-then-told-eq0 : goal.returns-then-told-eq0
returns-then-told-eq0 c = why-written c.args.wanted (told_of c.args.told) c.if-told-eq0.true c.requires c.put_why.ensures

pub returns-else-told-eq0 : goal.returns-else-told-eq0
returns-else-told-eq0 c = refusal-written c.args.wanted (told_of c.args.told) c.if-told-eq0.false c.requires c.put_refusal.ensures
