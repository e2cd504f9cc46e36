-- `validate::numbers::queue_good` meets its contract: its closure answers the test. Assumes nothing.
use mathlib.Core.Path.{refl}
use Rattle.std.proofs.Common.{rules, arith}
use Rattle.std.proofs.iter.Serving.{serving}
use Rattle.rules.specs.Memory.{word, queued_at}
use Rattle.validate.specs.Clauses.{message_good}
use Rattle.validate.proofs.AllLaws.{all_range}
use Rattle.validate.proofs.numbers.queue_good.Goals as goal

pub all-requires-clause-callable : goal.all-requires-clause-callable
unfolding word
all-requires-clause-callable c = grind serving

pub returns : goal.returns
unfolding word
returns c =
    let queued = word c.args.m.now queued_at in
    all_range (message_good c.args.m.now) 0 queued queued refl (omega arith) c.all.ensures.ran (λ x t q k. search rules)
