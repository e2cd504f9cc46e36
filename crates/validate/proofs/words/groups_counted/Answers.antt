-- `validate::words::groups_counted` meets its contract: its closure answers the test. Assumes nothing.
use Rattle.rules.specs.MemoryTest.{group_counts}
use mathlib.Core.Path.{refl}
use Rattle.std.proofs.Common.{rules}
use Rattle.validate.proofs.AllLaws.{all_range}
use Rattle.validate.proofs.words.groups_counted.Goals as goal

pub returns : goal.returns
returns c =
    all_range (group_counts c.args.m.now) 1 9 8 refl refl c.all.ensures.ran (λ x t q k. search rules)
