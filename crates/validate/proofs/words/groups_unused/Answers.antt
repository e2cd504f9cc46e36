-- `validate::words::groups_unused` meets its contract: its closure answers the test. Assumes nothing.
use mathlib.Core.Path.{refl}
use Rattle.std.proofs.Common.{rules}
use Rattle.rules.specs.MemoryTest.{group_unused}
use Rattle.validate.proofs.AllLaws.{all_range}
use Rattle.validate.proofs.words.groups_unused.Goals as goal

pub returns : goal.returns
returns c =
    all_range (group_unused c.args.m.now) 1 9 8 refl refl c.all.ensures.ran (λ x t q k. search rules)
