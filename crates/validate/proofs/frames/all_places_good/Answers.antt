-- `validate::frames::all_places_good` meets its contract: its closure answers the test. Assumes nothing.
use mathlib.Core.Path.{refl}
use Rattle.std.proofs.Common.{rules}
use Rattle.validate.specs.Clauses.{places_good}
use Rattle.validate.proofs.AllLaws.{all_range}
use Rattle.validate.proofs.frames.all_places_good.Goals as goal

pub returns : goal.returns
returns c =
    all_range (places_good c.args.m.now) 1 9 8 refl refl c.all.ensures.ran (λ x t q k. search rules)
