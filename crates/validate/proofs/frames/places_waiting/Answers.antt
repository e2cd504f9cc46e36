-- `validate::frames::places_waiting` meets its contract: its closure answers the test. Assumes nothing.
use mathlib.Core.Path.{refl}
use Rattle.std.proofs.Common.{rules}
use Rattle.validate.specs.Clauses.{waiting_in}
use Rattle.validate.proofs.AllLaws.{all_range}
use Rattle.validate.proofs.frames.places_waiting.Goals as goal

pub returns : goal.returns
returns c =
    let s = c.args in
    all_range (waiting_in s.m.now s.f) s.from s.to _ refl refl c.all.ensures.ran (λ x t q k. search rules)
