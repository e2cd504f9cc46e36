-- Order 6: the statements hold. Assumes nothing.
use Rattle.reasons.specs.Told.{Following, WhyTold}
use Rattle.reasons.proofs.CountLaws.{run-counts}
use Rattle.reasons.proofs.FollowLaws.{every-told, one_told}
use Rattle.reasons.proofs.NamedLaws.{disposed-only, queued-only}
use Rattle.reasons.proofs.RunTrail.{matched-departures, run-matched}
use Rattle.reasons.proofs.ToldLaws.{script-tells}

pub why-told : WhyTold
why-told =
    record {
      tells = script-tells;
      disposed-only = λ ds i k one other. disposed-only k one other;
      queued-only = λ ds i k two other. queued-only k two other;
      counted = run-counts;
      by_place = λ b s is. matched-departures (run-matched b s is);
    }

pub following : Following
following = record { one = one_told; every = every-told }
