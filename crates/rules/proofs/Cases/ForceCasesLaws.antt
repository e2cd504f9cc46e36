-- The cases of the forced timer hold, by computation. Assumes nothing.
use mathlib.Core.Path.{refl}
use Rattle.rules.specs.Cases.ForceCases.{ForceCases, RevokedCases}
use Rattle.rules.proofs.Cases.Computes.{computes}

pub force-cases : ForceCases
unfolding computes
force-cases =
    record {
      force-counts = refl;
      force-words = refl;
      begin-twice = refl;
      force-fields = refl;
      begin-leaves-on = refl;
      begin-leaves-off = refl;
      end-turns-off = refl;
      force-ended-words = refl;
      refused-end-force = refl;
      force-until-n = refl;
      force-by-b-alone = refl;
      force-of-another = refl;
      force-of-nobody = refl;
      nobodys-timer = refl;
      force-survives = refl;
      settling-leaves = refl;
      begin-leaves-timer = refl;
      one-timer = refl;
      dispose-sets-back = refl;
      dispose-sets-back-buffered = refl;
      dispose-sets-back-revoked = refl;
      schedule-sets-back = refl;
      timeout-sets-back = refl;
      ticks-behind = refl;
      several-timeouts = refl;
      timer-rest = refl;
      longest-rest = refl;
      end-rests-timer = refl;
      rested-timer = refl;
      end-keeps-timer = refl;
    }

pub revoked-cases : RevokedCases
unfolding computes
revoked-cases =
    record {
      any-timeout = refl;
      revoked-words = refl;
      revoked-ended = refl;
      nothing-moved = refl;
      revoked-empty = refl;
      pledges-nothing = refl;
      settles-own = refl;
      buffered-already = refl;
      revoked-already = refl;
      begin-leaves-revoked = refl;
      nothing-ends-revoked = refl;
      refused-end-revoked = refl;
      runner-alone = refl;
      runner-alone-atomic = refl;
      revoked-survives = refl;
      schedule-revoked = refl;
      timer-flags-kept = refl;
    }
