-- The cases of C hold, by computation. Assumes nothing.
use mathlib.Core.Path.{refl}
use Rattle.rules.specs.Cases.TurnCases.{TurnCases}
use Rattle.rules.proofs.Cases.Computes.{computes}
use Rattle.rules.proofs.Cases.TestComputes.{same-words}

pub turn-cases : TurnCases
unfolding computes
turn-cases =
    record {
      orders = refl;
      turn-every-runner = refl;
      all-have-mail = refl;
      one-has-mail = refl;
      none-has-mail = refl;
      own-last = refl;
      queued-of-others = refl;
      mail-in-swap = refl;
      revoked-is-no-mail = refl;
      changes-nothing = refl;
      midway-words = refl;
      midway-flags = refl;
      no-word-changed = same-words _ _ refl;
    }
