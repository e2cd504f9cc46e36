-- The cases of wiped frames hold, by computation. Assumes nothing.
use mathlib.Core.Path.{refl}
use Rattle.rules.specs.Cases.WipedCases.{PlaceCases, LeftCases}
use Rattle.rules.proofs.Cases.Computes.{computes}

pub place-cases : PlaceCases
unfolding computes
place-cases =
    record {
      place-wiped = refl;
      next-wiped = refl;
      last-wiped = refl;
      eighth-wiped = refl;
      taken-again = refl;
    }

pub left-cases : LeftCases
unfolding computes
left-cases =
    record {
      sent-out = refl;
      brought-in = refl;
      runner-brought-in = refl;
      exchanged = refl;
    }
