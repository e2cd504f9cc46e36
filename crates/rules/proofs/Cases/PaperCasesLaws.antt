-- The table of the paper's cases holds: each listing is computed from the definitions. Assumes nothing.
use mathlib.Core.Path.{refl}
use Rattle.rules.specs.Cases.PaperCases.{CasesHold}
use Rattle.rules.proofs.Cases.Computes.{computes}

pub cases-hold : CasesHold
unfolding computes
cases-hold =
    record {
      k1 = refl;
      k2 = refl;
      k3 = refl;
      k4 = refl;
      k5 = refl;
      k6 = refl;
      k7 = refl;
      k8 = refl;
      full-frames = refl;
      limits = refl;
      older-buffered = refl;
      section-goes-on = refl;
      timer-goes-on = refl;
      queued-pledged = refl;
    }
