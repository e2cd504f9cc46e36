-- The cases of S, T and M to L hold, by computation. Assumes nothing.
use mathlib.Core.Path.{refl}
use Rattle.rules.specs.Cases.StepCases.{ScheduleCases, TickCases, UserCases}
use Rattle.rules.proofs.Cases.Computes.{computes}

pub schedule-cases : ScheduleCases
unfolding computes
schedule-cases =
    record {
      schedule-timer = refl;
      schedule-same = refl;
      schedule-nobody = refl;
      schedule-buffered = refl;
      schedule-empties = refl;
      atomic-survives = refl;
      pending-survives = refl;
      descriptor-survives = refl;
      running-word = refl;
      flags-words = refl;
      flags-kept = refl;
      no-upcall-for-nobody = refl;
    }

pub tick-cases : TickCases
unfolding computes
tick-cases =
    record {
      ticks-add = refl;
      ticks-idle = refl;
      ticks-over = refl;
      ticks-by-t-alone = refl;
      timeout-all = refl;
      timer-word = refl;
      timeout-word = refl;
    }

pub user-cases : UserCases
unfolding computes
user-cases =
    record {
      poll-peek = refl;
      begin-not-counted = refl;
      end-again = refl;
      end-extends = refl;
      end-off = refl;
      own-section = refl;
      upcall-once = refl;
      describe-launch = refl;
      descriptor-words = refl;
      descriptor-emptied = refl;
      begin-words = refl;
      end-words = refl;
      dispose-words = refl;
    }
