-- The cases of the rules before order 5 hold, by computation. Assumes nothing.
use mathlib.Core.Path.{refl}
use Rattle.rules.specs.Run.{answer_of, answer_to, answers_of}
use Rattle.rules.specs.Before.{scheduled, step_before, play_before, run_before}
use Rattle.rules.specs.Cases.BeforeCases.{ScheduledBefore, FullBefore, FullNow}
use Rattle.rules.proofs.Cases.Computes.{computes}

pub scheduled-before : ScheduledBefore
unfolding computes scheduled step_before play_before run_before
scheduled-before =
    record {
      k4-before = refl;
      timer-before = refl;
      same-before = refl;
      spared-before = refl;
    }

pub full-before : FullBefore
unfolding computes scheduled step_before play_before run_before answer_of answer_to answers_of
full-before =
    record {
      queue-before = refl;
      queue-seen-before = refl;
      pages-before = refl;
    }

pub full-now : FullNow
unfolding computes answer_of answer_to answers_of
full-now =
    record {
      queue-now = refl;
      queue-seen-now = refl;
      pages-now = refl;
    }
