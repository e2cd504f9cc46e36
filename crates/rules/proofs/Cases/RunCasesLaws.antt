-- The cases of a run hold, by computation. Assumes nothing.
use mathlib.Core.Path.{refl}
use Rattle.rules.specs.Private.{at_first, told, says, refuses, unchanged, own_poll, own_peek, own_dispose, with_atomic, with_own_descriptor, own_end, own_describe, own_launch, own, is_called, called, afterwards, answered, unheard, joined, with_has, hear}
use Rattle.rules.specs.Run.{was_accepted, arrived_by, arrived, arrivals, answer_of, answer_to, answers_of, upcalls_of, disposed_by, disposals, left_by, left, ticked_by, ticked, listen_from, listen}
use Rattle.rules.specs.Cases.RunCases.{RunCases, SwitchedRunCases, TurningRunCases, ToldCases}
use Rattle.rules.proofs.Cases.Computes.{computes}

-- a run is computed, with all that is counted of it and what a private line hears
unfoldable counts_run : Unit {0}
unfolding
    computes
    at_first told says refuses unchanged own_poll own_peek own_dispose with_atomic with_own_descriptor own_end own_describe own_launch own is_called called afterwards answered unheard joined with_has hear
    was_accepted arrived_by arrived arrivals answer_of answer_to answers_of upcalls_of disposed_by disposals left_by left ticked_by ticked listen_from listen
counts_run = tt

pub run-cases : RunCases
unfolding counts_run
run-cases =
    record {
      arrivals-seen = refl;
      disposals-first = refl;
      disposals-second = refl;
      disposals-none = refl;
      left-queue = refl;
      ticks-accepted = refl;
      answers-first = refl;
      answers-second = refl;
      upcalls-first = refl;
      heard-first = refl;
    }

pub switched-run-cases : SwitchedRunCases
unfolding counts_run
switched-run-cases =
    record {
      switching-arrivals = refl;
      switching-disposals-first = refl;
      switching-disposals-second = refl;
      switching-answers-first = refl;
      switching-answers-second = refl;
      switching-ticks = refl;
      switching-left = refl;
      switching-upcalls = refl;
      switching-heard = refl;
    }

pub turning-run-cases : TurningRunCases
unfolding counts_run
turning-run-cases =
    record {
      turning-arrivals = refl;
      turning-disposals = refl;
      turning-answers = refl;
      turning-ticks = refl;
      turning-left = refl;
      turning-heard = refl;
    }

pub told-cases : ToldCases
unfolding told
told-cases =
    record {
      told-switch = refl;
      told-switch-to-nobody = refl;
      told-taken = refl;
      told-given = refl;
      told-turn = refl;
    }
