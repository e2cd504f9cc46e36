-- The cases of order 6 hold, by computation. Assumes nothing.
use mathlib.Core.Path.{refl}
use Rattle.rules.specs.Run.{arrived, arrived_by, was_accepted}
use Rattle.rules.proofs.Cases.Computes.{computes}
use Rattle.reasons.specs.Moments.{act_moments, dispose_moments, drain_moments, facts, join_moments, next_headed, one_act_moments, pass_moments, performed_moments, run_moments, step_moments, switch_moments, take_moments, tick_moments, ticks_moments}
use Rattle.reasons.specs.Why.{arrival_lines, departures, heading_in, headings, leaving_in, leavings, left_for, moments_of, moved_for, reason_words, steps_of, tell_event, tell_line, tell_message, why, why_all, why_line}
use Rattle.reasons.specs.WhyCases.{LineCases, MomentCases, RefusalCases, WhyCases}

-- what is told of a script is computed
unfoldable tells : Unit {0}
unfolding
    computes
    arrived arrived_by was_accepted
    act_moments dispose_moments drain_moments facts join_moments next_headed one_act_moments pass_moments performed_moments run_moments step_moments switch_moments take_moments tick_moments ticks_moments
    arrival_lines departures heading_in headings leaving_in leavings left_for moments_of moved_for reason_words steps_of tell_event tell_line tell_message why why_all why_line
tells = tt

pub why-cases : WhyCases
unfolding tells
why-cases =
    record {
      never-buffered = refl;
      disposed-later = refl;
      waits-to-last = refl;
      another-runs = refl;
      nobody-runs = refl;
      behind-disposed = refl;
      not-running-first = refl;
      older-wait = refl;
      older-and-revoked = refl;
      revoked-idle = refl;
      timeout-all = refl;
      taken-head = refl;
      switched-head = refl;
      switched-still = refl;
      refused-still = refl;
      turn-still = refl;
    }

pub refusal-cases : RefusalCases
unfolding tells
refusal-cases =
    record {
      unread = refl;
      other-line = refl;
      turn-line = refl;
      no_line = refl;
      no-script = refl;
      no-newline = refl;
    }

pub moment-cases : MomentCases
unfolding tells
moment-cases =
    record {
      disposing = refl;
      taking = refl;
      timing-out = refl;
      nothing = refl;
    }

pub line-cases : LineCases
unfolding tells
line-cases =
    record {
      every-reason = refl;
      none-accepted = refl;
    }
