-- The cases of the answers hold, by computation. Assumes nothing.
use mathlib.Core.Path.{refl}
use Rattle.rules.specs.Cases.AnswerCases.{AnswerCasesHold}
use Rattle.rules.proofs.Cases.Computes.{computes}

pub answer-cases-hold : AnswerCasesHold
unfolding computes
answer-cases-hold =
    record {
      unreadable = refl;
      bad-group = refl;
      bad-words = refl;
      queue-full = refl;
      arrival-order = refl;
      frames-rounded = refl;
      frames-used-up = refl;
      frames-last-place = refl;
      frames-queued = refl;
      nobody-runs = refl;
      not-the-user = refl;
      no-message = refl;
      no-message-buffered = refl;
      past-message = refl;
      past-message-buffered = refl;
      still-pending = refl;
      still-pending-buffered = refl;
      descriptor-full = refl;
      descriptor-empty = refl;
      bad-schedule = refl;
      bad-dispatch = refl;
      bad-ticks = refl;
      already-runs = refl;
    }
