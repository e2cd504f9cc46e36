-- What telling of the messages that leave in a line promises. Assumes nothing.
use Rattle.std.specs.Prelude.{ℕ, ◌+◌, ◌≤◌, List, ◌≡◌, length, take}
use Rattle.rules.specs.Build.{paper01}
use Rattle.reasons.specs.Follow.{Seen, telling_lines, tellings, waiting_after, waiting_with}
use Rattle.script.specs.Written.{Appended}
use Rattle.follow.specs.Seen.{Sees}
use Rattle.follow.specs.declared.seen.Line.{Line as Line·rt}
use Rattle.follow.specs.declared.waiting.Waiting.{Waiting as Waiting·rt}

-- the lines of as many messages as the queue has places
abbrev pub lines_room : ℕ
lines_room = 2240

-- the lines whose messages wait, and room for all of them
pub record LineTellable (waiting : List ℕ) (count : ℕ) (out : List ℕ) (at : ℕ) : Type 0 where
  pub all : length waiting ≡ paper01.places
  pub few : count ≤ paper01.places
  pub room : at + lines_room ≤ length out

-- line i told
pub record LineTold (waiting : List ℕ) (count i : ℕ) (l : Line·rt) (out : List ℕ) (at : ℕ) (waiting' out' : List ℕ) (r : Waiting·rt) : Type 0 where
  pub waits : (s : Seen) → Sees l s → take r.count waiting' ≡ waiting_after i s (take count waiting)
  pub few : r.count ≤ paper01.places
  pub told : (s : Seen) → Sees l s → Appended out at out' r.end (telling_lines (tellings i (waiting_with i s (take count waiting)) s.reasons))
  pub at_most : r.end ≤ at + lines_room
