-- Following messages through the queue, line after line, by what is seen of each line: one message by its place, and every message by the numbers of
-- the lines whose messages are queued. This is how the tool goes; `Following` (Told) says that it tells what `why` does. Assumes nothing.
use Rattle.std.specs.Prelude.{ℕ, zero, suc, ◌+◌, Bool, cond, not, List, [], ◌∷◌, ◌++◌, map, eqb, length, take, drop}
use Rattle.rules.specs.Lists.{is_empty, concat_map}
use Rattle.rules.specs.Build.{Build, paper01}
use Rattle.rules.specs.Node.{Node}
use Rattle.rules.specs.Operation.{unreadable}
use Rattle.rules.specs.Step.{step}
use Rattle.rules.specs.Run.{Input, asked, Event, arrived}
use Rattle.reasons.specs.Why.{Told, told, untold, no_arrival, why_line}
use Rattle.reasons.specs.ByPlace.{event_reasons}

-- what is seen of a line: its answer, whether it is an accepted arrival, how many are queued after it, and why those leave that leave the queue at it
pub record Seen : Type 0 where
  pub answer : ℕ
  pub arrival : Bool
  pub queued : ℕ
  pub reasons : List ℕ

-- of a step of which e was seen, where n is the node after it
unfoldable pub seen_of : Event → Node → Seen
seen_of e n =
    record { answer = e.report.answer; arrival = not (is_empty (arrived e)); queued = length n.queue; reasons = event_reasons e n }

-- of a run
unfoldable pub seen_run : Build → Node → List Input → List Seen
seen_run b n [] = []
seen_run b n (x ∷ is) =
    let s = step b n (asked x) in
    seen_of (record { runner = n.running; operation = asked x; report = s.report }) s.node ∷ seen_run b s.node is

-- One message.

-- its place in the queue, 0 where there is none to follow, and what is told so far
pub record Followed : Type 0 where
  pub place : ℕ
  pub told : Told

-- nothing yet: "17 one that isn't an accepted arrival or isn't in the script"
abbrev pub unfollowed : Followed
unfollowed = record { place = 0; told = untold no_arrival }

-- of a message at this place, where t is told so far, when messages leave in line i for these reasons
unfoldable pub moved_up : ℕ → Told → ℕ → List ℕ → Followed
moved_up i t place [] = record { place = place; told = t }
moved_up i t zero (r ∷ rs) = record { place = 0; told = t }
moved_up i t (suc zero) (r ∷ rs) = record { place = 0; told = told r i }
moved_up i t (suc (suc p)) (r ∷ rs) = moved_up i t (suc p) rs

-- at the line wanted: what has arrived there was the last in the queue before any left
unfoldable pub picked_up : Seen → Followed → Followed
picked_up s f =
    cond (eqb s.answer unreadable) (record { place = 0; told = untold unreadable })
    (cond s.arrival (record { place = s.queued + length s.reasons; told = f.told }) f)

-- line i, where line w is wanted
unfoldable pub follow_line : ℕ → ℕ → Followed → Seen → Followed
follow_line w i f s =
    let g = cond (eqb i w) (picked_up s f) f in
    moved_up i g.told g.place s.reasons

-- lines, the first of them line i
unfoldable pub follow_lines : ℕ → ℕ → Followed → List Seen → Followed
follow_lines w i f [] = f
follow_lines w i f (s ∷ ss) = follow_lines w (suc i) (follow_line w i f s) ss

-- at the script's end
unfoldable pub told_at : ℕ → Followed → Told
told_at last f = cond (eqb f.place 0) f.told (told 2 last)

-- Every message.

-- why the message of a line left the queue, and in which line
pub record Telling : Type 0 where
  pub arrival : ℕ
  pub reason : ℕ
  pub line : ℕ

-- of the lines whose messages are queued, from the head on, when messages leave in line i for these reasons
unfoldable pub tellings : ℕ → List ℕ → List ℕ → List Telling
tellings i [] rs = []
tellings i (w ∷ ws) [] = []
tellings i (w ∷ ws) (r ∷ rs) = record { arrival = w; reason = r; line = i } ∷ tellings i ws rs

-- the lines whose messages are queued once that of line i has joined them, before any leaves: no more than the queue has places
unfoldable pub waiting_with : ℕ → Seen → List ℕ → List ℕ
waiting_with i s ws = take paper01.places (ws ++ cond s.arrival (i ∷ []) [])

-- and after the line
unfoldable pub waiting_after : ℕ → Seen → List ℕ → List ℕ
waiting_after i s ws = drop (length s.reasons) (waiting_with i s ws)

-- over lines, the first of them line i: what is told, and the lines whose messages are still queued
unfoldable pub tell_lines : ℕ → List ℕ → List Seen → List Telling
tell_lines i ws [] = []
tell_lines i ws (s ∷ ss) = tellings i (waiting_with i s ws) s.reasons ++ tell_lines (suc i) (waiting_after i s ws) ss

unfoldable pub still_waiting : ℕ → List ℕ → List Seen → List ℕ
still_waiting i ws [] = ws
still_waiting i ws (s ∷ ss) = still_waiting (suc i) (waiting_after i s ws) ss

-- at the script's end
unfoldable pub tell_queued : ℕ → List ℕ → List Telling
tell_queued last ws = map (λ (w : ℕ). record { arrival = w; reason = 2; line = last }) ws

-- as text, a line each
unfoldable pub telling_lines : List Telling → List ℕ
telling_lines ts = concat_map (λ t. why_line t.arrival t.reason t.line) ts
