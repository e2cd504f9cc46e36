-- Order 6, "Why was this message buffered": the seven reasons as facts about the moments of a run, the one that is named, and what the tool tells of a
-- line of a script. Assumes nothing.
use Rattle.std.specs.Prelude.{ℕ, zero, suc, ◌+◌, ◌<◌, ◌≡◌, ◌≢◌, Bool, true, cond, not, List, [], ◌∷◌, ◌++◌, map, eqb, length}
use Rattle.rules.specs.Lists.{is_empty, concat_map}
use Rattle.rules.specs.Build.{paper01}
use Rattle.rules.specs.Node.{power_on}
use Rattle.rules.specs.Operation.{accepted, unreadable}
use Rattle.rules.specs.Run.{Input, script_line, Event, run, arrived}
use Rattle.rules.specs.Text.{bytes, decimal}
use Rattle.rules.specs.Script.{newline, script_lines}
use Rattle.reasons.specs.Moments.{Facts, Moment, joined, headed, disposed, moved, Dated, run_moments}

-- how a message came to the queue's head: its group, and who ran then
pub record Heading : Type 0 where
  pub group : ℕ
  pub runner : ℕ

-- how one left the queue, and in which line
pub data How : Type 0 where
  by_disposal : How
  by_move : Facts → How

pub record Leaving : Type 0 where
  pub line : ℕ
  pub how : How

unfoldable pub heading_in : Moment → List Heading
heading_in joined = []
heading_in (headed g r) = record { group = g; runner = r } ∷ []
heading_in disposed = []
heading_in (moved f) = []

unfoldable pub leaving_in : ℕ → Moment → List Leaving
leaving_in i joined = []
leaving_in i (headed g r) = []
leaving_in i disposed = record { line = i; how = by_disposal } ∷ []
leaving_in i (moved f) = record { line = i; how = by_move f } ∷ []

-- those of a run, in order: the i-th is that of the i-th message
unfoldable pub headings : List Dated → List Heading
headings ds = concat_map (λ d. heading_in d.moment) ds

unfoldable pub leavings : List Dated → List Leaving
leavings ds = concat_map (λ d. leaving_in d.line d.moment) ds

-- the i-th of a list, from 1, is x
pub data Nth {A : Type 0} : ℕ → List A → A → Type 0 where
  here : {x : A} {xs : List A} → Nth 1 (x ∷ xs) x
  there : {i : ℕ} {x y : A} {xs : List A} → Nth i xs x → Nth (suc i) (y ∷ xs) x

-- the i-th message moved to its buffer, and these facts held just before
abbrev pub MovedWith : List Dated → ℕ → Facts → Type 0
MovedWith ds i f = (l : ℕ) × Nth i (leavings ds) (record { line = l; how = by_move f })

-- the table: which reason holds of the i-th message of a run with these moments
pub data Because (ds : List Dated) (i : ℕ) : ℕ → Type 0 where
  -- "never buffered and disposed of"
  disposed-of : {l : ℕ} → Nth i (leavings ds) (record { line = l; how = by_disposal }) → Because ds i 1
  -- "still in the hardware queue"
  still-queued : length (leavings ds) < i → Because ds i 2
  -- "its group wasn't running when it became head"
  not-running : {f : Facts} {h : Heading} → MovedWith ds i f → Nth i (headings ds) h → h.group ≢ h.runner → Because ds i 3
  -- "older ones of its group were waiting in the buffer when it was moved"
  older-waiting : {f : Facts} → MovedWith ds i f → f.older ≡ true → Because ds i 4
  -- "the group was revoked then"
  group-revoked : {f : Facts} → MovedWith ds i f → f.revoked ≡ true → Because ds i 5
  -- "timeout"
  timed-out : {f : Facts} → MovedWith ds i f → f.timeout ≡ true → Because ds i 6
  -- "the processor was taken"
  processor-taken : {f : Facts} → MovedWith ds i f → f.taken ≡ true → Because ds i 7

-- "All that a timeout moves has that reason; else, where several hold, the first in this list is named."
pub record Named (ds : List Dated) (i reason : ℕ) : Type 0 where
  pub holds : Because ds i reason
  pub timeout : Because ds i 6 → reason ≡ 6
  pub first : reason ≢ 6 → (k : ℕ) → k < reason → ¬ Because ds i k

-- "the line that moved it, for one never buffered the line that disposed of it, or the script's last for one still queued"
pub record NamedLine (ds : List Dated) (last i l : ℕ) : Type 0 where
  pub left : {x : Leaving} → Nth i (leavings ds) x → l ≡ x.line
  pub queued : length (leavings ds) < i → l ≡ last

-- The same computed.

-- of a message that was moved, by the facts then and whether its group ran when it became head
unfoldable pub moved_for : Facts → Bool → ℕ
moved_for f ran = cond f.timeout 6 (cond (not ran) 3 (cond f.older 4 (cond f.revoked 5 7)))

unfoldable pub left_for : How → Heading → ℕ
left_for by_disposal h = 1
left_for (by_move f) h = moved_for f (eqb h.group h.runner)

-- why a message left, and in which line
pub record Departure : Type 0 where
  pub reason : ℕ
  pub line : ℕ

-- of each that has left
unfoldable pub departures : List Heading → List Leaving → List Departure
departures [] xs = []
departures (h ∷ hs) [] = []
departures (h ∷ hs) (x ∷ xs) = record { reason = left_for x.how h; line = x.line } ∷ departures hs xs

-- what the tool tells: 0, the reason and the line; or the refusal
pub record Told : Type 0 where
  pub answer : ℕ
  pub reason : ℕ
  pub line : ℕ

abbrev pub told : ℕ → ℕ → Told
told reason line = record { answer = accepted; reason = reason; line = line }

abbrev pub untold : ℕ → Told
untold a = record { answer = a; reason = 0; line = 0 }

-- "with 17 one that isn't an accepted arrival or isn't in the script"
abbrev pub no_arrival : ℕ
no_arrival = 17

-- of the message before which k were accepted; one still queued names "the script's last" line
unfoldable pub tell_message : ℕ → List Departure → ℕ → Told
tell_message last [] k = told 2 last
tell_message last (d ∷ ds) zero = told d.reason d.line
tell_message last (d ∷ ds) (suc k) = tell_message last ds k

-- of a line: "It refuses with 2 a line that the listing answers with 2, then with 17 one that isn't an accepted arrival"
unfoldable pub tell_event : ℕ → List Departure → ℕ → Event → Told
tell_event last ds k e =
    cond (eqb e.report.answer unreadable) (untold unreadable)
    (cond (is_empty (arrived e)) (untold no_arrival) (tell_message last ds k))

-- of the line at place w, from 1, of those of which es was seen, where k messages were accepted before; "or isn't in the script"
unfoldable pub tell_line : ℕ → List Departure → ℕ → List Event → ℕ → Told
tell_line last ds k [] w = untold no_arrival
tell_line last ds k (e ∷ es) zero = untold no_arrival
tell_line last ds k (e ∷ es) (suc zero) = tell_event last ds k e
tell_line last ds k (e ∷ es) (suc (suc w)) = tell_line last ds (k + length (arrived e)) es (suc w)

-- a script's lines as steps of a run
unfoldable pub steps_of : List ℕ → List Input
steps_of s = map script_line (script_lines s)

-- its moments, each with its line
unfoldable pub moments_of : List ℕ → List Dated
moments_of s = run_moments paper01 1 (power_on paper01) (steps_of s)

-- from a script's bytes and the number of a line in it
unfoldable pub why : List ℕ → ℕ → Told
why s w =
    tell_line (length (script_lines s)) (departures (headings (moments_of s)) (leavings (moments_of s))) 0 (run paper01 (steps_of s)).events w

-- The answer as a line of text.

-- the reasons in words
unfoldable pub reason_words : ℕ → List ℕ
reason_words zero = []
reason_words (suc zero) = bytes "never buffered, disposed of"
reason_words (suc (suc zero)) = bytes "still in the hardware queue"
reason_words (suc (suc (suc zero))) = bytes "its group wasn't running when it became head"
reason_words (suc (suc (suc (suc zero)))) = bytes "older messages of its group were waiting in the buffer"
reason_words (suc (suc (suc (suc (suc zero))))) = bytes "its group was revoked"
reason_words (suc (suc (suc (suc (suc (suc zero)))))) = bytes "timeout"
reason_words (suc (suc (suc (suc (suc (suc (suc k))))))) = bytes "the processor was taken"

-- numbers for a program, and words for a reader
unfoldable pub why_line : ℕ → ℕ → ℕ → List ℕ
why_line w reason line =
    bytes "line "
    ++ (decimal w ++ (bytes ": reason " ++ (decimal reason ++ (bytes " at line " ++ (decimal line ++ (bytes ": " ++ (reason_words reason ++ (newline ∷ []))))))))

-- the lines of the accepted arrivals, the first of those seen being line i
unfoldable pub arrival_lines : ℕ → List Event → List ℕ
arrival_lines i [] = []
arrival_lines i (e ∷ es) = cond (is_empty (arrived e)) (arrival_lines (suc i) es) (i ∷ arrival_lines (suc i) es)

-- the answer for every accepted arrival of a script, in their order
unfoldable pub why_all : List ℕ → List ℕ
why_all s = concat_map (λ w. why_line w (why s w).reason (why s w).line) (arrival_lines 1 (run paper01 (steps_of s)).events)
