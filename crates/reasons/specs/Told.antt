-- Order 6, the statements. Assumes nothing.
use Rattle.std.specs.Prelude.{ℕ, ◌+◌, ◌≡◌, ◌≢◌, cond, List, [], ◌∷◌, ◌++◌, map, length}
use Rattle.rules.specs.Lists.{is_empty, sum}
use Rattle.rules.specs.Build.{Build, Sensible, paper01}
use Rattle.rules.specs.Node.{Message, power_on}
use Rattle.rules.specs.Run.{Input, Event, run, arrived, arrivals, left}
use Rattle.rules.specs.Script.{script_lines}
use Rattle.reasons.specs.Moments.{Moment, joined, headed, disposed, moved, Dated, run_moments}
use Rattle.reasons.specs.Why.{Because, Named, NamedLine, headings, leavings, departures, Told, untold, steps_of, moments_of, why, why_all}
use Rattle.reasons.specs.ByPlace.{place_departures}
use Rattle.reasons.specs.Follow.{Seen, seen_run, unfollowed, follow_lines, told_at, tell_lines, still_waiting, tell_queued, telling_lines}

-- how many moments are of each kind
unfoldable pub is_joined : Moment → ℕ
is_joined joined = 1
is_joined (headed g r) = 0
is_joined disposed = 0
is_joined (moved f) = 0

unfoldable pub is_headed : Moment → ℕ
is_headed joined = 0
is_headed (headed g r) = 1
is_headed disposed = 0
is_headed (moved f) = 0

unfoldable pub is_disposed : Moment → ℕ
is_disposed joined = 0
is_disposed (headed g r) = 0
is_disposed disposed = 1
is_disposed (moved f) = 0

unfoldable pub is_moved : Moment → ℕ
is_moved joined = 0
is_moved (headed g r) = 0
is_moved disposed = 0
is_moved (moved f) = 1

unfoldable pub count : (Moment → ℕ) → List Dated → ℕ
count f ds = sum (map (λ d. f d.moment) ds)

-- the moments of a run are those that demand 3 speaks of
pub record Counted (b : Build) (is : List Input) : Type 0 where
  -- as many join as are accepted
  pub joins : count is_joined (run_moments b 1 (power_on b) is) ≡ length (arrivals (run b is).events)
  -- as many move as the reports say
  pub moves : count is_moved (run_moments b 1 (power_on b) is) ≡ sum (map (λ e. e.report.moved) (run b is).events)
  -- as many leave as `left` counts
  pub leaves :
      count is_moved (run_moments b 1 (power_on b) is) + count is_disposed (run_moments b 1 (power_on b) is) ≡ left (run b is).events
  -- as many become head as leave, and one more exactly where the queue isn't empty
  pub heads :
      count is_headed (run_moments b 1 (power_on b) is) ≡ left (run b is).events + cond (is_empty (run b is).node.queue) 0 1

-- line w of a script: what was seen of it, and of the lines before it
pub record LineSeen (s : List ℕ) (w : ℕ) (before : List Event) (e : Event) : Type 0 where
  pub after : List Event
  pub split : (run paper01 (steps_of s)).events ≡ before ++ (e ∷ after)
  pub number : w ≡ length before + 1

-- what is told of line w of a script
pub record Tells (s : List ℕ) (w : ℕ) (t : Told) : Type 0 where
  -- "It refuses with 2 a line that the listing answers with 2"
  pub unread : (before : List Event) (e : Event) → LineSeen s w before e → e.report.answer ≡ 2 → t ≡ untold 2
  -- "then with 17 one that isn't an accepted arrival"
  pub other : (before : List Event) (e : Event) → LineSeen s w before e → e.report.answer ≢ 2 → arrived e ≡ [] → t ≡ untold 17
  -- "or isn't in the script"
  pub outside : ((before : List Event) (e : Event) → ¬ LineSeen s w before e) → t ≡ untold 17
  -- an accepted arrival: "The reason is proved true of the run and the one that this rule picks.", and the line is the one named
  pub answered : (before : List Event) (e : Event) (m : Message) → LineSeen s w before e → arrived e ≡ m ∷ [] → t.answer ≡ 0
  pub named : (before : List Event) (e : Event) (m : Message)
      → LineSeen s w before e
      → arrived e ≡ m ∷ []
      → Named (moments_of s) (length (arrivals before) + 1) t.reason
  pub line-named : (before : List Event) (e : Event) (m : Message)
      → LineSeen s w before e
      → arrived e ≡ m ∷ []
      → NamedLine (moments_of s) (length (script_lines s)) (length (arrivals before) + 1) t.line

-- order 6, whole: for every script and every line number
pub record WhyTold : Type 0 where
  pub tells : (s : List ℕ) (w : ℕ) → Tells s w (why s w)
  -- "never buffered and disposed of" and "still in the hardware queue" exclude all others
  pub disposed-only : (ds : List Dated) (i k : ℕ) → Because ds i 1 → Because ds i k → k ≡ 1
  pub queued-only : (ds : List Dated) (i k : ℕ) → Because ds i 2 → Because ds i k → k ≡ 2
  -- of the moments of a run, for every build that makes sense
  pub counted : (b : Build) → Sensible b → (is : List Input) → Counted b is
  -- and the rule by place is the definition's
  pub by_place : (b : Build) → Sensible b → (is : List Input)
      → departures (headings (run_moments b 1 (power_on b) is)) (leavings (run_moments b 1 (power_on b) is)) ≡ place_departures b 1 (power_on b) is

-- what is seen of a script's lines
abbrev pub seen_of_script : List ℕ → List Seen
seen_of_script s = seen_run paper01 (power_on paper01) (steps_of s)

-- to follow a message, or every one, is to tell why
pub record Following : Type 0 where
  pub one : (s : List ℕ) (w : ℕ) → told_at (length (script_lines s)) (follow_lines w 1 unfollowed (seen_of_script s)) ≡ why s w
  pub every : (s : List ℕ)
      → telling_lines (tell_lines 1 [] (seen_of_script s) ++ tell_queued (length (script_lines s)) (still_waiting 1 [] (seen_of_script s))) ≡ why_all s
