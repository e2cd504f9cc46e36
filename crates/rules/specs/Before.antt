-- The rules before order 5, kept for the one statement that compares the two forms of S: then S was an act of its own, now it is those of O and
-- I. Nothing else stands on this file. Assumes nothing.
use Rattle.std.specs.Prelude.{ℕ, zero, suc, ◌≤◌, ◌≡◌, ◌≢◌, Bool, false, cond, ◌||◌, List, [], ◌∷◌, eqb}
use Rattle.rules.specs.Lists.{Every}
use Rattle.rules.specs.Build.{Build, Sensible, group_count}
use Rattle.rules.specs.Node.{Node, power_on, with_running, with_timer}
use Rattle.rules.specs.Operation.{Operation, arrive, schedule, preempt, dispatch, tick, turn, user, unknown, queue_full, no_frames, refused}
use Rattle.rules.specs.Refusal.{refuse_schedule}
use Rattle.rules.specs.Step.{Stepped, valued, finish, step}
use Rattle.rules.specs.Run.{Input, asked, Event, Played, run, answers_of, upcalls_of}

-- S: "gives the processor to that group, 0 to nobody; timer to 0. To the one already running (or 0 to 0): changes nothing"
unfoldable pub scheduled : ℕ → Node → Node
scheduled g n = cond (eqb g n.running) n (with_timer 0 (with_running g n))

-- a step: S was one act, and was refused as it is now; all else was as it is
unfoldable pub step_before : Build → Node → Operation → Stepped
step_before b n (schedule g) =
    elim (refuse_schedule g) [
      | zero ↦ finish b (valued 0 (scheduled g n))
      | suc r ↦ record { report = refused (suc r); node = n }
    ]
step_before b n (arrive g ws) = step b n (arrive g ws)
step_before b n preempt = step b n preempt
step_before b n (dispatch g) = step b n (dispatch g)
step_before b n (tick k) = step b n (tick k)
step_before b n turn = step b n turn
step_before b n (user r) = step b n (user r)
step_before b n unknown = step b n unknown

-- a run from a node on
unfoldable pub play_before : Build → Node → List Input → Played
play_before b n [] = record { events = []; node = n }
play_before b n (i ∷ is) =
    let s = step_before b n (asked i) in
    let rest = play_before b s.node is in
    record { events = record { runner = n.running; operation = asked i; report = s.report } ∷ rest.events; node = rest.node }

-- and from power-on
unfoldable pub run_before : Build → List Input → Played
run_before b is = play_before b (power_on b) is

-- "no line names O or I"
pub record Old (i : Input) : Type 0 where
  pub no-preempt : asked i ≢ preempt
  pub no-dispatch : (g : ℕ) → asked i ≢ dispatch g

-- an answer that hangs on what the others have filled, and with it on the form of S: "no arrival meets 5 or 6"
unfoldable pub is_full : ℕ → Bool
is_full a = eqb a queue_full || eqb a no_frames

-- no step of a run has such an answer
unfoldable pub NeverFull : List Event → Type 0
NeverFull es = Every (λ e. is_full e.report.answer ≡ false) es

-- an old script: "no line names O or I and no arrival meets 5 or 6 under either form"
pub record OldScript (b : Build) (is : List Input) : Type 0 where
  pub old : Every Old is
  pub now : NeverFull (run b is).events
  pub before : NeverFull (run_before b is).events

-- two runs give a group the same answers, and the same upcalls at the same steps
pub record SameTo (g : ℕ) (es fs : List Event) : Type 0 where
  pub answers : answers_of g es ≡ answers_of g fs
  pub upcalls : upcalls_of g es ≡ upcalls_of g fs

-- old scripts "give each group the same answers and upcalls as before"
pub record OldScripts : Type 0 where
  pub each-group : (b : Build) → Sensible b → (is : List Input) → OldScript b is → (g : ℕ) → 1 ≤ g → g ≤ group_count
      → SameTo g (run b is).events (run_before b is).events
