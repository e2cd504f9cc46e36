-- A run, seen by a group: its private line, told of the same steps, gives the same answers and upcalls, and ends at the view of the node
-- after the run. By induction over the steps, each by `step-agrees`. Assumes nothing.
use Prim.Native.Nat.{ℕ, ◌≤◌}
use mathlib.Core.Path.{◌≡◌, refl, sym, ap, ◌∙◌}
use mathlib.Core.List.{List, [], ◌∷◌, ◌++◌}
use lib.Dec.{eqb}
use Rattle.rules.specs.Build.{Build, Sensible, group_count}
use Rattle.rules.specs.Node.{Node, power_on}
use Rattle.rules.specs.Operation.{accepted}
use Rattle.rules.specs.Step.{Stepped, step}
use Rattle.rules.specs.Private.{PrivateLine, Heard, told, hear}
use Rattle.rules.specs.Run.{Input, asked, play, run, was_accepted, answers_of, upcalls_of, Listened, listen_from, listen}
use Rattle.rules.specs.Valid.{Valid}
use Rattle.rules.proofs.Steps.StepLaws.{power-on-valid, step-valid}
use Rattle.rules.proofs.Private.ViewLaws.{view, power-on-view}
use Rattle.rules.proofs.Private.HeardLaws.{heard_as, step-agrees}

-- a run leaves a node
pub play-valid : {b : Build} {n : Node} → Valid b n → (is : List Input) → Valid b (play b n is).node
unfolding play
play-valid v [] = v
play-valid {b} {n} v (i ∷ is) = play-valid {b = b} {n = (step b n (asked i)).node} (step-valid v (asked i)) is

-- what a group sees of a run from a node on
abbrev pub seen_as : Build → Node → ℕ → List Input → Listened
seen_as b n g is =
    record {
      answers = answers_of g (play b n is).events;
      upcalls = upcalls_of g (play b n is).events;
      line = view g (play b n is).node;
    }

-- what was heard of a step, and then of the rest
abbrev pub heard_then : Heard → Listened → Listened
heard_then h r = record { answers = h.answers ++ r.answers; upcalls = h.upcall ∷ r.upcalls; line = r.line }

-- the private line hears what the group sees
pub play-heard : {b : Build} {n : Node} → Valid b n → (g : ℕ) → 1 ≤ g → g ≤ group_count → (is : List Input)
    → listen_from g (view g n) (play b n is).events ≡ seen_as b n g is
unfolding play listen_from answers_of upcalls_of was_accepted
play-heard v g lo hi [] = refl
play-heard {b} {n} v g lo hi (i ∷ is) =
    let st : Stepped = step b n (asked i) in
    let first : hear g (view g n) (told g (asked i) (eqb st.report.answer accepted)) ≡ heard_as g n (asked i) st.report st.node =
    step-agrees v (asked i) g lo hi in
    ap (λ (h : Heard). heard_then h (listen_from g h.line (play b st.node is).events)) first
    ∙ ap (heard_then (heard_as g n (asked i) st.report st.node)) (play-heard {b = b} {n = (step b n (asked i)).node} (step-valid v (asked i)) g lo hi is)

-- from power-on
pub run-heard : {b : Build} → Sensible b → (g : ℕ) → 1 ≤ g → g ≤ group_count → (is : List Input)
    → listen g (run b is).events ≡ seen_as b (power_on b) g is
unfolding listen run
run-heard {b} s g lo hi is =
    ap (λ (p : PrivateLine). listen_from g p (play b (power_on b) is).events) (sym (power-on-view b g lo))
    ∙ play-heard (power-on-valid b s) g lo hi is
