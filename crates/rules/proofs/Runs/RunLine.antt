-- A group's line over a run: what it had and was sent, less as many from the front as it disposed of. Assumes nothing.
use Prim.Native.Nat.{ℕ, ◌+◌, ◌≤◌}
use native.Mathlib.Omega.{arith}
use mathlib.Core.Path.{◌≡◌, refl, sym, ap, ◌∙◌, subst}
use mathlib.Core.Bool.{Bool, true, false, cond, ◌&&◌}
use mathlib.Core.List.{List, [], ◌∷◌, ◌++◌, append-nil}
use borrow.Author.Tests.{eqb-true, eqb-false}
use lib.Dec.{eqb}
use lib.ListN.{drop}
use Rattle.rules.specs.Lists.{filter}
use Rattle.rules.specs.Build.{Build, group_count}
use Rattle.rules.specs.Node.{Message, Node, with_running, with_timer, is_of, line}
use Rattle.rules.specs.Operation.{Operation, arrive, schedule, preempt, dispatch, tick, turn, user, unknown, accepted}
use Rattle.rules.specs.Refusal.{refusal, refuse_request}
use Rattle.rules.specs.Step.{Stepped, valued, preempted, serve, act, finish, in_arow, step}
use Rattle.rules.specs.Private.{PrivateLine, is_called, called, with_has}
use Rattle.rules.specs.Run.{Input, asked, Event, play, was_accepted, arrived_by, arrived, arrivals, disposed_by, disposals}
use Rattle.rules.specs.Valid.{Valid}
use Rattle.rules.proofs.Steps.ListLaws.{filter-append}
use Rattle.rules.proofs.Runs.FlowLaws.{Flow, flow-kept, flow-join, flow-then}
use Rattle.rules.proofs.Steps.ActLaws.{user-accepted}
use Rattle.rules.proofs.Steps.StepLaws.{act-sound, step-law, step-valid}
use Rattle.rules.proofs.Private.EventLaws.{refusal-answer, disposed-none, arrived-none}
use Rattle.rules.proofs.Steps.LineLaws.{arrive-line}
use Rattle.rules.proofs.Private.ViewLaws.{view}
use Rattle.rules.proofs.Private.RequestLaws.{suc-zero}
use Rattle.rules.proofs.Private.ServeLaws.{serve-other, served-line, served-enough}
use Rattle.rules.proofs.Private.HeardLaws.{finish-view, handed-view, tick-view}

-- an accepted operation
act-line : {b : Build} {n : Node} → Valid b n → (op : Operation) → refusal b n op ≡ 0 → (g : ℕ) → 1 ≤ g → g ≤ group_count
    → Flow (line n g) (line (act b n op).node g) (filter (is_of g) (arrived_by op true)) (disposed_by op (eqb n.running g))
unfolding act arrived_by refusal valued view disposed_by with_has preempted with_timer with_running
act-line {b} {n} v (arrive h ws) e g lo hi = record { same = arrive-line (record { group = h; words = ws }) n g; enough = omega arith }
act-line {b} {n} v preempt e g lo hi = flow-kept (sym (ap (λ (p : PrivateLine). p.messages) (handed-view n 0 0 g)))
act-line {b} {n} v (dispatch h) e g lo hi = flow-kept (sym (ap (λ (p : PrivateLine). p.messages) (handed-view n h n.timer g)))
act-line {b} {n} v (schedule h) e g lo hi = flow-kept refl
act-line {b} {n} v (tick k) e g lo hi = flow-kept (ap (λ (p : PrivateLine). p.messages) (tick-view v k g lo hi))
act-line {b} {n} v turn e g lo hi = flow-kept refl
act-line {b} {n} v (user q) e g lo hi = go (eqb n.running g) refl
  where
    run : (1 ≤ n.running) × (refuse_request n q ≡ 0)
    run = user-accepted n q e

    mine : Flow (line n n.running) (line (serve b n q).node n.running) [] (disposed_by (user q) true)
    mine =
        record {
          same = served-line v run.0 q run.1 ∙ ap (drop (disposed_by (user q) true)) (sym (append-nil (line n n.running)));
          enough = rw append-nil (served-enough n q run.1);
        }

    go : (t : Bool) → eqb n.running g ≡ t → Flow (line n g) (line (serve b n q).node g) [] (disposed_by (user q) t)
    go true t = subst (λ (x : ℕ). Flow (line n x) (line (serve b n q).node x) [] (disposed_by (user q) true)) (eqb-true _ _ t) mine
    go false t =
        rw (disposed-none (user q))
        (flow-kept (ap (λ (p : PrivateLine). p.messages) (serve-other b n run.0 g lo (λ h. eqb-false _ _ t (sym h)) q)))
act-line {b} {n} v unknown e g lo hi = suc-zero e

-- an upcall leaves the line
called-messages : (p : PrivateLine) → (called p).messages ≡ p.messages
unfolding called
called-messages p = go (is_called p)
  where
    go : (t : Bool)
        → (cond t (record { has = p.has; atomic = true; pending = true; messages = p.messages; descriptor = p.descriptor }) p).messages ≡ p.messages
    go true = refl
    go false = refl

-- settling and the upcall leave every line
finish-line : {b : Build} {n : Node} → Valid b n → (op : Operation) → refusal b n op ≡ 0 → (g : ℕ) → 1 ≤ g → g ≤ group_count
    → line (finish b (act b n op)).node g ≡ line (act b n op).node g
unfolding view
finish-line {b} {n} v op e g lo hi =
    ap (λ (p : PrivateLine). p.messages) (finish-view (act b n op) (act-sound v op e) g lo hi) ∙ called-messages (view g (act b n op).node)

-- a step
pub step_line : {b : Build} {n : Node} → Valid b n → (op : Operation) (g : ℕ) → 1 ≤ g → g ≤ group_count
    → Flow (line n g) (line (step b n op).node g) (filter (is_of g) (arrived_by op (eqb (step b n op).report.answer accepted)))
    (disposed_by op (eqb (step b n op).report.answer accepted && eqb n.running g))
unfolding finish in_arow arrived_by disposed_by
step_line {b} v op g lo hi =
    step-law Goal
    (record {
      refuses = λ n v op r e. rw (refusal-answer r, arrived-none op, disposed-none op) (flow-kept refl);
      acts = λ n v op one e. finished v op e;
      still = λ n v. flow-kept refl;
      takes = λ n v runs took. took;
      switches = λ n v h other some high took gave. flow-then took gave;
    })
    v op
  where
    Goal : Node → Operation → Stepped → Type 0
    Goal n op s =
        Flow (line n g) (line s.node g) (filter (is_of g) (arrived_by op (eqb s.report.answer accepted)))
        (disposed_by op (eqb s.report.answer accepted && eqb n.running g))

    finished : {n : Node} → Valid b n → (op : Operation) → refusal b n op ≡ 0 → Goal n op (finish b (act b n op))
    finished {n} v op e =
        let l : Flow (line n g) (line (act b n op).node g) (filter (is_of g) (arrived_by op true)) (disposed_by op (eqb n.running g)) =
        act-line v op e g lo hi in
        record { same = finish-line v op e g lo hi ∙ l.same; enough = l.enough }

-- a run
pub play-line : {b : Build} {n : Node} → Valid b n → (g : ℕ) → 1 ≤ g → g ≤ group_count → (is : List Input)
    → line (play b n is).node g ≡ drop (disposals g (play b n is).events) (line n g ++ filter (is_of g) (arrivals (play b n is).events))
unfolding play disposals arrivals arrived was_accepted
play-line {n = n} v g lo hi [] = sym (append-nil (line n g))
play-line {b} {n} v g lo hi (i ∷ is) =
    let st : Stepped = step b n (asked i) in
    let rest : List Event = (play b st.node is).events in
    let a : List Message = arrived_by (asked i) (eqb st.report.answer accepted) in
    let d : ℕ = disposed_by (asked i) (eqb st.report.answer accepted && eqb n.running g) in
    let first : Flow (line n g) (line st.node g) (filter (is_of g) a) d = step_line v (asked i) g lo hi in
    play-line {b = b} {n = (step b n (asked i)).node} (step-valid v (asked i)) g lo hi is
    ∙ flow-join (disposals g rest) (filter (is_of g) (arrivals rest)) first
    ∙ ap (λ (l : List Message). drop (d + disposals g rest) (line n g ++ l)) (sym (filter-append (is_of g) a (arrivals rest)))
