-- How long a message waits: one that joins the hardware queue at place p has left it once p timeouts' ticks have followed. While it waits,
-- ticks are paid for by the timer and by the messages that leave before it, a timeout each, and there are fewer than p of those. Assumes
-- nothing.
use Prim.Native.Nat.{ℕ, ◌+◌, ◌*◌, ◌≤◌, ◌<◌}
use native.Mathlib.Nat.{mul-add, mul-le-mul_left, mul-one, mul_comm}
use native.Mathlib.Omega.{arith}
use mathlib.Core.Path.{◌≡◌, refl, sym, ap, ◌∙◌, subst}
use mathlib.Core.Bool.{Bool, true, false}
use mathlib.Core.List.{List, [], ◌∷◌, ◌++◌}
use borrow.Author.Tests.{leb-true, leb-false}
use lib.Dec.{eqb, leb}
use lib.ListN.{length, length-append}
use Rattle.rules.specs.Build.{Build}
use Rattle.rules.specs.Node.{Message, Node}
use Rattle.rules.specs.Operation.{accepted}
use Rattle.rules.specs.Step.{Stepped, step}
use Rattle.rules.specs.Run.{Input, asked, Event, play, was_accepted, arrived_by, arrived, arrivals, left_by, left, ticked_by, ticked}
use Rattle.rules.specs.Valid.{Valid}
use Rattle.rules.proofs.Steps.ListLaws.{length_some}
use Rattle.rules.proofs.Private.EventLaws.{event_of}
use Rattle.rules.proofs.Runs.FlowLaws.{flow-length}
use Rattle.rules.proofs.Steps.StepLaws.{step-valid}
use Rattle.rules.proofs.Runs.RunQueue.{step-queue}
use Rattle.rules.proofs.Runs.RunTimer.{step-timer}
use Rattle.rules.proofs.Runs.RunLaws.{play-valid}

-- while the last message of the queue stays, ticks and the timer are paid for
ticks-paid : {b : Build} {n : Node} → Valid b n → (is : List Input)
    → left (play b n is).events < length n.queue
    → ticked (play b n is).events + n.timer ≤ b.timeout * left (play b n is).events + (play b n is).node.timer
unfolding play left ticked was_accepted
ticks-paid {b} {n} v [] l = omega arith
ticks-paid {b} {n} v (i ∷ is) l =
    let st : Stepped = step b n (asked i) in
    let rest : List Event = (play b st.node is).events in
    let x : ℕ = left_by (event_of n (asked i) st) in
    let len : x + length st.node.queue ≡ length n.queue + length (arrived_by (asked i) (eqb st.report.answer accepted)) =
    flow-length (step-queue v (asked i)) in
    let stays : left rest < length st.node.queue = omega arith in
    let first : ticked_by (asked i) (eqb st.report.answer accepted) + n.timer ≤ b.timeout * x + st.node.timer =
    step-timer v (length_some n.queue (omega arith)) (asked i) (length_some st.node.queue (omega arith)) in
    let more : ticked rest + st.node.timer ≤ b.timeout * left rest + (play b st.node is).node.timer =
    ticks-paid {b = b} {n = (step b n (asked i)).node} (step-valid v (asked i)) is stays in
    omega (arith, mul-add b.timeout x (left rest), first, more)

-- so it has left once a timeout's ticks for each place have followed
gone-in-time : {b : Build} {n : Node} → Valid b n → (is : List Input) (p : ℕ)
    → length n.queue ≤ p
    → p * b.timeout ≤ ticked (play b n is).events
    → length n.queue ≤ left (play b n is).events
gone-in-time {b} {n} v is p at waited = go (leb (length n.queue) (left (play b n is).events)) refl
  where
    es : List Event
    es = (play b n is).events

    go : (t : Bool) → leb (length n.queue) (left es) ≡ t → length n.queue ≤ left es
    go true t = leb-true _ _ t
    go false t =
        let late : left es < length n.queue = leb-false _ _ t in
        let paid : ticked es + n.timer ≤ b.timeout * left es + (play b n is).node.timer = ticks-paid v is late in
        let short : b.timeout * (left es + 1) ≤ b.timeout * p = mul-le-mul_left b.timeout (omega arith) in
        absurd
        (omega (
          arith,
          mul-add b.timeout (left es) 1,
          mul-one b.timeout,
          mul_comm p b.timeout,
          (play-valid v is).timer-bound,
          paid,
          short,
        ))

-- the i-th accepted message of a run, where the queue of the node that it begins with counts as accepted before
pub waits-from : {b : Build} {n : Node} → Valid b n → (is : List Input)
    → (before after : List Event) (e : Event) (m : Message) (p : ℕ)
    → (play b n is).events ≡ before ++ (e ∷ after)
    → arrived e ≡ m ∷ []
    → left before + p ≡ length n.queue + length (arrivals before) + 1
    → p * b.timeout ≤ ticked after
    → length n.queue + length (arrivals before) + 1 ≤ left (play b n is).events
unfolding play left arrivals arrived was_accepted
waits-from v [] [] after e m p same one place waited = absurd (omega (arith, ap length same))
waits-from v [] (x ∷ before) after e m p same one place waited = absurd (omega (arith, ap length same))
waits-from {b} {n} v (i ∷ is) [] after e m p same one place waited =
    let st : Stepped = step b n (asked i) in
    let rest : List Event = (play b st.node is).events in
    let tail : after ≡ rest = cc in
    let head : e ≡ event_of n (asked i) st = cc in
    let len : left_by (event_of n (asked i) st) + length st.node.queue ≡ length n.queue + length (arrived (event_of n (asked i) st)) =
    flow-length (step-queue v (asked i)) in
    let single : length (arrived (event_of n (asked i) st)) ≡ 1 = ap (λ (x : Event). length (arrived x)) (sym head) ∙ ap length one in
    let gone : length st.node.queue ≤ left rest =
    gone-in-time (step-valid v (asked i)) is p (omega arith) (subst (λ (es : List Event). p * b.timeout ≤ ticked es) tail waited) in
    omega (arith, len, single, gone)
waits-from {b} {n} v (i ∷ is) (x ∷ before) after e m p same one place waited =
    let st : Stepped = step b n (asked i) in
    let tail : (play b st.node is).events ≡ before ++ (e ∷ after) = cc in
    let head : x ≡ event_of n (asked i) st = cc in
    let len : left_by (event_of n (asked i) st) + length st.node.queue ≡ length n.queue + length (arrived (event_of n (asked i) st)) =
    flow-length (step-queue v (asked i)) in
    let taken : left_by x ≡ left_by (event_of n (asked i) st) = ap left_by head in
    let came : length (arrived x) ≡ length (arrived (event_of n (asked i) st)) = ap (λ (y : Event). length (arrived y)) head in
    let both : length (arrived x ++ arrivals before) ≡ length (arrived x) + length (arrivals before) = length-append (arrived x) (arrivals before) in
    let more : length st.node.queue + length (arrivals before) + 1 ≤ left (play b st.node is).events =
    waits-from {b = b} {n = (step b n (asked i)).node} (step-valid v (asked i)) is before after e m p tail one (omega (arith, place, len, taken, came, both)) waited in
    omega (arith, len, taken, came, both, more)
