-- The hardware queue over a run: what it had and accepted, less the first `left`. Assumes nothing.
use Prim.Native.Nat.{ℕ, ◌+◌, ◌≤◌}
use native.Mathlib.Nat.{zero-add, add-zero}
use native.Mathlib.Omega.{arith}
use mathlib.Core.Path.{◌≡◌, refl, sym, ap, ◌∙◌, subst, subst₂}
use mathlib.Core.Bool.{Bool, true, false, cond}
use mathlib.Core.List.{List, [], ◌∷◌, ◌++◌, append-nil}
use lib.Dec.{eqb}
use lib.ListN.{length, drop}
use lib.Seq.{drop-length}
use Rattle.rules.specs.Lists.{is_empty}
use Rattle.rules.specs.Build.{Build}
use Rattle.rules.specs.Node.{Message, Node, with_running, with_timer, with_queue, with_group, buffer_holds, buffered, line}
use Rattle.rules.specs.Operation.{poll, peek, dispose, begin_atomic, end_atomic, describe, launch}
use Rattle.rules.specs.Operation.{Operation, arrive, schedule, preempt, dispatch, tick, turn, user, unknown, accepted, no_trap, dispose_extend}
use Rattle.rules.specs.Refusal.{refusal, refuse_request, queued}
use Rattle.rules.specs.Settling.{settle, drain}
use Rattle.rules.specs.Step.{Effect, Stepped, valued, preempted, timer_flagged, revoke, timed_out, ticks, removed, flagged, disposed, section_begun, section_ended, extending, described, launched, serve, act, finish, in_arow, step}
use Rattle.rules.specs.Run.{Input, asked, Event, play, was_accepted, arrived_by, arrived, arrivals, disposed_by, left_by, left}
use Rattle.rules.specs.Valid.{Valid}
use Rattle.rules.proofs.Steps.SettlingLaws.{settle-queue, settle-moved, drain-queue}
use Rattle.rules.proofs.Steps.LineLaws.{direct-head, buffered-holds, removed-queue-buffered, removed-queue-direct}
use Rattle.rules.proofs.Steps.TickLaws.{timed, Ticked, idle, counting, timeout, ticked-by}
use Rattle.rules.proofs.Steps.StepLaws.{finish-queue, given, step-law, step-valid}
use Rattle.rules.proofs.Private.EventLaws.{event_of, refusal-answer, disposed-none, arrived-none}
use Rattle.rules.proofs.Private.RequestLaws.{suc-zero, dispose-some}
use Rattle.rules.proofs.Steps.ActLaws.{user-accepted}
use Rattle.rules.proofs.Runs.FlowLaws.{Flow, flow-kept, flow-drop, flow-join, flow-then}

-- how many an accepted operation takes from the hardware queue before settling
unfoldable pub taken : Operation → Effect → ℕ
taken op e = e.moved + disposed_by op (eqb e.trap no_trap)

-- T
ticked-queue : {b : Build} {n : Node} → Valid b n → (k : ℕ)
    → Flow n.queue (ticks b k (valued 0 n)).node.queue [] (taken (tick k) (ticks b k (valued 0 n)))
unfolding taken disposed_by valued timed timed_out revoke timer_flagged with_timer with_group
ticked-queue {b} {n} v k = go (ticked-by v k)
  where
    Goal : Effect → Type 0
    Goal e = Flow n.queue e.node.queue [] (e.moved + 0)

    drained : Flow n.queue (drain b n.queue n).queue [] (0 + length n.queue + 0)
    drained =
        rw (add-zero, zero-add)
        (record {
          same = drain-queue b n.queue n ∙ sym (drop-length n.queue) ∙ ap (drop (length n.queue)) (sym (append-nil n.queue));
          enough = rw append-nil (omega arith);
        })

    go : Ticked b k n → Goal (ticks b k (valued 0 n))
    go (idle q e) = subst Goal (sym e) (flow-kept refl)
    go (counting q h e) = subst Goal (sym e) (flow-kept refl)
    go (timeout q e) = subst Goal (sym e) drained

-- D
disposed-queue : {b : Build} {n : Node} → Valid b n → is_empty (line n n.running) ≡ false
    → Flow n.queue (disposed b n).queue [] (disposed_by (user dispose) (eqb (cond (buffered n n.running) dispose_extend no_trap) no_trap))
unfolding disposed_by disposed flagged with_timer with_group
disposed-queue {b} {n} v some = rw (buffered-holds v some) (go (buffer_holds n n.running) refl)
  where
    go : (t : Bool)
        → buffer_holds n n.running ≡ t
        → Flow n.queue (removed b n).queue [] (cond (eqb (cond t dispose_extend no_trap) no_trap) 1 0)
    go true t = flow-kept (removed-queue-buffered b n t)
    go false t =
        record {
          same = removed-queue-direct v t ∙ ap (drop 1) (sym (append-nil n.queue));
          enough = rw append-nil (subst (λ (q : List Message). 1 ≤ length q) (sym (direct-head v t some).2) (omega arith));
        }

-- an accepted operation
act-queue : {b : Build} {n : Node} → Valid b n → (op : Operation) → refusal b n op ≡ 0
    → Flow n.queue (act b n op).node.queue (arrived_by op true) (taken op (act b n op))
unfolding act arrived_by refusal valued taken disposed_by preempted serve extending launched described section_begun section_ended flagged timer_flagged with_running with_timer with_group queued with_queue refuse_request
act-queue {b} {n} v (arrive h ws) e = record { same = refl; enough = omega arith }
act-queue {b} {n} v preempt e = flow-kept refl
act-queue {b} {n} v (dispatch h) e = flow-kept refl
act-queue {b} {n} v (schedule h) e = flow-kept refl
act-queue {b} {n} v (tick k) e = ticked-queue v k
act-queue {b} {n} v turn e = flow-kept refl
act-queue {b} {n} v (user poll) e = flow-kept refl
act-queue {b} {n} v (user (peek i)) e = flow-kept refl
act-queue {b} {n} v (user dispose) e =
    rw zero-add (disposed-queue v (dispose-some (line n n.running) (user-accepted n dispose e).1))
act-queue {b} {n} v (user (begin_atomic force)) e = flow-kept refl
act-queue {b} {n} v (user end_atomic) e = flow-kept refl
act-queue {b} {n} v (user (describe w)) e = flow-kept refl
act-queue {b} {n} v (user (launch k)) e = flow-kept refl
act-queue {b} {n} v unknown e = suc-zero e

-- a step: what was accepted joins the queue, and as many leave it as `left` counts
pub step-queue : {b : Build} {n : Node} → Valid b n → (op : Operation)
    → Flow n.queue (step b n op).node.queue (arrived_by op (eqb (step b n op).report.answer accepted))
    (left_by (event_of n op (step b n op)))
unfolding finish in_arow left_by was_accepted taken arrived_by disposed_by
step-queue {b} v op =
    step-law Goal
    (record {
      refuses = λ n v op r z. rw (refusal-answer r, arrived-none op, disposed-none op) (flow-kept refl);
      acts = λ n v op one z. finished v op z;
      still = λ n v. flow-kept refl;
      takes = λ n v runs took. took;
      switches = λ n v g other some high took gave.
          let sum : (finish b (act b n preempt)).report.moved + 0 + ((given b n g).report.moved + 0)
          ≡ (finish b (act b n preempt)).report.moved + (given b n g).report.moved + 0 = omega arith in
          subst (λ (k : ℕ). Flow n.queue (given b n g).node.queue [] k) sum (flow-then took gave);
    })
    v op
  where
    Goal : Node → Operation → Stepped → Type 0
    Goal n op s =
        Flow n.queue s.node.queue (arrived_by op (eqb s.report.answer accepted))
        (left_by (event_of n op s))

    finished : {n : Node} → Valid b n → (op : Operation) → refusal b n op ≡ 0 → Goal n op (finish b (act b n op))
    finished {n} v op z =
        let e : Effect = act b n op in
        let s : ℕ = (settle b e.node).moved in
        let d : ℕ = disposed_by op (eqb e.trap no_trap) in
        let f : Flow n.queue (drop s e.node.queue) (arrived_by op true) (e.moved + d + s) =
        flow-drop s (act-queue v op z) (omega (arith, settle-moved b e.node)) in
        let order : e.moved + d + s ≡ e.moved + s + d = omega arith in
        let q : (finish b e).node.queue ≡ drop s e.node.queue = finish-queue b e ∙ settle-queue b e.node in
        subst₂ (λ (l : List Message) (k : ℕ). Flow n.queue l (arrived_by op true) k) (sym q) order f

-- a run
pub play-queue : {b : Build} {n : Node} → Valid b n → (is : List Input)
    → (play b n is).node.queue ≡ drop (left (play b n is).events) (n.queue ++ arrivals (play b n is).events)
unfolding play left arrivals arrived was_accepted
play-queue {n = n} v [] = sym (append-nil n.queue)
play-queue {b} {n} v (i ∷ is) =
    let st : Stepped = step b n (asked i) in
    let rest : List Event = (play b st.node is).events in
    play-queue {b = b} {n = (step b n (asked i)).node} (step-valid v (asked i)) is ∙ flow-join (left rest) (arrivals rest) (step-queue v (asked i))
