-- The timer over a run: while a message stays in the hardware queue, ticks are counted by the timer, and whatever sets the timer back takes a
-- message out. So ticks and timer together grow by at most a timeout for each message that leaves. Assumes nothing.
use Prim.Native.Nat.{ℕ, suc, ◌+◌, ◌*◌, ◌≤◌}
use native.Mathlib.Nat.{mul-le-mul_left, mul-one}
use native.Mathlib.Omega.{arith}
use mathlib.Core.Path.{◌≡◌, refl, sym, ap, ◌∙◌, subst}
use mathlib.Core.Bool.{Bool, true, false, cond, true≢false}
use mathlib.Core.List.{[]}
use lib.Dec.{eqb}
use lib.ListN.{length}
use Rattle.rules.specs.Lists.{is_empty}
use Rattle.rules.specs.Build.{Build}
use Rattle.rules.specs.Node.{Node, with_running, with_timer, with_queue, with_group, buffered}
use Rattle.rules.specs.Operation.{poll, peek, dispose, begin_atomic, end_atomic, describe, launch}
use Rattle.rules.specs.Operation.{Operation, arrive, schedule, preempt, dispatch, tick, turn, user, unknown, accepted, refused, no_trap, dispose_extend}
use Rattle.rules.specs.Refusal.{refusal, queued}
use Rattle.rules.specs.Settling.{settle, drain}
use Rattle.rules.specs.Step.{Effect, Stepped, valued, preempted, timer_flagged, revoke, timed_out, ticks, flagged, disposed, section_begun, section_ended, extending, described, launched, serve, act, finish, in_arow, step}
use Rattle.rules.specs.Run.{was_accepted, disposed_by, left_by, ticked_by}
use Rattle.rules.specs.Valid.{Valid}
use Rattle.rules.proofs.Steps.SettlingLaws.{runs-queued, settle-keeps, settle-moved, drain-queue}
use Rattle.rules.proofs.Steps.LineLaws.{nobody-empty, buffered-empty}
use Rattle.rules.proofs.Steps.TickLaws.{timed, left_over, Ticked, idle, counting, timeout, ticked-by}
use Rattle.rules.proofs.Steps.ActLaws.{dispatched}
use Rattle.rules.proofs.Steps.StepLaws.{finish-queue, finish-timer, given-empty, step-law}
use Rattle.rules.proofs.Steps.SwitchLaws.{nobody-emptied}
use Rattle.rules.proofs.Private.RequestLaws.{suc-zero}
use Rattle.rules.proofs.Steps.ListLaws.{some-length}
use Rattle.rules.proofs.Private.EventLaws.{event_of, refusal-answer, ticked-none}
use Rattle.rules.proofs.Runs.RunQueue.{taken}

-- What an accepted operation does to the timer, where the queue had a message and one stays after settling. l is how many leave.
module _ {b : Build} {n : Node} (v : Valid b n) (some : is_empty n.queue ≡ false) where
  -- setting the timer back is paid for by a message that leaves
  paid : (l : ℕ) → 1 ≤ l → n.timer ≤ b.timeout * l
  paid l h =
      let t : b.timeout * 1 ≤ b.timeout * l = mul-le-mul_left b.timeout h in
      omega (arith, v.timer-bound, mul-one b.timeout, t)

  -- the queue is not empty
  queue-some : n.queue ≡ [] → ⊥
  queue-some e = true≢false (sym (ap is_empty e) ∙ some)

  -- the queue that an operation leaves is not empty where one is left after settling
  left-some : (k : Node) → is_empty (settle b k).node.queue ≡ false → k.queue ≡ [] → ⊥
  left-some k s e = omega (arith, settle-moved b k, ap length e, some-length (settle b k).node.queue s)

  -- T
  tick-timer : (k : ℕ) → is_empty (settle b (ticks b k (valued 0 n)).node).node.queue ≡ false
      → k + n.timer
      ≤ b.timeout * (taken (tick k) (ticks b k (valued 0 n)) + (settle b (ticks b k (valued 0 n)).node).moved) + (ticks b k (valued 0 n)).node.timer
  unfolding valued timed timed_out revoke timer_flagged with_timer with_group
  tick-timer k = go (ticked-by v k)
    where
      Goal : Effect → Type 0
      Goal e =
          is_empty (settle b e.node).node.queue ≡ false
          → k + n.timer ≤ b.timeout * (taken (tick k) e + (settle b e.node).moved) + e.node.timer

      go : Ticked b k n → Goal (ticks b k (valued 0 n))
      go (idle rests e) = absurd (true≢false (sym (runs-queued n some) ∙ rests))
      go (counting q h e) = subst Goal (sym e) (λ s. omega arith)
      go (timeout q e) = subst Goal (sym e) (λ s. absurd (left-some (with_timer (left_over b k n) (revoke (drain b n.queue n))) s (drain-queue b n.queue n)))

  -- D
  dispose-timer : (l : ℕ)
      → 0 + n.timer ≤ b.timeout * (0 + cond (eqb (cond (buffered n n.running) dispose_extend no_trap) no_trap) 1 0 + l) + 0
  dispose-timer l = go (buffered n n.running) refl
    where
      go : (t : Bool)
          → buffered n n.running ≡ t
          → 0 + n.timer ≤ b.timeout * (0 + cond (eqb (cond t dispose_extend no_trap) no_trap) 1 0 + l) + 0
      go true t = absurd (queue-some (buffered-empty v t))
      go false t = omega (arith, paid (0 + 1 + l) (omega arith))

  act-timer : (op : Operation) → refusal b n op ≡ 0 → is_empty (settle b (act b n op).node).node.queue ≡ false
      → ticked_by op true + n.timer ≤ b.timeout * (taken op (act b n op) + (settle b (act b n op).node).moved) + (act b n op).node.timer
  unfolding act ticked_by refusal valued taken disposed_by serve extending launched described section_begun section_ended flagged timer_flagged with_group queued with_queue disposed preempted with_timer with_running
  act-timer (arrive h ws) z s = omega arith
  act-timer preempt z s = absurd (true≢false (ap is_empty (sym (nobody-emptied b (preempted n) refl v.queue-good)) ∙ s))
  act-timer (dispatch h) z s = absurd (queue-some (nobody-empty v (dispatched n h z).nobody))
  act-timer (schedule h) z s = omega arith
  act-timer (tick k) z s = tick-timer k s
  act-timer turn z s = omega arith
  act-timer (user poll) z s = omega arith
  act-timer (user (peek i)) z s = omega arith
  act-timer (user dispose) z s = dispose-timer (settle b (disposed b n)).moved
  act-timer (user (begin_atomic force)) z s = omega arith
  act-timer (user end_atomic) z s = omega arith
  act-timer (user (describe w)) z s = omega arith
  act-timer (user (launch k)) z s = omega arith
  act-timer unknown z s = suc-zero z

-- a step
pub step-timer : {b : Build} {n : Node} → Valid b n → is_empty n.queue ≡ false → (op : Operation) → is_empty (step b n op).node.queue ≡ false
    → ticked_by op (eqb (step b n op).report.answer accepted) + n.timer
    ≤ b.timeout * left_by (event_of n op (step b n op)) + (step b n op).node.timer
unfolding finish in_arow left_by was_accepted taken ticked_by disposed_by
step-timer {b} v some op =
    step-law Goal
    (record {
      refuses = λ n v op r z. refused-timer n op r;
      acts = λ n v op one z some. finished v some op z;
      still = λ n v some s. omega arith;
      takes = λ n v runs took. took;
      switches = λ n v g other named high took gave some s. absurd (true≢false (ap is_empty (sym (given-empty v g)) ∙ s));
    })
    v op some
  where
    Goal : Node → Operation → Stepped → Type 0
    Goal n op s =
        is_empty n.queue ≡ false
        → is_empty s.node.queue ≡ false
        → ticked_by op (eqb s.report.answer accepted) + n.timer
        ≤ b.timeout * left_by (event_of n op s) + s.node.timer

    refused-timer : (n : Node) (op : Operation) (r : ℕ) → Goal n op (record { report = refused (suc r); node = n })
    refused-timer n op r some s = rw (refusal-answer r, ticked-none op) (omega arith)

    finished : {n : Node} → Valid b n → is_empty n.queue ≡ false → (op : Operation) → refusal b n op ≡ 0
        → is_empty (finish b (act b n op)).node.queue ≡ false
        → ticked_by op true + n.timer ≤ b.timeout * left_by (event_of n op (finish b (act b n op))) + (finish b (act b n op)).node.timer
    finished {n} v some op z s =
        let e : Effect = act b n op in
        let k : Node = (settle b e.node).node in
        let left : is_empty k.queue ≡ false = ap is_empty (sym (finish-queue b e)) ∙ s in
        let kept : (finish b e).node.timer ≡ e.node.timer = finish-timer b e ∙ settle-keeps b e.node (runs-queued k left) in
        let d : ℕ = disposed_by op (eqb e.trap no_trap) in
        let m : ℕ = (settle b e.node).moved in
        let order : b.timeout * (e.moved + d + m) ≡ b.timeout * (e.moved + m + d) = ap (λ (x : ℕ). b.timeout * x) (omega arith) in
        omega (arith, act-timer v some op z left, order, kept)
