-- The trail of a step on a node: from the head of its queue to the head of the queue after it, for the reasons of the rule by place. Assumes nothing.
use Prim.Native.Nat.{ℕ, suc, ◌+◌, ◌≤◌}
use native.Mathlib.Omega.{arith}
use mathlib.Core.Path.{◌≡◌, refl, sym, ap, ◌∙◌, subst, subst₂}
use mathlib.Core.Logic.{◌≢◌}
use mathlib.Core.Bool.{false}
use mathlib.Core.List.{List, [], ◌++◌, append-nil}
use lib.ListN.{length}
use borrow.Author.Tests.{eq-eqb, le-ltb, ne_eqb}
use Rattle.rules.specs.Build.{Build, group_count}
use Rattle.rules.specs.Node.{Node, with_running}
use Rattle.rules.specs.Operation.{Request, poll, peek, dispose, begin_atomic, end_atomic, describe, launch}
use Rattle.rules.specs.Operation.{Operation, arrive, schedule, preempt, dispatch, tick, turn, user, unknown, Report, all_zero, refused}
use Rattle.rules.specs.Refusal.{refusal, refuse_schedule}
use Rattle.rules.specs.Run.{disposed_by, left_by, was_accepted}
use Rattle.rules.specs.Step.{Stepped, act, finish, in_arow, step, valued}
use Rattle.rules.specs.Valid.{Valid}
use Rattle.rules.proofs.Private.EventLaws.{disposed-none, event_of, refusal-answer}
use Rattle.rules.proofs.Private.RequestLaws.{suc-zero}
use Rattle.rules.proofs.Steps.SettlingLaws.{settle-moved}
use Rattle.rules.proofs.Steps.StepLaws.{OneAct, given, step-answer, step_given, step-law, taken, taken-empty}
use Rattle.reasons.specs.ByPlace.{event_reasons, first_reason, later_reason, leaving}
use Rattle.reasons.specs.Moments.{Moment, moved, one_act_moments, performed_moments, step_moments, switch_moments, take_moments}
use Rattle.reasons.proofs.Trail.{Trail, ends, pending, trail-then}
use Rattle.reasons.proofs.ActTrail.{Acted, dispatch-trail, preempt-trail, request-trail, tick-trail, turn-trail}
use Rattle.reasons.proofs.ArriveTrail.{arrive-trail}
use Rattle.reasons.proofs.DisposeTrail.{dispose-trail}

-- a step's moments: none where it is refused
pub moments-refused : (b : Build) (n : Node) (op : Operation) (r : ℕ) → refusal b n op ≡ suc r → step_moments b n op ≡ []
unfolding step_moments
moments-refused b n op r e = rw (e, step_moments)

pub moments-performed : (b : Build) (n : Node) (op : Operation) → refusal b n op ≡ 0 → step_moments b n op ≡ performed_moments b n op
unfolding step_moments
moments-performed b n op e = rw (e, step_moments)

-- the trail of a step
abbrev pub StepTrail : Build → Node → Operation → Stepped → Type 0
StepTrail b n op s = Trail (pending n.queue) (step_moments b n op) (event_reasons (event_of n op s) s.node) (pending s.node.queue)

-- nothing leaves at a step that moves nothing and disposes of nothing
none-leave : (n k : Node) (op : Operation) (r : Report) → left_by (record { runner = n.running; operation = op; report = r }) ≡ 0
    → event_reasons (record { runner = n.running; operation = op; report = r }) k ≡ []
unfolding event_reasons leaving
none-leave n k op r none = ap (λ (j : ℕ). leaving j (first_reason op k) (later_reason op)) none

unmoved : (b : Build) (n : Node) (op : Operation) (r : Report) → left_by (record { runner = n.running; operation = op; report = r }) ≡ 0 → step_moments b n op ≡ []
    → StepTrail b n op (record { report = r; node = n })
unmoved b n op r none quiet =
    subst₂ (λ (ms : List Moment) (rs : List ℕ). Trail (pending n.queue) ms rs (pending n.queue)) (sym quiet) (sym (none-leave n n op r none)) ends

-- of one act
act-trail : {b : Build} {n : Node} → Valid b n → (op : Operation) → OneAct op → refusal b n op ≡ 0 → StepTrail b n op (finish b (act b n op))
unfolding performed_moments take_moments refusal
act-trail {b} {n} v op one accepts =
    subst (λ (ms : List Moment). Trail (pending n.queue) ms (event_reasons (event_of n op (finish b (act b n op))) (finish b (act b n op)).node) (pending (finish b (act b n op)).node.queue))
    (sym (moments-performed b n op accepts)) (go op one accepts)
  where
    requested : (r : Request) → refusal b n (user r) ≡ 0 → Acted b false n (user r)
    requested poll e = request-trail v poll tt e
    requested (peek i) e = request-trail v (peek i) tt e
    requested dispose e = dispose-trail v e
    requested (begin_atomic force) e = request-trail v (begin_atomic force) tt e
    requested end_atomic e = request-trail v end_atomic tt e
    requested (describe w) e = request-trail v (describe w) tt e
    requested (launch k) e = request-trail v (launch k) tt e

    go : (op : Operation) → OneAct op → refusal b n op ≡ 0
        → Trail (pending n.queue) (performed_moments b n op) (event_reasons (event_of n op (finish b (act b n op))) (finish b (act b n op)).node) (pending (finish b (act b n op)).node.queue)
    go (arrive g ws) one e = arrive-trail v g ws e
    go preempt one e = preempt-trail v
    go (dispatch g) one e = dispatch-trail v g e
    go (schedule g) one e = absurd one
    go (tick k) one e = tick-trail v k
    go turn one e = turn-trail v
    go (user r) one e = requested r e
    go unknown one e = suc-zero e

-- as many for the first reason and the other, and then none
leaving-none : (j k x y : ℕ) → k ≡ 0 → leaving (j + k + 0) x y ≡ leaving (j + 0) x y ++ leaving (k + 0) 0 3
unfolding leaving
leaving-none j k x y none =
    let sum : j + k + 0 ≡ j + 0 = omega arith in
    let rest : k + 0 ≡ 0 = omega arith in
    ap (λ (i : ℕ). leaving i x y) sum
    ∙ sym (append-nil (leaving (j + 0) x y))
    ∙ ap (λ (i : ℕ). leaving (j + 0) x y ++ leaving i 0 3) (sym rest)

-- the moments of S, by whom it is to
pub switch-still : (b : Build) (n : Node) → switch_moments b n n.running ≡ []
unfolding switch_moments
switch-still b n = rw (eq-eqb n.running n.running refl, switch_moments)

pub switch-takes : (b : Build) (n : Node) → n.running ≢ 0 → switch_moments b n 0 ≡ take_moments b n
unfolding switch_moments
switch-takes b n runs =
    let one : switch_moments b n 0 ≡ take_moments b n ++ [] = rw (ne_eqb 0 n.running (λ e. runs (sym e)), switch_moments) in
    one ∙ append-nil (take_moments b n)

switch-two : (b : Build) (n : Node) (g : ℕ) → g ≢ n.running → g ≢ 0
    → switch_moments b n g ≡ take_moments b n ++ one_act_moments b false (taken b n).node (dispatch g)
unfolding switch_moments
switch-two b n g other some = rw (ne_eqb g n.running other, ne_eqb g 0 some, switch_moments)

module _ {b : Build} {n : Node} (v : Valid b n) where
  -- S is accepted
  pub schedule-moments : (g : ℕ) → g ≤ group_count → step_moments b n (schedule g) ≡ switch_moments b n g
  unfolding performed_moments refusal refuse_schedule
  schedule-moments g high = moments-performed b n (schedule g) (rw (le-ltb group_count g high))

  -- to the one running
  still-trail : StepTrail b n (schedule n.running) (record { report = all_zero; node = n })
  unfolding left_by disposed_by
  still-trail = unmoved b n (schedule n.running) all_zero refl (schedule-moments n.running v.running-bound ∙ switch-still b n)

  -- to nobody it is O
  pub preempt-moments : step_moments b n preempt ≡ take_moments b n
  unfolding performed_moments refusal
  preempt-moments = moments-performed b n preempt refl

  takes-trail : n.running ≢ 0 → StepTrail b n preempt (taken b n) → StepTrail b n (schedule 0) (taken b n)
  unfolding event_reasons left_by disposed_by first_reason later_reason
  takes-trail runs took =
      subst (λ (ms : List Moment). Trail (pending n.queue) ms (event_reasons (event_of n preempt (taken b n)) (taken b n).node) (pending (taken b n).node.queue))
      (preempt-moments ∙ sym (switch-takes b n runs) ∙ sym (schedule-moments 0 (omega arith))) took

  -- to another it is O and I, and I finds the queue empty
  given-unmoved : (g : ℕ) → (given b n g).report.moved ≡ 0
  unfolding finish act valued with_running
  given-unmoved g = omega (arith, settle-moved b (with_running g (taken b n).node), ap length (taken-empty v))

  given-moments : (g : ℕ) → g ≢ 0 → g ≤ group_count → step_moments b (taken b n).node (dispatch g) ≡ one_act_moments b false (taken b n).node (dispatch g)
  unfolding performed_moments finish
  given-moments g some high =
      moments-performed b (taken b n).node (dispatch g)
      (sym (step-answer b (taken b n).node (dispatch g)) ∙ ap (λ (s : Stepped). s.report.answer) (step_given b n g some high))

  -- the moments of S to another are those of its two acts
  pub switched-moments : (g : ℕ) → g ≢ n.running → g ≢ 0 → g ≤ group_count
      → step_moments b n (schedule g) ≡ step_moments b n preempt ++ step_moments b (taken b n).node (dispatch g)
  switched-moments g other some high =
      schedule-moments g high
      ∙ switch-two b n g other some
      ∙ ap (λ (ms : List Moment). take_moments b n ++ ms) (sym (given-moments g some high))
      ∙ ap (λ (ms : List Moment). ms ++ step_moments b (taken b n).node (dispatch g)) (sym preempt-moments)

  switches-trail : (g : ℕ) → g ≢ n.running → g ≢ 0 → g ≤ group_count → StepTrail b n preempt (taken b n) → StepTrail b (taken b n).node (dispatch g) (given b n g)
      → StepTrail b n (schedule g) (in_arow (taken b n) (given b n g))
  unfolding in_arow event_reasons left_by disposed_by first_reason later_reason
  switches-trail g other some high took gave =
      subst₂ (λ (ms : List Moment) (rs : List ℕ). Trail (pending n.queue) ms rs (pending (given b n g).node.queue))
      (sym (switched-moments g other some high)) (sym (leaving-none (taken b n).report.moved (given b n g).report.moved 7 3 (given-unmoved g)))
      (trail-then took gave)

-- the trail of every step
pub step-trail : {b : Build} {n : Node} → Valid b n → (op : Operation) → StepTrail b n op (step b n op)
step-trail {b} v op =
    step-law (StepTrail b)
    (record {
      refuses = λ n v op r e. unmoved b n op (refused (suc r)) (unfold left_by was_accepted in rw (refusal-answer r, disposed-none op)) (moments-refused b n op r e);
      acts = λ n v op one e. act-trail v op one e;
      still = λ n v. still-trail v;
      takes = λ n v runs took. takes-trail v runs took;
      switches = λ n v g other some high took gave. switches-trail v g other some high took gave;
    })
    v op
