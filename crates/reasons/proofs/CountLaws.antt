-- How many moments of each kind a run has. Assumes nothing.
use Prim.Native.Nat.{ℕ, zero, suc, ◌+◌}
use native.Mathlib.Nat.{zero-add}
use native.Mathlib.Omega.{arith}
use mathlib.Core.Path.{◌≡◌, refl, sym, ap, ◌∙◌}
use mathlib.Core.Bool.{Bool, true, false, cond, not, ◌&&◌}
use mathlib.Core.List.{List, [], ◌∷◌, ◌++◌, map}
use lib.Dec.{eqb}
use lib.ListN.{length, length-append, length-replicate}
use Rattle.rules.specs.Lists.{is_empty, sum}
use Rattle.rules.specs.Build.{Build, Sensible}
use Rattle.rules.specs.Node.{Message, Node, buffer_holds, line, power_on, timer_runs}
use Rattle.rules.specs.Operation.{poll, peek, dispose, begin_atomic, end_atomic, describe, launch}
use Rattle.rules.specs.Operation.{Operation, arrive, schedule, preempt, dispatch, tick, turn, user, unknown, all_zero, dispose_extend, no_trap, refused}
use Rattle.rules.specs.Paging.{store}
use Rattle.rules.specs.Refusal.{refusal, refuse_request}
use Rattle.rules.specs.Run.{Event, Input, arrived, arrived_by, arrivals, asked, disposed_by, left, left_by, play, run, was_accepted}
use Rattle.rules.specs.Settling.{may_stay}
use Rattle.rules.specs.Step.{Effect, Stepped, act, extending, finish, in_arow, one_tick, serve, step, valued, without_first}
use Rattle.rules.specs.Valid.{Valid}
use Rattle.rules.proofs.Private.EventLaws.{arrived-none, disposed-none, event_of, refusal-answer}
use Rattle.rules.proofs.Private.RequestLaws.{dispose-some, suc-zero}
use Rattle.rules.proofs.Steps.ActLaws.{user-accepted}
use Rattle.rules.proofs.Steps.LineLaws.{buffered-holds}
use Rattle.rules.proofs.Steps.ListLaws.{weight, weight-append}
use Rattle.rules.proofs.Steps.StepLaws.{OneAct, power-on-valid, step-law, step-valid, taken}
use Rattle.reasons.specs.ByPlace.{event_reasons, first_reason, later_reason, leaving}
use Rattle.reasons.specs.Moments.{Dated, Facts, Moment, facts, act_moments, dispose_moments, disposed, drain_moments, headed, join_moments, joined, moved, next_headed, one_act_moments, pass_moments, performed_moments, run_moments, step_moments, take_moments, tick_moments, ticks_moments}
use Rattle.reasons.specs.Told.{Counted, count, is_disposed, is_headed, is_joined, is_moved}
use Rattle.reasons.specs.Why.{Heading}
use Rattle.reasons.proofs.Trail.{Trail, disposes, ends, heads, joins, moves, pending}
use Rattle.reasons.proofs.StepTrail.{moments-performed, moments-refused, preempt-moments, schedule-moments, step-trail, switch-still, switch-takes, switched-moments}

-- Settling, drains and ticks have messages become head and move, and nothing else.

record Outside (f : Moment → ℕ) : Type 0 where
  no-head : (g r : ℕ) → f (headed g r) ≡ 0
  no_move : (x : Facts) → f (moved x) ≡ 0

module _ (f : Moment → ℕ) (out : Outside f) where
  next-none : (r : ℕ) (q : List Message) → weight f (next_headed r q) ≡ 0
  unfolding next_headed
  next-none r [] = refl
  next-none r (m ∷ q) = omega (arith, out.no-head m.group r)

  on_none : (x : Facts) (r : ℕ) (q : List Message) (ms : List Moment) → weight f ms ≡ 0 → weight f (moved x ∷ next_headed r q ++ ms) ≡ 0
  on_none x r q ms none = omega (arith, out.no_move x, weight-append f (next_headed r q) ms, next-none r q)

  pass-none : (b : Build) (t : Bool) (q : List Message) (n : Node) → weight f (pass_moments b t q n) ≡ 0
  unfolding pass_moments
  pass-none b t [] n = refl
  pass-none b t (m ∷ q) n = go (may_stay n m) (pass-none b t q (store b m n))
    where
      go : (u : Bool) → weight f (pass_moments b t q (store b m n)) ≡ 0
          → weight f (elim u as (λ u. List Moment) [ true ↦ [] | false ↦ moved (facts false t n m) ∷ next_headed n.running q ++ pass_moments b t q (store b m n) ]) ≡ 0
      go true later = refl
      go false later = on_none (facts false t n m) n.running q (pass_moments b t q (store b m n)) later

  drain-none : (b : Build) (q : List Message) (n : Node) → weight f (drain_moments b q n) ≡ 0
  unfolding drain_moments
  drain-none b [] n = refl
  drain-none b (m ∷ q) n = on_none (facts true false n m) n.running q (drain_moments b q (store b m n)) (drain-none b q (store b m n))

  tick-none : (b : Build) (e : Effect) → weight f (tick_moments b e) ≡ 0
  unfolding tick_moments
  tick-none b e = go (timer_runs e.node) (eqb (e.node.timer + 1) b.timeout)
    where
      go : (t u : Bool) → weight f (cond t (cond u (drain_moments b e.node.queue e.node) []) []) ≡ 0
      go true true = drain-none b e.node.queue e.node
      go true false = refl
      go false u = refl

  ticks-none : (b : Build) (k : ℕ) (e : Effect) → weight f (ticks_moments b k e) ≡ 0
  unfolding ticks_moments
  ticks-none b zero e = refl
  ticks-none b (suc k) e = omega (arith, weight-append f (tick_moments b e) (ticks_moments b k (one_tick b e)), tick-none b e, ticks-none b k (one_tick b e))

  -- so of an act they are those before it settles
  act-counted : (b : Build) (t : Bool) (n : Node) (op : Operation) → weight f (one_act_moments b t n op) ≡ weight f (act_moments b n op)
  unfolding one_act_moments
  act-counted b t n op =
      let e = act b n op in
      omega (arith, weight-append f (act_moments b n op) (pass_moments b t e.node.queue e.node), pass-none b t e.node.queue e.node)

joined-outside : Outside is_joined
unfolding is_joined
joined-outside = record { no-head = λ g r. refl; no_move = λ x. refl }

disposed-outside : Outside is_disposed
unfolding is_disposed
disposed-outside = record { no-head = λ g r. refl; no_move = λ x. refl }

-- A step has as many join as it accepts, and as many disposed of as `left` counts.

record StepCounts (b : Build) (n : Node) (op : Operation) (s : Stepped) : Type 0 where
  joined-count : weight is_joined (step_moments b n op) ≡ length (arrived (event_of n op s))
  disposed-count : weight is_disposed (step_moments b n op) ≡ disposed_by op (was_accepted (event_of n op s) && eqb s.report.trap no_trap)

-- one that has no moments
no-moments : (b : Build) (n : Node) (op : Operation) (s : Stepped) → step_moments b n op ≡ [] → arrived (event_of n op s) ≡ []
    → disposed_by op (was_accepted (event_of n op s) && eqb s.report.trap no_trap) ≡ 0 → StepCounts b n op s
no-moments b n op s none unarrived kept =
    record {
      joined-count = ap (weight is_joined) none ∙ sym (ap length unarrived);
      disposed-count = ap (weight is_disposed) none ∙ sym kept;
    }

-- one act
of-act : (b : Build) (n : Node) (t : Bool) (op : Operation) → step_moments b n op ≡ one_act_moments b t n op
    → weight is_joined (act_moments b n op) ≡ length (arrived_by op true)
    → weight is_disposed (act_moments b n op) ≡ disposed_by op (eqb (act b n op).trap no_trap)
    → StepCounts b n op (finish b (act b n op))
unfolding finish arrived was_accepted
of-act b n t op moments ins outs =
    record {
      joined-count = ap (weight is_joined) moments ∙ act-counted is_joined joined-outside b t n op ∙ ins;
      disposed-count = ap (weight is_disposed) moments ∙ act-counted is_disposed disposed-outside b t n op ∙ outs;
    }

module _ {b : Build} {n : Node} (v : Valid b n) where
  -- D
  dispose-counts : refusal b n (user dispose) ≡ 0 → StepCounts b n (user dispose) (finish b (act b n (user dispose)))
  unfolding performed_moments act_moments dispose_moments disposed_by arrived_by act serve extending refusal refuse_request
  dispose-counts e =
      let some = dispose-some (line n n.running) (user-accepted n dispose e).1 in
      of-act b n false (user dispose) (moments-performed b n (user dispose) e)
      (ins (buffer_holds n n.running))
      (rw (buffered-holds v some) (outs (buffer_holds n n.running)))
    where
      ins : (t : Bool) → weight is_joined (cond t [] (disposed ∷ next_headed n.running (without_first n.running n.queue))) ≡ 0
      ins true = refl
      ins false = unfold is_joined in ap (λ (k : ℕ). 0 + k) (next-none is_joined joined-outside n.running (without_first n.running n.queue))

      outs : (t : Bool) → weight is_disposed (cond t [] (disposed ∷ next_headed n.running (without_first n.running n.queue))) ≡ cond (eqb (cond t dispose_extend no_trap) no_trap) 1 0
      outs true = refl
      outs false = unfold is_disposed in ap (λ (k : ℕ). 1 + k) (next-none is_disposed disposed-outside n.running (without_first n.running n.queue))

  -- A
  arrive-counts : (g : ℕ) (ws : List ℕ) → refusal b n (arrive g ws) ≡ 0 → StepCounts b n (arrive g ws) (finish b (act b n (arrive g ws)))
  unfolding performed_moments act_moments join_moments disposed_by arrived_by is_joined is_disposed
  arrive-counts g ws e = of-act b n false (arrive g ws) (moments-performed b n (arrive g ws) e) (ins (is_empty n.queue)) (outs (is_empty n.queue))
    where
      ins : (t : Bool) → weight is_joined (joined ∷ elim t as (λ t. List Moment) [ true ↦ headed g n.running ∷ [] | false ↦ [] ]) ≡ 1
      ins true = refl
      ins false = refl

      outs : (t : Bool) → weight is_disposed (joined ∷ elim t as (λ t. List Moment) [ true ↦ headed g n.running ∷ [] | false ↦ [] ]) ≡ 0
      outs true = refl
      outs false = refl

-- of one act
one-counts : {b : Build} {n : Node} → Valid b n → (op : Operation) → OneAct op → refusal b n op ≡ 0 → StepCounts b n op (finish b (act b n op))
unfolding performed_moments take_moments act_moments arrived_by disposed_by refusal
one-counts v (arrive g ws) one e = arrive-counts v g ws e
one-counts {b} {n} v preempt one e = of-act b n (not (eqb n.running 0)) preempt (moments-performed b n preempt e) refl refl
one-counts {b} {n} v (dispatch g) one e = of-act b n false (dispatch g) (moments-performed b n (dispatch g) e) refl refl
one-counts v (schedule g) one e = absurd one
one-counts {b} {n} v (tick k) one e =
    of-act b n false (tick k) (moments-performed b n (tick k) e) (ticks-none is_joined joined-outside b k (valued 0 n)) (ticks-none is_disposed disposed-outside b k (valued 0 n))
one-counts {b} {n} v turn one e = of-act b n false turn (moments-performed b n turn e) refl refl
one-counts {b} {n} v (user poll) one e = of-act b n false (user poll) (moments-performed b n (user poll) e) refl refl
one-counts {b} {n} v (user (peek i)) one e = of-act b n false (user (peek i)) (moments-performed b n (user (peek i)) e) refl refl
one-counts v (user dispose) one e = dispose-counts v e
one-counts {b} {n} v (user (begin_atomic force)) one e = of-act b n false (user (begin_atomic force)) (moments-performed b n (user (begin_atomic force)) e) refl refl
one-counts {b} {n} v (user end_atomic) one e = of-act b n false (user end_atomic) (moments-performed b n (user end_atomic) e) refl refl
one-counts {b} {n} v (user (describe w)) one e = of-act b n false (user (describe w)) (moments-performed b n (user (describe w)) e) refl refl
one-counts {b} {n} v (user (launch k)) one e = of-act b n false (user (launch k)) (moments-performed b n (user (launch k)) e) refl refl
one-counts v unknown one e = suc-zero e

-- of every step
step_counts : {b : Build} {n : Node} → Valid b n → (op : Operation) → StepCounts b n op (step b n op)
unfolding arrived was_accepted arrived_by disposed_by in_arow
step_counts {b} v op =
    step-law (StepCounts b)
    (record {
      refuses = λ n v op r e.
          no-moments b n op (record { report = refused (suc r); node = n }) (moments-refused b n op r e)
          (rw (refusal-answer r, arrived-none op)) (rw (refusal-answer r, disposed-none op));
      acts = λ n v op one e. one-counts v op one e;
      still = λ n v.
          no-moments b n (schedule n.running) (record { report = all_zero; node = n })
          (schedule-moments v n.running v.running-bound ∙ switch-still b n) refl refl;
      takes = λ n v runs took.
          let moments : step_moments b n preempt ≡ step_moments b n (schedule 0) = preempt-moments v ∙ sym (switch-takes b n runs) ∙ sym (schedule-moments v 0 (omega arith)) in
          record {
            joined-count = ap (weight is_joined) (sym moments) ∙ took.joined-count;
            disposed-count = ap (weight is_disposed) (sym moments) ∙ took.disposed-count;
          };
      switches = λ n v g other some high took gave.
          let two : (f : Moment → ℕ) → weight f (step_moments b n (schedule g)) ≡ weight f (step_moments b n preempt) + weight f (step_moments b (taken b n).node (dispatch g)) =
          λ f. ap (weight f) (switched-moments v g other some high) ∙ weight-append f (step_moments b n preempt) (step_moments b (taken b n).node (dispatch g)) in
          record {
            joined-count = omega (arith, two is_joined, took.joined-count, gave.joined-count);
            disposed-count = omega (arith, two is_disposed, took.disposed-count, gave.disposed-count);
          };
    })
    v op

-- Along a trail as many leave as have reasons, and as many become head as leave and are head at its end, but for the one that is head before it.

trail-leaves : {p p' : List Heading} {ms : List Moment} {rs : List ℕ} → Trail p ms rs p' → weight is_moved ms + weight is_disposed ms ≡ length rs
unfolding is_moved is_disposed
trail-leaves ends = refl
trail-leaves (joins t) = omega (arith, trail-leaves t)
trail-leaves (heads t) = omega (arith, trail-leaves t)
trail-leaves (disposes t) = omega (arith, trail-leaves t)
trail-leaves (moves f k e seven t) = omega (arith, trail-leaves t)

trail-heads : {p p' : List Heading} {ms : List Moment} {rs : List ℕ} → Trail p ms rs p' → length p + weight is_headed ms ≡ length rs + length p'
unfolding is_headed
trail-heads {p} ends = omega arith
trail-heads (joins t) = omega (arith, trail-heads t)
trail-heads (heads t) = omega (arith, trail-heads t)
trail-heads (disposes t) = omega (arith, trail-heads t)
trail-heads (moves f k e seven t) = omega (arith, trail-heads t)

-- as many as leave
leaving-length : (k x y : ℕ) → length (leaving k x y) ≡ k
unfolding leaving
leaving-length zero x y = refl
leaving-length (suc k) x y = ap suc (length-replicate k y)

pub reasons-length : (e : Event) (n : Node) → length (event_reasons e n) ≡ left_by e
unfolding event_reasons
reasons-length e n = leaving-length (left_by e) (first_reason e.operation n) (later_reason e.operation)

-- the moments of a run, from step i on
counted-dated : (f : Moment → ℕ) (i : ℕ) (ms : List Moment) (ds : List Dated)
    → count f (map (λ (m : Moment). record { line = i; moment = m }) ms ++ ds) ≡ weight f ms + count f ds
unfolding count
counted-dated f i [] ds = sym (zero-add (count f ds))
counted-dated f i (m ∷ ms) ds = omega (arith, counted-dated f i ms ds)

record RunCounts (b : Build) (i : ℕ) (n : Node) (is : List Input) : Type 0 where
  joined-count : count is_joined (run_moments b i n is) ≡ length (arrivals (play b n is).events)
  moved-count : count is_moved (run_moments b i n is) ≡ sum (map (λ (e : Event). e.report.moved) (play b n is).events)
  left-count : count is_moved (run_moments b i n is) + count is_disposed (run_moments b i n is) ≡ left (play b n is).events
  headed-count : length (pending n.queue) + count is_headed (run_moments b i n is) ≡ left (play b n is).events + length (pending (play b n is).node.queue)

play-counts : {b : Build} {n : Node} → Valid b n → (i : ℕ) (is : List Input) → RunCounts b i n is
unfolding count run_moments play arrivals left
play-counts {n = n} v i [] = record { joined-count = refl; moved-count = refl; left-count = refl; headed-count = omega arith }
play-counts {b} {n} v i (x ∷ is) =
    let op = asked x in
    let k = (step b n op).node in
    let ms = step_moments b n op in
    let rest = run_moments b (suc i) k is in
    let more : (f : Moment → ℕ) → count f (run_moments b i n (x ∷ is)) ≡ weight f ms + count f rest = λ f. counted-dated f i ms rest in
    let c = step_counts v op in
    let t = step-trail v op in
    let r = play-counts {b = b} {n = (step b n (asked x)).node} (step-valid v op) (suc i) is in
    let gone : length (event_reasons (event_of n op (step b n op)) k) ≡ left_by (event_of n op (step b n op)) = reasons-length (event_of n op (step b n op)) k in
    let parts : left_by (event_of n op (step b n op)) ≡ (step b n op).report.moved + disposed_by op (was_accepted (event_of n op (step b n op)) && eqb (step b n op).report.trap no_trap) = unfold left_by in refl in
    record {
      joined-count = omega (arith, more is_joined, c.joined-count, r.joined-count, length-append (arrived (event_of n op (step b n op))) (arrivals (play b k is).events));
      moved-count = omega (arith, more is_moved, r.moved-count, trail-leaves t, gone, parts, c.disposed-count);
      left-count = omega (arith, more is_moved, more is_disposed, r.left-count, trail-leaves t, gone);
      headed-count = omega (arith, more is_headed, r.headed-count, trail-heads t, gone);
    }

-- one head where the queue isn't empty
pending-length : (q : List Message) → length (pending q) ≡ cond (is_empty q) 0 1
unfolding pending
pending-length [] = refl
pending-length (m ∷ q) = refl

pub run-counts : (b : Build) → Sensible b → (is : List Input) → Counted b is
unfolding run power_on
run-counts b s is =
    let r = play-counts (power-on-valid b s) 1 is in
    record {
      joins = r.joined-count;
      moves = r.moved-count;
      leaves = r.left-count;
      heads = omega (arith, r.headed-count, pending-length (play b (power_on b) is).node.queue, pending-length (power_on b).queue);
    }
