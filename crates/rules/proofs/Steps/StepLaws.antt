-- Power-on makes a node, and a node stays a node. At power-on every group is empty and wants no frame, and the free line has each frame
-- once. What an accepted operation leaves is settled, so that a head that is left may stay and an empty queue has its timer at rest, and
-- then called up, so that a running group with a line is atomic. A refused step leaves the node. Assumes nothing.
use Prim.Native.Nat.{ℕ, zero, suc, ◌≤◌, pred}
use mathlib.Core.Path.{◌≡◌, refl, sym, subst, ap, ◌∙◌}
use mathlib.Core.Logic.{◌≢◌}
use mathlib.Core.Bool.{Bool, true, false, true≢false, not, ◌&&◌, ◌||◌, false≢true, and-eq-true_iff, and-false}
use mathlib.Core.List.{List, [], ◌∷◌, ◌++◌, append-nil}
use native.Mathlib.Decide.{ℕ_discrete}
use native.Mathlib.Omega.{arith}
use native.Mathlib.Nat.{zero-add, zero-mul, not-suc-le-zero}
use lib.Dec.{ltb, eqb}
use lib.ListN.{length, get_or, replicate, length-replicate}
use borrow.Author.Tests.{eq-eqb, eqb-false, ne_eqb, ltb-false, le-ltb, not-true, not-false}
use Rattle.rules.specs.Lists.{Every, is_empty, concat_map, count_of, up_from}
use Rattle.rules.specs.Build.{Build, Sensible, page_count, group_count}
use Rattle.rules.specs.Node.{Message, Buffer, Group, Node, group_of, with_running, with_timer, with_group, with_flags, buffer_holds, buffered, forced, timer_runs, line, empty_group, empty_paging, power_on, waiting, unused, in_queue}
use Rattle.rules.specs.Frames.{pledge, pledges}
use Rattle.rules.specs.Operation.{Operation, arrive, schedule, preempt, dispatch, tick, turn, user, unknown, accepted, refused, all_zero}
use Rattle.rules.specs.Paging.{runner_resident}
use Rattle.rules.specs.Refusal.{refuse_schedule, refuse_dispatch, refusal}
use Rattle.rules.specs.Settling.{may_stay, settle, calls, upcall}
use Rattle.rules.specs.Step.{Effect, Stepped, valued, preempted, act, finish, in_arow, switched, performed, step}
use Rattle.rules.specs.Valid.{GoodGroup, Valid, IsSwap, FirstInFrame, frame_list, idle, frame_numbers, frame_order}
use Rattle.rules.specs.Sound.{Sound}
use Rattle.rules.proofs.Steps.EveryLaws.{every-replicate, every-up_from}
use Rattle.rules.proofs.Steps.ListLaws.{no_length, sum-le, count-within, length-up_from, up_from-append}
use Rattle.rules.proofs.Steps.FrameLaws.{ceil-none}
use Rattle.rules.proofs.Steps.NodeLaws.{group-same, kept, within, group-good, reflagged}
use Rattle.rules.proofs.Steps.SettlingLaws.{runs-empty, forced-same, upcall-cases, upcall-kept, settle-sound, settle-running, settle-moved, settle-line, settle-flags, settle-head, settle-timer}
use Rattle.rules.proofs.Steps.PagingLaws.{Repaged, repaged-line, repaged-buffered, runner-repaged, runner-sound, runner-first}
use Rattle.rules.proofs.Steps.LineLaws.{neither, nobody-empty}
use Rattle.rules.proofs.Steps.ActLaws.{failed, Ready, reflagged-pending, act-ready}

-- a node after settling: ready, its head stays, and its timer is 0 where it does not run
record Settled (b : Build) (n : Node) : Type 0 where
  ready : Ready b n
  head-stays : (m : Message) (q : List Message) → n.queue ≡ m ∷ q → may_stay n m ≡ true
  timer-idle : timer_runs n ≡ false → n.timer ≡ 0

-- settling settles
settled : {b : Build} {n : Node} → Ready b n → Settled b (settle b n).node
settled {b} {n} y =
    record {
      ready = record {
        sound = settle-sound y.sound;
        pending = λ g low high e. rw (settle-line y.sound g low high) (y.pending g low high (sym (settle-flags b n g).pending ∙ e));
      };
      head-stays = settle-head b n;
      timer-idle = settle-timer b n;
    }

-- whether a head may stay does not hang on where pages are
pub repaged-stays : {n' n : Node} → Repaged n' n → (m : Message) → may_stay n' m ≡ may_stay n m
unfolding may_stay
repaged-stays {n'} {n} r m =
    ap (λ (g : ℕ). eqb m.group g && not (buffered n' m.group)) r.running
    ∙ ap (λ (t : Bool). eqb m.group n.running && not t) (repaged-buffered r m.group)

-- nor does whether the timer runs
pub repaged-runs : {n' n : Node} → Repaged n' n → timer_runs n' ≡ timer_runs n
unfolding timer_runs
repaged-runs {n'} {n} r =
    ap (λ (q : List Message). not (is_empty q) || forced n') r.queue
    ∙ ap (λ (t : Bool). not (is_empty n.queue) || t) (forced-same n' n r.running (λ g. (r.groups g).flags))

-- the running group's first page brought in leaves it settled
paged : {b : Build} {n : Node} → Settled b n → Settled b (runner_resident b n)
paged {b} {n} d =
    let r = runner-repaged b n in
    record {
      ready = record {
        sound = runner-sound d.ready.sound;
        pending = λ g low high e. rw (repaged-line r g) (d.ready.pending g low high (sym (r.groups g).flags.pending ∙ e));
      };
      head-stays = λ m q e. repaged-stays r m ∙ d.head-stays m q (sym r.queue ∙ e);
      timer-idle = λ e. r.timer ∙ d.timer-idle (sym (repaged-runs r) ∙ e);
    }

-- it is a node, if the running group's first page is in a frame, and the running group with a line is atomic
settled-valid : {b : Build} {n : Node} → Settled b n → (1 ≤ n.running → FirstInFrame b (group_of n n.running).buffer.frames)
    → (1 ≤ n.running → is_empty (line n n.running) ≡ false → (group_of n n.running).atomic ≡ true) → Valid b n
settled-valid {n = n} d first atomic =
    let s = d.ready.sound in
    record {
      sensible = s.sensible;
      running-bound = s.running-bound;
      timer-bound = s.timer-bound;
      queue-length = s.queue-length;
      queue-good = s.queue-good;
      group-count = s.group-count;
      groups-good = s.groups-good;
      frames-once = s.frames-once;
      frames-all = s.frames-all;
      swap-numbers = s.swap-numbers;
      entered-once = s.entered-once;
      entered_all = s.entered_all;
      pledged = s.pledged;
      pending-line = d.ready.pending;
      running-atomic = atomic;
      head-stays = d.head-stays;
      timer-idle = λ none unforced. d.timer-idle (runs-empty n none ∙ unforced);
      runner-resident = first;
    }

-- of three tests that do not all fail the one between passes, if the first and the last fail
between : (t u w : Bool) → not t && (not u && not w) ≡ false → t ≡ false → w ≡ false → u ≡ true
between true u w e first last = absurd (true≢false first)
between false true w e first last = refl
between false false true e first last = absurd (true≢false last)
between false false false e first last = absurd (true≢false e)

-- of the flags only revoked bears on whether a head may stay
reflagged-stays : (n : Node) (g : ℕ) (G : Group) → G.buffer ≡ (group_of n g).buffer → G.revoked ≡ (group_of n g).revoked → (m : Message)
    → may_stay (with_group g G n) m ≡ may_stay n m
unfolding may_stay buffered buffer_holds with_group
reflagged-stays n g G same marked m =
    let h = m.group in
    ap (λ (v : Buffer). eqb h n.running && not (ltb 0 v.count || (group_of (with_group g G n) h).revoked)) (kept (λ K. K.buffer) n g G same h)
    ∙ ap (λ (t : Bool). eqb h n.running && not (ltb 0 (group_of n h).buffer.count || t)) (kept (λ K. K.revoked) n g G marked h)

-- an upcall is due to a group that is not atomic and whose line is not empty
record Due (n : Node) : Type 0 where
  group : 1 ≤ n.running
  interruptible : (group_of n n.running).atomic ≡ false
  line-waits : is_empty (line n n.running) ≡ false

due : (n : Node) → calls n ≡ true → Due n
unfolding calls
due n e =
    let r = n.running in
    let runs = (and-eq-true_iff (not (eqb r 0)) (not (group_of n r).atomic && not (is_empty (line n r)))).0 e in
    let waits = (and-eq-true_iff (not (group_of n r).atomic) (not (is_empty (line n r)))).0 runs.1 in
    let nonzero : r ≢ 0 = eqb-false r 0 (not-true (eqb r 0) runs.0) in
    record { group = omega arith; interruptible = not-true (group_of n r).atomic waits.0; line-waits = not-true (is_empty (line n r)) waits.1 }

-- its timer runs only where a message is queued
due-rests : (n : Node) → Due n → is_empty n.queue ≡ true → timer_runs n ≡ false
unfolding timer_runs forced
due-rests n d none = rw (none, d.interruptible, and-false, and-false)

-- only a group is called up
pub calls-group : (n : Node) → calls n ≡ true → 1 ≤ n.running
calls-group n e = (due n e).group

-- a group called up
called : {b : Build} {n : Node} → Settled b n → (1 ≤ n.running → FirstInFrame b (group_of n n.running).buffer.frames) → calls n ≡ true → Valid b (with_group n.running (with_flags true true (group_of n n.running)) n)
unfolding with_flags with_group timer_runs
called {b} {n} d first e =
    let s = d.ready.sound in
    let r = n.running in
    let low = (due n e).group in
    let high = s.running-bound in
    let G = with_flags true true (group_of n r) in
    let old = group-good s r low high in
    let good : GoodGroup b G =
    record { buffer = old.buffer; descriptor = old.descriptor; pending-atomic = λ p. refl; force-atomic = λ p. refl; revoked-atomic = λ p. refl } in
    let rests : timer_runs (with_group r G n) ≡ false → timer_runs n ≡ false =
    λ t. due-rests n (due n e) (not-false (is_empty n.queue) (neither (not (is_empty n.queue)) (forced (with_group r G n)) t).0) in
    settled-valid
    (record {
      ready = record {
        sound = reflagged s r low high G good refl;
        pending = reflagged-pending s r low high G refl (λ p. (due n e).line-waits) (λ h low' high' other p. d.ready.pending h low' high' p);
      };
      head-stays = λ m q head. reflagged-stays n r G refl refl m ∙ d.head-stays m q head;
      timer-idle = λ t. d.timer-idle (rests t);
    })
    (λ low'. subst (FirstInFrame b) (sym (ap (λ (K : Group). K.buffer.frames) (group-same n r G (within s r low high)))) (first low'))
    (λ low' some'. ap (λ (K : Group). K.atomic) (group-same n r G (within s r low high)))

-- the upcall makes it a node
upcall-valid : {b : Build} {n : Node} → Settled b n → (1 ≤ n.running → FirstInFrame b (group_of n n.running).buffer.frames) → Valid b (upcall n)
unfolding calls
upcall-valid {b} {n} d first = upcall-cases (Valid b) n (called d first) quiet
  where
    quiet : calls n ≡ false → Valid b n
    quiet e =
        let test : 1 ≤ n.running → eqb n.running 0 ≡ false = λ low. ne_eqb n.running 0 (λ none. omega arith) in
        settled-valid d first (λ low some. between (eqb n.running 0) (group_of n n.running).atomic (is_empty (line n n.running)) e (test low) some)

-- settling and the upcall leave a node
pub finish-valid : {b : Build} (e : Effect) → Ready b e.node → Valid b (finish b e).node
unfolding finish
finish-valid {b} e y =
    let k = (settle b e.node).node in
    let d = settled y in
    let r = (runner-repaged b k).running in
    upcall-valid (paged d)
    (λ low. subst (λ (g : ℕ). FirstInFrame b (group_of (runner_resident b k) g).buffer.frames) (sym r) (runner-first d.ready.sound (omega arith)))

-- the rest of a step does to queue and timer what settling does
pub finish-queue : (b : Build) (e : Effect) → (finish b e).node.queue ≡ (settle b e.node).node.queue
unfolding finish with_group
finish-queue b e =
    let k = (settle b e.node).node in
    upcall-kept (λ m. m.queue) (runner_resident b k) (λ G. refl) ∙ (runner-repaged b k).queue

pub finish-timer : (b : Build) (e : Effect) → (finish b e).node.timer ≡ (settle b e.node).node.timer
unfolding finish with_group
finish-timer b e =
    let k = (settle b e.node).node in
    upcall-kept (λ m. m.timer) (runner_resident b k) (λ G. refl) ∙ (runner-repaged b k).timer

-- what an accepted operation leaves is sound
pub act-sound : {b : Build} {n : Node} → Valid b n → (op : Operation) → refusal b n op ≡ 0 → Sound b (act b n op).node
act-sound v op e = (act-ready v op e).sound

-- and it leaves the processor with whom the operation left it
pub finish-running : (b : Build) (e : Effect) → (finish b e).node.running ≡ e.node.running
unfolding finish with_group
finish-running b e =
    let k = (settle b e.node).node in
    upcall-kept (λ m. m.running) (runner_resident b k) (λ G. refl) ∙ (runner-repaged b k).running ∙ settle-running b e.node

-- an operation of one act: each but S
abbrev pub OneAct : Operation → Type 0
OneAct (arrive g ws) = Unit {0}
OneAct preempt = Unit {0}
OneAct (dispatch g) = Unit {0}
OneAct (schedule g) = ⊥
OneAct (tick k) = Unit {0}
OneAct turn = Unit {0}
OneAct (user r) = Unit {0}
OneAct unknown = Unit {0}

-- an accepted step performs its operation
step-performed : (b : Build) (n : Node) (op : Operation) → refusal b n op ≡ 0 → step b n op ≡ performed b n op
unfolding step
step-performed b n op e = rw (e, step)

-- which is to act and to finish
pub step-accepted : (b : Build) (n : Node) (op : Operation) → OneAct op → refusal b n op ≡ 0 → step b n op ≡ finish b (act b n op)
unfolding performed
step-accepted b n (arrive g ws) one e = step-performed b n (arrive g ws) e
step-accepted b n preempt one e = step-performed b n preempt e
step-accepted b n (dispatch g) one e = step-performed b n (dispatch g) e
step-accepted b n (schedule g) one e = absurd one
step-accepted b n (tick k) one e = step-performed b n (tick k) e
step-accepted b n turn one e = step-performed b n turn e
step-accepted b n (user r) one e = step-performed b n (user r) e
step-accepted b n unknown one e = step-performed b n unknown e

-- a refused step reports its number and leaves the node
pub step-refused : (b : Build) (n : Node) (op : Operation) (r : ℕ) → refusal b n op ≡ suc r → step b n op ≡ record { report = refused (suc r); node = n }
unfolding step
step-refused b n op r e = rw (e, step)

-- what holds of a refused step, and of an operation performed, holds of a step
pub step-cases : (b : Build) (n : Node) (op : Operation) (P : Stepped → Type 0)
    → (refusal b n op ≡ 0 → P (performed b n op))
    → ((r : ℕ) → refusal b n op ≡ suc r → P (record { report = refused (suc r); node = n }))
    → P (step b n op)
step-cases b n op P performs refuses = go (refusal b n op) refl
  where
    go : (r : ℕ) → refusal b n op ≡ r → P (step b n op)
    go zero e = subst P (sym (step-performed b n op e)) (performs e)
    go (suc r) e = subst P (sym (step-refused b n op r e)) (refuses r e)

-- an operation performed is accepted
pub performed-answer : (b : Build) (n : Node) (op : Operation) → (performed b n op).report.answer ≡ accepted
unfolding performed finish switched in_arow
performed-answer b n (arrive g ws) = refl
performed-answer b n preempt = refl
performed-answer b n (dispatch g) = refl
performed-answer b n (schedule g) = go (eqb g n.running) (eqb g 0)
  where
    go : (t u : Bool)
        → (elim t as (λ t. Stepped) [
          | true ↦ record { report = all_zero; node = n }
          | false ↦
              elim u as (λ u. Stepped) [
                | true ↦ finish b (act b n preempt)
                | false ↦ in_arow (finish b (act b n preempt)) (finish b (act b (finish b (act b n preempt)).node (dispatch g)))
              ]
        ]).report.answer ≡ accepted
    go true u = refl
    go false true = refl
    go false false = refl
performed-answer b n (tick k) = refl
performed-answer b n turn = refl
performed-answer b n (user r) = refl
performed-answer b n unknown = refl

-- so a step's answer is its operation's refusal
pub step-answer : (b : Build) (n : Node) (op : Operation) → (step b n op).report.answer ≡ refusal b n op
step-answer b n op =
    step-cases b n op (λ s. s.report.answer ≡ refusal b n op) (λ e. performed-answer b n op ∙ sym e) (λ r e. sym e)

-- S, by the paper's sentence. To the one running, or to nobody where nobody runs, it is nothing.
pub schedule-still : {b : Build} {n : Node} → Valid b n → step b n (schedule n.running) ≡ record { report = all_zero; node = n }
unfolding performed switched refusal refuse_schedule
schedule-still {b} {n} v =
    let nothing : switched b n n.running ≡ record { report = all_zero; node = n } = rw (eq-eqb n.running n.running refl, switched) in
    step-performed b n (schedule n.running) (rw (le-ltb group_count n.running v.running-bound)) ∙ nothing

-- to nobody it is O
pub schedule-takes : (b : Build) (n : Node) → n.running ≢ 0 → step b n (schedule 0) ≡ finish b (act b n preempt)
unfolding performed switched refusal refuse_schedule
schedule-takes b n runs =
    let one : switched b n 0 ≡ finish b (act b n preempt) = rw (ne_eqb 0 n.running (λ e. runs (sym e)), switched) in
    step-performed b n (schedule 0) refl ∙ one

-- to another it is O, and I
abbrev pub taken : Build → Node → Stepped
taken b n = finish b (act b n preempt)

abbrev pub given : Build → Node → ℕ → Stepped
given b n g = finish b (act b (taken b n).node (dispatch g))

pub schedule-switches : (b : Build) (n : Node) (g : ℕ) → g ≢ n.running → g ≢ 0 → g ≤ group_count → step b n (schedule g) ≡ in_arow (taken b n) (given b n g)
unfolding performed switched refusal refuse_schedule
schedule-switches b n g other some high =
    let two : switched b n g ≡ in_arow (taken b n) (given b n g) = rw (ne_eqb g n.running other, ne_eqb g 0 some, switched) in
    step-performed b n (schedule g) (rw (le-ltb group_count g high)) ∙ two

-- these are the steps of O, and of I after it
pub step-taken : (b : Build) (n : Node) → step b n preempt ≡ taken b n
unfolding refusal
step-taken b n = step-accepted b n preempt tt refl

taken-nobody : (b : Build) (n : Node) → (taken b n).node.running ≡ 0
unfolding act valued preempted with_timer with_running
taken-nobody b n = finish-running b (act b n preempt)

given-accepted : (b : Build) (n : Node) (g : ℕ) → g ≢ 0 → g ≤ group_count → refusal b (taken b n).node (dispatch g) ≡ 0
unfolding refusal refuse_dispatch
given-accepted b n g some high = rw (ne_eqb g 0 some, le-ltb group_count g high, taken-nobody b n)

pub step_given : (b : Build) (n : Node) (g : ℕ) → g ≢ 0 → g ≤ group_count → step b (taken b n).node (dispatch g) ≡ given b n g
step_given b n g some high = step-accepted b (taken b n).node (dispatch g) tt (given-accepted b n g some high)

-- O leaves a node
pub taken-valid : {b : Build} {n : Node} → Valid b n → Valid b (taken b n).node
unfolding refusal
taken-valid {b} {n} v = finish-valid (act b n preempt) (act-ready v preempt refl)

-- and the queue empty, as does I after it
pub taken-empty : {b : Build} {n : Node} → Valid b n → (taken b n).node.queue ≡ []
taken-empty {b} {n} v = nobody-empty (taken-valid v) (taken-nobody b n)

pub given-empty : {b : Build} {n : Node} → Valid b n → (g : ℕ) → (given b n g).node.queue ≡ []
unfolding act valued with_running
given-empty {b} {n} v g =
    let k = (act b (taken b n).node (dispatch g)).node in
    finish-queue b (act b (taken b n).node (dispatch g)) ∙ no_length (settle b k).node.queue (omega (arith, settle-moved b k, ap length (taken-empty v)))

-- What holds of every step on a node: of a refused one, of an accepted one of one act, and of S, for which it is to follow from the two acts.
pub record Law (b : Build) (P : Node → Operation → Stepped → Type 0) : Type 0 where
  pub refuses : (n : Node) → Valid b n → (op : Operation) (r : ℕ) → refusal b n op ≡ suc r → P n op (record { report = refused (suc r); node = n })
  pub acts : (n : Node) → Valid b n → (op : Operation) → OneAct op → refusal b n op ≡ 0 → P n op (finish b (act b n op))
  pub still : (n : Node) → Valid b n → P n (schedule n.running) (record { report = all_zero; node = n })
  pub takes : (n : Node) → Valid b n → n.running ≢ 0 → P n preempt (taken b n) → P n (schedule 0) (taken b n)
  pub switches : (n : Node) → Valid b n → (g : ℕ) → g ≢ n.running → g ≢ 0 → g ≤ group_count
      → P n preempt (taken b n) → P (taken b n).node (dispatch g) (given b n g) → P n (schedule g) (in_arow (taken b n) (given b n g))

module _ {b : Build} (P : Node → Operation → Stepped → Type 0) (l : Law b P) {n : Node} (v : Valid b n) where
  -- of one act
  act-law : (op : Operation) → OneAct op → refusal b n op ≡ 0 → P n op (step b n op)
  act-law op one e = subst (P n op) (sym (step-accepted b n op one e)) (l.acts n v op one e)

  -- of S
  schedule-law : (g : ℕ) → g ≤ group_count → P n (schedule g) (step b n (schedule g))
  unfolding refusal
  schedule-law g high = go (ℕ_discrete g n.running) (ℕ_discrete g 0)
    where
      took : P n preempt (taken b n)
      took = l.acts n v preempt tt refl

      gave : g ≢ 0 → P (taken b n).node (dispatch g) (given b n g)
      gave some =
          l.acts (taken b n).node (taken-valid v) (dispatch g) tt (given-accepted b n g some high)

      go : Dec (g ≡ n.running) → Dec (g ≡ 0) → P n (schedule g) (step b n (schedule g))
      go (yes same) none = rw (same, schedule-still v) (l.still n v)
      go (no other) (yes none) =
          let runs : n.running ≢ 0 = λ e. other (none ∙ sym e) in
          rw (none, schedule-takes b n runs) (l.takes n v runs took)
      go (no other) (no some) = rw (schedule-switches b n g other some high) (l.switches n v g other some high took (gave some))

  -- of an accepted step
  accepted-law : (op : Operation) → refusal b n op ≡ 0 → P n op (step b n op)
  unfolding refusal refuse_schedule
  accepted-law (arrive g ws) e = act-law (arrive g ws) tt e
  accepted-law preempt e = act-law preempt tt e
  accepted-law (dispatch g) e = act-law (dispatch g) tt e
  accepted-law (schedule g) e = schedule-law g (ltb-false group_count g (failed (ltb group_count g) _ _ e).0)
  accepted-law (tick k) e = act-law (tick k) tt e
  accepted-law turn e = act-law turn tt e
  accepted-law (user r) e = act-law (user r) tt e
  accepted-law unknown e = act-law unknown tt e

  -- of every step
  pub step-law : (op : Operation) → P n op (step b n op)
  step-law op =
      step-cases b n op (P n op) (λ e. subst (P n op) (step-performed b n op e) (accepted-law op e)) (l.refuses n v op)

-- a node stays a node
pub step-valid : {b : Build} {n : Node} → Valid b n → (op : Operation) → Valid b (step b n op).node
unfolding in_arow
step-valid {b} v op =
    step-law (λ n op s. Valid b s.node)
    (record {
      refuses = λ n v op r e. v;
      acts = λ n v op one e. finish-valid (act b n op) (act-ready v op e);
      still = λ n v. v;
      takes = λ n v runs took. took;
      switches = λ n v g other some high took gave. gave;
    })
    v op

-- an empty group is good
empty-good : (b : Build) → 1 ≤ b.per_frame → GoodGroup b empty_group
unfolding waiting unused
empty-good b some =
    record {
      buffer = record {
        used-bound = some;
        used-empty = λ e. refl;
        list_length = ceil-none b.per_frame some;
        whole = sym (zero-mul b.per_frame);
        places = tt;
        waiting-good = tt;
        unused-wiped = tt;
      };
      descriptor = omega arith;
      pending-atomic = λ e. absurd (false≢true e);
      force-atomic = λ e. absurd (false≢true e);
      revoked-atomic = λ e. absurd (false≢true e);
    }

-- groups that are all empty hold no frames
empty-frames : (k : ℕ) → concat_map frame_list (replicate k empty_group) ≡ []
unfolding frame_list
empty-frames zero = refl
empty-frames (suc k) = empty-frames k

-- and each of them is empty
empty-group : (k i : ℕ) → get_or (replicate k empty_group) i empty_group ≡ empty_group
empty-group zero i = refl
empty-group (suc k) zero = refl
empty-group (suc k) (suc i) = empty-group k i

-- so the frames are numbered upward
power-on-frames : (b : Build) → frame_numbers (power_on b) ≡ up_from 0 (page_count b)
unfolding frame_numbers idle power_on empty_paging
power-on-frames b =
    rw (empty-frames group_count, append-nil)
    (sym (up_from-append 0 b.frames b.swap ∙ ap (λ (a : ℕ). up_from 0 b.frames ++ up_from a b.swap) (zero-add b.frames)))

-- and none is in use
power-on-order : (b : Build) → frame_order (power_on b) ≡ up_from 0 b.frames
unfolding frame_order power_on empty_paging
power-on-order b = rw append-nil

-- the swap line has swap pages
power-on-swap : (b : Build) → Every (IsSwap b) (up_from b.frames b.swap)
power-on-swap b = every-up_from (IsSwap b) b.frames b.swap (λ i low high. low)

-- every group is the empty one
pub power-on-group : (b : Build) (g : ℕ) → group_of (power_on b) g ≡ empty_group
unfolding group_of power_on
power-on-group b g = empty-group group_count (pred g)

-- and pledges nothing
power-on-pledge : (b : Build) → 1 ≤ b.per_frame → (g : ℕ) → pledge b (power_on b) g ≡ 0
unfolding pledge in_queue power_on
power-on-pledge b some g = rw (power-on-group b g) (sym (ceil-none b.per_frame some))

-- power-on makes a node
pub power-on-valid : (b : Build) → Sensible b → Valid b (power_on b)
unfolding power_on empty_paging pledges
power-on-valid b s =
    let none = sum-le (pledge b (power_on b)) (λ g. 0) 1 group_count (λ g low high. omega (arith, power-on-pledge b s.per_frame g)) in
    record {
      sensible = s;
      running-bound = omega arith;
      timer-bound = s.timeout;
      queue-length = omega arith;
      queue-good = tt;
      group-count = length-replicate group_count empty_group;
      groups-good = every-replicate (GoodGroup b) group_count empty_group (empty-good b s.per_frame);
      frames-once = λ f below. ap (count_of f) (power-on-frames b) ∙ count-within f 0 (page_count b) (omega arith) (omega arith);
      frames-all = ap length (power-on-frames b) ∙ length-up_from 0 (page_count b);
      swap-numbers = power-on-swap b;
      entered-once = λ f below. ap (count_of f) (power-on-order b) ∙ count-within f 0 b.frames (omega arith) (omega arith);
      entered_all = ap length (power-on-order b) ∙ length-up_from 0 b.frames;
      pledged = omega arith;
      pending-line = λ g low high e. absurd (false≢true (sym (ap (λ (G : Group). G.pending) (power-on-group b g)) ∙ e));
      running-atomic = λ low. absurd (not-suc-le-zero low);
      head-stays = λ m q e. cc;
      timer-idle = λ none unforced. refl;
      runner-resident = λ low. absurd (not-suc-le-zero low);
    }
