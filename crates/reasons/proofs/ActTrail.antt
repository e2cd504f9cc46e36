-- The trail of an act and its settling on a node, but for D and A: nothing leaves the queue but by a timeout and by O. Where the queue isn't empty its head
-- is the running group's and that group is direct, so no other act takes it away. Assumes nothing.
use Prim.Native.Nat.{ℕ, zero, suc, ◌+◌}
use native.Mathlib.Omega.{arith}
use mathlib.Core.Path.{◌≡◌, refl, sym, ap, ◌∙◌, subst, subst₂}
use mathlib.Core.Bool.{Bool, true, false, not}
use mathlib.Core.List.{List, [], ◌∷◌, ◌++◌, append-nil}
use lib.Dec.{eqb}
use lib.ListN.{length, replicate, drop}
use borrow.Author.Tests.{ne_eqb}
use Rattle.rules.specs.Lists.{Every}
use Rattle.rules.specs.Build.{Build}
use Rattle.rules.specs.Node.{Message, Node, group_of, with_timer, with_group, with_running, buffer_holds, buffered}
use Rattle.rules.specs.Operation.{Request, poll, peek, dispose, begin_atomic, end_atomic, describe, launch}
use Rattle.rules.specs.Operation.{Operation, preempt, dispatch, tick, turn, user, no_trap}
use Rattle.rules.specs.Refusal.{refusal}
use Rattle.rules.specs.Run.{disposed_by, left_by, was_accepted}
use Rattle.rules.specs.Settling.{Moved, may_stay, settle}
use Rattle.rules.specs.Step.{Effect, act, described, extending, finish, flagged, launched, preempted, revoke, section_begun, section_ended, serve, ticks, timed_out, timer_flagged, valued}
use Rattle.rules.specs.Valid.{GoodMessage, Valid}
use Rattle.rules.proofs.Private.EventLaws.{event_of}
use Rattle.rules.proofs.Steps.ActLaws.{dispatched, user-accepted}
use Rattle.rules.proofs.Steps.LineLaws.{nobody-empty, stays}
use Rattle.rules.proofs.Steps.NodeLaws.{kept}
use Rattle.rules.proofs.Steps.QuietLaws.{begun-quiet, described-quiet, staying-settle}
use Rattle.rules.proofs.Touches.SectionRows.{ended-stays}
use Rattle.rules.proofs.Steps.SettlingLaws.{drain-queue, settle-moved, settle-queue}
use Rattle.rules.proofs.Steps.SwitchLaws.{nobody-emptied}
use Rattle.rules.proofs.Steps.TickLaws.{Ticked, counting, idle, ticked-by, timed, timeout}
use Rattle.rules.proofs.Steps.StepLaws.{finish-queue}
use Rattle.reasons.specs.ByPlace.{event_reasons, first_reason, later_reason, leaving}
use Rattle.reasons.specs.Moments.{Moment, moved, act_moments, one_act_moments, pass_moments, ticks_moments}
use Rattle.reasons.proofs.Trail.{Trail, ends, pending}
use Rattle.reasons.proofs.SettleTrail.{pass-quiet, pass-taken, ticks-drain}

-- the trail of an act and its settling
abbrev pub Acted : Build → Bool → Node → Operation → Type 0
Acted b t n op =
    let s = finish b (act b n op) in
    Trail (pending n.queue) (one_act_moments b t n op) (event_reasons (event_of n op s) s.node) (pending s.node.queue)

-- as many as the act moves and disposes of, and settling moves
pub gone-counts : (b : Build) (n : Node) (op : Operation)
    → left_by (event_of n op (finish b (act b n op)))
    ≡ (act b n op).moved + (settle b (act b n op).node).moved + disposed_by op (eqb (act b n op).trap no_trap)
unfolding left_by was_accepted finish
gone-counts b n op = refl

-- put together: the moments, the reasons and the queue after it
pub acted : (b : Build) (n : Node) (t : Bool) (op : Operation) {ms : List Moment} {rs : List ℕ} {q : List Message}
    → one_act_moments b t n op ≡ ms
    → event_reasons (event_of n op (finish b (act b n op))) (finish b (act b n op)).node ≡ rs
    → (finish b (act b n op)).node.queue ≡ q
    → Trail (pending n.queue) ms rs (pending q)
    → Acted b t n op
acted b n t op {ms} moments reasons queue trail =
    let s = finish b (act b n op) in
    subst (λ (ms : List Moment). Trail (pending n.queue) ms (event_reasons (event_of n op s) s.node) (pending s.node.queue)) (sym moments)
    (subst₂ (λ (rs : List ℕ) (q : List Message). Trail (pending n.queue) ms rs (pending q)) (sym reasons) (sym queue) trail)

-- as many leave
pub left-for : (b : Build) (n : Node) (op : Operation) (k : ℕ) → left_by (event_of n op (finish b (act b n op))) ≡ k
    → event_reasons (event_of n op (finish b (act b n op))) (finish b (act b n op)).node
    ≡ leaving k (first_reason op (finish b (act b n op)).node) (later_reason op)
unfolding event_reasons
left-for b n op k count = ap (λ (j : ℕ). leaving j (first_reason op (finish b (act b n op)).node) (later_reason op)) count

-- an act that leaves the queue and its head
pub still : (b : Build) (n : Node) (t : Bool) (op : Operation) → act_moments b n op ≡ [] → (act b n op).node.queue ≡ n.queue
    → ((m : Message) (q : List Message) → (act b n op).node.queue ≡ m ∷ q → may_stay (act b n op).node m ≡ true)
    → (act b n op).moved ≡ 0 → disposed_by op (eqb (act b n op).trap no_trap) ≡ 0 → Acted b t n op
unfolding one_act_moments leaving
still b n t op quiet same stays none kept =
    let e = act b n op in
    let settled : (settle b e.node).moved ≡ 0 = ap (λ (s : Moved). s.moved) (staying-settle b e.node stays) in
    let count : left_by (event_of n op (finish b e)) ≡ 0 = gone-counts b n op ∙ omega (arith, settled, none, kept) in
    acted b n t op
    (ap (λ (ms : List Moment). ms ++ pass_moments b t e.node.queue e.node) quiet ∙ pass-quiet b t e.node.queue e.node stays)
    (left-for b n op 0 count)
    (finish-queue b e ∙ settle-queue b e.node ∙ ap (λ (k : ℕ). drop k e.node.queue) settled ∙ same)
    ends

-- a head of an empty queue
pub no-head : {A : Type 0} {l : List Message} {m : Message} {q : List Message} → l ≡ [] → l ≡ m ∷ q → A
no-head none some = absurd (omega (arith, ap length none, ap length some))

-- a request but D
abbrev pub Other : Request → Type 0
Other poll = Unit {0}
Other (peek i) = Unit {0}
Other dispose = ⊥
Other (begin_atomic force) = Unit {0}
Other end_atomic = Unit {0}
Other (describe w) = Unit {0}
Other (launch k) = Unit {0}

module _ {b : Build} {n : Node} (v : Valid b n) where
  -- I finds the queue empty
  pub dispatch-trail : (g : ℕ) → refusal b n (dispatch g) ≡ 0 → Acted b false n (dispatch g)
  unfolding act valued with_running act_moments disposed_by refusal
  dispatch-trail g e =
      still b n false (dispatch g) refl refl (λ m q some. no-head (nobody-empty v (dispatched n g e).nobody) some) refl refl

  -- C changes nothing
  pub turn-trail : Acted b false n turn
  unfolding act valued act_moments disposed_by
  turn-trail = still b n false turn refl refl v.head-stays refl refl

  -- M, E, B, P and L leave it as it is, and so does N
  pub request-trail : (r : Request) → Other r → refusal b n (user r) ≡ 0 → Acted b false n (user r)
  unfolding act serve valued launched described section_begun section_ended flagged timer_flagged extending with_group act_moments disposed_by refusal
  request-trail poll other e = still b n false (user poll) refl refl v.head-stays refl refl
  request-trail (peek i) other e = still b n false (user (peek i)) refl refl v.head-stays refl refl
  request-trail dispose other e = absurd other
  request-trail (begin_atomic force) other e = still b n false (user (begin_atomic force)) refl refl (begun-quiet v force).head refl refl
  request-trail end_atomic other e = still b n false (user end_atomic) refl refl (ended-stays v (user-accepted n end_atomic e).0) refl refl
  request-trail (describe w) other e =
      still b n false (user (describe w)) refl refl (described-quiet v ((group_of n n.running).descriptor ++ (w ∷ []))).head refl refl
  request-trail (launch k) other e = still b n false (user (launch k)) refl refl (described-quiet v []).head refl refl

-- all for one reason
leaving-same : (k r : ℕ) → leaving k r r ≡ replicate k r
unfolding leaving
leaving-same zero r = refl
leaving-same (suc k) r = refl

module _ {b : Build} {n : Node} (v : Valid b n) where
  -- T: behind its timeout the queue is empty, and without one the head stays
  ticked-stays : (k : ℕ) (m : Message) (q : List Message) → (ticks b k (valued 0 n)).node.queue ≡ m ∷ q → may_stay (ticks b k (valued 0 n)).node m ≡ true
  unfolding valued timed timed_out revoke timer_flagged with_timer with_group may_stay buffered buffer_holds group_of
  ticked-stays k m q some = go (ticked-by v k)
    where
      go : Ticked b k n → may_stay (ticks b k (valued 0 n)).node m ≡ true
      go (idle rests e) = subst (λ (x : Effect). x.node.queue ≡ m ∷ q → may_stay x.node m ≡ true) (sym e) (v.head-stays m q) some
      go (counting runs below e) = subst (λ (x : Effect). x.node.queue ≡ m ∷ q → may_stay x.node m ≡ true) (sym e) (v.head-stays m q) some
      go (timeout runs e) =
          no-head (drain-queue b n.queue n) (sym (ap (λ (x : Effect). x.node.queue) e) ∙ some)

  pub tick-trail : (k : ℕ) → Acted b false n (tick k)
  unfolding act act_moments one_act_moments disposed_by first_reason later_reason valued
  tick-trail k =
      let e = ticks b k (valued 0 n) in
      let d = ticks-drain b k (valued 0 n) in
      let settled : (settle b e.node).moved ≡ 0 = ap (λ (s : Moved). s.moved) (staying-settle b e.node (ticked-stays k)) in
      let count : left_by (event_of n (tick k) (finish b e)) ≡ d.gone = gone-counts b n (tick k) ∙ omega (arith, settled, d.counts) in
      acted b n false (tick k)
      (ap (λ (ms : List Moment). ticks_moments b k (valued 0 n) ++ ms) (pass-quiet b false e.node.queue e.node (ticked-stays k))
      ∙ append-nil (ticks_moments b k (valued 0 n)))
      (left-for b n (tick k) d.gone count ∙ leaving-same d.gone 6)
      (finish-queue b e ∙ settle-queue b e.node ∙ ap (λ (j : ℕ). drop j e.node.queue) settled)
      d.trail

  -- O takes all
  pub preempt-trail : Acted b (not (eqb n.running 0)) n preempt
  unfolding act valued preempted with_timer with_running one_act_moments act_moments disposed_by leaving pending first_reason later_reason buffered buffer_holds group_of
  preempt-trail = go n.queue refl
    where
      k : Node
      k = preempted n

      go : (q : List Message) → n.queue ≡ q → Acted b (not (eqb n.running 0)) n preempt
      go [] none = still b n (not (eqb n.running 0)) preempt refl refl (λ m q some. no-head none some) refl refl
      go (m ∷ q) some =
          let good : Every GoodMessage (m ∷ q) = subst (Every GoodMessage) some v.queue-good in
          let head = stays n m (v.head-stays m q some) in
          let ran : not (eqb n.running 0) ≡ true = ap not (ne_eqb n.running 0 (λ e. omega (arith, good.0.group-low, head.0))) in
          let emptied : (settle b k).node.queue ≡ [] = nobody-emptied b k refl v.queue-good in
          let all : (settle b k).moved ≡ suc (length q) = omega (arith, settle-moved b k, ap length emptied, ap length some) in
          let direct : buffered k m.group ≡ false = ap (buffered n) head.0 ∙ head.1 in
          acted b n (not (eqb n.running 0)) preempt {ms = pass_moments b true (m ∷ q) k}
          (ap (λ (t : Bool). pass_moments b t n.queue k) ran ∙ ap (λ (l : List Message). pass_moments b true l k) some)
          (left-for b n preempt (suc (length q)) (gone-counts b n preempt ∙ omega (arith, all)))
          (finish-queue b (act b n preempt) ∙ emptied)
          (subst (λ (l : List Message). Trail (pending l) (pass_moments b true (m ∷ q) k) (7 ∷ replicate (length q) 3) []) (sym some) (pass-taken b m q k good refl direct))
