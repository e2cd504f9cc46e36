-- The trail of D: of a buffered message it finds the queue empty; of a queued one it disposes of the head, and moves those of other groups behind it, which
-- became head while its group ran. Assumes nothing.
use Prim.Native.Nat.{ℕ, suc, ◌+◌, ◌≤◌}
use native.Mathlib.Omega.{arith}
use mathlib.Core.Path.{◌≡◌, refl, sym, ap, ◌∙◌, subst}
use mathlib.Core.Logic.{◌≢◌}
use mathlib.Core.Bool.{Bool, true, false, true≢false, cond}
use mathlib.Core.List.{List, [], ◌∷◌, ◌++◌}
use lib.Dec.{eqb}
use lib.ListN.{replicate, drop}
use Rattle.rules.specs.Lists.{is_empty}
use Rattle.rules.specs.Build.{Build}
use Rattle.rules.specs.Node.{Message, Node, group_of, with_flags, with_timer, with_queue, with_group, buffer_holds, buffered, line}
use Rattle.rules.specs.Operation.{dispose}
use Rattle.rules.specs.Operation.{user, no_trap, dispose_extend}
use Rattle.rules.specs.Refusal.{refusal, refuse_request}
use Rattle.rules.specs.Run.{disposed_by}
use Rattle.rules.specs.Settling.{pass, settle}
use Rattle.rules.specs.Step.{act, disposed, extending, flagged, removed, serve, without_first}
use Rattle.rules.specs.Valid.{Valid}
use Rattle.rules.proofs.Private.RequestLaws.{dispose-some}
use Rattle.rules.proofs.Steps.ActLaws.{user-accepted}
use Rattle.rules.proofs.Steps.LineLaws.{buffered-empty, buffered-holds, direct-head, direct-none, neither, removed-cases, removed-flags, removed-queue-buffered, removed-queue-direct, removed-running, without-running}
use Rattle.rules.proofs.Steps.NodeLaws.{kept}
use Rattle.rules.proofs.Steps.SettlingLaws.{pass-queue, settle-queue}
use Rattle.rules.proofs.Steps.StepLaws.{act-sound, finish-queue}
use Rattle.reasons.specs.ByPlace.{first_reason, later_reason, leaving}
use Rattle.reasons.specs.Why.{Heading}
use Rattle.reasons.specs.Moments.{Moment, moved, disposed as disposing, next_headed, act_moments, dispose_moments, one_act_moments, pass_moments}
use Rattle.reasons.proofs.Trail.{Trail, disposes, headed_by, pending, trail-next}
use Rattle.reasons.proofs.SettleTrail.{pass-direct}
use Rattle.reasons.proofs.ActTrail.{Acted, acted, gone-counts, left-for, no-head, still}

module _ {b : Build} {n : Node} (v : Valid b n) (accepts : refusal b n (user dispose) ≡ 0) where
  low : 1 ≤ n.running
  unfolding refusal
  low = (user-accepted n dispose accepts).0

  some : is_empty (line n n.running) ≡ false
  unfolding refusal refuse_request
  some = dispose-some (line n n.running) (user-accepted n dispose accepts).1

  -- D of a buffered message finds the queue empty
  buffered-trail : buffer_holds n n.running ≡ true → Acted b false n (user dispose)
  unfolding act serve extending act_moments dispose_moments disposed_by disposed flagged with_timer with_group
  buffered-trail holds =
      let held : buffered n n.running ≡ true = buffered-holds v some ∙ holds in
      let kept : (disposed b n).queue ≡ n.queue = removed-queue-buffered b n holds in
      still b n false (user dispose) (rw holds) kept (λ m q e. no-head (kept ∙ buffered-empty v held) e) refl (rw held)

  -- D of a queued one disposes of the head, and moves those of other groups behind it
  module _ (none : buffer_holds n n.running ≡ false) where
    abbrev k : Node
    k = disposed b n

    direct : buffered n n.running ≡ false
    direct = buffered-holds v some ∙ none

    behind : k.queue ≡ drop 1 n.queue
    unfolding disposed flagged with_timer with_group
    behind = removed-queue-direct v none

    -- the group stays direct
    still-empty : (group_of k n.running).buffer.count ≡ 0
    unfolding disposed flagged with_flags with_timer group_of with_queue
    still-empty =
        kept (λ K. K.buffer.count) (removed b n) (removed b n).running
        (with_flags (group_of n n.running).atomic false (group_of (removed b n) (removed b n).running)) refl n.running
        ∙ removed-cases (λ r. (group_of r n.running).buffer.count ≡ 0) b n (λ holds. absurd (true≢false (sym holds ∙ none))) (λ e. direct-none n n.running direct)

    still-held : (group_of k n.running).revoked ≡ false
    unfolding disposed flagged with_flags with_timer group_of buffered
    still-held =
        kept (λ K. K.revoked) (removed b n) (removed b n).running
        (with_flags (group_of n n.running).atomic false (group_of (removed b n) (removed b n).running)) refl n.running
        ∙ (removed-flags b n n.running).revoked
        ∙ (neither (buffer_holds n n.running) (group_of n n.running).revoked direct).1

    passed : Trail (headed_by n.running k.queue) (pass_moments b false k.queue k) (replicate (pass b k.queue k).moved 3) (pending (pass b k.queue k).node.queue)
    unfolding with_queue act serve extending disposed flagged with_timer with_group
    passed =
        pass-direct n.running low k.queue k (act-sound v (user dispose) accepts) (removed-running b n) still-empty still-held

    moments : one_act_moments b false n (user dispose) ≡ disposing ∷ next_headed n.running k.queue ++ pass_moments b false k.queue k
    unfolding one_act_moments act_moments dispose_moments act serve extending
    moments =
        let first : dispose_moments n ≡ disposing ∷ next_headed n.running k.queue =
        ap (λ (t : Bool). cond t [] (disposing ∷ next_headed n.running (without_first n.running n.queue))) none
        ∙ ap {B = List Moment} (λ q. disposing ∷ next_headed n.running q) (without-running v ∙ sym behind) in
        ap (λ (ms : List Moment). ms ++ pass_moments b false k.queue k) first

    direct-trail : Acted b false n (user dispose)
    unfolding act serve extending settle leaving first_reason later_reason disposed_by pending
    direct-trail =
        let head = direct-head v none some in
        let trap : disposed_by (user dispose) (eqb (cond (buffered n n.running) dispose_extend no_trap) no_trap) ≡ 1 =
        ap (λ (t : Bool). disposed_by (user dispose) (eqb (cond t dispose_extend no_trap) no_trap)) direct in
        let rs : List ℕ = 1 ∷ replicate (pass b k.queue k).moved 3 in
        let ms : List Moment = disposing ∷ next_headed n.running k.queue ++ pass_moments b false k.queue k in
        let p : List Heading = pending (pass b k.queue k).node.queue in
        acted b n false (user dispose) moments
        (left-for b n (user dispose) (suc (pass b k.queue k).moved) (gone-counts b n (user dispose) ∙ omega (arith, trap)))
        (finish-queue b (act b n (user dispose)) ∙ settle-queue b k ∙ sym (pass-queue b k.queue k))
        (subst (λ (q : List Message). Trail (pending q) ms rs p) (sym head.2) (disposes (trail-next n.running k.queue passed)))

  pub dispose-trail : Acted b false n (user dispose)
  dispose-trail = go (buffer_holds n n.running) refl
    where
      go : (t : Bool) → buffer_holds n n.running ≡ t → Acted b false n (user dispose)
      go true holds = buffered-trail holds
      go false none = direct-trail none
