-- The trail of A: behind others a message waits; alone it stays where its group runs and is direct, and else moves at once, for a reason that the node after
-- it tells. Assumes nothing.
use Prim.Native.Nat.{ℕ, ◌+◌}
use native.Mathlib.Omega.{arith}
use mathlib.Core.Path.{◌≡◌, refl, sym, ap, ◌∙◌, subst, subst₂}
use mathlib.Core.Logic.{◌≢◌}
use mathlib.Core.Bool.{Bool, true, false, false≢true, cond, not, ◌&&◌, ◌||◌}
use mathlib.Core.List.{List, [], ◌∷◌, ◌++◌, append-nil}
use lib.Dec.{eqb, ltb}
use lib.ListN.{drop}
use borrow.Author.Tests.{le-ltb, lt-ltb, ltb-false, ltb-true, not-false}
use Rattle.rules.specs.Lists.{is_empty}
use Rattle.rules.specs.Build.{Build}
use Rattle.rules.specs.Node.{Message, Node, group_of, with_flags, with_timer, with_queue, buffer_holds, buffered}
use Rattle.rules.specs.Operation.{arrive}
use Rattle.rules.specs.Paging.{runner_resident, store}
use Rattle.rules.specs.Refusal.{queued, refusal}
use Rattle.rules.specs.Run.{disposed_by}
use Rattle.rules.specs.Settling.{Moved, may_stay, one_more, pass, settle}
use Rattle.rules.specs.Sound.{Sound}
use Rattle.rules.specs.Step.{Effect, act, finish, valued}
use Rattle.rules.specs.Valid.{Valid}
use Rattle.rules.proofs.Steps.LineLaws.{stays}
use Rattle.rules.proofs.Steps.NodeLaws.{kept}
use Rattle.rules.proofs.Steps.PagingLaws.{runner-repaged}
use Rattle.rules.proofs.Steps.QuietLaws.{staying-settle}
use Rattle.rules.proofs.Steps.SettlingLaws.{rest-cases, settle-queue, upcall-cases}
use Rattle.rules.proofs.Steps.TickLaws.{timeout}
use Rattle.rules.proofs.Steps.StepLaws.{act-sound, finish-queue, finish-running}
use Rattle.rules.proofs.Steps.StoreLaws.{store-own}
use Rattle.reasons.specs.ByPlace.{first_reason, leaving, own_reason}
use Rattle.reasons.specs.Why.{moved_for}
use Rattle.reasons.specs.Moments.{Facts, Moment, headed, joined, moved, next_headed, act_moments, facts, join_moments, one_act_moments, pass_moments}
use Rattle.reasons.proofs.Trail.{Trail, ends, heading, heads, joins, moves, pending}
use Rattle.reasons.proofs.SettleTrail.{moves-on, pass-goes, pass-quiet}
use Rattle.reasons.proofs.ActTrail.{Acted, acted, gone-counts, left-for}

-- what the rest of a step leaves of a buffer's count is what settling leaves
finish-count : (b : Build) (e : Effect) (g : ℕ) → (group_of (finish b e).node g).buffer.count ≡ (group_of (settle b e.node).node g).buffer.count
unfolding finish with_flags
finish-count b e g =
    let r = runner_resident b (settle b e.node).node in
    upcall-cases (λ k. (group_of k g).buffer.count ≡ (group_of r g).buffer.count) r
    (λ due. kept (λ K. K.buffer.count) r r.running (with_flags true true (group_of r r.running)) refl g) (λ quiet. refl)
    ∙ ((runner-repaged b (settle b e.node).node).groups g).count

-- why a message moves at its own line, by whether its group runs, has messages in its buffer and is revoked: where it runs one of these holds
abbrev own_for : Bool → Bool → ℕ
own_for same older = cond same (cond older 4 5) 3

own-for : (f : Facts) (same : Bool) → f.timeout ≡ false → (same ≡ true → f.older || f.revoked ≡ true) → moved_for f same ≡ own_for same f.older
unfolding moved_for
own-for f true out h = rw out (go f.older f.revoked (h refl))
  where
    go : (older revoked : Bool) → older || revoked ≡ true → cond older 4 (cond revoked 5 7) ≡ own_for true older
    go true revoked e = refl
    go false true e = refl
    go false false e = absurd (false≢true e)
own-for f false out h = rw out

own-not-seven : (same older : Bool) → own_for same older ≢ 7
own-not-seven true true e = absurd (omega arith)
own-not-seven true false e = absurd (omega arith)
own-not-seven false older e = absurd (omega arith)

-- a message of a buffer that holds more than it
not-alone : (c : ℕ) → ltb 1 (c + 1) ≡ ltb 0 c
not-alone c = go (ltb 0 c) refl
  where
    go : (t : Bool) → ltb 0 c ≡ t → ltb 1 (c + 1) ≡ ltb 0 c
    go true e = lt-ltb 1 (c + 1) (omega (arith, ltb-true 0 c e)) ∙ sym e
    go false e = le-ltb 1 (c + 1) (omega (arith, ltb-false 0 c e)) ∙ sym e

module _ {b : Build} {n : Node} (v : Valid b n) (g : ℕ) (ws : List ℕ) (accepts : refusal b n (arrive g ws) ≡ 0) where
  abbrev own : Message
  own = record { group = g; words = ws }

  abbrev with-own : Node
  with-own = queued own n

  -- a head that stays: before the message there is one, or it stays itself
  module _ (stay : (x : Message) (q : List Message) → with-own.queue ≡ x ∷ q → may_stay with-own x ≡ true) where
    waits : {ms : List Moment} → join_moments n g ≡ ms → Trail (pending n.queue) ms [] (pending with-own.queue) → Acted b false n (arrive g ws)
    unfolding act valued one_act_moments act_moments leaving disposed_by
    waits {ms} joining trail =
        let settled : (settle b with-own).moved ≡ 0 = ap (λ (s : Moved). s.moved) (staying-settle b with-own stay) in
        acted b n false (arrive g ws)
        (ap (λ (l : List Moment). join_moments n g ++ l) (pass-quiet b false with-own.queue with-own stay) ∙ append-nil (join_moments n g) ∙ joining)
        (left-for b n (arrive g ws) 0 (gone-counts b n (arrive g ws) ∙ omega (arith, settled)))
        (finish-queue b (act b n (arrive g ws)) ∙ settle-queue b with-own ∙ ap (λ (k : ℕ). drop k with-own.queue) settled)
        trail

  -- behind others it waits
  behind-others : (y : Message) (q : List Message) → n.queue ≡ y ∷ q → Acted b false n (arrive g ws)
  unfolding join_moments pending queued with_queue may_stay buffered buffer_holds group_of
  behind-others y q some =
      let whole : n.queue ++ (own ∷ []) ≡ y ∷ (q ++ (own ∷ [])) = ap (λ (l : List Message). l ++ (own ∷ [])) some in
      waits
      (λ x r e. let first : y ≡ x = let both : y ∷ (q ++ (own ∷ [])) ≡ x ∷ r = sym whole ∙ e in cc in subst (λ (z : Message). may_stay n z ≡ true) first (v.head-stays y q some))
      (ap (λ (l : List Message). joined ∷ elim (is_empty l) as (λ t. List Moment) [ true ↦ headed g n.running ∷ [] | false ↦ [] ]) some)
      (subst₂ (λ (l r : List Message). Trail (pending l) (joined ∷ []) [] (pending r)) (sym some) (sym whole) (joins ends))

  module _ (none : n.queue ≡ []) where
    alone : with-own.queue ≡ own ∷ []
    unfolding queued with_queue
    alone = ap (λ (q : List Message). q ++ (own ∷ [])) none

    joining : join_moments n g ≡ joined ∷ headed g n.running ∷ []
    unfolding join_moments
    joining = ap (λ (l : List Message). joined ∷ elim (is_empty l) as (λ t. List Moment) [ true ↦ headed g n.running ∷ [] | false ↦ [] ]) none

    -- as the running group's, which is direct, it stays
    alone-stays : may_stay with-own own ≡ true → Acted b false n (arrive g ws)
    unfolding pending
    alone-stays may =
        let runs : g ≡ n.running = unfold queued with_queue in (stays with-own own may).0 in
        waits
        (λ x r e. let first : own ≡ x = let both : own ∷ [] ≡ x ∷ r = sym alone ∙ e in cc in subst (λ (z : Message). may_stay with-own z ≡ true) first may)
        joining
        (subst₂ (λ (l r : List Message). Trail (pending l) (joined ∷ headed g n.running ∷ []) [] (pending r)) (sym none) (sym alone)
        (joins (heads (subst (λ (r : ℕ). Trail (heading g r ∷ []) [] [] (heading g g ∷ [])) runs ends))))

    -- else it moves at once
    module _ (may : may_stay with-own own ≡ false) where
      abbrev f : Facts
      f = facts false false with-own own

      passed-one : pass b with-own.queue with-own ≡ one_more (pass b [] (store b own with-own))
      passed-one = ap (λ (q : List Message). pass b q with-own) alone ∙ pass-goes b own [] with-own may

      one : (settle b with-own).moved ≡ 1
      unfolding settle one_more pass
      one = ap (λ (s : Moved). s.moved) passed-one

      sound : Sound b (with_queue (own ∷ []) with-own)
      unfolding act valued with_queue
      sound = subst (λ (q : List Message). Sound b (with_queue q with-own)) alone (act-sound v (arrive g ws) accepts)

      -- its buffer has one message more
      counts : (group_of (finish b (act b n (arrive g ws))).node g).buffer.count ≡ (group_of n g).buffer.count + 1
      unfolding act valued settle one_more pass with_queue with_timer group_of queued
      counts =
          finish-count b (act b n (arrive g ws)) g
          ∙ rest-cases (λ r. (group_of r g).buffer.count ≡ (group_of (pass b with-own.queue with-own).node g).buffer.count) (pass b with-own.queue with-own).node (λ e. refl) (λ e. refl)
          ∙ ap (λ (s : Moved). (group_of s.node g).buffer.count) passed-one
          ∙ (store-own own [] with-own sound).count

      -- so the node after it tells why it moved
      reason : moved_for f (eqb g n.running) ≡ own_reason (finish b (act b n (arrive g ws))).node g
      unfolding own_reason facts act valued buffer_holds queued with_queue group_of may_stay buffered
      reason =
          own-for f (eqb g n.running) refl
          (λ same. not-false (buffered n g) (sym (ap (λ (t : Bool). t && not (buffered n g)) same) ∙ may))
          ∙ ap (own_for (eqb g n.running)) (sym (not-alone (group_of n g).buffer.count) ∙ ap (ltb 1) (sym counts))
          ∙ ap (λ (r : ℕ). own_for (eqb g r) (ltb 1 (group_of (finish b (act b n (arrive g ws))).node g).buffer.count)) (sym (finish-running b (act b n (arrive g ws))))

      alone-moves : Acted b false n (arrive g ws)
      unfolding act valued one_act_moments act_moments leaving first_reason disposed_by pending pass_moments next_headed own_reason queued with_queue
      alone-moves =
          let s = finish b (act b n (arrive g ws)) in
          let passing : pass_moments b false with-own.queue with-own ≡ moved f ∷ [] =
          ap (λ (q : List Message). pass_moments b false q with-own) alone ∙ moves-on b false own [] with-own n.running may refl in
          let rest : (settle b with-own).node.queue ≡ [] = settle-queue b with-own ∙ ap (λ (k : ℕ). drop k with-own.queue) one ∙ ap (drop 1) alone in
          acted b n false (arrive g ws)
          (ap (λ (l : List Moment). join_moments n g ++ l) passing ∙ ap (λ (l : List Moment). l ++ (moved f ∷ [])) joining)
          (left-for b n (arrive g ws) 1 (gone-counts b n (arrive g ws) ∙ omega (arith, one)))
          (finish-queue b (act b n (arrive g ws)) ∙ rest)
          (subst (λ (l : List Message). Trail (pending l) (joined ∷ headed g n.running ∷ moved f ∷ []) (own_reason s.node g ∷ []) []) (sym none)
          (joins (heads (moves f (own_reason s.node g) reason (λ seven. absurd (own-not-seven (eqb g s.node.running) (ltb 1 (group_of s.node g).buffer.count) seven)) ends))))

  pub arrive-trail : Acted b false n (arrive g ws)
  arrive-trail = go n.queue refl
    where
      alone-trail : n.queue ≡ [] → (t : Bool) → may_stay with-own own ≡ t → Acted b false n (arrive g ws)
      alone-trail none true may = alone-stays none may
      alone-trail none false may = alone-moves none may

      go : (q : List Message) → n.queue ≡ q → Acted b false n (arrive g ws)
      go [] none = alone-trail none (may_stay with-own own) refl
      go (y ∷ q) some = behind-others y q some
