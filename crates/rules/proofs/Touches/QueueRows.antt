-- The rows of A and T, by which messages join the hardware queue and leave it. An arrival finds an empty queue where it moves, for the head of
-- another would stay and it behind it. After a timeout nothing is left to move. Flags are told by what the private line keeps. Assumes nothing.
use Prim.Native.Nat.{ℕ, zero, suc, ◌+◌, ◌≤◌}
use mathlib.Core.Bool.{Bool, true, false, true≢false, false≢true, cond, not, ◌&&◌, and-eq-true_iff}
use mathlib.Core.List.{List, [], ◌∷◌, ◌++◌}
use mathlib.Core.Path.{◌≡◌, refl, sym, ap, ◌∙◌, subst}
use native.Mathlib.Omega.{arith}
use lib.Dec.{eqb}
use lib.ListN.{length, take}
use borrow.Author.Tests.{not-false, eqb-true, ne_eqb, eq-eqb}
use Rattle.rules.specs.Lists.{Every, is_empty}
use Rattle.rules.specs.Build.{Build, group_count}
use Rattle.rules.specs.Node.{Message, Group, Node, group_of, with_timer, with_queue, with_group, with_timer_flags, buffer_holds, buffered, forced, timer_runs, is_of, line}
use Rattle.rules.specs.Paging.{runner_resident}
use Rattle.rules.specs.Operation.{Operation, arrive, tick}
use Rattle.rules.specs.Refusal.{refusal, queued}
use Rattle.rules.specs.Settling.{Moved, may_stay, pass, settle, drain, upcall}
use Rattle.rules.specs.Step.{Effect, valued, timer_flagged, revoke, timed_out, ticks, act, finish}
use Rattle.rules.specs.Valid.{GoodMessage, Valid}
use Rattle.rules.specs.Sound.{Sound}
use Rattle.rules.specs.Private.{PrivateLine, message, nothing, is_called, afterwards, joined, told, hear, unheard}
use Rattle.rules.specs.Touches.{running, timer, queue, atomic, pending, force, revoked, used, count, places, pages, descriptor, row, stores, when, runs, is_moved, filling, row_of}
use Rattle.rules.proofs.Steps.EveryLaws.{every-mono}
use Rattle.rules.proofs.Steps.SoundLaws.{valid-sound}
use Rattle.rules.proofs.Steps.ListLaws.{filter-fail, some-last, no_length}
use Rattle.rules.proofs.Steps.NodeLaws.{group-same}
use Rattle.rules.proofs.Steps.PagingLaws.{runner-quiet}
use Rattle.rules.proofs.Steps.SettlingLaws.{runs-queued, runs-empty, forced-same, settle-running, settle-flags, settle-keeps, settle-timer, settle-moved, pass-moves, drain-sound, drain-running, drain-queue}
use Rattle.rules.proofs.Steps.LineLaws.{timer-timed, timer-rests, buffered-atomic}
use Rattle.rules.proofs.Steps.TickLaws.{timed, left_over, Ticked, idle, counting, timeout, ticked-by}
use Rattle.rules.proofs.Steps.StepLaws.{act-sound, finish-queue, finish-timer, OneAct}
use Rattle.rules.proofs.Steps.QuietLaws.{staying-settle, rest-left, valid-quiet, counted-quiet}
use Rattle.rules.proofs.Private.ViewLaws.{view, called-quiet}
use Rattle.rules.proofs.Private.HeardLaws.{accepted-view}
use Rattle.rules.proofs.Touches.PartLaws.{group_number, among, Kept, filled-inside, filling-inside, flags-kept, front_kept, inside-left, inside-right, touched-inside, touched-same, touched-then, when-inside}
use Rattle.rules.proofs.Touches.TouchLaws.{Differs, Grouped, Rows, drain-touched, finished-touched, group-touched, grouped, moved_none, queue-touched, timer-touched, upcall-touched}
use Rattle.rules.proofs.Touches.SectionRows.{quiet-left}

-- What a group's private line keeps of its flags.

module _ {b : Build} {n : Node} (v : Valid b n) (op : Operation) (one : OneAct op) (taken : refusal b n op ≡ 0) (g : ℕ) (low : 1 ≤ g) (high : g ≤ group_count) where
  abbrev after : Group
  after = group_of (finish b (act b n op)).node g

  heard-atomic : after.atomic ≡ (hear g (view g n) (told g op true)).line.atomic
  unfolding view
  heard-atomic = ap (λ (p : PrivateLine). p.atomic) (accepted-view v op one taken g low high)

  heard-pending : after.pending ≡ (hear g (view g n) (told g op true)).line.pending
  unfolding view
  heard-pending = ap (λ (p : PrivateLine). p.pending) (accepted-view v op one taken g low high)

-- T.

module _ {b : Build} {n : Node} (v : Valid b n) (k : ℕ) where
  -- a timeout
  abbrev pub late : Effect
  late = timed (left_over b k n) (timed_out b (valued 0 n))

  abbrev drained : Node
  drained = drain b n.queue n

  revoke-touched : timer_runs n ≡ true → Kept (row [] (λ g. when (runs n g) (revoked ∷ []))) (revoke drained) drained
  unfolding revoke timer_flagged with_timer_flags
  revoke-touched ticks' =
      let same = drain-running b n.queue n in
      let low : 1 ≤ drained.running = rw same (timer-timed v ticks').runs in
      touched-inside refl (λ g. when-inside (runs drained g) (runs n g) (revoked ∷ []) (revoked ∷ []) (λ e. ap (λ (r : ℕ). eqb r g) (sym same) ∙ e) refl)
      (group-touched (revoked ∷ []) drained.running (with_timer_flags G.force true G) drained low differs)
    where
      G : Group
      G = group_of drained drained.running

      differs : Differs (revoked ∷ []) (with_timer_flags G.force true G) G
      differs atomic none = refl
      differs pending none = refl
      differs force none = refl
      differs revoked none = absurd (true≢false none)
      differs used none = refl
      differs count none = refl
      differs places none = refl
      differs pages none = refl
      differs descriptor none = refl

  late-touched : timer_runs n ≡ true
      → Kept (row (timer ∷ queue ∷ stores) (λ g. filling (is_moved g (length n.queue) n.queue) ++ when (runs n g) (revoked ∷ []))) late.node n
  unfolding timed timed_out valued
  late-touched ticks' =
      let moved : ℕ → Bool = λ g. is_moved g (length n.queue) n.queue in
      touched-then (touched-inside refl (λ g. refl) (timer-touched (left_over b k n) (with_timer 0 (revoke drained))))
      (touched-then (touched-inside refl (λ g. refl) (timer-touched 0 (revoke drained)))
      (touched-then
      (touched-inside refl
      (λ g. inside-right group_number (when (runs n g) (revoked ∷ [])) (filling (moved g)) (when (runs n g) (revoked ∷ []))
      (when-inside (runs n g) (runs n g) (revoked ∷ []) (revoked ∷ []) (λ e. e) refl))
      (revoke-touched ticks'))
      (touched-inside refl
      (λ g. inside-left group_number (filling (moved g)) (filling (moved g)) (when (runs n g) (revoked ∷ [])) (filling-inside (moved g) (moved g) (λ e. e)))
      (drain-touched b n.queue n (grouped v)))))

  -- no message is left to move
  pub late-queue : late.node.queue ≡ []
  unfolding timed timed_out valued with_timer revoke timer_flagged with_group
  late-queue = drain-queue b n.queue n

  late-moved : (settle b late.node).moved ≡ 0
  late-moved = omega (arith, settle-moved b late.node, ap length late-queue)

  late-row : timer_runs n ≡ true → ((g : ℕ) → 1 ≤ g → g ≤ group_count → (group_of (finish b late).node g).atomic ≡ (group_of n g).atomic)
      → ((g : ℕ) → 1 ≤ g → g ≤ group_count → (group_of (finish b late).node g).pending ≡ (group_of n g).pending) → Rows b n (tick k) late
  unfolding row_of finish timed timed_out valued
  late-row ticks' atomics pendings =
      let q = n.queue in
      let s = (settle b late.node).moved in
      let whole : 0 + length q + s ≡ length q = omega (arith, late-moved) in
      flags-kept (λ g. filling (is_moved g (0 + length q + s) q) ++ when (runs n g) (revoked ∷ [])) (λ g. runs late.node g)
      (finished-touched b late n (rw late-queue tt) (timer ∷ queue ∷ stores) (λ g. filling (is_moved g (length q) q) ++ when (runs n g) (revoked ∷ []))
      (λ g. filling (is_moved g (0 + length q + s) q) ++ when (runs n g) (revoked ∷ [])) refl refl
      (λ g. filled-inside (is_moved g (length q) q) (is_moved g (0 + length q + s) q) (runs n g) (revoked ∷ []) (λ e. ap (λ (j : ℕ). is_moved g j q) whole ∙ e) refl)
      (λ g. inside-left group_number (filling (is_moved g s late.node.queue)) (filling (is_moved g (0 + length q + s) q)) (when (runs n g) (revoked ∷ []))
      (filling-inside (is_moved g s late.node.queue) (is_moved g (0 + length q + s) q)
      (λ e. absurd (false≢true (sym (ap (is_moved g s) late-queue ∙ moved_none g s) ∙ e)))))
      (late-touched ticks'))
      (λ g low high none'. atomics g low high) (λ g low high none'. pendings g low high)

  -- the running group is revoked
  pub late-revoked : (group_of late.node n.running).revoked ≡ true
  unfolding timed timed_out valued with_timer with_queue group_of revoke timer_flagged with_timer_flags
  late-revoked =
      let s : Sound b drained = drain-sound n.queue n (valid-sound v) in
      let G = group_of drained drained.running in
      let same = drain-running b n.queue n in
      subst (λ (r : ℕ). (group_of (revoke drained) r).revoked ≡ true) same
      (ap (λ (K : Group). K.revoked) (group-same drained drained.running (with_timer_flags G.force true G) (omega (arith, s.group-count, s.running-bound))))

  -- no tick counts
  idle-row : Rows b n (tick k) (valued 0 n)
  unfolding row_of finish valued
  idle-row = touched-same (quiet-left (valued 0 n) (valid-quiet v))

  -- ticks count, without a timeout
  counted-row : timer_runs n ≡ true → Rows b n (tick k) (valued 0 (with_timer (n.timer + k) n))
  unfolding row_of finish valued
  counted-row ticks' =
      touched-then (touched-same (quiet-left (valued 0 (with_timer (n.timer + k) n)) (counted-quiet v ticks' (n.timer + k)))) (timer-touched (n.timer + k) n)

  pub tick-row : refusal b n (tick k) ≡ 0 → Rows b n (tick k) (act b n (tick k))
  unfolding act told hear unheard view
  tick-row taken = go (ticked-by v k)
    where
      go : Ticked b k n → Rows b n (tick k) (ticks b k (valued 0 n))
      go (idle rests e) = subst (Rows b n (tick k)) (sym e) idle-row
      go (counting ticks' below e) = subst (Rows b n (tick k)) (sym e) (counted-row ticks')
      go (timeout ticks' e) =
          subst (Rows b n (tick k)) (sym e)
          (late-row ticks'
          (λ g low high. subst (λ (x : Effect). (group_of (finish b x).node g).atomic ≡ (group_of n g).atomic) e (heard-atomic v (tick k) tt taken g low high))
          (λ g low high. subst (λ (x : Effect). (group_of (finish b x).node g).pending ≡ (group_of n g).pending) e (heard-pending v (tick k) tt taken g low high)))

-- A.

-- an arrival does not force the timer
forced-queued : (m : Message) (n : Node) → forced (queued m n) ≡ forced n
unfolding forced queued with_queue group_of
forced-queued m n = refl

-- of one message in a queue, its group's are moved
moved-one : (g k : ℕ) (m : Message) → is_moved g k (m ∷ []) ≡ true → eqb m.group g ≡ true
unfolding is_moved is_of
moved-one g zero m e = absurd (false≢true e)
moved-one g (suc k) m e = go (eqb m.group g) refl
  where
    go : (t : Bool) → eqb m.group g ≡ t → eqb m.group g ≡ true
    go true own = own
    go false other =
        let gone = ap (λ (ms : List Message). not (is_empty ms)) (filter-fail (is_of g) m (take k []) other) in
        absurd (false≢true (sym (moved_none g k) ∙ sym gone ∙ e))

-- a group that is atomic, or does not have the processor, has no upcall
pub uncalled : (p : PrivateLine) → (p.has ≡ true → p.atomic ≡ true) → is_called p ≡ false
unfolding is_called
uncalled p busy = go p.has p.atomic busy
  where
    go : (h a : Bool) → (h ≡ true → a ≡ true) → h && (not a && not (is_empty p.messages)) ≡ false
    go false a busy = refl
    go true true busy = refl
    go true false busy = absurd (false≢true (busy refl))

module _ {b : Build} {n : Node} (v : Valid b n) (h : ℕ) (ws : List ℕ) (taken : refusal b n (arrive h ws) ≡ 0) where
  abbrev arriving : Message
  arriving = record { group = h; words = ws }

  abbrev arrival : Effect
  arrival = valued 0 (queued arriving n)

  -- the node with the message is sound
  arriving-sound : Sound b (queued arriving n)
  unfolding act valued
  arriving-sound = act-sound v (arrive h ws) taken

  arriving-touched : Kept (row (queue ∷ []) (λ g. [])) (queued arriving n) n
  unfolding queued
  arriving-touched = queue-touched (n.queue ++ (arriving ∷ [])) n

  -- flags are as they were, where the group is not the runner that the message is for, or is atomic already
  arrive-flags : (g : ℕ) → 1 ≤ g → g ≤ group_count → ((eqb h g && runs n g) ≡ true → (group_of n g).atomic ≡ true)
      → ((group_of (finish b arrival).node g).atomic ≡ (group_of n g).atomic) × ((group_of (finish b arrival).node g).pending ≡ (group_of n g).pending)
  unfolding act told hear unheard view afterwards joined
  arrive-flags g low high busy =
      let same = go (eqb h g) refl in
      (heard-atomic v (arrive h ws) tt taken g low high ∙ same.0, heard-pending v (arrive h ws) tt taken g low high ∙ same.1)
    where
      p : PrivateLine
      p = joined g ws (view g n)

      go : (t : Bool) → eqb h g ≡ t
          → ((hear g (view g n) (cond t (message ws) nothing)).line.atomic ≡ (group_of n g).atomic)
          × ((hear g (view g n) (cond t (message ws) nothing)).line.pending ≡ (group_of n g).pending)
      go false e = (refl, refl)
      go true e =
          let quiet = called-quiet p (uncalled p (λ has. busy (ap (λ (t : Bool). t && runs n g) e ∙ has))) in
          (ap (λ (q : PrivateLine). q.atomic) quiet, ap (λ (q : PrivateLine). q.pending) quiet)

  -- the message stays
  module _ (stay : (x : Message) (q : List Message) → (queued arriving n).queue ≡ x ∷ q → may_stay (queued arriving n) x ≡ true) where
    staying : settle b (queued arriving n) ≡ record { node = queued arriving n; moved = 0 }
    staying =
        let some : is_empty (queued arriving n).queue ≡ false = unfold queued with_queue in some-last n.queue arriving in
        staying-settle b (queued arriving n) stay
        ∙ ap (λ (k : Node). record { node = k; moved = 0 }) (rest-left (queued arriving n) (λ rests. absurd (true≢false (sym (runs-queued (queued arriving n) some) ∙ rests))))

    staying-left : (finish b arrival).node ≡ upcall (queued arriving n)
    unfolding finish valued queued with_queue group_of
    staying-left =
        ap (λ (m : Moved). upcall (runner_resident b m.node)) staying
        ∙ ap upcall (runner-quiet b (queued arriving n) v.runner-resident)

    staying-touched : Kept (row (queue ∷ []) (λ g. when (eqb h g && runs n g) (atomic ∷ pending ∷ []))) (finish b arrival).node n
    unfolding queued with_queue
    staying-touched =
        flags-kept (λ g. when (eqb h g && runs n g) (atomic ∷ pending ∷ [])) (λ g. runs n g)
        (touched-then {k = upcall (queued arriving n)} (touched-same staying-left)
        (touched-then {k = queued arriving n}
        (touched-inside refl
        (λ g. inside-right group_number (when (runs n g) (atomic ∷ pending ∷ [])) (when (eqb h g && runs n g) (atomic ∷ pending ∷ [])) (when (runs n g) (atomic ∷ pending ∷ []))
        (when-inside (runs n g) (runs n g) (atomic ∷ pending ∷ []) (atomic ∷ pending ∷ []) (λ e. e) refl))
        (upcall-touched (queued arriving n)))
        (touched-inside refl (λ g. refl) (queue-touched (n.queue ++ (arriving ∷ [])) n))))
        (λ g low high none. (arrive-flags g low high (λ named. absurd (true≢false (sym (ap (λ (t : Bool). among group_number atomic (when t (atomic ∷ pending ∷ []))) named) ∙ none)))).0)
        (λ g low high none. (arrive-flags g low high (λ named. absurd (true≢false (sym (ap (λ (t : Bool). among group_number pending (when t (atomic ∷ pending ∷ []))) named) ∙ none)))).1)

    staying-row : Rows b n (arrive h ws) arrival
    unfolding row_of finish valued
    staying-row = rw (ap (λ (m : Moved). 0 + m.moved) staying) staying-touched

  -- or moves
  module _ (none : n.queue ≡ []) (leaves : may_stay n arriving ≡ false) where
    alone : (queued arriving n).queue ≡ arriving ∷ []
    unfolding queued with_queue
    alone = ap (λ (q : List Message). q ++ (arriving ∷ [])) none

    moved-some : 1 ≤ (settle b (queued arriving n)).moved
    unfolding settle may_stay buffered buffer_holds queued with_queue group_of
    moved-some = subst (λ (q : List Message). 1 ≤ (pass b q (queued arriving n)).moved) (sym alone) (pass-moves b arriving [] (queued arriving n) leaves)

    -- the queue is then empty again
    emptied : (settle b (queued arriving n)).node.queue ≡ []
    emptied = no_length _ (omega (arith, settle-moved b (queued arriving n), ap length alone, moved-some))

    queue-kept : (finish b arrival).node.queue ≡ n.queue
    unfolding valued
    queue-kept = finish-queue b arrival ∙ emptied ∙ sym none

    -- so the timer is where it was: it counts on only where it is forced, and else was 0
    timer-kept : (finish b arrival).node.timer ≡ n.timer
    unfolding valued queued with_queue
    timer-kept = finish-timer b arrival ∙ go (timer_runs k) refl
      where
        k : Node
        k = (settle b (queued arriving n)).node

        same : timer_runs k ≡ timer_runs n
        same =
            runs-empty k emptied
            ∙ forced-same k (queued arriving n) (settle-running b (queued arriving n)) (settle-flags b (queued arriving n))
            ∙ forced-queued arriving n
            ∙ sym (runs-empty n none)

        go : (t : Bool) → timer_runs k ≡ t → k.timer ≡ n.timer
        go true runs' = settle-keeps b (queued arriving n) runs'
        go false rests = settle-timer b (queued arriving n) rests ∙ sym (timer-rests v (sym same ∙ rests))

    -- the runner that the message is for is buffered
    busy : (g : ℕ) → 1 ≤ g → (eqb h g && runs n g) ≡ true → (group_of n g).atomic ≡ true
    unfolding may_stay
    busy g low named =
        let both = (and-eq-true_iff (eqb h g) (runs n g)).0 named in
        let own : n.running ≡ g = eqb-true n.running g both.1 in
        let mine : h ≡ n.running = eqb-true h g both.0 ∙ sym own in
        let held : buffered n h ≡ true = not-false (buffered n h) (sym (ap (λ (t : Bool). t && not (buffered n h)) (eq-eqb h n.running mine)) ∙ leaves) in
        subst (λ (x : ℕ). (group_of n x).atomic ≡ true) own (buffered-atomic v (rw own low) (ap (buffered n) (sym mine) ∙ held))

    moving-touched : Kept (row stores (λ g. filling (eqb h g))) (finish b arrival).node n
    unfolding valued
    moving-touched =
        front_kept
        (flags-kept (λ g. filling (eqb h g)) (λ g. runs (queued arriving n) g)
        (finished-touched b arrival n all (timer ∷ queue ∷ stores) (λ g. []) (λ g. filling (eqb h g)) refl refl (λ g. refl)
        (λ g. let s = (settle b (queued arriving n)).moved in
        filling-inside (is_moved g s (queued arriving n).queue) (eqb h g)
        (λ e. moved-one g s arriving (subst (λ (q : List Message). is_moved g s q ≡ true) alone e)))
        (touched-inside refl (λ g. refl) arriving-touched))
        (λ g low high unnamed. (arrive-flags g low high (busy g low)).0) (λ g low high unnamed. (arrive-flags g low high (busy g low)).1))
        timer-kept queue-kept
      where
        all : Every Grouped (queued arriving n).queue
        all = every-mono GoodMessage Grouped (λ m good. good.group-low) (queued arriving n).queue arriving-sound.queue-good

    moving-row : Rows b n (arrive h ws) arrival
    unfolding row_of finish valued
    moving-row = rw (ne_eqb (0 + (settle b (queued arriving n)).moved) 0 (λ e. omega (arith, moved-some))) moving-touched

  pub arrive-row : Rows b n (arrive h ws) (act b n (arrive h ws))
  unfolding act may_stay buffered buffer_holds queued with_queue group_of
  arrive-row = go n.queue refl
    where
      alone-row : n.queue ≡ [] → (t : Bool) → may_stay n arriving ≡ t → Rows b n (arrive h ws) arrival
      alone-row none true stay = staying-row (λ x q e. let first : arriving ≡ x = let a = alone none in cc in subst (λ (y : Message). may_stay n y ≡ true) first stay)
      alone-row none false leaves = moving-row none leaves

      go : (q : List Message) → n.queue ≡ q → Rows b n (arrive h ws) arrival
      go [] none = alone-row none (may_stay n arriving) refl
      go (y ∷ q) some =
          staying-row (λ x r e.
          let first : y ≡ x = let whole : (y ∷ q) ++ (arriving ∷ []) ≡ x ∷ r = ap (λ (l : List Message). l ++ (arriving ∷ [])) (sym some) ∙ e in cc in
          subst (λ (z : Message). may_stay n z ≡ true) first (v.head-stays y q some))
