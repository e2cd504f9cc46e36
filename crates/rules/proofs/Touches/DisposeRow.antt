-- The row of D. From the hardware queue it takes the head, and messages behind it may move. From the buffer it leaves the queue empty as it was, and
-- where the group's next page is in swap a frame has just been freed, so that the page is brought in and none is sent out; the two numbers traded
-- stand in no other group's list. Assumes nothing.
use Prim.Native.Nat.{ℕ, pred, ◌+◌, ◌≤◌}
use mathlib.Core.Bool.{Bool, true, false, true≢false, cond, ◌||◌}
use mathlib.Core.List.{List, [], ◌∷◌, ◌++◌}
use mathlib.Core.Logic.{◌≢◌, ◌⊎◌, inl, inr}
use mathlib.Core.Path.{◌≡◌, refl, sym, ap, ◌∙◌, subst}
use native.Mathlib.Nat.{zero-add}
use native.Mathlib.Omega.{arith}
use lib.Dec.{eqb}
use lib.ListN.{length, length-append, drop}
use borrow.Author.Tests.{ltb-false, eqb-true, eqb-false, ne_eqb, eq-eqb}
use Rattle.rules.specs.Lists.{is_empty, count_of}
use Rattle.rules.specs.Build.{Build, group_count}
use Rattle.rules.specs.Node.{Buffer, Group, Node, empty_group, group_of, with_groups, with_timer, with_free, with_paging, with_group, with_buffer, with_flags, buffer_holds, buffered, line}
use Rattle.rules.specs.Frames.{Stock, first_frame, remove_first, free_first, use_up, with_stock}
use Rattle.rules.specs.Paging.{in_frame, trading, bring_in, first_resident, runner_resident}
use Rattle.rules.specs.Operation.{dispose, user}
use Rattle.rules.specs.Refusal.{refusal, refuse_request}
use Rattle.rules.specs.Settling.{Moved, rest_timer, settle, upcall}
use Rattle.rules.specs.Step.{Effect, without_first, removed, flagged, disposed, extending, serve, act, finish}
use Rattle.rules.specs.Valid.{FirstInFrame, Valid, frame_list}
use Rattle.rules.specs.Sound.{Sound, Listed}
use Rattle.rules.specs.Private.{PrivateLine, own}
use Rattle.rules.specs.Touches.{NodePart, GroupPart, running, timer, queue, free, swap, entered, out, brought, atomic, pending, force, revoked, used, count, places, pages, descriptor, part, group_part, row, stores, when, runs, is_moved, filling, request_row, row_of}
use Rattle.rules.proofs.Steps.EveryLaws.{every_drop}
use Rattle.rules.proofs.Steps.ListLaws.{count-part, count-two}
use Rattle.rules.proofs.Steps.NodeLaws.{within, stock-same, kept}
use Rattle.rules.proofs.Steps.PagingLaws.{bring-repaged, resident-cases, traded-group, idle-unlisted, listed-once, traded-none, untraded}
use Rattle.rules.proofs.Steps.SettlingLaws.{rest-cases, settle-sound}
use Rattle.rules.proofs.Steps.LineLaws.{direct-holds, buffered-holds, buffered-empty, removed-cases, removed-flags, removed-running, removed-queue-direct}
use Rattle.rules.proofs.Steps.ActLaws.{user-accepted}
use Rattle.rules.proofs.Steps.StepLaws.{act-sound}
use Rattle.rules.proofs.Steps.QuietLaws.{staying-settle, runner-within}
use Rattle.rules.proofs.Private.ViewLaws.{view, called-quiet}
use Rattle.rules.proofs.Private.HeardLaws.{finish-view}
use Rattle.rules.proofs.Private.RequestLaws.{dispose-some}
use Rattle.rules.proofs.Touches.PartLaws.{node_number, group_number, among, Kept, filling-inside, flags-kept, inside, inside-left, inside-none, inside-right, touched-inside, touched-same, touched-then, when-inside}
use Rattle.rules.proofs.Touches.TouchLaws.{Differs, Grouped, Rows, finished-touched, group-touched, grouped, queue-touched, repaged-touched, rest-touched, stock-touched, timer-touched, upcall-touched}
use Rattle.rules.proofs.Touches.QueueRows.{uncalled}

-- D.

-- the running group's first page brought in where a frame is free, or in a frame already
module _ {b : Build} {k : Node} (s : Sound b k) (low : 1 ≤ k.running) where
  -- a page of the running group stands in no other group's list
  others-page : (p : ℕ) (ps : List ℕ) → (group_of k k.running).buffer.frames ≡ p ∷ ps → (g : ℕ) → 1 ≤ g → g ≤ group_count → g ≢ k.running
      → count_of p (group_of k g).buffer.frames ≡ 0
  unfolding group_of frame_list
  others-page p ps e g low' high other =
      let two = count-two p frame_list empty_group k.groups (pred k.running) (pred g) (within s k.running low s.running-bound) (within s g low' high) (λ same. other (omega arith)) in
      let own : 1 ≤ count_of p (group_of k k.running).buffer.frames = rw (e, eq-eqb p p refl) (omega arith) in
      let listed : Listed p k = omega (arith, two) in
      omega (arith, two, (listed-once s p listed).1.1)

  -- nor does a free frame
  others-free : (f : ℕ) (fs : List ℕ) → k.free ≡ f ∷ fs → (g : ℕ) → 1 ≤ g → g ≤ group_count → count_of f (group_of k g).buffer.frames ≡ 0
  unfolding group_of frame_list
  others-free f fs e g low' high =
      let here : 1 ≤ count_of f k.free = rw (e, eq-eqb f f refl) (omega arith) in
      omega (arith, count-part f frame_list empty_group k.groups (pred g) (within s g low' high), idle-unlisted s f (omega arith))

  abbrev Brought : Node → Type 0
  Brought m = Kept (row (free ∷ swap ∷ entered ∷ brought ∷ []) (λ g. when (runs k g) (pages ∷ []))) m k

  bring-touched : (p : ℕ) (ps : List ℕ) → (group_of k k.running).buffer.frames ≡ p ∷ ps → (f : ℕ) (fs : List ℕ) → k.free ≡ f ∷ fs
      → Brought (bring_in p (f ∷ fs) k)
  unfolding bring_in trading with_groups with_free with_paging group_of
  bring-touched p ps e f fs some = record { node = go; group = λ g low' high q. each g low' high q (runs k g) refl }
    where
      m : Node
      m = bring_in p (f ∷ fs) k

      go : (q : NodePart) → among node_number q (free ∷ swap ∷ entered ∷ brought ∷ []) ≡ false → part q m ≡ part q k
      go running none = refl
      go timer none = refl
      go queue none = refl
      go free none = absurd (true≢false none)
      go swap none = absurd (true≢false none)
      go entered none = absurd (true≢false none)
      go out none = refl
      go brought none = absurd (true≢false none)

      each : (g : ℕ) → 1 ≤ g → g ≤ group_count → (q : GroupPart) (t : Bool) → runs k g ≡ t → among group_number q (when t (pages ∷ [])) ≡ false
          → group_part q (group_of m g) ≡ group_part q (group_of k g)
      each g low' high q true mine none = (repaged-touched (bring-repaged p (f ∷ fs) k)).group g low' high q none
      each g low' high q false other none =
          ap (group_part q)
          (traded-group f p k g
          ∙ untraded f p (group_of k g)
          (traded-none f p (group_of k g).buffer.frames (others-free f fs some g low' high)
          (others-page p ps e g low' high (λ same. eqb-false k.running g other (sym same)))))

  runner-touched : (FirstInFrame b (group_of k k.running).buffer.frames) ⊎ (1 ≤ length k.free) → Brought (runner_resident b k)
  unfolding runner_resident first_resident
  runner-touched free-or-here = rw (ne_eqb k.running 0 (λ e. omega arith)) (first (group_of k k.running).buffer.frames refl free-or-here)
    where
      fetched : (p : ℕ) (ps : List ℕ) → (group_of k k.running).buffer.frames ≡ p ∷ ps → 1 ≤ length k.free → Brought (bring_in p k.free k)
      fetched p ps e some = go k.free refl
        where
          go : (fs : List ℕ) → k.free ≡ fs → Brought (bring_in p fs k)
          go [] none = absurd (omega (arith, ap length none))
          go (f ∷ fs) front = bring-touched p ps e f fs front

      first : (ps : List ℕ) → (group_of k k.running).buffer.frames ≡ ps → (FirstInFrame b ps) ⊎ (1 ≤ length k.free) → Brought (first_resident b ps k)
      first [] e h = touched-same refl
      first (p ∷ ps) e (inl here) = resident-cases Brought b p k (λ in-frame. touched-same refl) (λ away. absurd (omega (arith, here, ltb-false p b.frames (unfold in_frame in away))))
      first (p ∷ ps) e (inr some) = resident-cases Brought b p k (λ in-frame. touched-same refl) (λ away. fetched p ps e some)

module _ {b : Build} {n : Node} (v : Valid b n) (taken : refusal b n (user dispose) ≡ 0) where
  low : 1 ≤ n.running
  unfolding refusal
  low = (user-accepted n dispose taken).0

  some : is_empty (line n n.running) ≡ false
  unfolding refusal refuse_request
  some = dispose-some (line n n.running) (user-accepted n dispose taken).1

  abbrev disposal : Effect
  disposal = serve b n dispose

  disposal-sound : Sound b (disposed b n)
  unfolding act serve extending
  disposal-sound = act-sound v (user dispose) taken

  -- the flags of the group
  flags-same : (group_of n n.running).atomic ≡ (group_of (removed b n) (removed b n).running).atomic
  flags-same = sym (removed-flags b n n.running).atomic ∙ ap (λ (g : ℕ). (group_of (removed b n) g).atomic) (sym (removed-running b n))

  disposed-running : (disposed b n).running ≡ n.running
  unfolding disposed flagged with_timer with_group
  disposed-running = removed-running b n

  disposed-touched : (ps : List NodePart) (qs : List GroupPart) → inside node_number ps (timer ∷ ps) ≡ true → inside group_number qs (pending ∷ qs) ≡ true
      → Kept (row ps (λ g. when (runs n g) qs)) (removed b n) n → Kept (row (timer ∷ ps) (λ g. when (runs n g) (pending ∷ qs))) (disposed b n) n
  unfolding disposed flagged with_flags
  disposed-touched ps qs nodes groups h =
      let same = removed-running b n in
      touched-then (touched-inside refl (λ g. refl) (timer-touched 0 (flagged (group_of n n.running).atomic false (removed b n))))
      (touched-then
      (touched-inside refl
      (λ g. when-inside (runs (removed b n) g) (runs n g) (pending ∷ []) (pending ∷ qs) (λ e. ap (λ (r : ℕ). eqb r g) (sym same) ∙ e) refl)
      (group-touched (pending ∷ []) (removed b n).running (with_flags (group_of n n.running).atomic false K) (removed b n) (rw same low) differs))
      (touched-inside nodes (λ g. when-inside (runs n g) (runs n g) qs (pending ∷ qs) (λ e. e) groups) h))
    where
      K : Group
      K = group_of (removed b n) (removed b n).running

      differs : Differs (pending ∷ []) (with_flags (group_of n n.running).atomic false K) K
      differs atomic none = flags-same
      differs pending none = absurd (true≢false none)
      differs force none = refl
      differs revoked none = refl
      differs used none = refl
      differs count none = refl
      differs places none = refl
      differs pages none = refl
      differs descriptor none = refl

  disposed-atomic : (g : ℕ) → (group_of (disposed b n) g).atomic ≡ (group_of n g).atomic
  unfolding disposed flagged with_flags with_timer group_of
  disposed-atomic g =
      kept (λ K. K.atomic) (removed b n) (removed b n).running
      (with_flags (group_of n n.running).atomic false (group_of (removed b n) (removed b n).running)) flags-same g
      ∙ (removed-flags b n g).atomic

  -- the running group has a line and is atomic, so that it is not called up
  dispose-view : (g : ℕ) → 1 ≤ g → g ≤ group_count → view g (finish b disposal).node ≡ view g (disposed b n)
  unfolding serve extending view
  dispose-view g low' high =
      finish-view disposal disposal-sound g low' high
      ∙ called-quiet (view g (disposed b n)) (uncalled (view g (disposed b n)) (λ has.
      let mine : n.running ≡ g = sym disposed-running ∙ eqb-true (disposed b n).running g has in
      disposed-atomic g ∙ subst (λ (r : ℕ). (group_of n r).atomic ≡ true) mine (v.running-atomic low some)))

  -- so of its flags pending alone is other
  dispose-atomic : (g : ℕ) → 1 ≤ g → g ≤ group_count → (group_of (finish b disposal).node g).atomic ≡ (group_of n g).atomic
  unfolding view
  dispose-atomic g low' high = ap (λ (p : PrivateLine). p.atomic) (dispose-view g low' high) ∙ disposed-atomic g

  dispose-pending : (g : ℕ) → 1 ≤ g → g ≤ group_count → (group_of (finish b disposal).node g).pending ≡ (group_of (disposed b n) g).pending
  unfolding view
  dispose-pending g low' high = ap (λ (p : PrivateLine). p.pending) (dispose-view g low' high)

  -- from the queue
  module _ (direct : buffered n n.running ≡ false) where
    queue-left : (disposed b n).queue ≡ drop 1 n.queue
    unfolding disposed flagged with_timer with_group
    queue-left = removed-queue-direct v (direct-holds n n.running direct)

    direct-touched : Kept (row (timer ∷ queue ∷ []) (λ g. when (runs n g) (pending ∷ []))) (disposed b n) n
    direct-touched =
        disposed-touched (queue ∷ []) [] refl refl
        (removed-cases (λ k. Kept (row (queue ∷ []) (λ g. when (runs n g) [])) k n) b n
        (λ holds. absurd (true≢false (sym holds ∙ direct-holds n n.running direct)))
        (λ none. touched-inside refl (λ g. refl) (queue-touched (without_first n.running n.queue) n)))

    direct-row : Rows b n (user dispose) disposal
    unfolding row_of request_row finish serve extending
    direct-row =
        let s = (settle b (disposed b n)).moved in
        let q = drop 1 n.queue in
        let own : ℕ → List GroupPart = λ g. when (runs n g) (pending ∷ []) in
        let self : (g : ℕ) → inside group_number (own g) (own g) ≡ true = λ g. when-inside (runs n g) (runs n g) (pending ∷ []) (pending ∷ []) (λ e. e) refl in
        let last : (g : ℕ) → inside group_number (own g) (filling (is_moved g (0 + s) q) ++ own g) ≡ true =
        λ g. inside-right group_number (own g) (filling (is_moved g (0 + s) q)) (own g) (self g) in
        rw direct
        (flags-kept (λ g. filling (is_moved g (0 + s) q) ++ own g) (λ g. runs (disposed b n) g)
        (finished-touched b disposal n
        (rw queue-left (every_drop Grouped 1 n.queue (grouped v)))
        (timer ∷ queue ∷ stores) own (λ g. filling (is_moved g (0 + s) q) ++ own g) refl refl last
        (λ g. inside-left group_number (filling (is_moved g s (disposed b n).queue)) (filling (is_moved g (0 + s) q)) (own g)
        (filling-inside (is_moved g s (disposed b n).queue) (is_moved g (0 + s) q)
        (λ e. ap (λ (j : ℕ). is_moved g j q) (zero-add s) ∙ ap (is_moved g s) (sym queue-left) ∙ e)))
        (touched-inside refl self direct-touched))
        (λ g low' high none. dispose-atomic g low' high)
        (λ g low' high none.
        dispose-pending g low' high
        ∙ direct-touched.group g low' high pending (inside-none group_number pending (own g) (filling (is_moved g (0 + s) q) ++ own g) (last g) none)))

  -- from the buffer
  module _ (held : buffered n n.running ≡ true) where
    abbrev gone : List GroupPart
    gone = used ∷ count ∷ places ∷ pages ∷ []

    holds : buffer_holds n n.running ≡ true
    holds = sym (buffered-holds v some) ∙ held

    buffered-touched : Kept (row (timer ∷ free ∷ entered ∷ []) (λ g. when (runs n g) (pending ∷ gone))) (disposed b n) n
    unfolding with_buffer
    buffered-touched =
        disposed-touched (free ∷ entered ∷ []) gone refl refl
        (removed-cases (λ k. Kept (row (free ∷ entered ∷ []) (λ g. when (runs n g) gone)) k n) b n
        (λ e. stock-touched gone n.running (remove_first b n.free n.paging.entered (group_of n n.running).buffer) n low refl differs)
        (λ none. absurd (true≢false (sym holds ∙ none))))
      where
        differs : Differs gone (with_buffer (remove_first b n.free n.paging.entered (group_of n n.running).buffer).buffer (group_of n n.running)) (group_of n n.running)
        differs atomic none = refl
        differs pending none = refl
        differs force none = refl
        differs revoked none = refl
        differs used none = absurd (true≢false none)
        differs count none = absurd (true≢false none)
        differs places none = absurd (true≢false none)
        differs pages none = absurd (true≢false none)
        differs descriptor none = refl

    abbrev rested : Node
    rested = rest_timer (disposed b n)

    -- nothing is queued, so nothing moves
    rests : settle b (disposed b n) ≡ record { node = rested; moved = 0 }
    rests =
        let none : (disposed b n).queue ≡ [] = buffered-touched.node queue refl ∙ buffered-empty v held in
        staying-settle b (disposed b n) (λ x q e. let l : length (x ∷ q) ≡ 0 = ap length (sym e ∙ none) in absurd (omega arith))

    -- the group's first page is where it was, or a frame is free
    abbrev Room : Node → Type 0
    Room k = (FirstInFrame b (group_of k k.running).buffer.frames) ⊎ (1 ≤ length k.free)

    stock-room : (t : Stock) → (t.buffer.frames ≡ (group_of n n.running).buffer.frames) ⊎ (1 ≤ length t.free) → Room (with_stock n.running t n)
    unfolding with_stock with_group with_free with_paging
    stock-room t (inl same) =
        inl (subst (FirstInFrame b) (sym (ap (λ (u : Buffer). u.frames) (stock-same n.running t n (runner-within v)) ∙ same)) (v.runner-resident low))
    stock-room t (inr free') = inr free'

    removed-room : Room (removed b n)
    unfolding remove_first free_first use_up
    removed-room =
        removed-cases Room b n (λ e. stock-room (remove_first b n.free n.paging.entered w) (go (eqb w.count 1 || eqb (w.used + 1) b.per_frame)))
        (λ none. absurd (true≢false (sym holds ∙ none)))
      where
        w : Buffer
        w = (group_of n n.running).buffer

        go : (t : Bool)
            → ((cond t (free_first b n.free n.paging.entered w) (use_up n.free n.paging.entered w)).buffer.frames ≡ w.frames)
            ⊎ (1 ≤ length (cond t (free_first b n.free n.paging.entered w) (use_up n.free n.paging.entered w)).free)
        go true = inr (omega (arith, length-append n.free (first_frame w ∷ [])))
        go false = inl refl

    room : Room rested
    unfolding disposed flagged with_flags with_timer with_group group_of
    room = rest-cases Room (disposed b n) (λ e. go removed-room) (λ e. go removed-room)
      where
        r : ℕ
        r = (removed b n).running

        same : (group_of (disposed b n) r).buffer.frames ≡ (group_of (removed b n) r).buffer.frames
        same = kept (λ K. K.buffer.frames) (removed b n) r (with_flags (group_of n n.running).atomic false (group_of (removed b n) r)) refl r

        go : Room (removed b n) → Room (disposed b n)
        go (inl here) = inl (subst (FirstInFrame b) (sym same) here)
        go (inr free') = inr free'

    rested-running : rested.running ≡ n.running
    rested-running = (rest-touched (disposed b n)).node running refl ∙ disposed-running

    rested-sound : Sound b rested
    rested-sound = subst (λ (m : Moved). Sound b m.node) rests (settle-sound disposal-sound)

    buffered-left : (finish b disposal).node ≡ upcall (runner_resident b rested)
    unfolding finish serve extending
    buffered-left = ap (λ (m : Moved). upcall (runner_resident b m.node)) rests

    buffered-row : Rows b n (user dispose) disposal
    unfolding row_of request_row finish serve extending
    buffered-row =
        let own : ℕ → List GroupPart = λ g. when (runs n g) (pending ∷ gone) in
        let up : ℕ → List GroupPart = λ g. when (runs n g) (atomic ∷ pending ∷ []) in
        let l = runner_resident b rested in
        let paged = runner-touched rested-sound (rw rested-running low) room in
        let same : l.running ≡ n.running = paged.node running refl ∙ rested-running in
        rw held
        (flags-kept own (λ g. runs n g)
        (touched-then {k = upcall l} (touched-same buffered-left)
        (touched-then
        (touched-inside refl
        (λ g. inside-right group_number (when (runs l g) (atomic ∷ pending ∷ [])) (own g) (up g)
        (when-inside (runs l g) (runs n g) (atomic ∷ pending ∷ []) (atomic ∷ pending ∷ []) (λ e. ap (λ (r : ℕ). eqb r g) (sym same) ∙ e) refl))
        (upcall-touched l))
        (touched-then
        (touched-inside refl
        (λ g. inside-left group_number (when (runs rested g) (pages ∷ [])) (own g) (up g)
        (when-inside (runs rested g) (runs n g) (pages ∷ []) (pending ∷ gone) (λ e. ap (λ (r : ℕ). eqb r g) (sym rested-running) ∙ e) refl))
        paged)
        (touched-then (touched-inside refl (λ g. refl) (rest-touched (disposed b n)))
        (touched-inside refl
        (λ g. inside-left group_number (own g) (own g) (up g) (when-inside (runs n g) (runs n g) (pending ∷ gone) (pending ∷ gone) (λ e. e) refl))
        buffered-touched)))))
        (λ g low' high none. dispose-atomic g low' high)
        (λ g low' high none. dispose-pending g low' high ∙ buffered-touched.group g low' high pending none))

  pub dispose-row : Rows b n (user dispose) disposal
  dispose-row = go (buffered n n.running) refl
    where
      go : (t : Bool) → buffered n n.running ≡ t → Rows b n (user dispose) disposal
      go true held = buffered-row held
      go false direct = direct-row direct
