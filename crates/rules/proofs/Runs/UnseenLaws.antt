-- Where pages are shows in no report: on two nodes that are alike, perhaps of builds that differ in how many pages are frames, every operation
-- is refused alike or acts alike, and so every run from power-on reports the same. Assumes nothing.
use Prim.Native.Nat.{ℕ, ◌+◌, ◌-◌, ◌%◌, ◌≤◌}
use mathlib.Core.Path.{◌≡◌, refl, sym, subst, ap, ◌∙◌}
use mathlib.Core.Logic.{◌≢◌}
use mathlib.Core.Bool.{Bool, true, false, true≢false, false≢true, cond, ◌||◌}
use mathlib.Core.List.{List, [], ◌∷◌, ◌++◌}
use native.Mathlib.Decide.{ℕ_discrete}
use native.Mathlib.Omega.{arith}
use lib.Dec.{ltb, leb, eqb}
use lib.ListN.{length, drop}
use borrow.Author.Tests.{ltb-true, ltb-false, eq-eqb}
use Rattle.rules.specs.Lists.{is_empty}
use Rattle.rules.specs.Build.{Build, page_count, group_count, word_limit}
use Rattle.rules.specs.Node.{Message, Buffer, Group, Node, power_on, group_of, with_timer, with_queue, with_free, with_paging, with_group, with_flags, with_timer_flags, with_descriptor, buffer_holds, forced, timer_runs, waiting}
use Rattle.rules.specs.Frames.{Stock, free_first, use_up, remove_first, with_stock, pledges}
use Rattle.rules.specs.Operation.{Request, poll, peek, dispose, begin_atomic, end_atomic, describe, launch}
use Rattle.rules.specs.Operation.{Operation, arrive, schedule, preempt, dispatch, tick, turn, user, unknown, accepted, bad_group, bad_words, queue_full, no_frames, nobody_runs, no_trap, dispose_extend, atomicity_extend}
use Rattle.rules.specs.Refusal.{queued, refuse_arrive, refuse_peek, refuse_dispose, refuse_end, refuse_describe, refuse_launch, refuse_request, refuse_dispatch, refusal}
use Rattle.rules.specs.Settling.{settle, drain, calls, upcall}
use Rattle.rules.specs.Step.{Effect, Stepped, valued, preempted, timer_flagged, revoke, timed_out, ticks, first_length, first_word, without_first, removed, flagged, disposed, section_begun, section_ended, extending, described, launched, serve, act, finish, in_arow, step}
use Rattle.rules.specs.Run.{Input, asked, play, run}
use Rattle.rules.specs.Sound.{Sound}
use Rattle.rules.specs.Unseen.{SameButFrames, PagingUnseen}
use Rattle.rules.specs.Valid.{Valid}
use Rattle.rules.proofs.Steps.SoundLaws.{flags-refl, flags-trans, valid-sound}
use Rattle.rules.proofs.Steps.FrameLaws.{removed-first}
use Rattle.rules.proofs.Steps.NodeLaws.{stock-same, stock-other, within, group-good, restocked-flags}
use Rattle.rules.proofs.Steps.PagingLaws.{runner-repaged, runner-sound}
use Rattle.rules.proofs.Steps.SettlingLaws.{settle-sound, drain-sound, drain-running}
use Rattle.rules.proofs.Steps.LineLaws.{timer-timed, removed-running}
use Rattle.rules.proofs.Steps.TickLaws.{timed, left_over, ticks-idle, ticks-counted, ticks-timeout}
use Rattle.rules.proofs.Steps.ActLaws.{valid-ready, flagged-ready, timer-flagged-ready, removed-sound, user-accepted}
use Rattle.rules.proofs.Steps.StepLaws.{calls-group, act-sound, step-accepted, step-refused, schedule-still, schedule-takes, taken, given, schedule-switches, step-taken, step_given, taken-valid, step-law, step-valid, power-on-valid}
use Rattle.rules.proofs.Steps.TurnLaws.{turn-same}
use Rattle.rules.proofs.Runs.AlikeLaws.{Alike, AlikeGroup, paged-alike, alike-queue, alike-timer, alike-running, alike-group, alike-pledges, alike-settled, alike-drained, alike-forced, alike-line, alike_runs, runner-alike, runner-line, runner-holds, runner-buffered, alike-calls, alike-named, flags-sym}

-- what two operations did is alike
record AlikeEffect (e f : Effect) : Type 0 where
  node : Alike e.node f.node
  value : e.value ≡ f.value
  trap : e.trap ≡ f.trap
  moved : e.moved ≡ f.moved
  sent : e.sent ≡ f.sent

-- two steps report the same, and leave nodes that are alike
record AlikeStepped (s t : Stepped) : Type 0 where
  report : s.report ≡ t.report
  node : Alike s.node t.node

-- the running groups exchanged for such that are alike
runner-group : {b c : Build} {n k : Node} → Sound b n → Sound c k → Alike n k → 1 ≤ n.running → (G H : Group) → AlikeGroup G H
    → Alike (with_group n.running G n) (with_group k.running H k)
runner-group {n = n} {k} s t a low G H e =
    let high = s.running-bound in
    subst (λ (r : ℕ). Alike (with_group n.running G n) (with_group r H k)) a.running
    (alike-group a n.running low (within s n.running low high) (within t n.running low high) G H e)

-- an upcall
alike-upcall : {b c : Build} {n k : Node} → Sound b n → Sound c k → Alike n k → Alike (upcall n) (upcall k)
unfolding upcall with_flags
alike-upcall {n = n} {k} s t a = go (calls n) (calls k) refl (alike-calls a s.running-bound)
  where
    on : (x : Node) → Node
    on x = with_group x.running (with_flags true true (group_of x x.running)) x

    go : (u w : Bool) → calls n ≡ u → u ≡ w → Alike (cond u (on n) n) (cond w (on k) k)
    go true false e same = absurd (true≢false same)
    go false true e same = absurd (true≢false (sym same))
    go false false e same = a
    go true true due same =
        let low = calls-group n due in
        let e = runner-alike a low s.running-bound in
        runner-group s t a low (with_flags true true (group_of n n.running)) (with_flags true true (group_of k k.running))
        (record {
          flags = record { atomic = refl; pending = refl; force = e.flags.force; revoked = e.flags.revoked; descriptor = e.flags.descriptor };
          used = e.used;
          count = e.count;
          waits = e.waits;
        })

-- settling, the first page and the upcall
alike-finish : {b c : Build} (e f : Effect) → Sound b e.node → Sound c f.node → AlikeEffect e f → AlikeStepped (finish b e) (finish c f)
unfolding finish
alike-finish {b} {c} e f s t a =
    let m = alike-settled s t a.node in
    let x = (settle b e.node).node in
    let y = (settle c f.node).node in
    let p = paged-alike (runner-repaged b x) (runner-repaged c y) m.node in
    let sx = runner-sound (settle-sound s) in
    let sy = runner-sound (settle-sound t) in
    let named = alike-named p sx.running-bound in
    record {
      report = λ i.
          record {
            answer = accepted;
            value = a.value i;
            trap = a.trap i;
            upcall = named i;
            moved = a.moved i + m.moved i;
            sent = a.sent i;
          };
      node = alike-upcall sx sy p;
    }

-- Each operation.

-- nothing but a value
alike-valued : {n k : Node} → Alike n k → (x y : ℕ) → x ≡ y → AlikeEffect (valued x n) (valued y k)
unfolding valued
alike-valued a x y e = record { node = a; value = e; trap = refl; moved = refl; sent = refl }

-- an arrival
alike-queued : {n k : Node} → Alike n k → (m : Message) → Alike (queued m n) (queued m k)
unfolding queued
alike-queued {n} {k} a m =
    subst (λ (q : List Message). Alike (with_queue (n.queue ++ (m ∷ [])) n) (with_queue q k)) (ap (λ (q : List Message). q ++ (m ∷ [])) a.queue)
    (alike-queue a (n.queue ++ (m ∷ [])))

-- the running group's flags force and revoked
alike-timer-flagged : {b c : Build} {n k : Node} → Sound b n → Sound c k → Alike n k → 1 ≤ n.running → (x y x' y' : Bool) → x ≡ x' → y ≡ y'
    → Alike (timer_flagged x y n) (timer_flagged x' y' k)
unfolding timer_flagged with_timer_flags
alike-timer-flagged {n = n} {k} s t a low x y x' y' e f =
    let mine = runner-alike a low s.running-bound in
    runner-group s t a low (with_timer_flags x y (group_of n n.running)) (with_timer_flags x' y' (group_of k k.running))
    (record {
      flags = record { atomic = mine.flags.atomic; pending = mine.flags.pending; force = e; revoked = f; descriptor = mine.flags.descriptor };
      used = mine.used;
      count = mine.count;
      waits = mine.waits;
    })

-- T
alike-ticks : {b c : Build} → SameButFrames b c → {n k : Node} → Valid b n → Valid c k → Alike n k → (i : ℕ)
    → AlikeEffect (ticks b i (valued 0 n)) (ticks c i (valued 0 k))
unfolding valued timed timed_out revoke with_timer with_queue
alike-ticks {b} {c} same {n} {k} v w a i = go (timer_runs n) refl (ltb (n.timer + i) b.timeout) refl
  where
    runs : timer_runs n ≡ timer_runs k
    runs = alike_runs a v.running-bound

    drained : Alike (drain b n.queue n) (drain c k.queue k)
    drained =
        let t : Sound c (with_queue n.queue k) = subst (λ (q : List Message). Sound c (with_queue q k)) (sym a.queue) (valid-sound w) in
        subst (λ (q : List Message). Alike (drain b n.queue n) (drain c q k)) a.queue (alike-drained n.queue (valid-sound v) t a)

    late : left_over b i n ≡ left_over c i k
    late =
        unfold left_over in
        ap (λ (t : Bool). cond t ((n.timer + i) % b.timeout) 0) (alike-forced a v.running-bound)
        ∙ ap (λ (t : ℕ). cond (forced k) ((t + i) % b.timeout) 0) a.timer
        ∙ ap (λ (t : ℕ). cond (forced k) ((k.timer + i) % t) 0) same.timeout

    out : timer_runs n ≡ true → AlikeEffect (timed (left_over b i n) (timed_out b (valued 0 n))) (timed (left_over c i k) (timed_out c (valued 0 k)))
    out ticks =
        let x = drain b n.queue n in
        let low : 1 ≤ x.running = rw (drain-running b n.queue n) (timer-timed v ticks).runs in
        let s = drain-sound n.queue n (valid-sound v) in
        let marked : Alike (revoke x) (revoke (drain c k.queue k)) =
        alike-timer-flagged s (drain-sound k.queue k (valid-sound w)) drained low _ true _ true
        (runner-alike drained low s.running-bound).flags.force refl in
        record {
          node = subst (λ (t : ℕ). Alike (with_timer (left_over b i n) (revoke x)) (with_timer t (revoke (drain c k.queue k)))) late
              (alike-timer marked (left_over b i n));
          value = refl;
          trap = refl;
          moved = ap (λ (q : List Message). 0 + length q) a.queue;
          sent = refl;
        }

    go : (t : Bool) → timer_runs n ≡ t → (u : Bool) → ltb (n.timer + i) b.timeout ≡ u → AlikeEffect (ticks b i (valued 0 n)) (ticks c i (valued 0 k))
    go false e u f = rw (ticks-idle b i n e, ticks-idle c i k (sym runs ∙ e)) (alike-valued a 0 0 refl)
    go true e true f =
        let below = ltb-true _ _ f in
        rw (ticks-counted b i n e below, ticks-counted c i k (sym runs ∙ e) (omega (arith, a.timer, same.timeout)))
        (alike-valued (subst (λ (t : ℕ). Alike (with_timer (n.timer + i) n) (with_timer (t + i) k)) a.timer (alike-timer a (n.timer + i))) 0 0 refl)
    go true e false f =
        let reached = ltb-false _ _ f in
        rw (
          ticks-timeout b i n e v.timer-bound reached,
          ticks-timeout c i k (sym runs ∙ e) w.timer-bound (omega (arith, a.timer, same.timeout)),
        )
        (out e)

-- what is left of a buffer's counts when its first message is removed
removed-counts : (b : Build) (fs es : List ℕ) (u : Buffer)
    → ((remove_first b fs es u).buffer.used ≡ cond (eqb u.count 1 || eqb (u.used + 1) b.per_frame) 0 (u.used + 1))
    × ((remove_first b fs es u).buffer.count ≡ u.count - 1)
unfolding remove_first free_first use_up
removed-counts b fs es u = go (eqb u.count 1 || eqb (u.used + 1) b.per_frame)
  where
    go : (t : Bool) → ((cond t (free_first b fs es u) (use_up fs es u)).buffer.used ≡ cond t 0 (u.used + 1)) × ((cond t (free_first b fs es u) (use_up fs es u)).buffer.count ≡ u.count - 1)
    go true = (refl, refl)
    go false = (refl, refl)

-- the first message of a buffer removed
module _ {b c : Build} (same : SameButFrames b c) {n k : Node} (s : Sound b n) (t : Sound c k) (a : Alike n k) (g : ℕ) (low : 1 ≤ g) (high : g ≤ group_count)
    (e : buffer_holds n g ≡ true) (f : buffer_holds k g ≡ true) where
  abbrev left : Stock
  left = remove_first b n.free n.paging.entered (group_of n g).buffer

  abbrev right : Stock
  right = remove_first c k.free k.paging.entered (group_of k g).buffer

  -- its group
  unbuffered-own : AlikeGroup (group_of (with_stock g left n) g) (group_of (with_stock g right k) g)
  unfolding buffer_holds
  unbuffered-own =
      let x = a.groups g low high in
      let v = (group_of n g).buffer in
      let w = (group_of k g).buffer in
      let p = stock-same g left n (within s g low high) in
      let q = stock-same g right k (within t g low high) in
      let counts = removed-counts b n.free n.paging.entered v in
      let counts' = removed-counts c k.free k.paging.entered w in
      let gone = removed-first (group-good s g low high).buffer (ltb-true 0 v.count e) n.free n.paging.entered in
      let gone' = removed-first (group-good t g low high).buffer (ltb-true 0 w.count f) k.free k.paging.entered in
      let used : cond (eqb v.count 1 || eqb (v.used + 1) b.per_frame) 0 (v.used + 1)
      ≡ cond (eqb w.count 1 || eqb (w.used + 1) c.per_frame) 0 (w.used + 1) = rw (x.count, x.used, same.per_frame) in
      record {
        flags = flags-trans (restocked-flags g left n g) (flags-trans x.flags (flags-sym (restocked-flags g right k g)));
        used = ap (λ (u : Buffer). u.used) p ∙ counts.0 ∙ used ∙ sym (ap (λ (u : Buffer). u.used) q ∙ counts'.0);
        count = ap (λ (u : Buffer). u.count) p ∙ counts.1 ∙ ap (λ (i : ℕ). i - 1) x.count ∙ sym (ap (λ (u : Buffer). u.count) q ∙ counts'.1);
        waits = ap waiting p ∙ gone.waits ∙ ap (drop 1) x.waits ∙ sym (ap waiting q ∙ gone'.waits);
      }

  -- and the others
  unbuffered-other : (h : ℕ) → 1 ≤ h → h ≤ group_count → h ≢ g → AlikeGroup (group_of (with_stock g left n) h) (group_of (with_stock g right k) h)
  unbuffered-other h low' high' other =
      let x = a.groups h low' high' in
      let p = stock-other g h left n low low' other in
      let q = stock-other g h right k low low' other in
      record {
        flags = flags-trans (restocked-flags g left n h) (flags-trans x.flags (flags-sym (restocked-flags g right k h)));
        used = ap (λ (u : Buffer). u.used) p ∙ x.used ∙ sym (ap (λ (u : Buffer). u.used) q);
        count = ap (λ (u : Buffer). u.count) p ∙ x.count ∙ sym (ap (λ (u : Buffer). u.count) q);
        waits = ap waiting p ∙ x.waits ∙ sym (ap waiting q);
      }

  alike-unbuffered : Alike (with_stock g left n) (with_stock g right k)
  unfolding with_stock with_group with_free with_paging
  alike-unbuffered =
      record { running = a.running; timer = a.timer; queue = a.queue; groups = λ h low' high'. go h low' high' (ℕ_discrete h g) }
    where
      go : (h : ℕ) → 1 ≤ h → h ≤ group_count → Dec (h ≡ g) → AlikeGroup (group_of (with_stock g left n) h) (group_of (with_stock g right k) h)
      go h low' high' (yes mine) = rw mine unbuffered-own
      go h low' high' (no other) = unbuffered-other h low' high' other

-- the running group's flags atomic and pending
alike-flagged : {b c : Build} {n k : Node} → Sound b n → Sound c k → Alike n k → 1 ≤ n.running → (x y x' y' : Bool) → x ≡ x' → y ≡ y'
    → Alike (flagged x y n) (flagged x' y' k)
unfolding flagged with_flags
alike-flagged {n = n} {k} s t a low x y x' y' e f =
    let mine = runner-alike a low s.running-bound in
    runner-group s t a low (with_flags x y (group_of n n.running)) (with_flags x' y' (group_of k k.running))
    (record {
      flags = record { atomic = e; pending = f; force = mine.flags.force; revoked = mine.flags.revoked; descriptor = mine.flags.descriptor };
      used = mine.used;
      count = mine.count;
      waits = mine.waits;
    })

-- between the two acts of B, and of N
atomic-sound : {b : Build} {n : Node} → Valid b n → 1 ≤ n.running → Sound b (flagged true (group_of n n.running).pending n)
atomic-sound {b} {n} v low =
    (flagged-ready (valid-ready v) low true (group_of n n.running).pending (λ e. refl) (λ e. e) (λ e. refl) (λ e. refl)).sound

unforced-sound : {b : Build} {n : Node} → Valid b n → 1 ≤ n.running → Sound b (timer_flagged false false n)
unforced-sound v low = (timer-flagged-ready (valid-ready v) low false false (λ e. absurd (false≢true e)) (λ e. absurd (false≢true e))).sound

-- M to L.
module _ {b c : Build} (same : SameButFrames b c) {n k : Node} (v : Valid b n) (w : Valid c k) (a : Alike n k) (low : 1 ≤ n.running) where
  high : n.running ≤ group_count
  high = v.running-bound

  mine : AlikeGroup (group_of n n.running) (group_of k k.running)
  mine = runner-alike a low high

  -- the running group's descriptor
  alike-described : (d d' : List ℕ) → d ≡ d' → Alike (described d n) (described d' k)
  unfolding described with_descriptor
  alike-described d d' e =
      runner-group (valid-sound v) (valid-sound w) a low (with_descriptor d (group_of n n.running)) (with_descriptor d' (group_of k k.running))
      (record {
        flags = record {
          atomic = mine.flags.atomic;
          pending = mine.flags.pending;
          force = mine.flags.force;
          revoked = mine.flags.revoked;
          descriptor = e;
        };
        used = mine.used;
        count = mine.count;
        waits = mine.waits;
      })

  -- a trap where the group is buffered
  alike-extending : (t : ℕ) {n' k' : Node} → Alike n' k' → AlikeEffect (extending t n n') (extending t k k')
  unfolding extending
  alike-extending t e =
      record { node = e; value = refl; trap = ap (λ (u : Bool). cond u t no_trap) (runner-buffered a low high); moved = refl; sent = refl }

  -- D
  alike-removed : Alike (removed b n) (removed c k)
  unfolding removed
  alike-removed = go (buffer_holds n n.running) (buffer_holds k k.running) refl refl (runner-holds a low high)
    where
      stocked : buffer_holds n n.running ≡ true → buffer_holds k k.running ≡ true
          → Alike (with_stock n.running (remove_first b n.free n.paging.entered (group_of n n.running).buffer) n)
          (with_stock k.running (remove_first c k.free k.paging.entered (group_of k k.running).buffer) k)
      stocked e f =
          let f' : buffer_holds k n.running ≡ true = ap (buffer_holds k) a.running ∙ f in
          subst
          (λ (r : ℕ).
          Alike (with_stock n.running (remove_first b n.free n.paging.entered (group_of n n.running).buffer) n)
          (with_stock r (remove_first c k.free k.paging.entered (group_of k r).buffer) k))
          a.running (alike-unbuffered same (valid-sound v) (valid-sound w) a n.running low high e f')

      unqueued : Alike (with_queue (without_first n.running n.queue) n) (with_queue (without_first k.running k.queue) k)
      unqueued =
          subst (λ (q : List Message). Alike (with_queue (without_first n.running n.queue) n) (with_queue q k))
          (ap (λ (r : ℕ). without_first r n.queue) a.running ∙ ap (without_first k.running) a.queue) (alike-queue a (without_first n.running n.queue))

      go : (u x : Bool) → buffer_holds n n.running ≡ u → buffer_holds k k.running ≡ x → buffer_holds n n.running ≡ buffer_holds k k.running
          → Alike (cond u (with_stock n.running (remove_first b n.free n.paging.entered (group_of n n.running).buffer) n) (with_queue (without_first n.running n.queue) n))
          (cond x (with_stock k.running (remove_first c k.free k.paging.entered (group_of k k.running).buffer) k) (with_queue (without_first k.running k.queue) k))
      go true true e f r = stocked e f
      go true false e f r = absurd (true≢false (sym e ∙ r ∙ f))
      go false true e f r = absurd (true≢false (sym f ∙ sym r ∙ e))
      go false false e f r = unqueued

  alike-disposed : Alike (disposed b n) (disposed c k)
  unfolding disposed
  alike-disposed =
      let low' : 1 ≤ k.running = omega (arith, a.running) in
      let runs : 1 ≤ (removed b n).running = omega (arith, removed-running b n) in
      alike-timer (alike-flagged (removed-sound v low) (removed-sound w low') alike-removed runs _ _ _ _ mine.flags.atomic refl) 0

  -- B
  alike-begun : (force : Bool) → Alike (section_begun force n) (section_begun force k)
  unfolding section_begun flagged with_group
  alike-begun force =
      alike-timer-flagged (atomic-sound v low) (atomic-sound w (omega (arith, a.running)))
      (alike-flagged (valid-sound v) (valid-sound w) a low true _ true _ refl mine.flags.pending) low _ _ _ _
      (ap (λ (t : Bool). force || t) mine.flags.force) mine.flags.revoked

  -- N
  alike-ended : Alike (section_ended n) (section_ended k)
  unfolding section_ended timer_flagged with_group
  alike-ended =
      alike-flagged (unforced-sound v low) (unforced-sound w (omega (arith, a.running)))
      (alike-timer-flagged (valid-sound v) (valid-sound w) a low false false false false refl refl) low false _ false _ refl mine.flags.pending

  -- an accepted request
  alike-served : (r : Request) → AlikeEffect (serve b n r) (serve c k r)
  unfolding serve launched
  alike-served poll = alike-valued a _ _ (ap first_length (runner-line a low high))
  alike-served (peek i) = alike-valued a _ _ (ap (λ (l : List Message). first_word l i) (runner-line a low high))
  alike-served dispose = alike-extending dispose_extend alike-disposed
  alike-served (begin_atomic force) = alike-valued (alike-begun force) 0 0 refl
  alike-served end_atomic = alike-extending atomicity_extend alike-ended
  alike-served (describe x) =
      let d = ap (λ (l : List ℕ). l ++ (x ∷ [])) mine.flags.descriptor in
      alike-valued (alike-described _ _ d) _ _ (ap length d)
  alike-served (launch i) =
      let d = mine.flags.descriptor in
      record {
        node = alike-described [] [] refl;
        value = ap length d;
        trap = refl;
        moved = refl;
        sent = ap (λ (r : ℕ). i ∷ r ∷ (group_of n n.running).descriptor) a.running ∙ ap (λ (l : List ℕ). i ∷ k.running ∷ l) d;
      }

  -- and a refused one
  alike-request : (r : Request) → refuse_request n r ≡ refuse_request k r
  unfolding refuse_request
  alike-request poll = refl
  alike-request (peek i) = ap (λ (l : List Message). refuse_peek l i) (runner-line a low high)
  alike-request dispose = ap refuse_dispose (runner-line a low high)
  alike-request (begin_atomic force) = refl
  alike-request end_atomic = ap refuse_end mine.flags.pending
  alike-request (describe x) = ap refuse_describe mine.flags.descriptor
  alike-request (launch i) = ap (λ (l : List ℕ). refuse_launch l i) mine.flags.descriptor

-- Any step.
module _ {b c : Build} (same : SameButFrames b c) {n k : Node} (v : Valid b n) (w : Valid c k) (a : Alike n k) where
  -- an operation is refused alike
  alike-refusal : (op : Operation) → refusal b n op ≡ refusal c k op
  unfolding refusal refuse_arrive
  alike-refusal (arrive g ws) =
      let m : Message = record { group = g; words = ws } in
      let room : leb b.places (length n.queue) ≡ leb c.places (length k.queue) =
      ap (λ (p : ℕ). leb p (length n.queue)) same.places ∙ ap (λ (q : List Message). leb c.places (length q)) a.queue in
      let fits : ltb (page_count b) (pledges b (queued m n)) ≡ ltb (page_count c) (pledges c (queued m k)) =
      ap (λ (p : ℕ). ltb p (pledges b (queued m n))) same.pages ∙ ap (ltb (page_count c)) (alike-pledges (alike-queued a m) same) in
      ap (λ (t : Bool). cond (eqb g 0 || ltb group_count g) bad_group (cond (is_empty ws || ltb word_limit (length ws)) bad_words (cond t queue_full (cond (ltb (page_count b) (pledges b (queued m n))) no_frames accepted)))) room
      ∙ ap (λ (t : Bool). cond (eqb g 0 || ltb group_count g) bad_group (cond (is_empty ws || ltb word_limit (length ws)) bad_words (cond (leb c.places (length k.queue)) queue_full (cond t no_frames accepted)))) fits
  alike-refusal preempt = refl
  alike-refusal (dispatch g) = ap (λ (r : ℕ). refuse_dispatch r g) a.running
  alike-refusal (schedule g) = refl
  alike-refusal (tick i) = refl
  alike-refusal turn = refl
  alike-refusal (user r) = go (ℕ_discrete n.running 0)
    where
      go : Dec (n.running ≡ 0) → cond (eqb n.running 0) nobody_runs (refuse_request n r) ≡ cond (eqb k.running 0) nobody_runs (refuse_request k r)
      go (yes none) = rw (eq-eqb n.running 0 none, eq-eqb k.running 0 (sym a.running ∙ none))
      go (no some) =
          ap (λ (x : ℕ). cond (eqb x 0) nobody_runs (refuse_request n r)) a.running
          ∙ ap (λ (x : ℕ). cond (eqb k.running 0) nobody_runs x) (alike-request same v w a (omega arith) r)
  alike-refusal unknown = refl

  -- or acts alike
  alike-act : (op : Operation) → refusal b n op ≡ 0 → AlikeEffect (act b n op) (act c k op)
  unfolding act refusal preempted
  alike-act (arrive g ws) e = alike-valued (alike-queued a (record { group = g; words = ws })) 0 0 refl
  alike-act preempt e = alike-valued (alike-timer (alike-running a 0) 0) 0 0 refl
  alike-act (dispatch g) e = alike-valued (alike-running a g) 0 0 refl
  alike-act (schedule g) e = alike-valued a 0 0 refl
  alike-act (tick i) e = alike-ticks same v w a i
  alike-act turn e = alike-valued a _ _ (turn-same n k a.running v.running-bound (alike-line a))
  alike-act (user r) e = alike-served same v w a (user-accepted n r e).0 r
  alike-act unknown e = alike-valued a 0 0 refl

-- two steps in a row
alike-row : {s s' t t' : Stepped} → AlikeStepped s s' → AlikeStepped t t' → AlikeStepped (in_arow s t) (in_arow s' t')
unfolding in_arow
alike-row x y =
    record {
      report = λ i.
          record {
            answer = (y.report i).answer;
            value = (y.report i).value;
            trap = (y.report i).trap;
            upcall = (y.report i).upcall;
            moved = (x.report i).moved + (y.report i).moved;
            sent = (y.report i).sent;
          };
      node = y.node;
    }

-- so a step reports the same
alike-step : {b c : Build} → SameButFrames b c → {n : Node} → Valid b n → (op : Operation) {k : Node} → Valid c k → Alike n k
    → AlikeStepped (step b n op) (step c k op)
alike-step {b} {c} same v op w a =
    step-law Goal
    (record {
      refuses = λ n v op r e k w a.
          rw (step-refused c k op r (sym (alike-refusal same v w a op) ∙ e)) (record { report = refl; node = a });
      acts = λ n v op one e k w a.
          let f : refusal c k op ≡ 0 = sym (alike-refusal same v w a op) ∙ e in
          rw (step-accepted c k op one f)
          (alike-finish (act b n op) (act c k op) (act-sound v op e) (act-sound w op f) (alike-act same v w a op e));
      still = λ n v k w a.
          rw (ap (λ (g : ℕ). step c k (schedule g)) a.running ∙ schedule-still w) (record { report = refl; node = a });
      takes = λ n v runs took k w a. rw (schedule-takes c k (λ none. runs (a.running ∙ none)) ∙ sym (step-taken c k)) (took k w a);
      switches = λ n v g other some high took gave k w a.
          let s : AlikeStepped (taken b n) (taken c k) = subst (AlikeStepped (taken b n)) (step-taken c k) (took k w a) in
          let t : AlikeStepped (given b n g) (given c k g) =
          subst (AlikeStepped (given b n g)) (step_given c k g some high) (gave (taken c k).node (taken-valid w) s.node) in
          rw (schedule-switches c k g (λ e. other (e ∙ sym a.running)) some high) (alike-row s t);
    })
    v op _ w a
  where
    Goal : Node → Operation → Stepped → Type 0
    Goal n op s = (k : Node) → Valid c k → Alike n k → AlikeStepped s (step c k op)

-- a run from two such nodes
alike-play : {b c : Build} → SameButFrames b c → (is : List Input) {n k : Node} → Valid b n → Valid c k → Alike n k → (play b n is).events ≡ (play c k is).events
unfolding play
alike-play same [] v w a = refl
alike-play {b} {c} same (i ∷ is) {n} {k} v w a =
    let s = alike-step same v (asked i) w a in
    let rest = alike-play same is (step-valid v (asked i)) (step-valid w (asked i)) s.node in
    λ j. record { runner = a.running j; operation = asked i; report = s.report j } ∷ rest j

-- and power-on makes such nodes
alike-power-on : (b c : Build) → Alike (power_on b) (power_on c)
unfolding power_on group_of
alike-power-on b c =
    record {
      running = refl;
      timer = refl;
      queue = refl;
      groups = λ g low high. record { flags = flags-refl; used = refl; count = refl; waits = refl };
    }

-- where pages are shows in no report
pub paging-unseen : PagingUnseen
unfolding run
paging-unseen =
    record {
      reports = λ b c s t same is. alike-play same is (power-on-valid b s) (power-on-valid c t) (alike-power-on b c);
    }
