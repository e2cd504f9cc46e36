-- What an accepted operation does before settling leaves a sound node in which a group is pending only with a line. A refusal's tests, which
-- all failed, are the bounds that the node needs: an arrival's pledges, a descriptor's length, a group's number. Assumes nothing.
use Prim.Native.Nat.{ℕ, suc, ◌+◌, ◌≤◌, ◌<◌}
use mathlib.Core.Path.{◌≡◌, refl, sym, ap, ◌∙◌}
use mathlib.Core.Logic.{◌≢◌}
use mathlib.Core.Bool.{Bool, true, false, false≢true, cond, ◌||◌}
use mathlib.Core.List.{List, [], ◌∷◌, ◌++◌}
use native.Mathlib.Decide.{ℕ_discrete}
use native.Mathlib.Omega.{arith}
use lib.Dec.{ltb, leb, eqb}
use lib.ListN.{length, drop, length-append, length-drop}
use borrow.Author.Tests.{ltb-true, ltb-false, leb-false, eqb-true, eqb-false}
use Rattle.rules.specs.Lists.{filter, is_empty}
use Rattle.rules.specs.Build.{Build, page_count, group_count, word_limit}
use Rattle.rules.specs.Node.{Message, Group, Node, group_of, with_running, with_timer, with_queue, with_free, with_paging, with_group, with_flags, with_timer_flags, with_descriptor, buffer_holds, timer_runs, is_of, in_buffer, in_queue, line}
use Rattle.rules.specs.Frames.{pledge, Stock, remove_first, with_stock, pledges}
use Rattle.rules.specs.Operation.{Request, poll, peek, dispose, begin_atomic, end_atomic, describe, launch}
use Rattle.rules.specs.Operation.{Operation, arrive, schedule, preempt, dispatch, tick, turn, user, unknown, accepted, nobody_runs, already_runs}
use Rattle.rules.specs.Refusal.{queued, refuse_arrive, refuse_dispatch, refuse_end, refuse_describe, refuse_request, refusal}
use Rattle.rules.specs.Settling.{drain}
use Rattle.rules.specs.Step.{valued, preempted, timer_flagged, revoke, timed_out, ticks, removed, flagged, disposed, section_begun, section_ended, extending, described, launched, serve, act}
use Rattle.rules.specs.Valid.{GoodMessage, GoodGroup, Valid}
use Rattle.rules.specs.Sound.{Sound}
use Rattle.rules.proofs.Steps.SoundLaws.{PendingLines, valid-sound}
use Rattle.rules.proofs.Steps.EveryLaws.{every_append, every_drop}
use Rattle.rules.proofs.Steps.ListLaws.{some-length, filter-drop, some-append}
use Rattle.rules.proofs.Steps.FrameLaws.{held, removed-first, removed-order}
use Rattle.rules.proofs.Steps.NodeLaws.{filled, group-same, group-other, stock-same, stock-other, within, group-good, pledge-le, pledges-le, refronted, sound-timer, requeued, restocked, reflagged, reflagged-line}
use Rattle.rules.proofs.Steps.PagingLaws.{first-entered}
use Rattle.rules.proofs.Steps.SettlingLaws.{timer-line, drain-sound, drain-line, drain-flags, drain-running}
use Rattle.rules.proofs.Steps.LineLaws.{neither, arrive-line, timer-timed, removed-cases, without-running, removed-other, removed-flags, removed-running}
use Rattle.rules.proofs.Steps.TickLaws.{timed, left_over, left-over, Ticked, idle, counting, timeout, ticked-by}

-- an answer that is 0 comes from a test that failed, and from what is asked after it
pub failed : (t : Bool) (r x : ℕ) → cond t (suc r) x ≡ 0 → (t ≡ false) × (x ≡ 0)
failed true r x e = absurd (omega arith)
failed false r x e = (refl, e)

-- an accepted arrival keeps the bounds
record Arrives (b : Build) (n : Node) (m : Message) : Type 0 where
  good : GoodMessage m
  place : length n.queue < b.places
  pledged : pledges b (queued m n) ≤ page_count b

arrives : (b : Build) (n : Node) (m : Message) → refuse_arrive b n m ≡ 0 → Arrives b n m
unfolding refuse_arrive
arrives b n m e =
    let group = failed (eqb m.group 0 || ltb group_count m.group) _ _ e in
    let words = failed (is_empty m.words || ltb word_limit (length m.words)) _ _ group.1 in
    let queue = failed (leb b.places (length n.queue)) _ _ words.1 in
    let frames = failed (ltb (page_count b) (pledges b (queued m n))) _ _ queue.1 in
    let g = neither (eqb m.group 0) (ltb group_count m.group) group.0 in
    let w = neither (is_empty m.words) (ltb word_limit (length m.words)) words.0 in
    let nonzero : m.group ≢ 0 = eqb-false m.group 0 g.0 in
    record {
      good = record {
        group-low = omega arith;
        group-high = ltb-false group_count m.group g.1;
        some_words = some-length m.words w.0;
        few_words = ltb-false word_limit (length m.words) w.1;
      };
      place = leb-false b.places (length n.queue) queue.0;
      pledged = ltb-false (page_count b) (pledges b (queued m n)) frames.0;
    }

-- so it is sound
arrive-sound : {b : Build} {n : Node} → Sound b n → (m : Message) → Arrives b n m → Sound b (queued m n)
unfolding queued
arrive-sound {b} {n} s m a =
    requeued s (n.queue ++ (m ∷ [])) (omega (arith, length-append n.queue (m ∷ []), a.place))
    ((every_append GoodMessage n.queue (m ∷ [])).1 (s.queue-good, (a.good, tt))) a.pledged

-- and every line is at least what it was
arrive-pending : (n : Node) (m : Message) → PendingLines n → PendingLines (queued m n)
unfolding queued with_queue group_of
arrive-pending n m p g low high pending = rw (arrive-line m n g) (some-append (line n g) (filter (is_of g) (m ∷ [])) (p g low high pending))

-- flags and a descriptor exchanged: pending groups have lines, if the exchanged one has and the others had
pub reflagged-pending : {b : Build} {n : Node} → Sound b n → (g : ℕ) → 1 ≤ g → g ≤ group_count → (G : Group) → G.buffer ≡ (group_of n g).buffer
    → (G.pending ≡ true → is_empty (line n g) ≡ false)
    → ((h : ℕ) → 1 ≤ h → h ≤ group_count → h ≢ g → (group_of n h).pending ≡ true → is_empty (line n h) ≡ false)
    → PendingLines (with_group g G n)
reflagged-pending {b} {n} s g low high G same own others h low' high' pending = rw (reflagged-line n g G same h) (go (ℕ_discrete h g))
  where
    go : Dec (h ≡ g) → is_empty (line n h) ≡ false
    go (yes mine) = rw mine (own (sym (ap (λ (K : Group). K.pending) (group-same n g G (within s g low high))) ∙ rw mine at pending))
    go (no other) = others h low' high' other (sym (ap (λ (K : Group). K.pending) (group-other n g h G low low' other)) ∙ pending)

-- a node before settling: sound, and pending only with a line
pub record Ready (b : Build) (n : Node) : Type 0 where
  pub sound : Sound b n
  pub pending : PendingLines n

-- a node is ready
pub valid-ready : {b : Build} {n : Node} → Valid b n → Ready b n
valid-ready v = record { sound = valid-sound v; pending = v.pending-line }

-- a buffer exchanged for one with no more messages, and no group has more
stock-fewer : {b : Build} {n : Node} → Sound b n → (g : ℕ) → 1 ≤ g → g ≤ group_count → (t : Stock)
    → t.buffer.used + t.buffer.count ≤ filled n g → (h : ℕ) → 1 ≤ h → filled (with_stock g t n) h ≤ filled n h
stock-fewer {b} {n} s g low high t less h low' = go (ℕ_discrete h g)
  where
    go : Dec (h ≡ g) → filled (with_stock g t n) h ≤ filled n h
    go (yes mine) = rw (mine, stock-same g t n (within s g low high)) less
    go (no other) = rw (stock-other g h t n low low' other) (omega arith)

-- the running group's first message removed from its buffer
unbuffered-sound : {b : Build} {n : Node} → Valid b n → 1 ≤ n.running → buffer_holds n n.running ≡ true
    → Sound b (with_stock n.running (remove_first b n.free n.paging.entered (group_of n n.running).buffer) n)
unfolding with_queue with_stock with_group with_free with_paging buffer_holds in_queue
unbuffered-sound {b} {n} v low e =
    let s = valid-sound v in
    let r = n.running in
    let high = s.running-bound in
    let w = (group_of n r).buffer in
    let t = remove_first b n.free n.paging.entered w in
    let gone = removed-first (group-good s r low high).buffer (ltb-true 0 w.count e) n.free n.paging.entered in
    let each : (h : ℕ) → 1 ≤ h → h ≤ group_count → pledge b (with_stock r t n) h ≤ pledge b n h =
    λ h low' high'. pledge-le s (with_stock r t n) h low' high' (omega (arith, stock-fewer s r low high t gone.less h low')) in
    let good = (group-good s r low high).buffer in
    let once = first-entered s r low high (held good (ltb-true 0 w.count e)) (v.runner-resident low) in
    restocked s r low high t n.queue gone.traded (removed-order b n.free n.paging.entered w once) s.queue-good (omega arith) (pledges-le b n (with_stock r t n) each)

-- the first message of the queue removed
unqueued-sound : {b : Build} {n : Node} → Sound b n → Sound b (with_queue (drop 1 n.queue) n)
unfolding with_queue group_of in_queue
unqueued-sound {b} {n} s =
    let q = drop 1 n.queue in
    let each : (h : ℕ) → 1 ≤ h → h ≤ group_count → pledge b (with_queue q n) h ≤ pledge b n h =
    λ h low high. pledge-le s (with_queue q n) h low high (omega (arith, filter-drop (is_of h) 1 n.queue)) in
    requeued s q (omega (arith, s.queue-length, length-drop 1 n.queue)) (every_drop GoodMessage 1 n.queue s.queue-good)
    (omega (arith, s.pledged, pledges-le b n (with_queue q n) each))

-- either way
pub removed-sound : {b : Build} {n : Node} → Valid b n → 1 ≤ n.running → Sound b (removed b n)
removed-sound {b} {n} v low =
    let s = valid-sound v in
    removed-cases (Sound b) b n (unbuffered-sound v low) (λ e. rw (without-running v) (unqueued-sound s))

-- a timer within bounds keeps a node ready
ready-timer : {b : Build} {n : Node} → Ready b n → (t : ℕ) → t < b.timeout → Ready b (with_timer t n)
unfolding with_timer group_of
ready-timer {b} {n} y t below =
    record {
      sound = sound-timer y.sound t below;
      pending = λ g low high pending. rw (timer-line t n g) (y.pending g low high pending);
    }

-- so do a group's flags or descriptor exchanged, where pending goes on for none
ready-group : {b : Build} {n : Node} → Ready b n → (g : ℕ) → 1 ≤ g → g ≤ group_count → (G : Group) → GoodGroup b G → G.buffer ≡ (group_of n g).buffer
    → (G.pending ≡ true → (group_of n g).pending ≡ true) → Ready b (with_group g G n)
ready-group {b} {n} y g low high G good same pending =
    record {
      sound = reflagged y.sound g low high G good same;
      pending =
          reflagged-pending y.sound g low high G same (λ e. y.pending g low high (pending e)) (λ h low' high' other e. y.pending h low' high' e);
    }

module _ {b : Build} {n : Node} (y : Ready b n) (low : 1 ≤ n.running) where
  -- so do the running group's flags atomic and pending, where it stays atomic if it is pending, revoked or has force on
  pub flagged-ready : (a p : Bool) → (p ≡ true → a ≡ true) → (p ≡ true → (group_of n n.running).pending ≡ true)
      → ((group_of n n.running).force ≡ true → a ≡ true) → ((group_of n n.running).revoked ≡ true → a ≡ true) → Ready b (flagged a p n)
  unfolding flagged with_flags
  flagged-ready a p atomic pending force revoked =
      let G = group-good y.sound n.running low y.sound.running-bound in
      ready-group y n.running low y.sound.running-bound (with_flags a p (group_of n n.running))
      (record { buffer = G.buffer; descriptor = G.descriptor; pending-atomic = atomic; force-atomic = force; revoked-atomic = revoked }) refl pending

  -- and its flags force and revoked, where it is atomic if one of them is on
  pub timer-flagged-ready : (f r : Bool) → (f ≡ true → (group_of n n.running).atomic ≡ true) → (r ≡ true → (group_of n n.running).atomic ≡ true)
      → Ready b (timer_flagged f r n)
  unfolding timer_flagged with_timer_flags
  timer-flagged-ready f r force revoked =
      let G = group-good y.sound n.running low y.sound.running-bound in
      ready-group y n.running low y.sound.running-bound (with_timer_flags f r (group_of n n.running))
      (record { buffer = G.buffer; descriptor = G.descriptor; pending-atomic = G.pending-atomic; force-atomic = force; revoked-atomic = revoked }) refl
      (λ e. e)

  -- the running group as it then is
  flagged-runner : (a p : Bool) → group_of (flagged a p n) n.running ≡ with_flags a p (group_of n n.running)
  unfolding flagged
  flagged-runner a p = group-same n n.running (with_flags a p (group_of n n.running)) (within y.sound n.running low y.sound.running-bound)

  timer-flagged-runner : (f r : Bool) → group_of (timer_flagged f r n) n.running ≡ with_timer_flags f r (group_of n n.running)
  unfolding timer_flagged
  timer-flagged-runner f r =
      group-same n n.running (with_timer_flags f r (group_of n n.running)) (within y.sound n.running low y.sound.running-bound)

-- B
begun-ready : {b : Build} {n : Node} → Ready b n → 1 ≤ n.running → (force : Bool) → Ready b (section_begun force n)
unfolding section_begun flagged with_group with_flags
begun-ready {b} {n} y low force =
    let G = group_of n n.running in
    let on : (group_of (flagged true G.pending n) n.running).atomic ≡ true = ap (λ (K : Group). K.atomic) (flagged-runner y low true G.pending) in
    timer-flagged-ready {n = flagged true G.pending n} (flagged-ready y low true G.pending (λ e. refl) (λ e. e) (λ e. refl) (λ e. refl)) low
    (force || G.force) G.revoked (λ e. on) (λ e. on)

-- N, where the group is not pending
ended-ready : {b : Build} {n : Node} → Ready b n → 1 ≤ n.running → (group_of n n.running).pending ≡ false → Ready b (section_ended n)
unfolding section_ended timer_flagged with_group with_timer_flags
ended-ready {b} {n} y low off =
    let k = timer_flagged false false n in
    let G : group_of k n.running ≡ with_timer_flags false false (group_of n n.running) = timer-flagged-runner y low false false in
    let unforced : (group_of k n.running).force ≡ false = ap (λ (K : Group). K.force) G in
    let unrevoked : (group_of k n.running).revoked ≡ false = ap (λ (K : Group). K.revoked) G in
    let pending : (group_of k n.running).pending ≡ (group_of n n.running).pending = ap (λ (K : Group). K.pending) G in
    flagged-ready {n = k} (timer-flagged-ready y low false false (λ e. absurd (false≢true e)) (λ e. absurd (false≢true e))) low
    false (group_of n n.running).pending (λ e. cc) (λ e. pending ∙ e) (λ e. cc) (λ e. cc)

-- an accepted request has a runner
pub user-accepted : (n : Node) (r : Request) → cond (eqb n.running 0) nobody_runs (refuse_request n r) ≡ 0 → (1 ≤ n.running) × (refuse_request n r ≡ 0)
user-accepted n r e =
    let runs = failed (eqb n.running 0) _ _ e in
    let nonzero : n.running ≢ 0 = eqb-false n.running 0 runs.0 in
    (omega arith, runs.1)

-- an accepted I names a group, and nobody runs
pub record Dispatched (n : Node) (g : ℕ) : Type 0 where
  pub low : 1 ≤ g
  pub high : g ≤ group_count
  pub nobody : n.running ≡ 0

pub dispatched : (n : Node) (g : ℕ) → refuse_dispatch n.running g ≡ 0 → Dispatched n g
unfolding refuse_dispatch
dispatched n g e =
    let group = failed (eqb g 0 || ltb group_count g) _ _ e in
    let bounds = neither (eqb g 0) (ltb group_count g) group.0 in
    let nonzero : g ≢ 0 = eqb-false g 0 bounds.0 in
    record { low = omega arith; high = ltb-false group_count g bounds.1; nobody = eqb-true n.running 0 (passed (eqb n.running 0) group.1) }
  where
    passed : (t : Bool) → cond t accepted already_runs ≡ 0 → t ≡ true
    passed true e = refl
    passed false e = absurd (omega arith)

module _ {b : Build} {n : Node} (v : Valid b n) where
  -- the running group's descriptor
  described-ready : 1 ≤ n.running → (d : List ℕ) → length d ≤ word_limit → Ready b (described d n)
  unfolding described with_descriptor
  described-ready low d short =
      let G = group-good (valid-sound v) n.running low v.running-bound in
      ready-group (valid-ready v) n.running low v.running-bound (with_descriptor d (group_of n n.running))
      (record {
        buffer = G.buffer;
        descriptor = short;
        pending-atomic = G.pending-atomic;
        force-atomic = G.force-atomic;
        revoked-atomic = G.revoked-atomic;
      })
      refl (λ e. e)

  -- its first message removed
  disposed-ready : 1 ≤ n.running → Ready b (disposed b n)
  unfolding disposed flagged with_flags
  disposed-ready low =
      let n' = removed b n in
      let s = removed-sound v low in
      let low' : 1 ≤ n'.running = rw (removed-running b n) low in
      let G = with_flags (group_of n n.running).atomic false (group_of n' n'.running) in
      let old = group-good s n'.running low' s.running-bound in
      let same : (group_of n n.running).atomic ≡ (group_of n' n'.running).atomic =
      sym (removed-flags b n n.running).atomic ∙ ap (λ (g : ℕ). (group_of n' g).atomic) (sym (removed-running b n)) in
      let good : GoodGroup b G =
      record {
        buffer = old.buffer;
        descriptor = old.descriptor;
        pending-atomic = λ e. absurd (false≢true e);
        force-atomic = λ e. same ∙ old.force-atomic e;
        revoked-atomic = λ e. same ∙ old.revoked-atomic e;
      } in
      let others : (h : ℕ) → 1 ≤ h → h ≤ group_count → h ≢ n'.running → (group_of n' h).pending ≡ true → is_empty (line n' h) ≡ false =
      λ h low'' high other e.
      rw (removed-other b n low h low'' (λ mine. other (mine ∙ sym (removed-running b n))))
      (v.pending-line h low'' high (sym (removed-flags b n h).pending ∙ e)) in
      ready-timer {n = with_group n'.running G n'}
      (record {
        sound = reflagged s n'.running low' s.running-bound G good refl;
        pending = reflagged-pending s n'.running low' s.running-bound G refl (λ e. absurd (false≢true e)) others;
      })
      0 (omega (arith, v.timer-bound))

  -- the processor taken or given, and the timer set
  pub handed-ready : (g t : ℕ) → g ≤ group_count → t < b.timeout → Ready b (with_timer t (with_running g n))
  unfolding with_timer with_running with_queue group_of line in_buffer in_queue
  handed-ready g t high below =
      record {
        sound = refronted (valid-sound v) g t n.queue high below v.queue-length v.queue-good v.pledged;
        pending = v.pending-line;
      }

  -- the whole queue drained
  drained-ready : Ready b (drain b n.queue n)
  unfolding with_queue
  drained-ready =
      record {
        sound = drain-sound n.queue n (valid-sound v);
        pending = λ g low high e.
            rw (drain-line n.queue n (valid-sound v) g low high) (v.pending-line g low high (sym (drain-flags b n.queue n g).pending ∙ e));
      }

  -- and the running group revoked
  revoked-ready : timer_runs n ≡ true → Ready b (revoke (drain b n.queue n))
  unfolding revoke
  revoked-ready runs =
      let d = drain b n.queue n in
      let t = timer-timed v runs in
      let same = drain-running b n.queue n in
      let atomic : (group_of d d.running).atomic ≡ true =
      ap (λ (g : ℕ). (group_of d g).atomic) same ∙ (drain-flags b n.queue n n.running).atomic ∙ t.atomic in
      timer-flagged-ready drained-ready (rw same t.runs) (group_of d d.running).force true (λ e. atomic) (λ e. atomic)

  -- ticks
  ticks-ready : (k : ℕ) → Ready b (ticks b k (valued 0 n)).node
  unfolding valued timed timed_out with_timer
  ticks-ready k = go (ticked-by v k)
    where
      go : Ticked b k n → Ready b (ticks b k (valued 0 n)).node
      go (idle none e) = rw e (valid-ready v)
      go (counting some below e) = rw e (ready-timer (valid-ready v) (n.timer + k) below)
      go (timeout runs e) = rw e (ready-timer {n = revoke (drain b n.queue n)} (revoked-ready runs) (left_over b k n) (left-over v k))

  -- an accepted request
  serve-ready : 1 ≤ n.running → (r : Request) → refuse_request n r ≡ 0 → Ready b (serve b n r).node
  unfolding serve valued extending launched refuse_request refuse_end refuse_describe
  serve-ready low poll e = valid-ready v
  serve-ready low (peek i) e = valid-ready v
  serve-ready low dispose e = disposed-ready low
  serve-ready low (begin_atomic force) e = begun-ready (valid-ready v) low force
  serve-ready low end_atomic e =
      ended-ready (valid-ready v) low (failed (group_of n n.running).pending _ _ e).0
  serve-ready low (describe w) e =
      let d = (group_of n n.running).descriptor in
      let room = leb-false word_limit (length d) (failed (leb word_limit (length d)) _ _ e).0 in
      described-ready low (d ++ (w ∷ [])) (omega (arith, length-append d (w ∷ [])))
  serve-ready low (launch k) e = described-ready low [] (omega arith)

  -- an accepted operation
  pub act-ready : (op : Operation) → refusal b n op ≡ 0 → Ready b (act b n op).node
  unfolding act refusal valued preempted with_timer with_running
  act-ready (arrive g ws) e =
      let m : Message = record { group = g; words = ws } in
      record { sound = arrive-sound (valid-sound v) m (arrives b n m e); pending = arrive-pending n m v.pending-line }
  act-ready preempt e = handed-ready 0 0 (omega arith) (omega (arith, v.timer-bound))
  act-ready (dispatch g) e = handed-ready g n.timer (dispatched n g e).high v.timer-bound
  act-ready (schedule g) e = valid-ready v
  act-ready (tick k) e = ticks-ready k
  act-ready turn e = valid-ready v
  act-ready (user r) e =
      let runs = user-accepted n r e in
      serve-ready runs.0 r runs.1
  act-ready unknown e = valid-ready v
