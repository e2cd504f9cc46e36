-- What arrivals and disposals do to lines. An arrival joins the end of one line. A disposal takes the first of the running group's line: the
-- buffer's first where that holds a message, else the queue's head, which is the group's since a head that stays is the running group's.
-- Assumes nothing.
use Prim.Native.Nat.{ℕ, ◌≤◌}
use mathlib.Core.Path.{◌≡◌, refl, sym, subst, ap, ◌∙◌}
use mathlib.Core.Logic.{◌≢◌}
use mathlib.Core.Bool.{Bool, true, false, true≢false, cond, not, ◌&&◌, ◌||◌, and-eq-true_iff}
use mathlib.Core.List.{List, [], ◌∷◌, ◌++◌, map, append_assoc}
use native.Mathlib.Decide.{ℕ_discrete}
use native.Mathlib.Omega.{arith}
use lib.Dec.{eqb}
use lib.ListN.{length, take, drop, length-drop, length-take, length-map}
use lib.Seq.{drop-append-le}
use borrow.Author.Tests.{ltb-true, ltb-false, eqb-true, eqb-false, eq-eqb, ne_eqb, not-true, not-false}
use Rattle.rules.specs.Lists.{Every, filter, is_empty}
use Rattle.rules.specs.Build.{Build, group_count}
use Rattle.rules.specs.Node.{Message, Place, Buffer, Node, group_of, with_queue, with_free, with_paging, with_group, buffer_holds, buffered, forced, timer_runs, message_of, waiting, is_of, in_buffer, in_queue, line}
use Rattle.rules.specs.Frames.{remove_first, with_stock}
use Rattle.rules.specs.Refusal.{queued}
use Rattle.rules.specs.Settling.{may_stay}
use Rattle.rules.specs.Step.{without_first, removed}
use Rattle.rules.specs.Valid.{GoodMessage, Valid}
use Rattle.rules.specs.Sound.{Sound}
use Rattle.rules.proofs.Steps.SoundLaws.{SameFlags, flags-refl, valid-sound}
use Rattle.rules.proofs.Steps.ListLaws.{some-append, length_some, empty-none, filter-pass, filter-fail, filter-tail, filter-append, map-drop}
use Rattle.rules.proofs.Steps.FrameLaws.{fits, removed-first}
use Rattle.rules.proofs.Steps.NodeLaws.{is-of, not-of, stock-same, stock-other, within, group-good, line_same, restocked-flags}
use Rattle.rules.proofs.Steps.SettlingLaws.{runs-cases}

-- neither of two tests passes
pub neither : (t u : Bool) → t || u ≡ false → (t ≡ false) × (u ≡ false)
neither true u e = absurd (true≢false e)
neither false u e = (refl, e)

-- what holds of both holds of the one that a test picks
pub either : {A : Type 0} (P : A → Type 0) (t : Bool) (x y : A) → P x → P y → P (cond t x y)
either P true x y yes' no' = yes'
either P false x y yes' no' = no'

-- an arrival joins the end of its group's line
pub arrive-line : (m : Message) (n : Node) (g : ℕ) → line (queued m n) g ≡ line n g ++ filter (is_of g) (m ∷ [])
unfolding line queued with_queue in_buffer in_queue group_of
arrive-line m n g =
    ap (λ (ms : List Message). in_buffer n g ++ ms) (filter-append (is_of g) n.queue (m ∷ []))
    ∙ sym (append_assoc (in_buffer n g) (in_queue n g) (filter (is_of g) (m ∷ [])))

-- a head that stays is the running group's, and that is direct
pub stays : (n : Node) (m : Message) → may_stay n m ≡ true → (m.group ≡ n.running) × (buffered n n.running ≡ false)
unfolding may_stay
stays n m e =
    let tests = (and-eq-true_iff (eqb m.group n.running) (not (buffered n m.group))).0 e in
    let same = eqb-true m.group n.running tests.0 in
    (same, rw same at (not-true (buffered n m.group) tests.1))

-- where nobody runs the queue is empty
pub nobody-empty : {b : Build} {n : Node} → Valid b n → n.running ≡ 0 → n.queue ≡ []
nobody-empty {b} {n} v nobody = go n.queue refl v.queue-good
  where
    go : (q : List Message) → n.queue ≡ q → Every GoodMessage q → q ≡ []
    go [] e good = refl
    go (m ∷ q) e good = absurd (omega (arith, good.0.group-low, (stays n m (v.head-stays m q e)).0))

-- a running group that is buffered meets an empty queue
pub buffered-empty : {b : Build} {n : Node} → Valid b n → buffered n n.running ≡ true → n.queue ≡ []
buffered-empty {b} {n} v yes' = go n.queue refl
  where
    go : (q : List Message) → n.queue ≡ q → n.queue ≡ []
    go [] e = e
    go (m ∷ q) e = let direct = (stays n m (v.head-stays m q e)).1 in cc

-- a direct group's buffer holds nothing
pub direct-holds : (n : Node) (g : ℕ) → buffered n g ≡ false → buffer_holds n g ≡ false
unfolding buffered
direct-holds n g direct = (neither (buffer_holds n g) (group_of n g).revoked direct).0

-- a group whose buffer holds nothing has its line in the queue
pub direct-line : (n : Node) (g : ℕ) → buffer_holds n g ≡ false → line n g ≡ in_queue n g
unfolding buffer_holds line in_buffer waiting
direct-line n g direct =
    let none : (group_of n g).buffer.count ≡ 0 = omega (arith, ltb-false 0 (group_of n g).buffer.count direct) in
    rw none

-- a group with a buffered message has a line
pub line-buffered : {b : Build} {n : Node} → Sound b n → (g : ℕ) → 1 ≤ g → g ≤ group_count → 1 ≤ (group_of n g).buffer.count → is_empty (line n g) ≡ false
unfolding line in_buffer waiting
line-buffered {n = n} s g low high some =
    let v = (group_of n g).buffer in
    let ms = map (message_of g) (take v.count (drop v.used v.places)) in
    let front : 1 ≤ length ms = simp (length-map, length-take, length-drop) (omega (arith, fits (group-good s g low high).buffer)) in
    some-append ms (in_queue n g) (length_some ms front)

-- a direct group has no message in its buffer
pub direct-none : (n : Node) (g : ℕ) → buffered n g ≡ false → (group_of n g).buffer.count ≡ 0
unfolding buffer_holds
direct-none n g direct = omega (arith, ltb-false 0 (group_of n g).buffer.count (direct-holds n g direct))

-- a running group that is buffered is atomic
pub buffered-atomic : {b : Build} {n : Node} → Valid b n → 1 ≤ n.running → buffered n n.running ≡ true → (group_of n n.running).atomic ≡ true
unfolding buffered buffer_holds
buffered-atomic {b} {n} v low e = go (buffer_holds n n.running) refl
  where
    s : Sound b n
    s = valid-sound v

    go : (t : Bool) → buffer_holds n n.running ≡ t → (group_of n n.running).atomic ≡ true
    go true holds = v.running-atomic low (line-buffered s n.running low v.running-bound (ltb-true 0 (group_of n n.running).buffer.count holds))
    go false none = (group-good s n.running low v.running-bound).revoked-atomic (sym (ap (λ (t : Bool). t || (group_of n n.running).revoked) none) ∙ e)

-- a message of the running group may stay where its buffer holds none and it is not revoked
pub may-stay : (n : Node) (x : Message) → x.group ≡ n.running → (group_of n n.running).buffer.count ≡ 0 → (group_of n n.running).revoked ≡ false
    → may_stay n x ≡ true
unfolding may_stay buffered buffer_holds
may-stay n x same none off = rw (same, eq-eqb n.running n.running refl, none, off)

-- a running group whose buffer holds nothing and that has a line has the queue's head
pub direct-head : {b : Build} {n : Node} → Valid b n → buffer_holds n n.running ≡ false → is_empty (line n n.running) ≡ false
    → (m : Message) × (q : List Message) × (n.queue ≡ m ∷ q) × (m.group ≡ n.running)
unfolding in_queue
direct-head {b} {n} v direct some = go n.queue refl (rw (direct-line n n.running direct) at some)
  where
    go : (q : List Message) → n.queue ≡ q → is_empty (filter (is_of n.running) q) ≡ false
        → (m : Message) × (q : List Message) × (n.queue ≡ m ∷ q) × (m.group ≡ n.running)
    go [] e some = absurd (true≢false some)
    go (m ∷ q) e some = (m, q, e, (stays n m (v.head-stays m q e)).0)

-- a running group with a line is buffered exactly where its buffer holds a message
pub buffered-holds : {b : Build} {n : Node} → Valid b n → is_empty (line n n.running) ≡ false → buffered n n.running ≡ buffer_holds n n.running
buffered-holds {b} {n} v some = go (buffer_holds n n.running) refl
  where
    go : (t : Bool) → buffer_holds n n.running ≡ t → buffered n n.running ≡ buffer_holds n n.running
    go true e = unfold buffered in rw e
    go false e =
        let head = direct-head v e some in
        (stays n head.0 (v.head-stays head.0 head.1 head.2)).1 ∙ sym e

-- where the timer runs, a group runs, and it is atomic: the queue's head is its own, or it has force on
pub record Timed (n : Node) : Type 0 where
  pub runs : 1 ≤ n.running
  pub atomic : (group_of n n.running).atomic ≡ true

-- what is asked where a forced timer runs
forced-tests : (n : Node) → forced n ≡ true → not (eqb n.running 0) && ((group_of n n.running).force && (group_of n n.running).atomic) ≡ true
unfolding forced
forced-tests n e = e

pub timer-timed : {b : Build} {n : Node} → Valid b n → timer_runs n ≡ true → Timed n
timer-timed {b} {n} v ticks = runs-cases (Timed n) n ticks (λ some. queued' n.queue refl some) forced'
  where
    r : ℕ
    r = n.running

    queued' : (q : List Message) → n.queue ≡ q → is_empty n.queue ≡ false → Timed n
    queued' [] e some = absurd (true≢false (sym (ap is_empty e) ∙ some))
    queued' (m ∷ q) e some =
        let head = stays n m (v.head-stays m q e) in
        let good : GoodMessage m = (subst (Every GoodMessage) e v.queue-good).0 in
        let low : 1 ≤ r = subst (λ (g : ℕ). 1 ≤ g) head.0 good.group-low in
        let own : in_queue n r ≡ m ∷ filter (is_of r) q =
        unfold in_queue in ap (filter (is_of r)) e ∙ filter-pass (is_of r) m q (is-of r m head.0) in
        let waits : is_empty (line n r) ≡ false = ap is_empty (direct-line n r (direct-holds n r head.1) ∙ own) in
        record { runs = low; atomic = v.running-atomic low waits }

    forced' : forced n ≡ true → Timed n
    forced' e =
        let tests = (and-eq-true_iff (not (eqb r 0)) ((group_of n r).force && (group_of n r).atomic)).0 (forced-tests n e) in
        let nonzero : r ≢ 0 = eqb-false r 0 (not-true (eqb r 0) tests.0) in
        record { runs = omega arith; atomic = ((and-eq-true_iff (group_of n r).force (group_of n r).atomic).0 tests.1).1 }

-- where it does not run, it is 0
pub timer-rests : {b : Build} {n : Node} → Valid b n → timer_runs n ≡ false → n.timer ≡ 0
unfolding timer_runs
timer-rests {b} {n} v rests =
    let t = neither (not (is_empty n.queue)) (forced n) rests in
    v.timer-idle (empty-none n.queue (not-false (is_empty n.queue) t.0)) t.1

-- nor does it where nobody runs
pub nobody-timer : {b : Build} {n : Node} → Valid b n → n.running ≡ 0 → n.timer ≡ 0
unfolding forced
nobody-timer {b} {n} v nobody = v.timer-idle (nobody-empty v nobody) (rw nobody refl)

-- a disposal takes from the buffer where that holds a message, else from the queue
pub removed-cases : (P : Node → Type 0) (b : Build) (n : Node)
    → (buffer_holds n n.running ≡ true → P (with_stock n.running (remove_first b n.free n.paging.entered (group_of n n.running).buffer) n))
    → (buffer_holds n n.running ≡ false → P (with_queue (without_first n.running n.queue) n)) → P (removed b n)
unfolding removed
removed-cases P b n buffer queue = go (buffer_holds n n.running) refl
  where
    go : (t : Bool) → buffer_holds n n.running ≡ t
        → P (cond t
        (with_stock n.running (remove_first b n.free n.paging.entered (group_of n n.running).buffer) n)
        (with_queue (without_first n.running n.queue) n))
    go true e = buffer e
    go false e = queue e

-- flags and descriptors stay
pub removed-flags : (b : Build) (n : Node) (g : ℕ) → SameFlags (group_of (removed b n) g) (group_of n g)
unfolding group_of with_queue
removed-flags b n g =
    removed-cases (λ r. SameFlags (group_of r g) (group_of n g)) b n
    (λ e. restocked-flags n.running (remove_first b n.free n.paging.entered (group_of n n.running).buffer) n g) (λ e. flags-refl)

-- and so does the running group
pub removed-running : (b : Build) (n : Node) → (removed b n).running ≡ n.running
unfolding with_stock with_group with_free with_paging with_queue
removed-running b n = removed-cases (λ r. r.running ≡ n.running) b n (λ e. refl) (λ e. refl)

-- the queue stays where the buffer holds a message
pub removed-queue-buffered : (b : Build) (n : Node) → buffer_holds n n.running ≡ true → (removed b n).queue ≡ n.queue
unfolding with_stock with_group with_free with_paging
removed-queue-buffered b n e = removed-cases (λ r. r.queue ≡ n.queue) b n (λ e'. refl) (λ e'. cc)

-- a queue without the first message of a group: the head where it is the group's
without-head : (g : ℕ) (m : Message) (q : List Message) → m.group ≡ g → without_first g (m ∷ q) ≡ q
unfolding without_first is_of
without-head g m q same =
    ap (λ (t : Bool). elim t as (λ u. List Message) [ true ↦ q | false ↦ m ∷ without_first g q ]) (eq-eqb m.group g same)

-- without a head that is not
without-later : (g : ℕ) (m : Message) (q : List Message) → m.group ≢ g → without_first g (m ∷ q) ≡ m ∷ without_first g q
unfolding without_first is_of
without-later g m q other =
    ap (λ (t : Bool). elim t as (λ u. List Message) [ true ↦ q | false ↦ m ∷ without_first g q ]) (ne_eqb m.group g other)

-- of the group it lacks the first, of any other nothing
without-own : (g : ℕ) (q : List Message) → filter (is_of g) (without_first g q) ≡ drop 1 (filter (is_of g) q)
unfolding without_first
without-own g [] = refl
without-own g (m ∷ q) = go (ℕ_discrete m.group g) (without-own g q)
  where
    go : Dec (m.group ≡ g) → filter (is_of g) (without_first g q) ≡ drop 1 (filter (is_of g) q)
        → filter (is_of g) (without_first g (m ∷ q)) ≡ drop 1 (filter (is_of g) (m ∷ q))
    go (yes same) later = ap (filter (is_of g)) (without-head g m q same) ∙ ap (drop 1) (sym (filter-pass (is_of g) m q (is-of g m same)))
    go (no other) later =
        ap (filter (is_of g)) (without-later g m q other)
        ∙ filter-fail (is_of g) m (without_first g q) (not-of g m other)
        ∙ later
        ∙ ap (drop 1) (sym (filter-fail (is_of g) m q (not-of g m other)))

without_other : (g h : ℕ) → h ≢ g → (q : List Message) → filter (is_of h) (without_first g q) ≡ filter (is_of h) q
unfolding without_first
without_other g h other [] = refl
without_other g h other (m ∷ q) = go (ℕ_discrete m.group g) (without_other g h other q)
  where
    go : Dec (m.group ≡ g) → filter (is_of h) (without_first g q) ≡ filter (is_of h) q
        → filter (is_of h) (without_first g (m ∷ q)) ≡ filter (is_of h) (m ∷ q)
    go (yes same) later =
        ap (filter (is_of h)) (without-head g m q same) ∙ sym (filter-fail (is_of h) m q (not-of h m (λ mine. other (sym mine ∙ same))))
    go (no later_first) later = ap (filter (is_of h)) (without-later g m q later_first) ∙ filter-tail (is_of h) m (without_first g q) q later

-- a queue without the running group's first message has lost its head
pub without-running : {b : Build} {n : Node} → Valid b n → without_first n.running n.queue ≡ drop 1 n.queue
unfolding without_first
without-running {b} {n} v = go n.queue refl
  where
    go : (q : List Message) → n.queue ≡ q → without_first n.running q ≡ drop 1 q
    go [] same = refl
    go (m ∷ q) same = without-head n.running m q (stays n m (v.head-stays m q same)).0

-- so the queue loses its head where the buffer holds none
pub removed-queue-direct : {b : Build} {n : Node} → Valid b n → buffer_holds n n.running ≡ false → (removed b n).queue ≡ drop 1 n.queue
unfolding with_queue
removed-queue-direct {b} {n} v e = removed-cases (λ r. r.queue ≡ drop 1 n.queue) b n (λ e'. cc) (λ e'. without-running v)

-- a group without its buffer's first message has lost the first of its line
unbuffered-line : {b : Build} {n : Node} → Sound b n → (g : ℕ) → 1 ≤ g → g ≤ group_count → buffer_holds n g ≡ true
    → line (with_stock g (remove_first b n.free n.paging.entered (group_of n g).buffer) n) g ≡ drop 1 (line n g)
unfolding line buffer_holds in_buffer in_queue waiting with_stock with_group with_free with_paging
unbuffered-line {b} {n} s g low high e =
    let w = (group_of n g).buffer in
    let queue = filter (is_of g) n.queue in
    let good = (group-good s g low high).buffer in
    let some = ltb-true 0 w.count e in
    let gone = removed-first good some n.free n.paging.entered in
    let front : 1 ≤ length (map (message_of g) (waiting w)) = simp (length-map, length-take, length-drop) (omega (arith, fits good)) in
    ap (λ (u : Buffer). map (message_of g) (waiting u) ++ queue) (stock-same g (remove_first b n.free n.paging.entered w) n (within s g low high))
    ∙ ap (λ (ps : List Place). map (message_of g) ps ++ queue) gone.waits
    ∙ ap (λ (ms : List Message). ms ++ queue) (map-drop (message_of g) 1 (waiting w))
    ∙ sym (drop-append-le 1 (map (message_of g) (waiting w)) queue front)

-- so has one with no buffer without its first message in the queue
unqueued-line : (n : Node) (g : ℕ) → buffer_holds n g ≡ false → line (with_queue (without_first g n.queue) n) g ≡ drop 1 (line n g)
unfolding with_queue in_queue buffer_holds group_of
unqueued-line n g e =
    direct-line (with_queue (without_first g n.queue) n) g e ∙ without-own g n.queue ∙ ap (drop 1) (sym (direct-line n g e))

-- a disposal takes the first of the running group's line
pub removed-line : {b : Build} {n : Node} → Valid b n → 1 ≤ n.running → line (removed b n) n.running ≡ drop 1 (line n n.running)
removed-line {b} {n} v low =
    removed-cases (λ r. line r n.running ≡ drop 1 (line n n.running)) b n
    (unbuffered-line (valid-sound v) n.running low v.running-bound) (unqueued-line n n.running)

-- and leaves the others
pub removed-other : (b : Build) (n : Node) → 1 ≤ n.running → (h : ℕ) → 1 ≤ h → h ≢ n.running → line (removed b n) h ≡ line n h
unfolding line in_buffer in_queue with_stock with_group with_free with_paging with_queue group_of
removed-other b n low h low' other =
    let t = remove_first b n.free n.paging.entered (group_of n n.running).buffer in
    removed-cases (λ r. line r h ≡ line n h) b n
    (λ e. line_same n (with_stock n.running t n) h (stock-other n.running h t n low low' other) refl)
    (λ e. ap (λ (ms : List Message). in_buffer n h ++ ms) (without_other n.running h other n.queue))
