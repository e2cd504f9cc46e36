-- A group's line, its flags, the timer, the head of the queue and the running group's first page, as the words tell them: a line is not empty
-- where the group's buffer holds messages or the hardware queue has some of its own. Assumes nothing.
use Prim.Native.Nat.{ℕ, zero, suc, ◌+◌, ◌-◌, ◌≤◌, ◌<◌}
use mathlib.Core.Path.{◌≡◌, refl, sym, subst, ap, ◌∙◌}
use mathlib.Core.Logic.{◌≢◌}
use mathlib.Core.Bool.{Bool, true, false, not, ◌&&◌, or-true}
use mathlib.Core.List.{List, [], ◌∷◌, map}
use native.Mathlib.Omega.{arith}
use lib.Dec.{eqb, ltb}
use lib.ListN.{length, take, drop, length-take, length-drop, length-map}
use borrow.Author.Tests.{eq-eqb, ne_eqb, lt-ltb, le-ltb, not-true, not-false}
use Rattle.rules.specs.Lists.{is_empty}
use Rattle.rules.specs.Build.{paper01}
use Rattle.rules.specs.Node.{Message, group_of, buffer_holds, buffered, forced, message_of, waiting, in_buffer, in_queue, line}
use Rattle.rules.specs.Settling.{may_stay}
use Rattle.rules.specs.Valid.{pending_has_line, runner_atomic, head_stays, first_in_frame, runner_in_frame}
use Rattle.rules.specs.Paging.{in_frame}
use Rattle.rules.specs.Memory.{running_at, timer_at, queued_at, queue_at, queue_stride, atomic_offset, pending_offset, force_offset, revoked_offset, used_offset, count_offset, held_offset, list_offset, word, words_at, message_at, messages_at, flag_at, list_at, buffer_at, group_at, group_address, node_at}
use Rattle.rules.proofs.Steps.ListLaws.{some-append, length_some}
use Rattle.rules.proofs.Steps.LineLaws.{direct-line}
use Rattle.validate.specs.Known.{queued_of, Framed, Lined}
use Rattle.validate.proofs.frames.PlaceLaws.{room, places-all}
use Rattle.validate.proofs.lines.CountLaws.{group-read}

-- an empty list by its length
empty-length : {A : Type 0} (xs : List A) (k : ℕ) → k ≡ length xs → is_empty xs ≡ eqb k 0
empty-length [] k e = rw e
empty-length (x ∷ xs) k e = sym (ne_eqb k 0 (λ z. omega arith))

-- the length of a part of a list
part_length : {A : Type 0} (xs : List A) (h n : ℕ) → h + n ≤ length xs → length (take n (drop h xs)) ≡ n
part_length xs h n l = simp (length-take, length-drop) (omega arith)

positive : (k : ℕ) → k ≢ 0 → 1 ≤ k
positive zero h = absurd (h refl)
positive (suc k) h = omega arith

-- a test with one that follows from it
and-implied : (a b : Bool) → (a ≡ true → b ≡ true) → a && b ≡ a
and-implied true b h = h refl
and-implied false b h = refl

module _ (m : List ℕ) (g : ℕ) (f : Framed m g) where
  -- n of the node's group
  count-read : (group_of (node_at m) g).buffer.count ≡ word m (group_address g + count_offset)
  unfolding group_at buffer_at
  count-read = rw (group-read m g f.low f.high)

  -- its waiting messages are n
  waiting-read : length (waiting (group_of (node_at m) g).buffer) ≡ word m (group_address g + count_offset)
  unfolding waiting group_at buffer_at
  waiting-read =
      let a = group_address g in
      rw (group-read m g f.low f.high)
      (part_length (buffer_at m a).places (word m (a + used_offset)) (word m (a + count_offset)) (rw (places-all m a) (room m g f)))

  -- with messages in the buffer there is a line
  pub line-buffered : (n : ℕ) → n ≡ word m (group_address g + count_offset) → n ≢ 0 → is_empty (line (node_at m) g) ≡ false
  unfolding line in_buffer
  line-buffered n e d =
      let ws = waiting (group_of (node_at m) g).buffer in
      let some : 1 ≤ length (map (message_of g) ws) = omega (arith, length-map ws (message_of g), waiting-read, positive n d) in
      some-append (map (message_of g) ws) (in_queue (node_at m) g) (length_some (map (message_of g) ws) some)

  -- else where the group has messages in the queue
  pub line-direct : (n k : ℕ) → n ≡ word m (group_address g + count_offset) → n ≡ 0 → k ≡ queued_of m (word m queued_at) g
      → is_empty (line (node_at m) g) ≡ eqb k 0
  unfolding buffer_holds queued_of in_queue node_at
  line-direct n k e z q =
      let none : (group_of (node_at m) g).buffer.count ≤ 0 = omega (arith, count-read) in
      ap (is_empty {A = Message}) (direct-line (node_at m) g (le-ltb 0 (group_of (node_at m) g).buffer.count none))
      ∙ empty-length (in_queue (node_at m) g) k q

  -- The flags.

  -- not pending
  pub pending-off : (w : ℕ) → w ≡ word m (group_address g + pending_offset) → w ≢ 1 → pending_has_line (node_at m) g ≡ true
  unfolding pending_has_line group_at flag_at
  pending-off w e d = rw (group-read m g f.low f.high, ← e, ne_eqb w 1 d)

  -- pending: the line decides
  pub pending-on : (w : ℕ) (t : Bool) → w ≡ word m (group_address g + pending_offset) → w ≡ 1 → not (is_empty (line (node_at m) g)) ≡ t
      → pending_has_line (node_at m) g ≡ t
  unfolding pending_has_line group_at flag_at
  pending-on w t e o l = rw (group-read m g f.low f.high, ← e, o) l

  -- atomic
  atomic-read : (w : ℕ) → w ≡ word m (group_address g + atomic_offset) → (group_of (node_at m) g).atomic ≡ eqb w 1
  unfolding group_at flag_at
  atomic-read w e = rw (group-read m g f.low f.high, ← e)

  -- force, where it stands only with atomic
  force-read : (flag_at m (group_address g + force_offset) ≡ true → flag_at m (group_address g + atomic_offset) ≡ true)
      → (w : ℕ) → w ≡ word m (group_address g + force_offset) → (group_of (node_at m) g).force && (group_of (node_at m) g).atomic ≡ eqb w 1
  unfolding group_at flag_at
  force-read only w e = rw (group-read m g f.low f.high) (rw e (and-implied _ _ only))

  -- revoked
  revoked-read : (w : ℕ) → w ≡ word m (group_address g + revoked_offset) → (group_of (node_at m) g).revoked ≡ eqb w 1
  unfolding group_at flag_at
  revoked-read w e = rw (group-read m g f.low f.high, ← e)

-- what a call that tells of a line says, where its answer is turned round
pub empty-line : {a t v : Bool} → not a ≡ t → v ≡ not t → v ≡ true → a ≡ true
empty-line {a} {t} e f n = not-false a (e ∙ not-true t (sym f ∙ n))

pub some-line : {a t v : Bool} → not a ≡ t → v ≡ not t → v ≡ false → a ≡ false
some-line {a} {t} e f n = not-true a (e ∙ not-false t (sym f ∙ n))

-- The running group.

module _ (m : List ℕ) (r : ℕ) (running : r ≡ word m running_at) where
  -- is read
  runner-read : (node_at m).running ≡ r
  unfolding node_at
  runner-read = sym running

  -- one of the groups
  pub runner-framed : Lined m → r ≢ 0 → Framed m r
  runner-framed l d = l.framed r (positive r d) (omega (arith, l.running))

  -- nobody
  pub runner-none : r ≡ 0 → runner_atomic (node_at m) ≡ true
  unfolding runner_atomic
  runner-none z = rw (runner-read, z)

  -- with an empty line
  pub runner-idle : is_empty (line (node_at m) r) ≡ true → runner_atomic (node_at m) ≡ true
  unfolding runner_atomic
  runner-idle e =
      let empty = subst (λ (k : ℕ). is_empty (line (node_at m) k) ≡ true) (sym runner-read) e in
      rw empty (or-true (eqb (node_at m).running 0))

  -- else atomic decides
  pub runner-busy : Framed m r → r ≢ 0 → is_empty (line (node_at m) r) ≡ false → (w : ℕ) → w ≡ word m (group_address r + atomic_offset)
      → runner_atomic (node_at m) ≡ eqb w 1
  unfolding runner_atomic
  runner-busy f d e w a =
      let some = subst (λ (k : ℕ). is_empty (line (node_at m) k) ≡ false) (sym runner-read) e in
      let flag = subst (λ (k : ℕ). (group_of (node_at m) k).atomic ≡ eqb w 1) (sym runner-read) (atomic-read m r f w a) in
      rw (ne_eqb (node_at m).running 0 (λ z. d (sym runner-read ∙ z)), some) flag

  -- The timer with an empty queue.

  -- at rest
  pub timer-rests : word m timer_at ≡ 0 → head_stays [] (node_at m) ≡ true
  unfolding head_stays node_at
  timer-rests z = rw z

  module _ (above : word m timer_at ≢ 0) where
    -- else it is to be forced
    timer-counts : head_stays [] (node_at m) ≡ forced (node_at m)
    unfolding head_stays node_at
    timer-counts = rw (ne_eqb (word m timer_at) 0 above)

    -- by nobody it is not
    pub timer-nobody : r ≡ 0 → head_stays [] (node_at m) ≡ false
    unfolding forced
    timer-nobody z = timer-counts ∙ rw (runner-read, z)

    -- by a group where its force is on
    pub timer-forced : Lined m → r ≢ 0 → (w : ℕ) → w ≡ word m (group_address r + force_offset) → head_stays [] (node_at m) ≡ eqb w 1
    unfolding forced
    timer-forced l d w e =
        let f = runner-framed l d in
        let force = subst (λ (k : ℕ). (group_of (node_at m) k).force && (group_of (node_at m) k).atomic ≡ eqb w 1) (sym runner-read)
        (force-read m r f (l.forced r f.low f.high) w e) in
        timer-counts ∙ rw (ne_eqb (node_at m).running 0 (λ z. d (sym runner-read ∙ z))) force

  -- Its first page.

  -- where nobody runs
  pub first-nobody : r ≡ 0 → runner_in_frame paper01 (node_at m) ≡ true
  unfolding runner_in_frame
  first-nobody z = rw (runner-read, z)

  module _ (f : Framed m r) (d : r ≢ 0) where
    -- the list is read where the map puts it
    first_read : (t : Bool) → first_in_frame paper01 (words_at m (group_address r + list_offset) (word m (group_address r + held_offset))) ≡ t
        → runner_in_frame paper01 (node_at m) ≡ t
    unfolding runner_in_frame group_at buffer_at list_at
    first_read t h =
        let list = subst (λ (k : ℕ). first_in_frame paper01 (group_of (node_at m) k).buffer.frames ≡ t) (sym runner-read)
        (rw (group-read m r f.low f.high) h) in
        rw (ne_eqb (node_at m).running 0 (λ z. d (sym runner-read ∙ z))) list

    -- with no page
    pub first-none : word m (group_address r + held_offset) ≡ 0 → runner_in_frame paper01 (node_at m) ≡ true
    unfolding first_in_frame words_at
    first-none z = first_read true (rw z)

    -- else its number decides
    pub first-page : (k w : ℕ) → k ≡ word m (group_address r + held_offset) → k ≢ 0 → w ≡ word m (group_address r + list_offset)
        → runner_in_frame paper01 (node_at m) ≡ ltb w 32
    unfolding first_in_frame words_at in_frame
    first-page zero w e s p = absurd (s refl)
    first-page (suc k) w e s p = first_read (ltb w 32) (rw (← e, p))

-- The head of the queue.

module _ (m : List ℕ) where
  -- none
  queue-none : word m queued_at ≡ 0 → (node_at m).queue ≡ []
  unfolding node_at messages_at
  queue-none z = rw z

  -- the timer decides
  pub head-none : word m queued_at ≡ 0 → head_stays (node_at m).queue (node_at m) ≡ head_stays [] (node_at m)
  head-none z = rw (queue-none z)

  -- the queue has a head
  queue-head : word m queued_at ≢ 0 → (node_at m).queue ≡ message_at m queue_at ∷ messages_at m (queue_at + queue_stride) (word m queued_at - 1)
  unfolding node_at messages_at
  queue-head s = ap (messages_at m queue_at) (up (word m queued_at) s)
    where
      up : (k : ℕ) → k ≢ 0 → k ≡ suc (k - 1)
      up zero h = absurd (h refl)
      up (suc k) h = omega arith

  -- of one of the groups
  pub head-framed : Lined m → word m queued_at ≢ 0 → Framed m (word m queue_at)
  head-framed l s = let g = l.groups 0 (positive (word m queued_at) s) in l.framed (word m queue_at) g.0 g.1

  -- and may stay
  head-may : word m queued_at ≢ 0 → head_stays (node_at m).queue (node_at m) ≡ may_stay (node_at m) (message_at m queue_at)
  unfolding head_stays
  head-may s = rw (queue-head s)

  -- one that is not the running group's
  pub head-other : word m queued_at ≢ 0 → word m queue_at ≢ word m running_at → head_stays (node_at m).queue (node_at m) ≡ false
  unfolding may_stay message_at node_at
  head-other s d = head-may s ∙ rw (ne_eqb (word m queue_at) (word m running_at) d)

  -- else whether its group is direct: its buffer holds none, and it is not revoked
  module _ (l : Lined m) (s : word m queued_at ≢ 0) (o : word m queue_at ≡ word m running_at) where
    head-own : head_stays (node_at m).queue (node_at m) ≡ not (buffered (node_at m) (word m queue_at))
    unfolding may_stay message_at node_at
    head-own = head-may s ∙ rw (eq-eqb (word m queue_at) (word m running_at) o)

    pub head-held : (n : ℕ) → n ≡ word m (group_address (word m queue_at) + count_offset) → 0 < n
        → head_stays (node_at m).queue (node_at m) ≡ false
    unfolding buffered buffer_holds
    head-held n e h = head-own ∙ rw (count-read m (word m queue_at) (head-framed l s), ← e, lt-ltb 0 n h)

    pub head-direct : (n w : ℕ) → n ≡ word m (group_address (word m queue_at) + count_offset) → n ≤ 0
        → w ≡ word m (group_address (word m queue_at) + revoked_offset) → head_stays (node_at m).queue (node_at m) ≡ not (eqb w 1)
    unfolding buffered buffer_holds
    head-direct n w e z r =
        let f = head-framed l s in
        head-own ∙ rw (count-read m (word m queue_at) f, ← e, le-ltb 0 n z, revoked-read m (word m queue_at) f w r)
