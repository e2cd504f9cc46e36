-- The memory test as facts of addresses: a memory passes it exactly where it is large enough, its words fit, and it holds a valid node. Each
-- test and its fact are one statement, and a test of a range is a fact of each number in it. Assumes nothing.
use Prim.Native.Nat.{ℕ, suc, ◌+◌, ◌-◌, ◌*◌, ◌≤◌, ◌<◌}
use mathlib.Core.Path.{◌≡◌}
use mathlib.Core.Logic.Iff
use mathlib.Core.Logic.{◌↔◌}
use mathlib.Core.Bool.{Bool, true, ◌&&◌, and-eq-true_iff}
use mathlib.Core.List.{List}
use native.Mathlib.Omega.{arith}
use lib.ListN.{length}
use Rattle.rules.specs.Lists.{all, Every, up_from}
use Rattle.rules.specs.Build.{paper01, group_count}
use Rattle.rules.specs.Valid.{idle, Valid}
use Rattle.rules.specs.Memory.{queued_at, free_count_at, queue_at, queue_stride, free_at, groups_at, group_stride, swap_count_at, entered_count_at, frame_stride, size}
use Rattle.rules.specs.Memory.{word, frame_address, group_address, node_at}
use Rattle.rules.specs.MemoryTest.{zero_at, length_in_bounds, group_counts, counts_in_bounds, group_flags, flags_are_flags, queue_unused, free_unused, swap_unused, entered_unused, group_unused, message_unused, unused_are_zero, frame_wiped, idle_are_wiped, memory_tests, is_memory}
use Rattle.rules.proofs.Steps.SoundLaws.{paper-sensible}
use Rattle.rules.proofs.Map.TestLaws.{leb_tells, all-every, range-tells, passes-every, is_node-valid, valid-is_node}
use Rattle.rules.proofs.Map.MapParts.{MessageFits, GroupFits}
use Rattle.rules.proofs.Map.MapPaging.{PagingFits}

-- what the memory test asks of the words, apart from the size and the node that they hold
pub record Fits (m : List ℕ) : Type 0 where
  pub queued : word m queued_at ≤ paper01.places
  pub free : word m free_count_at ≤ paper01.frames
  pub messages : (i : ℕ) → i < word m queued_at → MessageFits m (queue_at + queue_stride * i)
  pub groups : (i : ℕ) → i < group_count → GroupFits m (groups_at + group_stride * i)
  pub queue-zero : zero_at m (queue_at + queue_stride * word m queued_at) (queue_stride * (paper01.places - word m queued_at)) ≡ true
  pub free-zero : zero_at m (free_at + word m free_count_at) (paper01.frames - word m free_count_at) ≡ true
  pub paging : PagingFits m
  -- a frame or swap page that no buffer holds is 0
  pub idle-zero : Every (λ f. zero_at m (frame_address f) frame_stride ≡ true) (idle (node_at m))

-- two tests tell two facts
and-tells : {a b : Bool} {P Q : Type 0} → ((a ≡ true) ↔ P) → ((b ≡ true) ↔ Q) → (a && b ≡ true) ↔ (P × Q)
and-tells {a} {b} p q = Iff.trans (and-eq-true_iff a b) (Iff.and p q)

module _ (m : List ℕ) where
  -- the tests of message i
  message-fits : (i : ℕ) → ((length_in_bounds m i ≡ true) × (message_unused m i ≡ true)) ↔ MessageFits m (queue_at + queue_stride * i)
  unfolding length_in_bounds message_unused
  message-fits i = simp leb_tells (λ h. record { few_words = h.0; rest-zero = h.1 }, λ f. (f.few_words, f.rest-zero))

  -- the tests of all messages
  messages-fit : ((all (length_in_bounds m) (up_from 0 (word m queued_at)) ≡ true) × (all (message_unused m) (up_from 0 (word m queued_at)) ≡ true))
      ↔ ((i : ℕ) → i < word m queued_at → MessageFits m (queue_at + queue_stride * i))
  messages-fit =
      let lengths = range-tells (length_in_bounds m) 0 (word m queued_at) in
      let rests = range-tells (message_unused m) 0 (word m queued_at) in (
        λ h i l. (message-fits i).0 (lengths.0 h.0 i (omega arith) (omega arith), rests.0 h.1 i (omega arith) (omega arith)),
        λ f. (
          lengths.1 (λ i l h. ((message-fits i).1 (f i (omega arith))).0),
          rests.1 (λ i l h. ((message-fits i).1 (f i (omega arith))).1),
        ),
      )

  -- the tests of group g
  group-fits : (g : ℕ) → ((group_counts m g ≡ true) × ((group_flags m g ≡ true) × (group_unused m g ≡ true))) ↔ GroupFits m (group_address g)
  unfolding group_counts group_flags group_unused
  group-fits g =
      simp (and-eq-true_iff, leb_tells) (
        λ h.
            record {
              held = h.0.0;
              described = h.0.1;
              atomic = h.1.0.0;
              pending = h.1.0.1.0;
              force = h.1.0.1.1.0;
              revoked = h.1.0.1.1.1;
              list-zero = h.1.1.0;
              descriptor-zero = h.1.1.1;
            },
        λ f. (
          (f.held, f.described),
          ((f.atomic, (f.pending, (f.force, f.revoked))), (f.list-zero, f.descriptor-zero)),
        ),
      )

  -- the tests of all groups
  groups-fit : ((all (group_counts m) (up_from 1 group_count) ≡ true)
      × ((all (group_flags m) (up_from 1 group_count) ≡ true) × (all (group_unused m) (up_from 1 group_count) ≡ true)))
      ↔ ((i : ℕ) → i < group_count → GroupFits m (groups_at + group_stride * i))
  unfolding group_address
  groups-fit =
      let counts = range-tells (group_counts m) 1 group_count in
      let flags = range-tells (group_flags m) 1 group_count in
      let rests = range-tells (group_unused m) 1 group_count in
      let at : ((i : ℕ) → i < group_count → GroupFits m (groups_at + group_stride * i))
      → (g : ℕ) → 1 ≤ g → g < 1 + group_count → GroupFits m (group_address g) = λ f g l h. f (g - 1) (omega arith) in (
        λ h i l.
            let e : suc i - 1 ≡ i = omega arith in
            let count = counts.0 h.0 (suc i) (omega arith) (omega arith) in
            let flag = flags.0 h.1.0 (suc i) (omega arith) (omega arith) in
            let rest = rests.0 h.1.1 (suc i) (omega arith) (omega arith) in
            rw e at ((group-fits (suc i)).0 (count, (flag, rest))),
        λ f. (
          counts.1 (λ g l h. ((group-fits g).1 (at f g l h)).0),
          (flags.1 (λ g l h. ((group-fits g).1 (at f g l h)).1.0), rests.1 (λ g l h. ((group-fits g).1 (at f g l h)).1.1)),
        ),
      )

  -- the clauses on counts
  counts-tell : (counts_in_bounds m ≡ true)
      ↔ ((word m queued_at ≤ paper01.places)
      × ((word m free_count_at ≤ paper01.frames)
      × ((word m swap_count_at ≤ paper01.swap)
      × ((word m entered_count_at ≤ paper01.frames)
      × ((all (group_counts m) (up_from 1 group_count) ≡ true) × (all (length_in_bounds m) (up_from 0 (word m queued_at)) ≡ true))))))
  unfolding counts_in_bounds
  counts-tell =
      and-tells (leb_tells _ _) (and-tells (leb_tells _ _) (and-tells (leb_tells _ _) (and-tells (leb_tells _ _) (and-tells Iff.rfl Iff.rfl))))

  -- the clauses on unused words
  unused-tells : (unused_are_zero m ≡ true)
      ↔ ((queue_unused m ≡ true)
      × ((free_unused m ≡ true)
      × ((swap_unused m ≡ true)
      × ((entered_unused m ≡ true)
      × ((all (group_unused m) (up_from 1 group_count) ≡ true) × (all (message_unused m) (up_from 0 (word m queued_at)) ≡ true))))))
  unfolding unused_are_zero
  unused-tells = and-tells Iff.rfl (and-tells Iff.rfl (and-tells Iff.rfl (and-tells Iff.rfl (and-tells Iff.rfl Iff.rfl))))

  -- the clause on the frames and swap pages that no buffer holds
  idle-tells : (idle_are_wiped m ≡ true) ↔ Every (λ f. zero_at m (frame_address f) frame_stride ≡ true) (idle (node_at m))
  unfolding idle_are_wiped frame_wiped
  idle-tells = all-every (frame_wiped m) (λ f. zero_at m (frame_address f) frame_stride ≡ true) (λ f. Iff.rfl) (idle (node_at m))

  -- the memory passes the test where it is large enough, fits, and holds a valid node
  pub memory-fits : (is_memory m ≡ true) ↔ ((size ≤ length m) × (Fits m × Valid paper01 (node_at m)))
  unfolding is_memory memory_tests flags_are_flags queue_unused free_unused swap_unused entered_unused
  memory-fits = (
    λ h.
        let t = (passes-every memory_tests m).0 h in
        let counts = counts-tell.0 t.1.0 in
        let unused = unused-tells.0 t.1.1.1.0 in (
          (leb_tells size (length m)).0 t.0,
          (
            record {
              queued = counts.0;
              free = counts.1.0;
              messages = messages-fit.0 (counts.1.1.1.1.1, unused.1.1.1.1.1);
              groups = groups-fit.0 (counts.1.1.1.1.0, (t.1.1.0, unused.1.1.1.1.0));
              queue-zero = unused.0;
              free-zero = unused.1.0;
              paging =
                  record {
                    swap = counts.1.1.0;
                    entered = counts.1.1.1.0;
                    swap-zero = unused.1.1.0;
                    entered-zero = unused.1.1.1.0;
                  };
              idle-zero = idle-tells.0 t.1.1.1.1.0;
            },
            is_node-valid paper01 (node_at m) paper-sensible t.1.1.1.1.1.0,
          ),
        ),
    λ h.
        let f = h.1.0 in
        let messages = messages-fit.1 f.messages in
        let groups = groups-fit.1 f.groups in
        let p = f.paging in
        (passes-every memory_tests m).1 (
          (leb_tells size (length m)).1 h.0,
          (
            counts-tell.1 (f.queued, (f.free, (p.swap, (p.entered, (groups.0, messages.0))))),
            (
              groups.1.0,
              (
                unused-tells.1 (f.queue-zero, (f.free-zero, (p.swap-zero, (p.entered-zero, (groups.1.1, messages.1))))),
                (idle-tells.1 f.idle-zero, (valid-is_node paper01 (node_at m) h.1.1, tt)),
              ),
            ),
          ),
        ),
  )
