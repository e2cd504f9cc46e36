-- What the clauses tested so far establish for those behind them. The counts bound every list; the buffers' numbers and the pages, each
-- standing once among 96, make every list name pages; and with the queue's groups and the flags every line can be told. Assumes nothing.
use Prim.Native.Nat.{ℕ, ◌+◌, ◌-◌, ◌*◌, ◌≤◌, ◌<◌}
use mathlib.Core.Path.{◌≡◌, refl}
use mathlib.Core.Bool.{Bool, true, false, not, ◌||◌, false≢true, and-eq-true_iff}
use mathlib.Core.List.{List, ◌∷◌, ◌++◌}
use native.Mathlib.Omega.{arith}
use lib.Dec.{eqb, leb, ltb}
use lib.ListN.{length}
use borrow.Author.Tests.{leb-true, ltb-true, eqb-true}
use Rattle.rules.specs.Lists.{all, up_from}
use Rattle.rules.specs.Build.{group_count}
use Rattle.rules.specs.Frames.{ceil_div}
use Rattle.rules.specs.Valid.{is_message, only_atomic, frame_numbers, stands_once}
use Rattle.rules.specs.Memory.{running_at, queued_at, free_count_at, swap_count_at, entered_count_at, queue_at, queue_stride, atomic_offset, force_offset, used_offset, count_offset, held_offset, described_offset, size, word, words_at, message_at, flag_at, group_at, group_address, node_at}
use Rattle.rules.specs.MemoryTest.{group_counts, length_in_bounds, counts_in_bounds}
use Rattle.rules.proofs.Map.TestLaws.{range-tells}
use Rattle.rules.proofs.Steps.EveryLaws.{every_append}
use Rattle.rules.proofs.Steps.ListLaws.{once-bounded}
use Rattle.validate.specs.Clauses.{flags_atomic, message_good, buffer_good, pages_once, list_start, listed, numbers_good, frames_good}
use Rattle.validate.specs.Known.{Counted, Paged, Framed, Lined}
use Rattle.validate.proofs.frames.ListedLaws.{group-count, group-start, numbers-listed, numbers-split, behind}
use Rattle.validate.proofs.TestLaws.{numbers-tell, frames-tell}

-- of three flags that stand only with one, the second
only : (a p f r : Bool) → a || not (p || (f || r)) ≡ true → f ≡ true → a ≡ true
only true p f r h on = refl
only false true f r h on = absurd (false≢true h)
only false false true r h on = absurd (false≢true h)
only false false false r h on = absurd (false≢true on)

module _ (m : List ℕ) where
  -- the counts of group g
  group-counted : (g : ℕ) → group_counts m g ≡ true
      → (word m (group_address g + held_offset) ≤ 96) × (word m (group_address g + described_offset) ≤ 8)
  unfolding group_counts
  group-counted g h =
      let k = (and-eq-true_iff _ _).0 h in
      (leb-true _ 96 k.0, leb-true _ 8 k.1)

  -- the counts
  pub counted : size ≤ length m → counts_in_bounds m ≡ true → Counted m
  unfolding counts_in_bounds length_in_bounds
  counted long h =
      let k = (and-eq-true_iff (leb (word m queued_at) 16) _).0 h in
      let l = (and-eq-true_iff (leb (word m free_count_at) 32) _).0 k.1 in
      let s = (and-eq-true_iff (leb (word m swap_count_at) 64) _).0 l.1 in
      let e = (and-eq-true_iff (leb (word m entered_count_at) 32) _).0 s.1 in
      let n = (and-eq-true_iff (all (group_counts m) (up_from 1 group_count)) _).0 e.1 in
      let gs = (range-tells (group_counts m) 1 group_count).0 n.0 in
      let ls = (range-tells (length_in_bounds m) 0 (word m queued_at)).0 n.1 in
      record {
        long = long;
        queued = leb-true _ 16 k.0;
        free = leb-true _ 32 l.0;
        swap = leb-true _ 64 s.0;
        entered = leb-true _ 32 e.0;
        held = λ g low high. (group-counted g (gs g low (omega arith))).0;
        described = λ g low high. (group-counted g (gs g low (omega arith))).1;
        lengths = λ i h. leb-true _ 8 (ls i (omega arith) (omega arith));
      }

  -- the numbers of the buffer of group g
  buffer-tells : (g : ℕ) → buffer_good m g ≡ true
      → (word m (group_address g + used_offset) < 8)
      × (word m (group_address g + held_offset) ≡ ceil_div (word m (group_address g + used_offset) + word m (group_address g + count_offset)) 8)
  unfolding buffer_good
  buffer-tells g h =
      let a = group_address g in
      let used = word m (a + used_offset) in
      let count = word m (a + count_offset) in
      let k = (and-eq-true_iff (ltb used 8) _).0 h in
      let l = (and-eq-true_iff (not (eqb count 0) || eqb used 0) (eqb (word m (a + held_offset)) (ceil_div (used + count) 8))).0 k.1 in
      (ltb-true used 8 k.0, eqb-true (word m (a + held_offset)) (ceil_div (used + count) 8) l.1)

  -- the lists from the free line on name pages
  pub paged : Counted m → length (frame_numbers (node_at m)) ≡ 96 → pages_once m ≡ true → (l : ℕ) → 1 ≤ l → l < 11 → Paged m l
  unfolding pages_once stands_once
  paged c whole h l low high =
      let each = (range-tells (stands_once (frame_numbers (node_at m))) 0 96).0 h in
      let small = once-bounded 96 (frame_numbers (node_at m)) (λ f b. eqb-true _ 1 (each f (omega arith) (omega arith))) whole in
      record {
        counted = c;
        high = high;
        numbers =
            λ i k.
            let parted = rw (numbers-listed m, numbers-split m 1 11 l i low high k) at small in
            ((every_append (λ x. x < 96) (listed m 1 (l - 1) ++ words_at m (list_start l) i) (word m (list_start l + i) ∷ behind m 11 l i)).0 parted).1.0;
      }

  -- every list names pages
  pub framed : Counted m → numbers_good m ≡ true → length (frame_numbers (node_at m)) ≡ 96 → pages_once m ≡ true
      → (g : ℕ) → 1 ≤ g → g ≤ group_count → Framed m g
  framed c h l o g low high =
      let ns = (numbers-tell m).0 h in
      let b = buffer-tells g ((range-tells (buffer_good m) 1 group_count).0 ns.1.1.1 g low (omega arith)) in
      let back : g + 2 - 2 ≡ g = omega arith in
      let count = rw back at (group-count m (g + 2) (omega arith)) in
      let start = rw back at (group-start (g + 2) (omega arith)) in
      record {
        long = c.long;
        low = low;
        high = high;
        used = b.0;
        held = b.1;
        few = c.held g low high;
        numbers = λ i k. rw start at ((paged c l o (g + 2) (omega arith) (omega arith)).numbers i (omega arith));
      }

  -- the group of message i
  group-tells : (i : ℕ) → message_good m i ≡ true → (1 ≤ word m (queue_at + queue_stride * i)) × (word m (queue_at + queue_stride * i) ≤ 8)
  unfolding message_good is_message message_at
  group-tells i h =
      let k = (and-eq-true_iff _ _).0 h in
      let l = (and-eq-true_iff _ _).0 k.1 in
      (leb-true 1 _ k.0, leb-true _ 8 l.0)

  -- force stands only with atomic
  force-tells : (g : ℕ) → flags_atomic m g ≡ true → flag_at m (group_address g + force_offset) ≡ true → flag_at m (group_address g + atomic_offset) ≡ true
  unfolding flags_atomic only_atomic group_at
  force-tells g h = let G = group_at m (group_address g) in only G.atomic G.pending G.force G.revoked h

  -- every line can be told
  pub lined : Counted m → all (flags_atomic m) (up_from 1 group_count) ≡ true → numbers_good m ≡ true → frames_good m ≡ true → Lined m
  lined c a h k =
      let ns = (numbers-tell m).0 h in
      let fs = (frames-tell m).0 k in
      record {
        counted = c;
        running = leb-true (word m running_at) 8 ns.0;
        groups = λ i l. group-tells i ((range-tells (message_good m) 0 (word m queued_at)).0 ns.1.1.0 i (omega arith) (omega arith));
        framed = framed c h (eqb-true (length (frame_numbers (node_at m))) 96 fs.0) fs.1.0;
        forced = λ g low high. force-tells g ((range-tells (flags_atomic m) 1 group_count).0 a g low (omega arith));
      }
