-- The laws of the memory map: it is one to one between valid nodes and the memories that pass the memory test. A valid node's map, whatever
-- stands behind it, passes the test and is read back as that node; and a memory that passes the test is the map of the valid node that is
-- read from it, with the rest behind it. The first is MapRead's; the second holds region by region, since each clause on words says that a
-- region has no more in it than the part that is read, since each page that is read has the places that stand at its number, and since the
-- clause on the frames and swap pages that no buffer holds says that they are 0. Assumes nothing.
use Prim.Native.Nat.{ℕ, zero, suc, ◌+◌, ◌-◌, ◌*◌, ◌≤◌, ◌<◌}
use mathlib.Core.Path.{◌≡◌, refl, sym, ap, ◌∙◌}
use mathlib.Core.Bool.{true, false}
use mathlib.Core.List.{List, ◌++◌}
use native.Mathlib.Omega.{arith}
use lib.ListN.{length, drop, length-append}
use Rattle.rules.specs.Lists.{Every, concat_map, count_of}
use Rattle.rules.specs.Build.{paper01, page_count, group_count}
use Rattle.rules.specs.Node.{Node}
use Rattle.rules.specs.Valid.{Valid, frame_list, idle}
use Rattle.rules.specs.Memory.{queued_at, free_count_at, queue_at, queue_stride, free_at, groups_at, frames_at, frame_stride, size}
use Rattle.rules.specs.Memory.{word, words_at, message_words, queue_words, line_words, group_words, place_words, frame_words, words, Page, pages_of, places_of, all_pages, message_at, messages_at, place_at, frame_places, frame_address, buffer_at, list_at, group_at, groups_from, node_at}
use Rattle.rules.specs.MemoryTest.{zero_at, is_memory, page_counts}
use Rattle.rules.proofs.Steps.EveryLaws.{every-concat, every_of}
use Rattle.rules.proofs.Steps.ListLaws.{every-counted, length-parts}
use Rattle.rules.proofs.Steps.SoundLaws.{valid-mapped}
use Rattle.rules.proofs.Map.MapWords.{Stands, zeros-stand, pad-stands, parts-stand, length-words_at, stands-words_at, front-stands, stands-front, records-stand, length-records, every-record}
use Rattle.rules.proofs.Map.MapParts.{messages, places, groups, length-message, length-place, length-group, message-at-stands, good-place-at, place-at-stands, group-at-stands, MessageFits, GroupFits}
use Rattle.rules.proofs.Map.PageLaws.{found}
use Rattle.rules.proofs.Map.MapFrames.{all-numbers, from_places, idle-words, unlisted-idle, length-frame}
use Rattle.rules.proofs.Map.MapPaging.{paging-from-stands}
use Rattle.rules.proofs.Map.MapTest.{Fits, memory-fits}
use Rattle.rules.proofs.Map.MapRead.{MapStands, map-stands, words-length, read}

-- What is written is read back.

module _ (n : Node) (rest : List ℕ) (v : Valid paper01 n) where
  -- the map stands in the memory
  written : MapStands (words n ++ rest) n
  written = (map-stands n (valid-mapped v) (words n ++ rest)).0 (front-stands (words n) rest)

  -- it is read back
  pub read_back : node_at (words n ++ rest) ≡ n
  read_back = (read (words n ++ rest) n (valid-mapped v) written).0

  -- and it passes the test
  pub test-written : is_memory (words n ++ rest) ≡ true
  test-written =
      let long : size ≤ length (words n ++ rest) = omega (arith, length-append (words n) rest, words-length n (valid-mapped v)) in
      (memory-fits (words n ++ rest)).1 (long, ((read (words n ++ rest) n (valid-mapped v) written).1, rw read_back v))

-- What passes the test is the map of the node that it holds.

module _ (m : List ℕ) where
  -- every page of the node has the places of its number
  places-all : Every (λ x. x.places ≡ frame_places m x.number) (all_pages (node_at m))
  unfolding all_pages node_at pages_of group_at buffer_at
  places-all =
      let P : Page → Type 0 = λ x. x.places ≡ frame_places m x.number in
      (every-concat P (pages_of paper01) (groups_from m groups_at group_count)).1
      (every-record (groups m) (λ G. Every P (pages_of paper01 G)) (λ a. from_places m (list_at m a)) groups_at group_count)

module _ (m : List ℕ) (f : Fits m) (v : Valid paper01 (node_at m)) where
  -- so the words of a number in a list stand where they are written
  listed-stands : (j : ℕ) → 1 ≤ count_of j (concat_map frame_list (node_at m).groups) → Stands m (frame_address j) (frame_words (all_pages (node_at m)) j)
  unfolding frame_words frame_places
  listed-stands j h =
      let t = found paper01 j (λ x. x.places ≡ frame_places m x.number) (all_pages (node_at m)) (rw (all-numbers (node_at m)) h) (places-all m) in
      let e : places_of paper01 j (all_pages (node_at m)) ≡ frame_places m j = t.1.1.0 ∙ t.1.1.1 ∙ ap (frame_places m) t.1.0 in
      rw e
      (records-stand (places m) m place_words (λ a. Unit {0})
      (λ a u. (length-place (place_at m a) (good-place-at m a), place-at-stands m a)) (frame_address j) paper01.per_frame (λ i l. tt))

  -- and those of another, which are 0
  idle-stands : (j : ℕ) → j < page_count paper01 → count_of j (concat_map frame_list (node_at m).groups) ≡ 0
      → Stands m (frame_address j) (frame_words (all_pages (node_at m)) j)
  idle-stands j h none =
      let idle-zero = every-counted (λ k. zero_at m (frame_address k) frame_stride ≡ true) j (idle (node_at m)) f.idle-zero (unlisted-idle (node_at m) (valid-mapped v) j h none) in
      rw (idle-words (node_at m) j none) ((zeros-stand m (frame_address j) frame_stride).1 idle-zero)

  -- each number's
  frame-stands : (j : ℕ) → j < page_count paper01 → Stands m (frames_at + frame_stride * j) (frame_words (all_pages (node_at m)) j)
  unfolding frame_address
  frame-stands j h = go (count_of j (concat_map frame_list (node_at m).groups)) refl
    where
      go : (k : ℕ) → count_of j (concat_map frame_list (node_at m).groups) ≡ k → Stands m (frames_at + frame_stride * j) (frame_words (all_pages (node_at m)) j)
      go zero e = idle-stands j h e
      go (suc k) e = listed-stands j (omega arith)

  -- the queue
  queue-stands : Stands m queue_at (queue_words (messages_at m queue_at (word m queued_at)))
  unfolding queue_words
  queue-stands =
      let k = word m queued_at in
      let few = f.queued in
      let q = messages_at m queue_at k in
      let l : length (concat_map message_words q) ≡ queue_stride * k =
      length-parts message_words queue_stride q (every_of _ q (λ x h. length-message x))
      ∙ ap (λ (i : ℕ). queue_stride * i) (length-records (messages m) queue_at k) in
      let e : 160 - 10 * k ≡ 10 * (16 - k) = omega arith in
      let z = f.queue-zero in
      let stand = records-stand (messages m) m message_words (MessageFits m) (λ a g. (length-message (message_at m a), message-at-stands m a g)) in
      (pad-stands m queue_at 160 (concat_map message_words q) (omega arith)).1 (stand queue_at k f.messages, rw (l, e) z)

  -- the free line
  free-stands : Stands m free_at (line_words (words_at m free_at (word m free_count_at)))
  unfolding line_words
  free-stands =
      let l = length-words_at m free_at (word m free_count_at) in
      (pad-stands m free_at paper01.frames (words_at m free_at (word m free_count_at)) (rw l f.free)).1
      (stands-words_at m free_at (word m free_count_at), rw l f.free-zero)

  -- the whole
  holds : MapStands m (node_at m)
  unfolding node_at
  holds =
      let stand = records-stand (groups m) m group_words (GroupFits m) (λ a g. (length-group (group_at m a), group-at-stands m a g)) in
      record {
        running = refl;
        timer = refl;
        queued = sym (length-records (messages m) queue_at (word m queued_at));
        free-count = sym (length-words_at m free_at (word m free_count_at));
        queue = queue-stands;
        free = free-stands;
        groups = stand groups_at group_count f.groups;
        frames =
            (parts-stand m (frame_words (all_pages (node_at m))) frames_at frame_stride 0 (page_count paper01) (λ j l h. length-frame (node_at m) (valid-mapped v) j)).1
            (λ j l h. frame-stands j h);
        paging = paging-from-stands m f.paging;
      }

module _ (m : List ℕ) (h : is_memory m ≡ true) where
  -- such a memory is large enough
  pub test-size : size ≤ length m
  test-size = ((memory-fits m).0 h).0

  -- it holds a valid node
  pub test-valid : Valid paper01 (node_at m)
  test-valid = ((memory-fits m).0 h).1.1

  -- and it is that node's map, with the rest behind it
  pub test_words : words (node_at m) ++ drop size m ≡ m
  test_words =
      let l = words-length (node_at m) (valid-mapped test-valid) in
      let s = (map-stands (node_at m) (valid-mapped test-valid) m).1 (holds m ((memory-fits m).0 h).1.0 test-valid) in
      rw l at (stands-front m (words (node_at m)) (rw l test-size) s)

-- and 0 where the memory is no node
pub counts-none : (m : List ℕ) → is_memory m ≡ false → page_counts m ≡ record { out = 0; brought = 0 }
unfolding page_counts
counts-none m e = rw (e, page_counts)
