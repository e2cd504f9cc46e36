-- What is written by the memory map is read back: where the map of a valid node stands in a memory, the memory holds that node, and its words
-- fit. The map is four numbers and five regions, each of a fixed length, so each stands at its own address; a region is records of a fixed
-- length, and each record is read back by its own law. The groups are read last, for the places of their pages are read from the frames'
-- region; what stands there under the numbers of the free line and the swap line is 0. Assumes nothing.
use Prim.Native.Nat.{ℕ, ◌+◌, ◌-◌, ◌*◌, ◌≤◌, ◌<◌}
use mathlib.Core.Path.{◌≡◌, refl, ap, ◌∙◌}
use mathlib.Core.Logic.Iff
use mathlib.Core.Logic.{◌↔◌}
use mathlib.Core.Bool.{true}
use mathlib.Core.List.{List, ◌∷◌, ◌++◌}
use native.Mathlib.Omega.{arith}
use lib.ListN.{length, length-append}
use Rattle.rules.specs.Lists.{Every, concat_map, up_from}
use Rattle.rules.specs.Build.{paper01, page_count, group_count, word_limit}
use Rattle.rules.specs.Node.{Message, Group, Node}
use Rattle.rules.specs.Valid.{GoodMessage, GoodPlace, frame_list, idle, frame_numbers}
use Rattle.rules.specs.Memory.{running_at, timer_at, queued_at, free_count_at, queue_at, queue_stride, free_at, groups_at, group_stride, frames_at, frame_stride, paging_at, size}
use Rattle.rules.specs.Memory.{word, words_at, message_words, queue_words, line_words, group_words, place_words, frame_words, paging_words, words, pages_of, places_of, all_pages, messages_at, frame_places, frame_address, groups_from, paging_from, node_at}
use Rattle.rules.specs.MemoryTest.{zero_at}
use Rattle.rules.proofs.Steps.EveryLaws.{every_of, every-at, every-mono, every-concat, every-up_from}
use Rattle.rules.proofs.Steps.ListLaws.{length-parts, part-short, length-pad}
use Rattle.rules.specs.Sound.{WholeGroup, Mapped}
use Rattle.rules.proofs.Map.MapWords.{Stands, stands-cons, stands-append, zeros-stand, pad-stands, parts-stand, words_at-stands, read-records}
use Rattle.rules.proofs.Map.MapParts.{messages, places, groups, length-message, length-place, length-group, read-message, read-place, read-group, MessageFits, GroupFits}
use Rattle.rules.proofs.Map.MapFrames.{idle-words, idle-unlisted, numbers-bounded, each-found, found-good, length-frame, places-from}
use Rattle.rules.proofs.Map.MapPaging.{length-paging, read-paging, PagingFits}
use Rattle.rules.proofs.Map.MapTest.{Fits}

-- four numbers and five lists of these lengths fill the node's size
regions-length : (a b c d : ℕ) (q l g f p : List ℕ) → length q ≡ 160 → length l ≡ 32 → length g ≡ 896 → length f ≡ 6912 → length p ≡ 100
    → length (a ∷ b ∷ c ∷ d ∷ q ++ (l ++ (g ++ (f ++ p)))) ≡ size
regions-length a b c d q l g f p eq el eg ef ep = simp (length-append, eq, el, eg, ef, ep)

-- and stand each at its own address
regions-stand : (m : List ℕ) (a b c d : ℕ) (q l g f p : List ℕ) → length q ≡ 160 → length l ≡ 32 → length g ≡ 896 → length f ≡ 6912
    → Stands m 0 (a ∷ b ∷ c ∷ d ∷ q ++ (l ++ (g ++ (f ++ p))))
    ↔ ((word m 0 ≡ a) × ((word m 1 ≡ b) × ((word m 2 ≡ c) × ((word m 3 ≡ d)
    × (Stands m queue_at q × (Stands m free_at l × (Stands m groups_at g × (Stands m frames_at f × Stands m paging_at p))))))))
regions-stand m a b c d q l g f p eq el eg ef =
    let both = stands-append m queue_at q (l ++ (g ++ (f ++ p))) in
    simp (stands-cons, both, stands-append, eq, el, eg, ef) Iff.rfl

-- what stands where in the map of a node
pub record MapStands (m : List ℕ) (n : Node) : Type 0 where
  pub running : word m running_at ≡ n.running
  pub timer : word m timer_at ≡ n.timer
  pub queued : word m queued_at ≡ length n.queue
  pub free-count : word m free_count_at ≡ length n.free
  pub queue : Stands m queue_at (queue_words n.queue)
  pub free : Stands m free_at (line_words n.free)
  pub groups : Stands m groups_at (concat_map group_words n.groups)
  pub frames : Stands m frames_at (concat_map (frame_words (all_pages n)) (up_from 0 (page_count paper01)))
  pub paging : Stands m paging_at (paging_words n.paging)

-- the queue has room for 16 messages
pub length-queue : (q : List Message) → length (queue_words q) ≡ 160
unfolding queue_words
length-queue q = length-pad (paper01.places * queue_stride) (concat_map message_words q)

-- the free line for 32 numbers
pub length-line : (fs : List ℕ) → length (line_words fs) ≡ 32
unfolding line_words
length-line fs = length-pad paper01.frames fs

-- and eight groups have 112 words each
length-groups : (Gs : List Group) → length Gs ≡ group_count → length (concat_map group_words Gs) ≡ 896
length-groups Gs e = length-parts group_words group_stride Gs (every_of _ Gs (λ G h. length-group G)) ∙ ap (λ (k : ℕ). group_stride * k) e

module _ (n : Node) (v : Mapped n) where
  -- and 96 frames and swap pages have 72 words each
  length-frames : length (concat_map (frame_words (all_pages n)) (up_from 0 (page_count paper01))) ≡ 6912
  length-frames =
      length-parts (frame_words (all_pages n)) frame_stride (up_from 0 (page_count paper01))
      (every-up_from _ 0 (page_count paper01) (λ f l h. length-frame n v f))

  -- the map of a node stands part by part
  pub map-stands : (m : List ℕ) → Stands m 0 (words n) ↔ MapStands m n
  unfolding words
  map-stands m =
      let r =
      regions-stand m n.running n.timer (length n.queue) (length n.free) (queue_words n.queue)
      (line_words n.free) (concat_map group_words n.groups)
      (concat_map (frame_words (all_pages n)) (up_from 0 (page_count paper01))) (paging_words n.paging)
      (length-queue n.queue) (length-line n.free) (length-groups n.groups v.group-count) length-frames in (
        λ h.
            let k = r.0 h in
            record {
              running = k.0;
              timer = k.1.0;
              queued = k.1.1.0;
              free-count = k.1.1.1.0;
              queue = k.1.1.1.1.0;
              free = k.1.1.1.1.1.0;
              groups = k.1.1.1.1.1.1.0;
              frames = k.1.1.1.1.1.1.1.0;
              paging = k.1.1.1.1.1.1.1.1;
            },
        λ k. r.1 (k.running, (k.timer, (k.queued, (k.free-count, (k.queue, (k.free, (k.groups, (k.frames, k.paging)))))))),
      )

  -- and has the node's size
  pub words-length : length (words n) ≡ size
  unfolding words
  words-length =
      regions-length n.running n.timer (length n.queue) (length n.free) (queue_words n.queue)
      (line_words n.free) (concat_map group_words n.groups)
      (concat_map (frame_words (all_pages n)) (up_from 0 (page_count paper01))) (paging_words n.paging)
      (length-queue n.queue) (length-line n.free) (length-groups n.groups v.group-count) length-frames
      (length-paging n.paging)

-- The node is read back from its map.

module _ (m : List ℕ) (n : Node) (v : Mapped n) (s : MapStands m n) where
  -- the words of each number stand at its address
  frame-stands : (f : ℕ) → f < page_count paper01 → Stands m (frame_address f) (frame_words (all_pages n) f)
  unfolding frame_address
  frame-stands f h =
      (parts-stand m (frame_words (all_pages n)) frames_at frame_stride 0 (page_count paper01) (λ j l k. length-frame n v j)).0 s.frames f (omega arith) h

  -- and are read there
  frame-read : (f : ℕ) → f < page_count paper01 → frame_places m f ≡ places_of paper01 f (all_pages n)
  unfolding frame_places frame_words
  frame-read f h =
      let good = found-good n v f in
      let read = read-records (places m) m place_words (λ a. Unit {0}) GoodPlace length-place (λ a p g k. (read-place m a p g k, tt)) in
      rw good.whole at (read (places_of paper01 f (all_pages n)) good.places (frame_address f) (frame-stands f h)).0

  -- so each page has its places
  pages-read : Every (λ x. frame_places m x.number ≡ x.places) (all_pages n)
  pages-read =
      every_of _ (all_pages n) (λ x h.
      frame-read x.number (every-at (λ y. y.number < page_count paper01) (numbers-bounded n v) h)
      ∙ every-at (λ y. places_of paper01 y.number (all_pages n) ≡ y.places) (each-found n v) h)

  -- in each group
  groups-read : Every (λ G. concat_map (frame_places m) G.buffer.frames ≡ G.buffer.places) n.groups
  unfolding all_pages pages_of
  groups-read =
      let each = (every-concat (λ x. frame_places m x.number ≡ x.places) (pages_of paper01) n.groups).0 pages-read in
      every_of _ n.groups (λ G h.
      places-from (frame_places m) G.buffer.frames G.buffer.places (every-at WholeGroup v.groups-whole h).whole
      (every-at (λ G. Every (λ x. frame_places m x.number ≡ x.places) (pages_of paper01 G)) each h))

  -- and what no buffer holds is 0
  idle-read : Every (λ f. zero_at m (frame_address f) frame_stride ≡ true) (idle n)
  idle-read =
      every-mono _ _ (λ f h. (zeros-stand m (frame_address f) frame_stride).0 (rw (idle-words n f h.1) at (frame-stands f h.0))) (idle n)
      (idle-unlisted n v)

  -- a group's list is no longer than the frames and swap pages are many
  lists-short : Every (λ G. length G.buffer.frames ≤ page_count paper01) n.groups
  unfolding frame_numbers frame_list
  lists-short =
      let all = v.frames-all in
      let e = length-append (idle n) (concat_map frame_list n.groups) in
      every_of _ n.groups (λ G h. let l = part-short frame_list h in omega arith)

  -- the queue
  queue-read : ((messages_at m queue_at (length n.queue) ≡ n.queue)
      × ((i : ℕ) → i < length n.queue → MessageFits m (queue_at + queue_stride * i)))
      × (zero_at m (queue_at + queue_stride * length n.queue) (queue_stride * (paper01.places - length n.queue)) ≡ true)
  unfolding queue_words
  queue-read =
      let q = v.queue-length in
      let l = length-parts message_words queue_stride n.queue (every_of _ n.queue (λ x h. length-message x)) in
      let k = (pad-stands m queue_at (paper01.places * queue_stride) (concat_map message_words n.queue) (omega arith)).0 s.queue in
      let e : 160 - 10 * length n.queue ≡ 10 * (16 - length n.queue) = omega arith in
      let z = rw l at k.1 in (
        read-records (messages m) m message_words (MessageFits m) GoodMessage (λ x g. length-message x) (read-message m)
            n.queue v.queue-good queue_at k.0,
        rw e at z,
      )

  -- the free line
  line_read : (words_at m free_at (length n.free) ≡ n.free)
      × (zero_at m (free_at + length n.free) (paper01.frames - length n.free) ≡ true)
  unfolding line_words
  line_read =
      let k = (pad-stands m free_at paper01.frames n.free v.free-short).0 s.free in
      (words_at-stands m free_at (length n.free) n.free refl k.0, k.1)

  -- the groups
  group-records : (groups_from m groups_at group_count ≡ n.groups) × ((i : ℕ) → i < group_count → GroupFits m (groups_at + group_stride * i))
  group-records =
      rw v.group-count at
      (read-records (groups m) m group_words (GroupFits m)
      (λ G.
      (length G.descriptor ≤ word_limit)
      × ((length G.buffer.frames ≤ page_count paper01) × (concat_map (frame_places m) G.buffer.frames ≡ G.buffer.places)))
      (λ G g. length-group G) (λ a G g. read-group m a G g.0 g.1.0 g.1.1) n.groups
      (every_of _ n.groups (λ G h. (
        (every-at WholeGroup v.groups-whole h).descriptor,
        (
          every-at (λ G. length G.buffer.frames ≤ page_count paper01) lists-short h,
          every-at (λ G. concat_map (frame_places m) G.buffer.frames ≡ G.buffer.places) groups-read h,
        ),
      )))
      groups_at s.groups)

  -- swap space and the order of entry
  paging-read : (paging_from m ≡ n.paging) × PagingFits m
  paging-read = read-paging m n.paging v.swap-short v.entered-short s.paging

  -- the node
  node-read : node_at m ≡ n
  unfolding node_at
  node-read =
      let queue : messages_at m queue_at (word m queued_at) ≡ n.queue = rw s.queued queue-read.0.0 in
      let free : words_at m free_at (word m free_count_at) ≡ n.free = rw s.free-count line_read.0 in
      λ i. record { running = s.running i; timer = s.timer i; queue = queue i; free = free i; paging = paging-read.0 i; groups = group-records.0 i }

  -- and the words pass the test
  pub read : (node_at m ≡ n) × Fits m
  read = (
    node-read,
    record {
      queued = rw s.queued v.queue-length;
      free = rw s.free-count v.free-short;
      messages = rw s.queued queue-read.0.1;
      groups = group-records.1;
      queue-zero = rw s.queued queue-read.1;
      free-zero = rw s.free-count line_read.1;
      paging = paging-read.1;
      idle-zero = rw node-read idle-read;
    },
  )
