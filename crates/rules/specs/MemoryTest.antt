-- "Memory is a node when", on words; and the steps on memory. Assumes nothing.
use Rattle.std.specs.Prelude.{ℕ, ◌+◌, ◌*◌, ◌-◌, Bool, true, false, cond, ◌&&◌, ◌||◌, List, [], ◌∷◌, ◌++◌, eqb, leb, length, take, drop}
use Rattle.rules.specs.Lists.{all, passes, is_empty, up_from}
use Rattle.rules.specs.Build.{paper01, page_count, group_count, word_limit}
use Rattle.rules.specs.Node.{Node, power_on, buffer_holds, line}
use Rattle.rules.specs.Operation.{Operation, Report, all_zero, not_node, refused}
use Rattle.rules.specs.Valid.{idle, is_node}
use Rattle.rules.specs.Step.{step}
use Rattle.rules.specs.Memory.{queued_at, free_count_at, queue_at, queue_stride, free_at, atomic_offset, pending_offset, force_offset, revoked_offset, used_offset, held_offset, described_offset, descriptor_offset, list_offset, place_stride, frame_stride, swap_count_at, entered_count_at, out_at, brought_at, swap_at, entered_at, size}
use Rattle.rules.specs.Memory.{words, word, words_at, frame_address, group_address, node_at}

-- the k words from address a on are 0
unfoldable pub zero_at : List ℕ → ℕ → ℕ → Bool
zero_at m a k = all (eqb 0) (words_at m a k)

-- "waiting messages' lengths .. are within the bounds above": that of the i-th in the queue
unfoldable pub length_in_bounds : List ℕ → ℕ → Bool
length_in_bounds m i = leb (word m (queue_at + queue_stride * i + 1)) word_limit

-- "counts .. are within the bounds above": those of a group's list and descriptor
unfoldable pub group_counts : List ℕ → ℕ → Bool
group_counts m g =
    leb (word m (group_address g + held_offset)) (page_count paper01) && leb (word m (group_address g + described_offset)) word_limit

-- "counts .. [and] waiting messages' lengths .. are within the bounds above", as far as words alone tell
unfoldable pub counts_in_bounds : List ℕ → Bool
counts_in_bounds m =
    leb (word m queued_at) paper01.places
    && (leb (word m free_count_at) paper01.frames
    && (leb (word m swap_count_at) paper01.swap
    && (leb (word m entered_count_at) paper01.frames
    && (all (group_counts m) (up_from 1 group_count) && all (length_in_bounds m) (up_from 0 (word m queued_at))))))

-- "flags are 0 or 1": those of one group
unfoldable pub group_flags : List ℕ → ℕ → Bool
group_flags m g =
    leb (word m (group_address g + atomic_offset)) 1
    && (leb (word m (group_address g + pending_offset)) 1
    && (leb (word m (group_address g + force_offset)) 1 && leb (word m (group_address g + revoked_offset)) 1))

-- "flags are 0 or 1"
unfoldable pub flags_are_flags : List ℕ → Bool
flags_are_flags m = all (group_flags m) (up_from 1 group_count)

-- "unused places of the queue .. are 0"
unfoldable pub queue_unused : List ℕ → Bool
queue_unused m =
    let k = word m queued_at in
    zero_at m (queue_at + queue_stride * k) (queue_stride * (paper01.places - k))

-- "unused places of the .. free line .. are 0"
unfoldable pub free_unused : List ℕ → Bool
free_unused m =
    let k = word m free_count_at in
    zero_at m (free_at + k) (paper01.frames - k)

-- the same of the swap line
unfoldable pub swap_unused : List ℕ → Bool
swap_unused m =
    let k = word m swap_count_at in
    zero_at m (swap_at + k) (paper01.swap - k)

-- the order of entry has "its unused places 0"
unfoldable pub entered_unused : List ℕ → Bool
entered_unused m =
    let k = word m entered_count_at in
    zero_at m (entered_at + k) (paper01.frames - k)

-- "unused places of the .. lists, unused descriptor words .. are 0": those of one group
unfoldable pub group_unused : List ℕ → ℕ → Bool
group_unused m g =
    let held = word m (group_address g + held_offset) in
    let described = word m (group_address g + described_offset) in
    zero_at m (group_address g + list_offset + held) (page_count paper01 - held)
    && zero_at m (group_address g + descriptor_offset + described) (word_limit - described)

-- "a waiting message's words past its length are 0": of the i-th in the queue; of one in a buffer it is asked of the node
unfoldable pub message_unused : List ℕ → ℕ → Bool
message_unused m i =
    let len = word m (queue_at + queue_stride * i + 1) in
    zero_at m (queue_at + queue_stride * i + 2 + len) (word_limit - len)

-- "unused places of the queue, free line and lists, unused descriptor words and a waiting message's words past its length are 0"
unfoldable pub unused_are_zero : List ℕ → Bool
unused_are_zero m =
    queue_unused m
    && (free_unused m
    && (swap_unused m
    && (entered_unused m && (all (group_unused m) (up_from 1 group_count) && all (message_unused m) (up_from 0 (word m queued_at))))))

-- "Memory is no node (1) if a frame or swap page has a word or kept length other than 0 that is no part of a waiting message.": one that no buffer
-- holds is 0; of a buffer's places it is asked of the node
unfoldable pub frame_wiped : List ℕ → ℕ → Bool
frame_wiped m f = zero_at m (frame_address f) frame_stride

-- those of the free line and of the swap line
unfoldable pub idle_are_wiped : List ℕ → Bool
idle_are_wiped m = all (frame_wiped m) (idle (node_at m))

-- the memory test: the size, the clauses on words, then those on the node that the words hold
unfoldable pub memory_tests : List (List ℕ → Bool)
memory_tests =
    (λ m. leb size (length m))
    ∷ counts_in_bounds
    ∷ flags_are_flags
    ∷ unused_are_zero
    ∷ idle_are_wiped
    ∷ (λ m. is_node paper01 (node_at m))
    ∷ []

-- "Memory is a node when"
unfoldable pub is_memory : List ℕ → Bool
is_memory m = passes memory_tests m

-- a step on memory: its report, and the words after it
pub record MemoryStep : Type 0 where
  pub report : Report
  pub memory : List ℕ

-- "Memory past the node's size is never touched."
unfoldable pub replaced : Node → List ℕ → List ℕ
replaced n m = words n ++ drop size m

-- "1: memory too short, or not a node. Tested first, at every step"
unfoldable pub step_memory : List ℕ → Operation → MemoryStep
step_memory m op =
    elim (is_memory m) [
      | true ↦
          let s = step paper01 (node_at m) op in
          record { report = s.report; memory = replaced s.node m }
      | false ↦ record { report = refused not_node; memory = m }
    ]

-- "power-on tests only the size"
unfoldable pub power_on_memory : List ℕ → MemoryStep
power_on_memory m =
    elim (leb size (length m)) [
      | true ↦ record { report = all_zero; memory = replaced (power_on paper01) m }
      | false ↦ record { report = refused not_node; memory = m }
    ]

-- a part of the memory: where it begins, and how many words it has
pub record Part : Type 0 where
  pub start : ℕ
  pub len : ℕ

-- "an empty part"
abbrev pub empty_part : Part
empty_part = record { start = 0; len = 0 }

-- where the first message of group g is kept while its buffer holds one: in its first page, behind the used-up places
unfoldable pub first_place : List ℕ → ℕ → ℕ
first_place m g =
    frame_address (word m (group_address g + list_offset)) + place_stride * word m (group_address g + used_offset)

-- the words of the first message of group g, "from .. frame place"
unfoldable pub buffer_part : List ℕ → ℕ → Part
buffer_part m g = record { start = first_place m g + 1; len = word m (first_place m g) }

-- the words of the queue's head, "from queue place"
unfoldable pub queue_part : List ℕ → Part
queue_part m = record { start = queue_at + 2; len = word m (queue_at + 1) }

-- "the running group's first, an empty part if there is none"
unfoldable pub runner_part : List ℕ → Node → Part
runner_part m n =
    cond (eqb n.running 0 || is_empty (line n n.running)) empty_part
    (cond (buffer_holds n n.running) (buffer_part m n.running) (queue_part m))

-- "the words of the head message as a part of the lent memory .. , an empty part if .. the memory is no node"
unfoldable pub head_part : List ℕ → Part
head_part m = elim (is_memory m) [ true ↦ runner_part m (node_at m) | false ↦ empty_part ]

-- the words of that part
unfoldable pub head_words : List ℕ → List ℕ
head_words m = take (head_part m).len (drop (head_part m).start m)

-- pages sent out, and pages brought in
pub record PageCounts : Type 0 where
  pub out : ℕ
  pub brought : ℕ

-- "A separate call gives pages sent out and brought in so far", zeros where the memory is no node
unfoldable pub page_counts : List ℕ → PageCounts
page_counts m =
    elim (is_memory m) [
      | true ↦ record { out = word m out_at; brought = word m brought_at }
      | false ↦ record { out = 0; brought = 0 }
    ]
