-- The head call: the part of the memory that it names holds the words of the running group's first message, and is empty exactly where the line
-- is. Where the group's buffer holds a message, the first waits at the place after the used-up ones of its first page, whose number stands first
-- in the group's list; where it holds none, the first is the head of the hardware queue, which may stay only if it is the running group's. Both
-- places are within the memory, for a page's number is below 96 and a buffer's used-up places are fewer than a page's. Assumes nothing.
use Prim.Native.Nat.{ℕ, zero, suc, pred, ◌+◌, ◌-◌, ◌*◌, ◌≤◌, ◌<◌}
use mathlib.Core.Path.{◌≡◌, refl, sym, ap, ◌∙◌}
use mathlib.Core.Bool.{Bool, true, false, true≢false}
use mathlib.Core.List.{List, [], ◌∷◌}
use native.Mathlib.Nat.{add-zero, zero-add}
use native.Mathlib.Omega.{arith}
use lib.Dec.{eqb}
use lib.ListN.{length, take, drop, get_or}
use lib.Seq.{drop-cons, length-take-le}
use borrow.Author.Tests.{eq-eqb, ltb-true, ne_eqb}
use Rattle.rules.specs.Lists.{Every, is_empty}
use Rattle.rules.specs.Build.{paper01, page_count, group_count, word_limit}
use Rattle.rules.specs.Node.{Message, Place, Buffer, Group, Node, empty_group, empty_place, group_of, buffer_holds, message_of, waiting, in_buffer, is_of, in_queue, line}
use Rattle.rules.specs.Valid.{GoodWaiting, GoodBuffer, FirstInFrame, Valid, frame_list}
use Rattle.rules.specs.Memory.{queued_at, queue_at, queue_stride, groups_at, group_stride, place_stride, list_offset, held_offset, used_offset}
use Rattle.rules.specs.Memory.{word, words_at, frame_address, group_address, message_at, messages_at, place_at, list_at, buffer_at, group_at, node_at}
use Rattle.rules.specs.MemoryTest.{is_memory, Part, empty_part, first_place, buffer_part, queue_part, runner_part, head_part, head_words}
use Rattle.rules.specs.Reading.{InPlace, in-queue, in-frame}
use Rattle.rules.proofs.Steps.EveryLaws.{every-getD, every-concat}
use Rattle.rules.proofs.Steps.ListLaws.{filter-pass}
use Rattle.rules.proofs.Steps.SoundLaws.{valid-sound, valid-mapped}
use Rattle.rules.proofs.Steps.FrameLaws.{fits, held}
use Rattle.rules.proofs.Steps.NodeLaws.{is-of, within, group-good}
use Rattle.rules.proofs.Steps.LineLaws.{stays, direct-line}
use Rattle.rules.proofs.Map.MapWords.{getD-words_at, take-words_at, words_at-part, length-words_at, record-at}
use Rattle.rules.proofs.Map.MapParts.{messages, groups}
use Rattle.rules.proofs.Map.MapFrames.{page-place, both-bounded}
use Rattle.rules.proofs.Map.MapTest.{memory-fits}
use Rattle.rules.proofs.Map.MapLaws.{test-size, test-valid}
use Rattle.rules.proofs.Map.ShownLaws.{first_words, part_words, Shows, empty-shows}

-- some of the eight words at an address, within the memory
some_words : (m : List ℕ) (a k : ℕ) → k ≤ word_limit → a + word_limit ≤ length m → take k (words_at m a word_limit) ≡ take k (drop a m)
some_words m a k h l = take-words_at m a k word_limit h ∙ words_at-part m a k (omega arith)

-- the first waiting place of a buffer
first-waiting : (v : Buffer) (d : Place) → 1 ≤ v.count → v.used < length v.places
    → waiting v ≡ get_or v.places v.used d ∷ take (v.count - 1) (drop (suc v.used) v.places)
unfolding waiting
first-waiting v d h l =
    let e : v.count ≡ suc (v.count - 1) = omega arith in
    rw (drop-cons v.places v.used d)
    (ap (λ (c : ℕ). take c (get_or v.places v.used d ∷ drop (suc v.used) v.places)) e)

-- the buffer of a group is read at the group's address
buffer-at : (m : List ℕ) (g : ℕ) → 1 ≤ g → g ≤ group_count → (group_of (node_at m) g).buffer ≡ buffer_at m (group_address g)
unfolding group_of node_at group_address group_at
buffer-at m g low high =
    let e : pred g ≡ g - 1 = omega arith in
    ap (λ (G : Group). G.buffer) (record-at (groups m) empty_group groups_at group_count (pred g) (omega arith))
    ∙ ap (λ (i : ℕ). buffer_at m (groups_at + group_stride * i)) e

-- the place at which a buffer's first message waits
place-first : (m : List ℕ) (a : ℕ) (d : Place) → 1 ≤ word m (a + held_offset) → word m (a + used_offset) < paper01.per_frame
    → get_or (buffer_at m a).places (word m (a + used_offset)) d
    ≡ place_at m (frame_address (word m (a + list_offset)) + place_stride * word m (a + used_offset))
unfolding buffer_at list_at
place-first m a d h l =
    let some = length-words_at m (a + list_offset) (word m (a + held_offset)) in
    let first : get_or (list_at m a) 0 0 ≡ word m (a + list_offset) = rw add-zero at (getD-words_at m (a + list_offset) (word m (a + held_offset)) 0 h) in
    rw (← first) (rw zero-add at (page-place m (list_at m a) 0 (word m (a + used_offset)) d (omega arith) l))

-- the numbers of a group's frames are below 96
list-bounded : (n : Node) → Valid paper01 n → (g : ℕ) → 1 ≤ g → g ≤ group_count → Every (λ f. f < page_count paper01) (frame_list (group_of n g))
unfolding group_of
list-bounded n v g low high =
    every-getD (λ G. Every (λ f. f < page_count paper01) (frame_list G)) n.groups (pred g) empty_group
    ((every-concat (λ f. f < page_count paper01) frame_list n.groups).0 (both-bounded n (valid-mapped v)).1) (within (valid-sound v) g low high)

-- The first message of a group whose buffer holds one.

module _ (m : List ℕ) (h : is_memory m ≡ true) (g : ℕ) (low : 1 ≤ g) (high : g ≤ group_count)
    (some : 1 ≤ (group_of (node_at m) g).buffer.count) where
  -- its buffer is good
  pub good-buffer : GoodBuffer paper01 (buffer_at m (group_address g))
  good-buffer =
      rw (buffer-at m g low high) at (group-good (valid-sound (test-valid m h)) g low high).buffer

  -- with a message in it
  some-count : 1 ≤ (buffer_at m (group_address g)).count
  some-count = rw (buffer-at m g low high) at some

  -- it holds a frame
  some-held : 1 ≤ word m (group_address g + held_offset)
  unfolding buffer_at list_at
  some-held = omega (arith, held good-buffer some-count, length-words_at m (group_address g + list_offset) (word m (group_address g + held_offset)))

  -- the first of which stands first in its list
  first-listed : (group_of (node_at m) g).buffer.frames
      ≡ word m (group_address g + list_offset) ∷ words_at m (group_address g + list_offset + 1) (word m (group_address g + held_offset) - 1)
  unfolding buffer_at list_at words_at
  first-listed =
      let e : word m (group_address g + held_offset) ≡ suc (word m (group_address g + held_offset) - 1) = omega (arith, some-held) in
      ap (λ (v : Buffer). v.frames) (buffer-at m g low high) ∙ ap (words_at m (group_address g + list_offset)) e

  -- so its number is below 96
  pub first-bounded : word m (group_address g + list_offset) < page_count paper01
  unfolding frame_list
  first-bounded = (rw first-listed at (list-bounded (node_at m) (test-valid m h) g low high)).0

  -- and a frame's, where the first page is in one
  first-resident : FirstInFrame paper01 (group_of (node_at m) g).buffer.frames → word m (group_address g + list_offset) < paper01.frames
  first-resident r = rw first-listed at r

  -- its first message waits at the place that the head call names
  waits_there : waiting (buffer_at m (group_address g))
      ≡ place_at m (first_place m g)
      ∷ take ((buffer_at m (group_address g)).count - 1) (drop (suc (buffer_at m (group_address g)).used) (buffer_at m (group_address g)).places)
  unfolding first_place buffer_at
  waits_there =
      rw (← place-first m (group_address g) empty_place some-held good-buffer.used-bound)
      (first-waiting (buffer_at m (group_address g)) empty_place some-count (omega (arith, fits good-buffer, some-count)))

  -- that place is within the memory
  place-within : first_place m g + 1 + word_limit ≤ length m
  unfolding first_place frame_address buffer_at
  place-within = omega (arith, first-bounded, test-size m h, good-buffer.used-bound)

  -- of a frame then
  buffer-in-place : FirstInFrame paper01 (group_of (node_at m) g).buffer.frames → InPlace (buffer_part m g)
  unfolding buffer_part first_place buffer_at
  buffer-in-place r = in-frame (word m (group_address g + list_offset)) (word m (group_address g + used_offset)) (first-resident r) good-buffer.used-bound refl

  -- the message there is good
  first_good : GoodWaiting (place_at m (first_place m g))
  first_good = (rw waits_there at good-buffer.waiting-good).0

  -- so the line is not empty
  buffer-line : is_empty (line (node_at m) g) ≡ false
  unfolding line in_buffer
  buffer-line = rw (buffer-at m g low high, waits_there)

  -- and the part that the head call names holds the message's words
  buffer-first : first_words (line (node_at m) g) ≡ part_words m (buffer_part m g)
  unfolding first_words part_words line in_buffer message_of buffer_part place_at
  buffer-first =
      rw (buffer-at m g low high, waits_there)
      (some_words m (first_place m g + 1) (word m (first_place m g)) first_good.few_words place-within)

  -- and shows the line
  buffer-shows : Shows m (buffer_part m g) (line (node_at m) g)
  unfolding buffer_part place_at
  buffer-shows =
      let good = first_good in
      record {
        inside = omega (arith, place-within, good.few_words);
        few = good.few_words;
        empty = buffer-line ∙ sym (ne_eqb (word m (first_place m g)) 0 (omega (arith, good.some_words)));
        words = buffer-first;
      }

-- The first message of the running group where its buffer holds none: the head of the hardware queue.

module _ (n : Node) (none : buffer_holds n n.running ≡ false) where
  -- without messages in the queue it has none
  queue-empty : n.queue ≡ [] → is_empty (line n n.running) ≡ true
  unfolding in_queue
  queue-empty e = rw (direct-line n n.running none, e)

  -- the head that may stay is its first
  queue-first : Valid paper01 n → (x : Message) (q : List Message) → n.queue ≡ x ∷ q → first_words (line n n.running) ≡ x.words
  unfolding first_words in_queue
  queue-first v x q e =
      let own = is-of n.running x (stays n x (v.head-stays x q e)).0 in
      rw (direct-line n n.running none, e, filter-pass (is_of n.running) x q own)

-- The part by its cases.

-- nobody runs
pub nobody-part : (m : List ℕ) (n : Node) → n.running ≡ 0 → runner_part m n ≡ empty_part
unfolding runner_part
nobody-part m n e = rw (eq-eqb n.running 0 e)

module _ (m : List ℕ) (n : Node) (low : 1 ≤ n.running) where
  -- somebody does
  runs : eqb n.running 0 ≡ false
  runs = ne_eqb n.running 0 (λ e. omega arith)

  -- the line is empty
  pub empty-part : is_empty (line n n.running) ≡ true → runner_part m n ≡ empty_part
  unfolding runner_part
  empty-part e = rw (runs, e)

  -- its first message is in the buffer
  pub frame-part : is_empty (line n n.running) ≡ false → buffer_holds n n.running ≡ true → runner_part m n ≡ buffer_part m n.running
  unfolding runner_part
  frame-part e b = rw (runs, e, b)

  -- or at the head of the queue
  pub queue-part : is_empty (line n n.running) ≡ false → buffer_holds n n.running ≡ false → runner_part m n ≡ queue_part m
  unfolding runner_part
  queue-part e b = rw (runs, e, b)

  -- so what holds of the part in each case holds of it
  pub part-cases : (P : Part → Type 0)
      → (is_empty (line n n.running) ≡ true → P empty_part)
      → (1 ≤ (group_of n n.running).buffer.count → P (buffer_part m n.running))
      → (buffer_holds n n.running ≡ false → is_empty (line n n.running) ≡ false → P (queue_part m))
      → P (runner_part m n)
  unfolding buffer_holds
  part-cases P none waits queued = go (is_empty (line n n.running)) (buffer_holds n n.running) refl refl
    where
      go : (empty holds : Bool) → is_empty (line n n.running) ≡ empty → buffer_holds n n.running ≡ holds → P (runner_part m n)
      go true holds e b = rw (empty-part e) (none e)
      go false true e b = rw (frame-part e b) (waits (ltb-true 0 _ b))
      go false false e b = rw (queue-part e b) (queued b e)

-- What the head call shows of any memory.

-- of memory that is no node nothing
pub untested-part : (m : List ℕ) → is_memory m ≡ false → head_part m ≡ empty_part
unfolding head_part
untested-part m e = rw (e, head_part)

pub head-none : (m : List ℕ) → is_memory m ≡ false → head_words m ≡ []
unfolding head_words
head-none m e = rw (untested-part m e)

module _ (m : List ℕ) (h : is_memory m ≡ true) where
  -- a memory that is a node is read by its running group
  pub tested-part : head_part m ≡ runner_part m (node_at m)
  unfolding head_part
  tested-part = rw (h, head_part)

  -- the head of the queue is shown where it stands
  queue-shows : buffer_holds (node_at m) (node_at m).running ≡ false → is_empty (line (node_at m) (node_at m).running) ≡ false
      → Shows m (queue_part m) (line (node_at m) (node_at m).running)
  unfolding node_at part_words queue_part message_at
  queue-shows none some = go (word m queued_at) refl
    where
      go : (k : ℕ) → word m queued_at ≡ k → Shows m (queue_part m) (line (node_at m) (node_at m).running)
      go zero e = absurd (true≢false (sym (queue-empty (node_at m) none (rw e ((messages m).none queue_at))) ∙ some))
      go (suc k) e =
          let v = test-valid m h in
          let fits = ((memory-fits m).0 h).1.0.messages 0 (omega arith) in
          let q : (node_at m).queue ≡ message_at m queue_at ∷ messages_at m (queue_at + queue_stride) k = rw e ((messages m).more queue_at k) in
          let least = (rw q at v.queue-good).0.some_words in
          let len : length (take (word m (queue_at + 1)) (words_at m (queue_at + 2) word_limit)) ≡ word m (queue_at + 1) =
          length-take-le (word m (queue_at + 1)) (words_at m (queue_at + 2) word_limit) (rw (length-words_at m (queue_at + 2) word_limit) fits.few_words) in
          record {
            inside = omega (arith, test-size m h, fits.few_words);
            few = fits.few_words;
            empty = some ∙ sym (ne_eqb (word m (queue_at + 1)) 0 (omega (arith, least)));
            words =
                queue-first (node_at m) none v (message_at m queue_at) (messages_at m (queue_at + queue_stride) k) q
                ∙ some_words m (queue_at + 2) (word m (queue_at + 1)) fits.few_words (omega (arith, test-size m h));
          }

  module _ (low : 1 ≤ (node_at m).running) where
    -- the running group's first message is shown
    pub head-shows : Shows m (runner_part m (node_at m)) (line (node_at m) (node_at m).running)
    head-shows =
        part-cases m (node_at m) low (λ p. Shows m p (line (node_at m) (node_at m).running))
        (empty-shows m (line (node_at m) (node_at m).running))
        (buffer-shows m h (node_at m).running low (test-valid m h).running-bound)
        queue-shows

    -- from the queue's place or a frame's
    pub head-in-place : 1 ≤ (runner_part m (node_at m)).len → InPlace (runner_part m (node_at m))
    unfolding queue_part
    head-in-place =
        part-cases m (node_at m) low (λ p. 1 ≤ p.len → InPlace p)
        (λ e some. absurd (omega arith))
        (λ waits some. buffer-in-place m h (node_at m).running low (test-valid m h).running-bound waits ((test-valid m h).runner-resident low))
        (λ direct e some. in-queue refl)
