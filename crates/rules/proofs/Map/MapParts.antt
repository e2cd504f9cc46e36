-- The parts of the memory map: a message of the queue, a place of a frame, the record of a group. For each: its length in words; what
-- stands at its address is read back there, and passes the memory test's clauses on it; and where those clauses pass, what stands there is
-- the part that is read. True word by word: each word of a part is one number of it, or a 0 past the end of a list. Assumes nothing.
use Prim.Native.Nat.{ℕ, zero, suc, ◌+◌, ◌-◌, ◌≤◌}
use mathlib.Core.Path.{◌≡◌, refl, sym, ap, ◌∙◌}
use mathlib.Core.Logic.{◌↔◌}
use mathlib.Core.Bool.{Bool, true, false}
use mathlib.Core.List.{List}
use native.Mathlib.Omega.{arith}
use native.Mathlib.Nat.{add-zero}
use lib.Dec.{eqb}
use lib.ListN.{length, take, length-append}
use Rattle.rules.specs.Lists.{concat_map, pad}
use Rattle.rules.specs.Build.{paper01, page_count, word_limit}
use Rattle.rules.specs.Node.{Message, Place, Group}
use Rattle.rules.specs.Valid.{GoodMessage, GoodPlace}
use Rattle.rules.specs.Memory.{queue_stride, group_stride, place_stride, atomic_offset, pending_offset, force_offset, revoked_offset, used_offset, count_offset, held_offset, described_offset, descriptor_offset, list_offset}
use Rattle.rules.specs.Memory.{word, words_at, flag_word, message_words, list_words, group_words, place_words, message_at, messages_at, place_at, places_at, frame_places, flag_at, list_at, buffer_at, group_at, groups_from}
use Rattle.rules.specs.MemoryTest.{zero_at}
use Rattle.rules.proofs.Steps.ListLaws.{length-pad}
use Rattle.rules.proofs.Map.MapWords.{Stands, Records, stands-cons, stands-append, stands-words_at, words_at-stands, length-words_at, take-words_at, pad-stands}

-- the address behind an offset
next_address : (a k : ℕ) → a + k + 1 ≡ a + suc k
next_address a k = omega arith

-- Messages of the queue.

-- messages are read one behind the other
pub messages : (m : List ℕ) → Records (message_at m) queue_stride (messages_at m)
unfolding messages_at
messages m = record { none = λ a. refl; more = λ a k. refl }

-- a message takes ten words
pub length-message : (x : Message) → length (message_words x) ≡ queue_stride
unfolding message_words
length-message x = rw length-pad

-- what stands at the place of a message, word by word
record MessageStands (m : List ℕ) (a : ℕ) (x : Message) : Type 0 where
  group : word m a ≡ x.group
  len : word m (a + 1) ≡ length x.words
  words : Stands m (a + 2) x.words
  rest-zero : zero_at m (a + 2 + length x.words) (word_limit - length x.words) ≡ true

-- what the memory test asks of the place of a message
pub record MessageFits (m : List ℕ) (a : ℕ) : Type 0 where
  pub few_words : word m (a + 1) ≤ word_limit
  pub rest-zero : zero_at m (a + 2 + word m (a + 1)) (word_limit - word m (a + 1)) ≡ true

module _ (m : List ℕ) (a : ℕ) where
  -- a message of at most eight words stands word by word
  message-stands : (x : Message) → length x.words ≤ word_limit → Stands m a (message_words x) ↔ MessageStands m a x
  unfolding message_words
  message-stands x h =
      simp (stands-cons, next_address, pad-stands) (
        λ k. record { group = k.0; len = k.1.0; words = k.1.1.0; rest-zero = k.1.1.1 },
        λ k. (k.group, (k.len, (k.words, k.rest-zero))),
      )

  -- a message that stands at an address is read there, and its words pass the test
  pub read-message : (x : Message) → GoodMessage x → Stands m a (message_words x) → (message_at m a ≡ x) × MessageFits m a
  unfolding message_at
  read-message x g h =
      let k = (message-stands x g.few_words).0 h in
      let few : word m (a + 1) ≤ word_limit = rw k.len g.few_words in
      let same : take (word m (a + 1)) (words_at m (a + 2) word_limit) ≡ x.words =
      take-words_at m (a + 2) (word m (a + 1)) word_limit few ∙ words_at-stands m (a + 2) (word m (a + 1)) x.words (sym k.len) k.words in
      (λ i. record { group = k.group i; words = same i }, record { few_words = few; rest-zero = rw k.len k.rest-zero })

  -- words that pass the test are those of the message that is read
  pub message-at-stands : MessageFits m a → Stands m a (message_words (message_at m a))
  unfolding message_at
  message-at-stands f =
      let same = take-words_at m (a + 2) (word m (a + 1)) word_limit f.few_words in
      let l : length (message_at m a).words ≡ word m (a + 1) = ap length same ∙ length-words_at m (a + 2) (word m (a + 1)) in
      (message-stands (message_at m a) (rw l f.few_words)).1
      (record { group = refl; len = sym l; words = rw same (stands-words_at m (a + 2) (word m (a + 1))); rest-zero = rw l f.rest-zero })

-- Places of a frame.

-- places are read one behind the other
pub places : (m : List ℕ) → Records (place_at m) place_stride (places_at m)
unfolding places_at
places m = record { none = λ a. refl; more = λ a k. refl }

-- a place takes nine words
pub length-place : (p : Place) → GoodPlace p → length (place_words p) ≡ place_stride
unfolding place_words
length-place p g = ap suc g.eight

module _ (m : List ℕ) (a : ℕ) where
  -- a place that stands at an address is read there
  pub read-place : (p : Place) → GoodPlace p → Stands m a (place_words p) → place_at m a ≡ p
  unfolding place_at place_words
  read-place p g h =
      let k = (stands-cons m a p.len p.words).0 h in
      let same = words_at-stands m (a + 1) word_limit p.words g.eight k.1 in
      λ i. record { len = k.0 i; words = same i }

  -- any place that is read is good
  pub good-place-at : GoodPlace (place_at m a)
  unfolding place_at
  good-place-at = record { eight = length-words_at m (a + 1) word_limit }

  -- and any words are those of the place that is read
  pub place-at-stands : Stands m a (place_words (place_at m a))
  unfolding place_at place_words
  place-at-stands = (stands-cons m a (word m a) (words_at m (a + 1) word_limit)).1 (refl, stands-words_at m (a + 1) word_limit)

-- Groups.

-- groups are read one behind the other
pub groups : (m : List ℕ) → Records (group_at m) group_stride (groups_from m)
unfolding groups_from
groups m = record { none = λ a. refl; more = λ a k. refl }

-- a group takes 112 words
pub length-group : (G : Group) → length (group_words G) ≡ group_stride
unfolding group_words list_words
length-group G = simp (length-append, length-pad)

-- what stands at the record of a group, word by word
pub record GroupStands (m : List ℕ) (a : ℕ) (G : Group) : Type 0 where
  pub atomic : word m (a + atomic_offset) ≡ flag_word G.atomic
  pub pending : word m (a + pending_offset) ≡ flag_word G.pending
  pub force : word m (a + force_offset) ≡ flag_word G.force
  pub revoked : word m (a + revoked_offset) ≡ flag_word G.revoked
  pub used : word m (a + used_offset) ≡ G.buffer.used
  pub count : word m (a + count_offset) ≡ G.buffer.count
  pub held : word m (a + held_offset) ≡ length G.buffer.frames
  pub described : word m (a + described_offset) ≡ length G.descriptor
  pub descriptor : Stands m (a + descriptor_offset) G.descriptor
  pub descriptor-zero : zero_at m (a + descriptor_offset + length G.descriptor) (word_limit - length G.descriptor) ≡ true
  pub list : Stands m (a + list_offset) G.buffer.frames
  pub list-zero : zero_at m (a + list_offset + length G.buffer.frames) (page_count paper01 - length G.buffer.frames) ≡ true

-- what the memory test asks of the record of a group
pub record GroupFits (m : List ℕ) (a : ℕ) : Type 0 where
  pub atomic : word m (a + atomic_offset) ≤ 1
  pub pending : word m (a + pending_offset) ≤ 1
  pub force : word m (a + force_offset) ≤ 1
  pub revoked : word m (a + revoked_offset) ≤ 1
  pub held : word m (a + held_offset) ≤ page_count paper01
  pub described : word m (a + described_offset) ≤ word_limit
  pub list-zero : zero_at m (a + list_offset + word m (a + held_offset)) (page_count paper01 - word m (a + held_offset)) ≡ true
  pub descriptor-zero : zero_at m (a + descriptor_offset + word m (a + described_offset)) (word_limit - word m (a + described_offset)) ≡ true

-- a flag is read from its word, and its word is at most 1
flag-read : (f : Bool) → (eqb (flag_word f) 1 ≡ f) × (flag_word f ≤ 1)
unfolding flag_word
flag-read true = (refl, omega arith)
flag-read false = (refl, omega arith)

-- and a word of at most 1 is that of a flag
flag-word : (w : ℕ) → w ≤ 1 → w ≡ flag_word (eqb w 1)
unfolding flag_word
flag-word zero h = refl
flag-word (suc zero) h = refl
flag-word (suc (suc w)) h = absurd (omega arith)

module _ (m : List ℕ) (a : ℕ) where
  -- a group whose lists fit stands word by word
  pub group-stands : (G : Group) → length G.descriptor ≤ word_limit → length G.buffer.frames ≤ page_count paper01
      → Stands m a (group_words G) ↔ GroupStands m a G
  unfolding group_words list_words
  group-stands G h l =
      let both = stands-append m (a + descriptor_offset) (pad word_limit G.descriptor) (list_words G.buffer.frames) in
      let e : a + descriptor_offset + word_limit ≡ a + list_offset = omega arith in
      simp (stands-cons, next_address, both, length-pad, e, pad-stands) (
        λ k.
            record {
              atomic = rw add-zero k.0;
              pending = k.1.0;
              force = k.1.1.0;
              revoked = k.1.1.1.0;
              used = k.1.1.1.1.0;
              count = k.1.1.1.1.1.0;
              held = k.1.1.1.1.1.1.0;
              described = k.1.1.1.1.1.1.1.0;
              descriptor = k.1.1.1.1.1.1.1.1.0.0;
              descriptor-zero = k.1.1.1.1.1.1.1.1.0.1;
              list = k.1.1.1.1.1.1.1.1.1.0;
              list-zero = k.1.1.1.1.1.1.1.1.1.1;
            },
        λ k. (
          rw add-zero at k.atomic,
          (
            k.pending,
            (
              k.force,
              (
                k.revoked,
                (k.used, (k.count, (k.held, (k.described, ((k.descriptor, k.descriptor-zero), (k.list, k.list-zero)))))),
              ),
            ),
          ),
        ),
      )

  -- a group that stands at an address is read there, and its words pass the test
  pub read-group : (G : Group) → length G.descriptor ≤ word_limit → length G.buffer.frames ≤ page_count paper01
      → concat_map (frame_places m) G.buffer.frames ≡ G.buffer.places → Stands m a (group_words G) → (group_at m a ≡ G) × GroupFits m a
  unfolding group_at buffer_at list_at flag_at
  read-group G h l e s =
      let k = (group-stands G h l).0 s in
      let atomic : flag_at m (a + atomic_offset) ≡ G.atomic = rw k.atomic (flag-read G.atomic).0 in
      let pending : flag_at m (a + pending_offset) ≡ G.pending = rw k.pending (flag-read G.pending).0 in
      let force : flag_at m (a + force_offset) ≡ G.force = rw k.force (flag-read G.force).0 in
      let revoked : flag_at m (a + revoked_offset) ≡ G.revoked = rw k.revoked (flag-read G.revoked).0 in
      let list : list_at m a ≡ G.buffer.frames = words_at-stands m (a + list_offset) (word m (a + held_offset)) G.buffer.frames (sym k.held) k.list in
      let descriptor = words_at-stands m (a + descriptor_offset) (word m (a + described_offset)) G.descriptor (sym k.described) k.descriptor in
      let places = ap (concat_map (frame_places m)) list ∙ e in (
        λ i. record {
          atomic = atomic i;
          pending = pending i;
          force = force i;
          revoked = revoked i;
          buffer = record { used = k.used i; count = k.count i; frames = list i; places = places i };
          descriptor = descriptor i;
        },
        record {
          atomic = rw k.atomic (flag-read G.atomic).1;
          pending = rw k.pending (flag-read G.pending).1;
          force = rw k.force (flag-read G.force).1;
          revoked = rw k.revoked (flag-read G.revoked).1;
          held = rw k.held l;
          described = rw k.described h;
          list-zero = rw k.held k.list-zero;
          descriptor-zero = rw k.described k.descriptor-zero;
        },
      )

  -- words that pass the test are those of the group that is read
  pub group-at-stands : GroupFits m a → Stands m a (group_words (group_at m a))
  unfolding group_at buffer_at list_at flag_at
  group-at-stands f =
      let described = length-words_at m (a + descriptor_offset) (word m (a + described_offset)) in
      let held = length-words_at m (a + list_offset) (word m (a + held_offset)) in
      (group-stands (group_at m a) (rw described f.described) (rw held f.held)).1
      (record {
        atomic = flag-word (word m (a + atomic_offset)) f.atomic;
        pending = flag-word (word m (a + pending_offset)) f.pending;
        force = flag-word (word m (a + force_offset)) f.force;
        revoked = flag-word (word m (a + revoked_offset)) f.revoked;
        used = refl;
        count = refl;
        held = sym held;
        described = sym described;
        descriptor = stands-words_at m (a + descriptor_offset) (word m (a + described_offset));
        descriptor-zero = rw described f.descriptor-zero;
        list = stands-words_at m (a + list_offset) (word m (a + held_offset));
        list-zero = rw held f.list-zero;
      })
