-- A group of the node in memory: its record word by word, its flags, counts and list written, and frames exchanged between its list and the
-- free line. Assumes nothing.
use Prim.Native.Nat.{◌*◌, ◌+◌, ◌-◌, ◌<◌, ◌≤◌, pred, ℕ}
use native.Mathlib.Nat.{add-zero}
use native.Mathlib.Omega.{arith}
use mathlib.Core.Bool.{Bool, true, false}
use mathlib.Core.List.{List, [], ◌++◌, ◌∷◌}
use mathlib.Core.Path.{◌∙◌, ◌≡◌, refl, sym, ap}
use lib.Dec.{ltb}
use lib.ListN.{get_or, length, length-set}
use Rattle.rules.specs.Build.{group_count, page_count, paper01, word_limit}
use Rattle.rules.specs.Lists.{pad}
use Rattle.rules.specs.Memory.{flag_word, frames_at, group_address, group_stride, group_words, groups_at, held_offset, list_offset, list_words, word, count_offset, revoked_offset, pages_of}
use Rattle.rules.specs.Node.{Group, Node, Place, empty_group, group_of, with_buffer, with_free, with_paging, with_entered, with_group, buffer_holds, with_flags, with_timer_flags}
use Rattle.rules.specs.Valid.{frame_numbers, idle}
use Rattle.rules.proofs.Steps.EveryLaws.{every-getD, every_set}
use Rattle.rules.proofs.Steps.FrameLaws.{SameFrames}
use Rattle.rules.proofs.Steps.ListLaws.{length-pad, weight}
use Rattle.rules.proofs.Map.MapParts.{GroupStands, group-stands}
use Rattle.rules.proofs.Map.MapWords.{Stands, stands-append}
use Rattle.rules.proofs.Steps.NodeLaws.{reweighed, weights-count, weights-length}
use Rattle.rules.specs.Sound.{Mapped, WholeGroup}
use Rattle.memory.specs.Holds.{Holds, flagging, timer_flagging, with_counts}
use Rattle.memory.specs.Writes.{Wrote, group_front, group_read, reflagged, retimed, recounted}
use Rattle.memory.proofs.CountLaws.{lists-short}
use Rattle.memory.proofs.lines.LineLaws.{LineStands, LineWrote}
use Rattle.memory.proofs.PieceLaws.{Pieces, holds-pieces, pieces-hold}
use Rattle.memory.proofs.PieceWrites.{group-put}
use Rattle.memory.proofs.WriteLaws.{stands_word, widened, widened-end, wrote-over, wrote-stands}

-- Reading a group.

-- a group of the node is whole
pub group-whole : {n : Node} → Mapped n → (g : ℕ) → 1 ≤ g → g ≤ group_count → WholeGroup (group_of n g)
unfolding group_of
group-whole {n} v g low high = every-getD WholeGroup n.groups (pred g) empty_group v.groups-whole (omega (arith, v.group-count))

-- its record stands at its address
pub record-stands : {m : List ℕ} {n : Node} {r : List ℕ} → Pieces m n r → (g : ℕ) → 1 ≤ g → g ≤ group_count → Stands m (group_address g) (group_words (group_of n g))
unfolding group_of group_address
record-stands {m} {n} p g low high =
    let e : groups_at + group_stride * pred g ≡ groups_at + group_stride * (g - 1) = omega arith in
    rw e at (p.groups (pred g) (omega arith))

-- word by word
pub group-words : {m : List ℕ} {n : Node} {r : List ℕ} → Pieces m n r → Mapped n → (g : ℕ) → 1 ≤ g → g ≤ group_count
    → GroupStands m (group_address g) (group_of n g)
group-words {m} {n} p v g low high =
    (group-stands m (group_address g) (group_of n g) (group-whole v g low high).descriptor (omega (arith, lists-short v g low high))).0
    (record-stands p g low high)

-- a number of a group's list
pub listed : (m : List ℕ) (a : ℕ) (fs : List ℕ) (j : ℕ) → j < length fs → Stands m (a + list_offset) fs → word m (a + (list_offset + j)) ≡ get_or fs j 0
listed m a fs j h s = let e : a + (list_offset + j) ≡ a + list_offset + j = omega arith in rw e (stands_word m (a + list_offset) fs j h s)

-- the record of a group lies within the memory
pub record-within : (g : ℕ) → g ≤ group_count → group_address g + group_stride ≤ frames_at
unfolding group_address
record-within g high = omega arith

-- The list of a group.

-- the flags and counts of a group, which stand first in its record
abbrev pub record_front : Group → List ℕ
record_front G =
    flag_word G.atomic ∷ flag_word G.pending ∷ flag_word G.force ∷ flag_word G.revoked ∷ G.buffer.used ∷ G.buffer.count ∷ []

-- what stands in it before its list
abbrev pub before_list : Group → List ℕ
before_list G = record_front G ++ (length G.buffer.frames ∷ length G.descriptor ∷ pad word_limit G.descriptor)

-- it is 16 words
pub length_before : (G : Group) → length (before_list G) ≡ list_offset
length_before G = omega (arith, length-pad word_limit G.descriptor)

-- the list stands as a line
pub record-line : (m : List ℕ) (a : ℕ) (G : Group) → length G.descriptor ≤ word_limit → length G.buffer.frames ≤ page_count paper01
    → Stands m a (group_words G) → LineStands m (a + held_offset) (a + list_offset) (page_count paper01) G.buffer.frames
unfolding group_words list_words
record-line m a G few short s =
    record {
      counted = ((group-stands m a G few short).0 s).held;
      numbers = rw (length_before G) at ((stands-append m a (before_list G) (pad (page_count paper01) G.buffer.frames)).0 s).1;
      few = short;
    }

pub list-line : {m : List ℕ} {n : Node} {r : List ℕ} → Pieces m n r → Mapped n → (g : ℕ) → 1 ≤ g → g ≤ group_count
    → LineStands m (group_address g + held_offset) (group_address g + list_offset) (page_count paper01) (group_of n g).buffer.frames
list-line {m} {n} p v g low high =
    record-line m (group_address g) (group_of n g) (group-whole v g low high).descriptor (omega (arith, lists-short v g low high)) (record-stands p g low high)

-- a group with these pages
unfoldable pub with_pages : List ℕ → List Place → Group → Group
with_pages fs ps G = with_buffer (record { used = G.buffer.used; count = G.buffer.count; frames = fs; places = ps }) G

-- its list is written, and its count
pub list_wrote : {m m' : List ℕ} (a : ℕ) (G : Group) (fs : List ℕ) (ps : List Place) → Stands m a (group_words G)
    → LineWrote m m' (a + held_offset) (a + list_offset) (page_count paper01) fs → Wrote m m' a (group_words (with_pages fs ps G))
unfolding group_words list_words with_pages with_buffer
list_wrote a G fs ps s w =
    let old = pad (page_count paper01) G.buffer.frames in
    let new = pad (page_count paper01) fs in
    let w₁ = widened-end w.numbers a (before_list G) old (ap (λ (k : ℕ). a + k) (sym (length_before G)))
    (length-pad (page_count paper01) G.buffer.frames ∙ sym (length-pad (page_count paper01) fs)) s in
    let w₂ = widened w.counted a (record_front G) (length G.buffer.frames ∷ [])
    (length G.descriptor ∷ pad word_limit G.descriptor ++ new) refl refl (wrote-stands w₁) in
    wrote-over w₁ w₂ refl

-- A node with frames exchanged between the free line and a group can be mapped.

pub mapped-group : {n : Node} → Mapped n → (g : ℕ) → 1 ≤ g → g ≤ group_count → (G : Group) (fs : List ℕ) → WholeGroup G
    → length fs ≤ paper01.frames → SameFrames fs G.buffer.frames n.free (group_of n g).buffer.frames
    → Mapped (with_group g G (with_free fs n))
unfolding with_group with_free with_paging with_entered frame_numbers idle
mapped-group {n} v g low high G fs whole few even =
    let old = frame_numbers n in
    let new = frame_numbers (with_group g G (with_free fs n)) in
    let frames : (w : ℕ → ℕ) → weight w new ≡ weight w old = reweighed n g G fs n.paging.entered (omega (arith, v.group-count)) even in
    record {
      queue-length = v.queue-length;
      queue-good = v.queue-good;
      group-count = length-set n.groups (pred g) G ∙ v.group-count;
      groups-whole = every_set WholeGroup n.groups (pred g) G v.groups-whole whole;
      frames-once = λ f below. weights-count old new frames f ∙ v.frames-once f below;
      frames-all = weights-length old new frames ∙ v.frames-all;
      free-short = few;
      swap-short = v.swap-short;
      entered-short = v.entered-short;
    }

-- Flags and counts.

-- a flag is on where its word is above 0
pub flag-above : (f : Bool) → f ≡ ltb 0 (flag_word f)
unfolding flag_word
flag-above true = refl
flag-above false = refl

-- the group with the flags and counts of another
unfoldable with_front : Group → Group → Group
with_front F G =
    record {
      atomic = F.atomic;
      pending = F.pending;
      force = F.force;
      revoked = F.revoked;
      buffer = record { used = F.buffer.used; count = F.buffer.count; frames = G.buffer.frames; places = G.buffer.places };
      descriptor = G.descriptor;
    }

-- they are written, and nothing else of the record
record-wrote : {m m' : List ℕ} (a : ℕ) (F G : Group) → Stands m a (group_words G) → Wrote m m' a (record_front F) → Wrote m m' a (group_words (with_front F G))
unfolding group_words with_front
record-wrote a F G s w =
    widened w a [] (record_front G) (length G.buffer.frames ∷ length G.descriptor ∷ pad word_limit G.descriptor ++ list_words G.buffer.frames)
    (sym (add-zero a)) refl s

-- the node has them
record-held : {m m' : List ℕ} {n : Node} {r : List ℕ} → Holds m n r → (g : ℕ) → 1 ≤ g → g ≤ group_count → (F : Group)
    → Wrote m m' (group_address g) (record_front F) → Holds m' (with_group g (with_front F (group_of n g)) n) r
unfolding with_front with_free pages_of group_of
record-held {n = n} held g low high F w =
    let v = held.mapped in
    let pieces = holds-pieces held in
    let whole = group-whole v g low high in
    let G = with_front F (group_of n g) in
    pieces-hold
    (mapped-group v g low high G n.free (record { descriptor = whole.descriptor; whole = whole.whole; places = whole.places }) v.free-short (λ x. refl))
    (group-put pieces g low high v.group-count G (record-wrote (group_address g) F (group_of n g) (record-stands pieces g low high) w)
    (pieces.group-pages (pred g) (omega arith)))

-- the counts are written, and the flags as they are read
pub counts-wrote : {m m' : List ℕ} (g : ℕ) (G : Group) → length G.descriptor ≤ word_limit → length G.buffer.frames ≤ page_count paper01
    → Stands m (group_address g) (group_words G) → (h k : ℕ) → Wrote m m' (group_address g) (group_front (recounted h k (group_read m g)))
    → Wrote m m' (group_address g) (group_words (with_counts h k G))
unfolding with_counts with_buffer with_front
counts-wrote {m} g G few short s h k w =
    let words = (group-stands m (group_address g) G few short).0 s in
    record-wrote (group_address g) (with_counts h k G) G s (rw (words.atomic, words.pending, words.force, words.revoked) at w)

module _ {m : List ℕ} {n : Node} {r : List ℕ} (held : Holds m n r) (g : ℕ) (low : 1 ≤ g) (high : g ≤ group_count) where
  -- the node has the counts
  pub counts-held : {m' : List ℕ} (h k : ℕ) → Wrote m m' (group_address g) (group_front (recounted h k (group_read m g)))
      → Holds m' (with_group g (with_counts h k (group_of n g)) n) r
  unfolding with_counts with_buffer with_front
  counts-held h k w =
      let words = group-words (holds-pieces held) held.mapped g low high in
      record-held held g low high (with_counts h k (group_of n g)) (rw (words.atomic, words.pending, words.force, words.revoked) at w)

  -- the flags atomic and pending
  pub flags-held : {m' : List ℕ} (a p : Bool) → Wrote m m' (group_address g) (group_front (reflagged (flag_word a) (flag_word p) (group_read m g)))
      → Holds m' (flagging g a p n) r
  unfolding flagging with_flags with_front
  flags-held a p w =
      let words = group-words (holds-pieces held) held.mapped g low high in
      record-held held g low high (with_flags a p (group_of n g)) (rw (words.force, words.revoked, words.used, words.count) at w)

  -- or the timer's flags
  pub timer-flags-held : {m' : List ℕ} (f t : Bool) → Wrote m m' (group_address g) (group_front (retimed (flag_word f) (flag_word t) (group_read m g)))
      → Holds m' (timer_flagging g f t n) r
  unfolding timer_flagging with_timer_flags with_front
  timer-flags-held f t w =
      let words = group-words (holds-pieces held) held.mapped g low high in
      record-held held g low high (with_timer_flags f t (group_of n g)) (rw (words.atomic, words.pending, words.used, words.count) at w)

  -- whether a group's buffer holds messages is read from its count
  pub holds_read : buffer_holds n g ≡ ltb 0 (word m (group_address g + count_offset))
  unfolding buffer_holds
  holds_read = ap (ltb 0) (sym (group-words (holds-pieces held) held.mapped g low high).count)

  -- and whether it is revoked from that flag
  pub revoked-read : (group_of n g).revoked ≡ ltb 0 (word m (group_address g + revoked_offset))
  revoked-read = flag-above (group_of n g).revoked ∙ ap (ltb 0) (sym (group-words (holds-pieces held) held.mapped g low high).revoked)
