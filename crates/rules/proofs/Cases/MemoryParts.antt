-- The parts of a memory, for computing. The definitions read each word from the memory's start; here the memory is cut at its groups, its frames
-- and swap space, and each part is walked. The node and the clauses on words, read so, are those of the definitions. Assumes nothing.
use Prim.Native.Nat.{ℕ, zero, suc, ◌+◌, ◌-◌, ◌*◌}
use mathlib.Core.Path.{◌≡◌, refl, sym, ap}
use mathlib.Core.Bool.{Bool, true, ◌&&◌}
use mathlib.Core.List.{List, [], ◌∷◌}
use lib.Dec.{eqb, leb}
use lib.ListN.{drop, get_or}
use lib.Seq.{get_or-drop, drop-drop}
use native.Mathlib.Nat.{add-zero, add_assoc}
use native.Mathlib.Numerals.{add-one}
use native.Mathlib.Omega.{arith}
use Rattle.rules.specs.Lists.{pad, all, concat_map, up_from}
use Rattle.rules.specs.Build.{paper01, page_count, group_count, word_limit}
use Rattle.rules.specs.Node.{Place, Group, Paging, Node}
use Rattle.rules.specs.Valid.{idle}
use Rattle.rules.specs.Memory.{running_at, timer_at, queued_at, free_count_at, queue_at, queue_stride, free_at, groups_at, group_stride, atomic_offset, pending_offset, force_offset, revoked_offset, used_offset, count_offset, held_offset, described_offset, descriptor_offset, list_offset, frames_at, place_stride, frame_stride, paging_at, swap_count_at, entered_count_at, out_at, brought_at, swap_at, entered_at}
use Rattle.rules.specs.Memory.{word, words_at, frame_address, group_address, messages_at, place_at, places_at, frame_places, flag_at, list_at, buffer_at, group_at, groups_from, paging_from, node_at}
use Rattle.rules.specs.MemoryTest.{zero_at, length_in_bounds, group_counts, counts_in_bounds, group_flags, flags_are_flags, queue_unused, free_unused, swap_unused, entered_unused, group_unused, message_unused, unused_are_zero, frame_wiped, idle_are_wiped}

-- the words from the memory's start on, from the groups on, from the frames on, and from swap space and the order of entry on
pub record Parts : Type 0 where
  pub start : List ℕ
  pub groups : List ℕ
  pub frames : List ℕ
  pub paging : List ℕ

-- those of a memory
abbrev pub parts_of : List ℕ → Parts
parts_of m = record { start = m; groups = drop groups_at m; frames = drop frames_at m; paging = drop paging_at m }

-- an address of the last part, counted from where that begins
abbrev pub within : ℕ → ℕ
within a = a - paging_at

-- a word, read in the part that begins at address a
pub word-part : (m : List ℕ) (a i : ℕ) → word m (a + i) ≡ word (drop a m) i
unfolding word
word-part m a i = sym (get_or-drop a m i 0)

-- a word in front of those behind it
pub pad-drop : (m : List ℕ) (a k : ℕ) → pad (suc k) (drop a m) ≡ get_or m a 0 ∷ pad k (drop (suc a) m)
pad-drop [] zero k = refl
pad-drop [] (suc a) k = refl
pad-drop (x ∷ m) zero k = refl
pad-drop (x ∷ m) (suc a) k = pad-drop m a k

-- the words from an address on, read at one go
pub words-at : (m : List ℕ) (a k : ℕ) → words_at m a k ≡ pad k (drop a m)
unfolding words_at word
words-at m a zero = refl
words-at m a (suc k) = rw (add-one, pad-drop) (ap (λ (ws : List ℕ). get_or m a 0 ∷ ws) (words-at m (suc a) k))

-- and in the part that begins at address a
pub words-part : (m : List ℕ) (a i k : ℕ) → words_at m (a + i) k ≡ pad k (drop i (drop a m))
words-part m a i k = rw (words-at m (a + i) k, drop-drop i a m)

-- k of these words from the i-th on are 0
abbrev pub zeros : List ℕ → ℕ → ℕ → Bool
zeros ws i k = all (eqb 0) (pad k (drop i ws))

-- as the definition says
pub zeros-at : (m : List ℕ) (a k : ℕ) → zero_at m a k ≡ zeros m a k
unfolding zero_at
zeros-at m a k = rw (words-at m a k)

-- and in the part that begins at address a, behind a line's beginning i and the j numbers in it
pub zeros-part : (m : List ℕ) (a i j k : ℕ) → zero_at m (a + i + j) k ≡ zeros (drop a m) (i + j) k
zeros-part m a i j k = rw (zeros-at m (a + i + j) k, add_assoc a i j, drop-drop (i + j) a m)

-- two functions that agree on each number give the same lists
pub concat-same : {A : Type 0} (f g : ℕ → List A) → ((i : ℕ) → f i ≡ g i) → (xs : List ℕ) → concat_map f xs ≡ concat_map g xs
concat-same f g e [] = refl
concat-same f g e (x ∷ xs) = rw (e x, concat-same f g e xs)

-- and two tests the same answer
pub all_same : (f g : ℕ → Bool) → ((i : ℕ) → f i ≡ g i) → (xs : List ℕ) → all f xs ≡ all g xs
all_same f g e [] = refl
all_same f g e (x ∷ xs) = rw (e x, all_same f g e xs)

-- The node that the words hold.

-- k places that stand in these words, one behind the other
abbrev pub places_in : ℕ → List ℕ → List Place
places_in zero ws = []
places_in (suc k) ws = record { len = word ws 0; words = pad word_limit (drop 1 ws) } ∷ places_in k (drop place_stride ws)

-- as the definition says
pub places-in : (m : List ℕ) (a k : ℕ) → places_at m a k ≡ places_in k (drop a m)
unfolding places_at place_at
places-in m a zero = refl
places-in m a (suc k) =
    let len : word m a ≡ word (drop a m) 0 = rw add-zero at (word-part m a 0) in
    rw (len, words-part m a 1 word_limit, places-in m (a + place_stride) k, ← drop-drop place_stride a m)

-- the places of the frame or swap page with number f, all of which stand in these words
abbrev pub page_in : List ℕ → ℕ → List Place
page_in ws f = places_in paper01.per_frame (drop (frame_stride * f) ws)

-- as the definition says
pub page-in : (m : List ℕ) (f : ℕ) → frame_places m f ≡ page_in (drop frames_at m) f
unfolding frame_places frame_address
page-in m f = rw (places-in m (frames_at + frame_stride * f) paper01.per_frame, drop-drop (frame_stride * f) frames_at m)

-- the group whose record begins these words, and whose pages stand in those
abbrev pub group_in : List ℕ → List ℕ → Group
group_in pages ws =
    let list = pad (word ws held_offset) (drop list_offset ws) in
    record {
      atomic = flag_at ws atomic_offset;
      pending = flag_at ws pending_offset;
      force = flag_at ws force_offset;
      revoked = flag_at ws revoked_offset;
      buffer =
          record { used = word ws used_offset; count = word ws count_offset; frames = list; places = concat_map (page_in pages) list };
      descriptor = pad (word ws described_offset) (drop descriptor_offset ws);
    }

-- as the definition says
pub group-in : (m : List ℕ) (a : ℕ) → group_at m a ≡ group_in (drop frames_at m) (drop a m)
unfolding group_at buffer_at list_at flag_at
group-in m a = simp (word-part m a, words-part m a, concat-same (frame_places m) (page_in (drop frames_at m)) (page-in m))

-- k groups whose records stand in these words, one behind the other
abbrev pub groups_in : List ℕ → ℕ → List ℕ → List Group
groups_in pages zero ws = []
groups_in pages (suc k) ws = group_in pages ws ∷ groups_in pages k (drop group_stride ws)

-- as the definition says
pub groups-in : (m : List ℕ) (a k : ℕ) → groups_from m a k ≡ groups_in (drop frames_at m) k (drop a m)
unfolding groups_from
groups-in m a zero = refl
groups-in m a (suc k) = rw (group-in m a, groups-in m (a + group_stride) k, ← drop-drop group_stride a m)

-- swap space and the order of entry, in these words
abbrev pub paging_in : List ℕ → Paging
paging_in ws =
    record {
      swap = pad (word ws (within swap_count_at)) (drop (within swap_at) ws);
      entered = pad (word ws (within entered_count_at)) (drop (within entered_at) ws);
      out = word ws (within out_at);
      brought = word ws (within brought_at);
    }

-- as the definition says
pub paging-in : (m : List ℕ) → paging_from m ≡ paging_in (drop paging_at m)
unfolding paging_from
paging-in m =
    let number = word-part m paging_at in
    let line = words-part m paging_at in
    rw (number (within swap_count_at), number (within entered_count_at), number (within out_at), number (within brought_at))
    (rw (line (within swap_at), line (within entered_at)))

-- the node in these parts
abbrev pub node_in : Parts → Node
node_in p =
    record {
      running = word p.start running_at;
      timer = word p.start timer_at;
      queue = messages_at p.start queue_at (word p.start queued_at);
      free = pad (word p.start free_count_at) (drop free_at p.start);
      paging = paging_in p.paging;
      groups = groups_in p.frames group_count p.groups;
    }

-- as the definition says
pub node-in : (m : List ℕ) → node_at m ≡ node_in (parts_of m)
unfolding node_at
node-in m = rw (words-at m free_at (word m free_count_at), paging-in m, groups-in m groups_at group_count)

-- The clauses on words.

-- k records that stand in these words, one behind the other, pass the test
abbrev pub all_records : (List ℕ → Bool) → ℕ → List ℕ → Bool
all_records t zero ws = true
all_records t (suc k) ws = t ws && all_records t k (drop group_stride ws)

-- and so do as many groups, where a group is tested by its record
pub all-records : (m : List ℕ) (s : ℕ → Bool) (t : List ℕ → Bool)
    → ((g : ℕ) → s g ≡ t (drop (group_address g) m))
    → (g k : ℕ)
    → all s (up_from (suc g) k) ≡ all_records t k (drop (group_address (suc g)) m)
unfolding group_address
all-records m s t e g zero = refl
all-records m s t e g (suc k) =
    let next : group_address (suc (suc g)) ≡ group_address (suc g) + group_stride = omega arith in
    rw (e (suc g), all-records m s t e (suc g) k, next, ← drop-drop group_stride (group_address (suc g)) m)

-- the counts of a record
abbrev pub record_counts : List ℕ → Bool
record_counts ws = leb (word ws held_offset) (page_count paper01) && leb (word ws described_offset) word_limit

-- all counts
abbrev pub counts_in : Parts → Bool
counts_in p =
    leb (word p.start queued_at) paper01.places
    && (leb (word p.start free_count_at) paper01.frames
    && (leb (word p.paging (within swap_count_at)) paper01.swap
    && (leb (word p.paging (within entered_count_at)) paper01.frames
    && (all_records record_counts group_count p.groups
    && all (length_in_bounds p.start) (up_from 0 (word p.start queued_at))))))

-- as the clause says
pub counts-in : (m : List ℕ) → counts_in_bounds m ≡ counts_in (parts_of m)
unfolding counts_in_bounds group_counts group_address
counts-in m =
    let number = word-part m paging_at in
    let groups = all-records m (group_counts m) record_counts (λ g. simp (word-part m (group_address g))) 0 group_count in
    rw (number (within swap_count_at), number (within entered_count_at), groups)

-- the flags of a record
abbrev pub record_flags : List ℕ → Bool
record_flags ws =
    leb (word ws atomic_offset) 1 && (leb (word ws pending_offset) 1 && (leb (word ws force_offset) 1 && leb (word ws revoked_offset) 1))

-- all flags
abbrev pub flags_in : Parts → Bool
flags_in p = all_records record_flags group_count p.groups

-- as the clause says
pub flags-in : (m : List ℕ) → flags_are_flags m ≡ flags_in (parts_of m)
unfolding flags_are_flags group_flags group_address
flags-in m = all-records m (group_flags m) record_flags (λ g. simp (word-part m (group_address g))) 0 group_count

-- the unused places of a record's list and its unused descriptor words
abbrev pub record_zeros : List ℕ → Bool
record_zeros ws =
    let held = word ws held_offset in
    let described = word ws described_offset in
    zeros ws (list_offset + held) (page_count paper01 - held) && zeros ws (descriptor_offset + described) (word_limit - described)

-- the unused words of a message in the queue
abbrev pub message_zeros : List ℕ → ℕ → Bool
message_zeros ws i =
    let len = word ws (queue_at + queue_stride * i + 1) in
    zeros ws (queue_at + queue_stride * i + 2 + len) (word_limit - len)

-- all unused words
abbrev pub unused_in : Parts → Bool
unused_in p =
    let queued = word p.start queued_at in
    let free = word p.start free_count_at in
    let swap = word p.paging (within swap_count_at) in
    let entered = word p.paging (within entered_count_at) in
    zeros p.start (queue_at + queue_stride * queued) (queue_stride * (paper01.places - queued))
    && (zeros p.start (free_at + free) (paper01.frames - free)
    && (zeros p.paging (within swap_at + swap) (paper01.swap - swap)
    && (zeros p.paging (within entered_at + entered) (paper01.frames - entered)
    && (all_records record_zeros group_count p.groups && all (message_zeros p.start) (up_from 0 queued)))))

-- as the clause says
pub unused-in : (m : List ℕ) → unused_are_zero m ≡ unused_in (parts_of m)
unfolding unused_are_zero queue_unused free_unused swap_unused entered_unused group_unused message_unused group_address
unused-in m =
    let number = word-part m paging_at in
    let line = zeros-part m paging_at in
    let queue = zeros-at m (queue_at + queue_stride * word m queued_at) in
    let free = zeros-at m (free_at + word m free_count_at) in
    let record-zeros : (g : ℕ) → group_unused m g ≡ record_zeros (drop (group_address g) m) = λ g. simp (word-part m (group_address g), zeros-part m (group_address g)) in
    let groups = all-records m (group_unused m) record_zeros record-zeros 0 group_count in
    let messages = all_same (message_unused m) (message_zeros m) (λ i. simp zeros-at) in
    rw (number (within swap_count_at), number (within entered_count_at), line (within swap_at), line (within entered_at), queue, free, groups, messages)

-- of k frames and swap pages that stand in these words, one behind the other, whether each is 0
abbrev pub page_zeros : ℕ → List ℕ → List Bool
page_zeros zero ws = []
page_zeros (suc k) ws = all (eqb 0) (pad frame_stride ws) ∷ page_zeros k (drop frame_stride ws)

-- whether that of number f is, looked up there; one behind the k is read by itself
abbrev pub page_zero : List Bool → List ℕ → ℕ → Bool
page_zero zs ws f = get_or zs f (zeros ws (frame_stride * f) frame_stride)

-- as its words say
pub page-zero : (k : ℕ) (ws : List ℕ) (f : ℕ) → page_zero (page_zeros k ws) ws f ≡ zeros ws (frame_stride * f) frame_stride
page-zero zero ws f = refl
page-zero (suc k) ws zero = refl
page-zero (suc k) ws (suc f) =
    let next : frame_stride * suc f ≡ frame_stride + frame_stride * f = omega arith in
    rw (next, ← drop-drop (frame_stride * f) frame_stride ws) (page-zero k (drop frame_stride ws) f)

-- the frames and swap pages of these numbers are 0
abbrev pub pages_zero : List ℕ → List ℕ → Bool
pages_zero ws fs = all (page_zero (page_zeros (page_count paper01) ws) ws) fs

-- as the definition says of one
pub frame-zero : (m : List ℕ) (f : ℕ) → frame_wiped m f ≡ page_zero (page_zeros (page_count paper01) (drop frames_at m)) (drop frames_at m) f
unfolding frame_wiped frame_address
frame-zero m f =
    let looked = page-zero (page_count paper01) (drop frames_at m) f in
    rw (zeros-at m (frames_at + frame_stride * f) frame_stride, looked, drop-drop (frame_stride * f) frames_at m)

-- those that no buffer holds
abbrev pub idle_in : Parts → Bool
idle_in p = pages_zero p.frames (idle (node_in p))

-- as the clause says
pub idle-in : (m : List ℕ) → idle_are_wiped m ≡ idle_in (parts_of m)
unfolding idle_are_wiped
idle-in m = rw (node-in m) (all_same (frame_wiped m) _ (frame-zero m) (idle (node_in (parts_of m))))
