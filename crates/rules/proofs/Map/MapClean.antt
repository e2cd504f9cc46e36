-- Memory that is a node has no old words. A frame or swap page that no buffer holds is 0 by the memory test's clause on those. Any other is a page
-- of one buffer, and its places are among that buffer's: where a message waits the words past its length are 0, and every other place is
-- wiped. Assumes nothing.
use Prim.Native.Nat.{ℕ, zero, suc, pred, ◌+◌, ◌-◌, ◌*◌, ◌≤◌, ◌<◌}
use mathlib.Core.Path.{◌≡◌, refl, subst}
use mathlib.Core.Bool.{true}
use mathlib.Core.List.{List}
use native.Mathlib.Decide.{dec_lt}
use native.Mathlib.Nat.{add-zero}
use native.Mathlib.Omega.{arith}
use lib.ListN.{length, take, drop, get_or, length-take, length-drop}
use lib.Seq.{get_or-take, get_or-drop}
use Rattle.rules.specs.Lists.{Every, concat_map, count_of}
use Rattle.rules.specs.Build.{Build, paper01, page_count, group_count, word_limit}
use Rattle.rules.specs.Node.{Place, Buffer, empty_group, empty_place, group_of, waiting}
use Rattle.rules.specs.Valid.{Zero, GoodWaiting, Wiped, GoodBuffer, frame_list, idle}
use Rattle.rules.specs.Memory.{groups_at, place_stride, frame_stride, word, words_at, place_at, frame_places, frame_address, buffer_at, group_at, node_at}
use Rattle.rules.specs.MemoryTest.{zero_at, is_memory}
use Rattle.rules.specs.Dumps.{WaitsIn, PartOf, Clean}
use Rattle.rules.proofs.Steps.EveryLaws.{every-getD}
use Rattle.rules.proofs.Steps.ListLaws.{count_index, count-whose, every-counted}
use Rattle.rules.proofs.Steps.SoundLaws.{valid-sound, valid-mapped}
use Rattle.rules.proofs.Steps.FrameLaws.{fits, both-wiped}
use Rattle.rules.proofs.Steps.NodeLaws.{within, group-good}
use Rattle.rules.proofs.Map.TestLaws.{zeros-tell}
use Rattle.rules.proofs.Map.MapWords.{length-words_at, getD-words_at, every-record}
use Rattle.rules.proofs.Map.MapParts.{groups}
use Rattle.rules.proofs.Map.MapFrames.{page-place, unlisted-idle}
use Rattle.rules.proofs.Map.MapTest.{memory-fits}
use Rattle.rules.proofs.Map.MapLaws.{test-valid}

-- Words that are 0.

module _ (m : List ℕ) where
  -- one of words that are all 0
  zero_word : (a k i : ℕ) → Every Zero (words_at m a k) → i < k → word m (a + i) ≡ 0
  zero_word a k i e h =
      rw (getD-words_at m a k i h) at (every-getD Zero (words_at m a k) i 0 e (rw (length-words_at m a k) h))

  -- one of a place that is wiped
  wiped-word : (a k : ℕ) → Wiped (place_at m a) → k < place_stride → word m (a + k) ≡ 0
  unfolding place_at
  wiped-word a zero w h = rw add-zero w.len-zero
  wiped-word a (suc k) w h =
      let e : a + suc k ≡ a + 1 + k = omega arith in
      rw e (zero_word (a + 1) word_limit k w.words-zero (omega arith))

  -- one past the length of a message that waits
  past_word : (a k : ℕ) → GoodWaiting (place_at m a) → word m a < k → k < place_stride → word m (a + k) ≡ 0
  unfolding place_at
  past_word a zero w past h = absurd (omega arith)
  past_word a (suc k) w past h =
      let ws = words_at m (a + 1) word_limit in
      let l : k - word m a < length (drop (word m a) ws) = rw (length-drop, length-words_at m (a + 1) word_limit) (omega arith) in
      let z = every-getD Zero (drop (word m a) ws) (k - word m a) 0 w.rest-zero l in
      let e : a + suc k ≡ a + 1 + k = omega arith in
      let i : word m a + (k - word m a) ≡ k = omega arith in
      rw e (rw (get_or-drop, i, getD-words_at m (a + 1) word_limit k (omega arith)) at z)

-- The places of a buffer.

module _ {b : Build} {v : Buffer} (good : GoodBuffer b v) (d : Place) (q : ℕ) where
  -- a used-up one is wiped
  used-place : q < v.used → Wiped (get_or v.places q d)
  used-place h =
      rw get_or-take at
      (every-getD Wiped (take v.used v.places) q d (both-wiped good).0 (rw length-take (omega (arith, fits good))))

  -- and so is one behind the last message
  spare-place : v.used + v.count ≤ q → q < length v.places → Wiped (get_or v.places q d)
  spare-place h l =
      let k = v.used + v.count in
      let e : k + (q - k) ≡ q = omega arith in
      rw (get_or-drop, e) at (every-getD Wiped (drop k v.places) (q - k) d (both-wiped good).1 (rw length-drop (omega arith)))

  -- any other is a waiting message's
  waiting-place : v.used ≤ q → q < v.used + v.count → GoodWaiting (get_or v.places q d)
  unfolding waiting
  waiting-place h l =
      let inside : q - v.used < length (waiting v) = simp (length-take, length-drop) (omega (arith, fits good)) in
      let short : q - v.used < v.count = omega arith in
      let e : v.used + (q - v.used) ≡ q = omega arith in
      rw (get_or-take, get_or-drop, e) at (every-getD GoodWaiting (waiting v) (q - v.used) d good.waiting-good inside)

-- The frames and swap pages of a memory.

module _ (m : List ℕ) (h : is_memory m ≡ true) where
  -- one that no buffer holds is 0
  idle-clean : (p q : ℕ) → p < page_count paper01 → count_of p (concat_map frame_list (node_at m).groups) ≡ 0 → q < frame_stride
      → word m (frame_address p + q) ≡ 0
  unfolding zero_at
  idle-clean p q below none inside =
      let is-idle = unlisted-idle (node_at m) (valid-mapped (test-valid m h)) p below none in
      let z = every-counted (λ f. zero_at m (frame_address f) frame_stride ≡ true) p (idle (node_at m)) ((memory-fits m).0 h).1.0.idle-zero is-idle in
      zero_word m (frame_address p) frame_stride q ((zeros-tell (words_at m (frame_address p) frame_stride)).0 z) inside

  -- a buffer's places are read from its pages
  places-read : Every (λ G. G.buffer.places ≡ concat_map (frame_places m) G.buffer.frames) (node_at m).groups
  unfolding node_at group_at buffer_at
  places-read = every-record (groups m) _ (λ a. refl) groups_at group_count

  -- place i of the page that the list of group g names at index j
  module _ (g : ℕ) (low : 1 ≤ g) (high : g ≤ group_count) (j i : ℕ) (listed : j < length (group_of (node_at m) g).buffer.frames)
      (place : i < paper01.per_frame) where
    -- the group's buffer
    abbrev its : Buffer
    its = (group_of (node_at m) g).buffer

    -- which of the buffer's places it is
    abbrev at : ℕ
    at = paper01.per_frame * j + i

    -- and where it stands
    abbrev address : ℕ
    address = frame_address (get_or its.frames j 0) + place_stride * i

    -- the buffer is good
    its-good : GoodBuffer paper01 its
    its-good = (group-good (valid-sound (test-valid m h)) g low high).buffer

    -- the place stands there
    its-place : get_or its.places at empty_place ≡ place_at m address
    unfolding group_of
    its-place =
        let read = every-getD _ (node_at m).groups (pred g) empty_group places-read (within (valid-sound (test-valid m h)) g low high) in
        rw read (page-place m its.frames j i empty_place listed place)

    -- and is one of the buffer's
    its-inside : at < length its.places
    its-inside = omega (arith, its-good.whole)

    -- its words that are no part of a waiting message are 0
    listed-clean : (k : ℕ) → k < place_stride → ¬ PartOf m (get_or its.frames j 0) i k → word m (address + k) ≡ 0
    listed-clean k inside other = go (dec_lt at its.used) (dec_lt at (its.used + its.count)) (dec_lt (word m address) k)
      where
        go : Dec (at < its.used) → Dec (at < its.used + its.count) → Dec (word m address < k) → word m (address + k) ≡ 0
        go (yes up) end past = wiped-word m address k (rw its-place at (used-place its-good empty_place at up)) inside
        go (no up) (no end) past = wiped-word m address k (rw its-place at (spare-place its-good empty_place at (omega arith) its-inside)) inside
        go (no up) (yes end) (yes past) = past_word m address k (rw its-place at (waiting-place its-good empty_place at (omega arith) end)) past inside
        go (no up) (yes end) (no past) =
            let waits : WaitsIn its (get_or its.frames j 0) i = record { index = j; listed = listed; number = refl; behind-used = omega arith; before-end = end } in
            absurd (other (record { waits = record { group = g; group-low = low; group-high = high; waits = waits }; within = omega arith }))

  -- so are those of a page that is found by its number
  page-clean : (p i k : ℕ) → 1 ≤ count_of p (concat_map frame_list (node_at m).groups) → i < paper01.per_frame → k < place_stride
      → ¬ PartOf m p i k → word m (frame_address p + place_stride * i + k) ≡ 0
  unfolding group_of frame_list
  page-clean p i k some place inside =
      let count = (test-valid m h).group-count in
      let whose = count-whose p frame_list empty_group (node_at m).groups some in
      let at = count_index p (frame_list (get_or (node_at m).groups whose.0 empty_group)) whose.1.1 in
      let high = whose.1.0 in
      subst (λ (x : ℕ). ¬ PartOf m x i k → word m (frame_address x + place_stride * i + k) ≡ 0) at.1.1
      (listed-clean (suc whose.0) (omega arith) (omega arith) at.0 i at.1.0 place k inside)

  -- every frame or swap page is one of these
  pub clean : Clean m
  clean = record { others-zero = λ p i k below place inside. go p i k below place inside (count_of p (concat_map frame_list (node_at m).groups)) refl }
    where
      go : (p i k : ℕ) → p < page_count paper01 → i < paper01.per_frame → k < place_stride → (c : ℕ)
          → count_of p (concat_map frame_list (node_at m).groups) ≡ c → ¬ PartOf m p i k → word m (frame_address p + place_stride * i + k) ≡ 0
      go p i k below place inside zero e other =
          let q : frame_address p + place_stride * i + k ≡ frame_address p + (place_stride * i + k) = omega arith in
          rw q (idle-clean p (place_stride * i + k) below e (omega arith))
      go p i k below place inside (suc c) e other = page-clean p i k (omega arith) place inside other
