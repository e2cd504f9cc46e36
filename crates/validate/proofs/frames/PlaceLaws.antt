-- The waiting messages of a buffer, place by place: place p of a buffer is place p mod 8 of the page that its list names at p / 8, so the
-- clause on the waiting ones is a test of the places h to h + n. Assumes nothing.
use Prim.Native.Nat.{ℕ, zero, suc, ◌+◌, ◌-◌, ◌*◌, ◌/◌, ◌%◌, ◌≤◌, ◌<◌}
use mathlib.Core.Path.{◌≡◌, refl, sym, ap, ◌∙◌}
use mathlib.Core.Logic.{◌≢◌}
use mathlib.Core.Bool.{Bool, true, false, ◌&&◌, true≢false}
use mathlib.Core.List.{List}
use native.Mathlib.Omega.{arith}
use native.Mathlib.Decide.{dec_lt}
use native.Mathlib.Nat.{add-zero}
use lib.ListN.{length, take, drop, get_or}
use lib.Seq.{drop-cons}
use borrow.Author.Tests.{le-leb, lt-leb}
use Rattle.rules.specs.Lists.{all, concat_map, up_from}
use Rattle.rules.specs.Node.{empty_place, waiting}
use Rattle.rules.specs.Frames.{ceil_div}
use Rattle.rules.specs.Valid.{is_waiting}
use Rattle.rules.specs.Memory.{used_offset, count_offset, held_offset, list_offset, group_stride, place_stride, word, words_at, place_at, frame_places, frame_address, list_at, buffer_at, group_address}
use Rattle.rules.specs.MemoryTest.{zero_at}
use Rattle.rules.proofs.Steps.EveryLaws.{every_of}
use Rattle.rules.proofs.Steps.ListLaws.{length-parts}
use Rattle.rules.proofs.Map.MapWords.{length-words_at, length-records, getD-words_at}
use Rattle.rules.proofs.Map.MapParts.{places}
use Rattle.rules.proofs.Map.MapFrames.{page-place}
use Rattle.rules.proofs.Map.TestLaws.{range-tells}
use Rattle.validate.specs.Clauses.{waiting_good, waiting_in, waiting_at}
use Rattle.validate.specs.Known.{Framed}
use Rattle.validate.proofs.RangeLaws.{Passed, fails}

-- One place.

module _ (m : List ℕ) where
  -- the words behind the first j
  pub drop-words : (a j k : ℕ) → j ≤ k → drop j (words_at m a k) ≡ words_at m (a + j) (k - j)
  unfolding words_at
  drop-words a zero k h = let e : k - 0 ≡ k = omega arith in rw (add-zero a, e)
  drop-words a (suc j) zero h = absurd (omega arith)
  drop-words a (suc j) (suc k) h =
      let e : a + 1 + j ≡ a + suc j = omega arith in
      let f : suc k - suc j ≡ k - j = omega arith in
      rw (← e, f) (drop-words (a + 1) j k (omega arith))

  -- one of no words
  pub place_none : (a : ℕ) → word m a ≡ 0 → is_waiting (place_at m a) ≡ false
  unfolding is_waiting place_at
  place_none a e = rw e

  -- of more than eight
  pub place-over : (a : ℕ) → word m a ≢ 0 → 8 < word m a → is_waiting (place_at m a) ≡ false
  unfolding is_waiting place_at
  place-over a d h = rw (le-leb 1 (word m a) (omega arith), lt-leb (word m a) 8 h)

  -- else the words past its length decide
  pub place-within : (a : ℕ) (t : Bool) → word m a ≢ 0 → word m a ≤ 8 → zero_at m (a + 1 + word m a) (8 - word m a) ≡ t
      → is_waiting (place_at m a) ≡ t
  unfolding is_waiting place_at zero_at
  place-within a t d h e =
      rw (le-leb 1 (word m a) (omega arith), le-leb (word m a) 8 h, drop-words (a + 1) (word m a) 8 h) e

-- a test of a part of a list is a test of a range
all-part : {A : Type 0} (q : A → Bool) (xs : List A) (d : A) (p : ℕ → Bool) (h n : ℕ) → h + n ≤ length xs
    → ((i : ℕ) → h ≤ i → i < h + n → q (get_or xs i d) ≡ p i) → all q (take n (drop h xs)) ≡ all p (up_from h n)
all-part q xs d p h zero l e = refl
all-part q xs d p h (suc n) l e =
    rw (drop-cons xs h d (omega arith), e h (omega arith) (omega arith))
    (ap (λ (r : Bool). p h && r) (all-part q xs d p (suc h) n (omega arith) (λ i low high. e i (omega arith) (omega arith))))

-- The places of a buffer.

-- eight a page
pub eight-places : (m : List ℕ) (x : ℕ) → length (frame_places m x) ≡ 8
unfolding frame_places
eight-places m x = length-records (places m) (frame_address x) 8

-- so many in all
pub places-all : (m : List ℕ) (a : ℕ) → length (buffer_at m a).places ≡ 8 * word m (a + held_offset)
unfolding buffer_at list_at
places-all m a =
    length-parts (frame_places m) 8 (list_at m a) (every_of (λ x. length (frame_places m x) ≡ 8) (list_at m a) (λ x h. eight-places m x))
    ∙ ap (λ (k : ℕ). 8 * k) (length-words_at m (a + list_offset) (word m (a + held_offset)))

module _ (m : List ℕ) (g : ℕ) (f : Framed m g) where
  -- place p of the buffer
  place-at : (p : ℕ) → p < 8 * word m (group_address g + held_offset)
      → get_or (buffer_at m (group_address g)).places p empty_place
      ≡ place_at m (frame_address (word m (group_address g + list_offset + p / 8)) + place_stride * (p % 8))
  unfolding buffer_at list_at
  place-at p h =
      let a = group_address g + list_offset in
      let k = word m (group_address g + held_offset) in
      let e : p ≡ 8 * (p / 8) + p % 8 = omega arith in
      let q : p / 8 < k = omega arith in
      let r : p % 8 < 8 = omega arith in
      ap (λ (i : ℕ). get_or (concat_map (frame_places m) (words_at m a k)) i empty_place) e
      ∙ page-place m (words_at m a k) (p / 8) (p % 8) empty_place (rw (length-words_at m a k) q) r
      ∙ ap (λ (x : ℕ). place_at m (frame_address x + place_stride * (p % 8))) (getD-words_at m a k (p / 8) q)

  -- the list is long enough for the waiting messages
  pub room : word m (group_address g + used_offset) + word m (group_address g + count_offset) ≤ 8 * word m (group_address g + held_offset)
  unfolding ceil_div
  room = omega (arith, f.held)

  -- the clause, place by place
  pub waiting-places : waiting_good m g ≡ all (waiting_at m g) (up_from (word m (group_address g + used_offset)) (word m (group_address g + count_offset)))
  unfolding waiting_good waiting_at waiting_in waiting buffer_at list_at
  waiting-places =
      let a = group_address g in
      all-part is_waiting (buffer_at m a).places empty_place (waiting_at m g) (word m (a + used_offset)) (word m (a + count_offset))
      (omega (arith, places-all m a, room))
      (λ i low high. ap is_waiting (place-at i (omega (arith, room))))

  -- The place p of the buffer, h to h + n: a word of the list names its page, and it is within the memory.

  module _ (p : ℕ) (within : p < word m (group_address g + used_offset) + word m (group_address g + count_offset)) where
    here : group_address g + list_offset + p / 8 ≡ group_address g + (list_offset + p / 8)
    here = omega arith

    pub listed-inside : list_offset + p / 8 < group_stride
    listed-inside = omega (arith, room, f.few)

    pub listed-frame : (w : ℕ) → w ≡ word m (group_address g + (list_offset + p / 8)) → w < 96
    listed-frame w e = rw (e, ← here) (f.numbers (p / 8) (omega (arith, room)))

    -- The places of its page, whose number is w, from p up to place k of it.

    module _ (w k : ℕ) (named : w ≡ word m (group_address g + (list_offset + p / 8))) (few : k ≤ 8) where
      -- one of them
      listed-place : (j : ℕ) → p ≤ j → j < p - p % 8 + k → waiting_at m g j ≡ waiting_in m w (j - (p - p % 8))
      unfolding waiting_at
      listed-place j low high =
          let q : j / 8 ≡ p / 8 = omega arith in
          let r : j % 8 ≡ j - (p - p % 8) = omega arith in
          rw (q, r, here, ← named)

      -- where they pass, those of the buffer pass up to the last of them
      pub frame-passed : (h : ℕ) → Passed (waiting_at m g) h p → all (waiting_in m w) (up_from (p % 8) (k - p % 8)) ≡ true
          → Passed (waiting_at m g) h (p - p % 8 + k)
      unfolding Passed
      frame-passed h before t j low high =
          elim (dec_lt j p) [
            | yes l ↦ before j low l
            | no l ↦
                listed-place j (omega arith) high
                ∙ (range-tells (waiting_in m w) (p % 8) (k - p % 8)).0 t (j - (p - p % 8)) (omega arith) (omega arith)
          ]

      -- where one of them fails, the buffer's do
      pub frame-failed : (h n : ℕ) → h ≤ p → p - p % 8 + k ≤ h + n → all (waiting_in m w) (up_from (p % 8) (k - p % 8)) ≡ false
          → all (waiting_at m g) (up_from h n) ≡ false
      frame-failed h n low high t =
          let first = p - p % 8 in
          let each : all (waiting_at m g) (up_from h n) ≡ true → (i : ℕ) → p % 8 ≤ i → i < p % 8 + (k - p % 8) → waiting_in m w i ≡ true =
          λ a i l u.
          let back : first + i - first ≡ i = omega arith in
          ap (waiting_in m w) (sym back)
          ∙ sym (listed-place (first + i) (omega arith) (omega arith))
          ∙ (range-tells (waiting_at m g) h n).0 a (first + i) (omega arith) (omega arith) in
          fails (all (waiting_at m g) (up_from h n)) (λ a. true≢false (sym ((range-tells (waiting_in m w) (p % 8) (k - p % 8)).1 (each a)) ∙ t))
