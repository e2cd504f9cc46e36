-- Places where no message waits, and pages that no buffer holds. A place's length and words stand in a row, and so do the places of a page, so
-- places are wiped where nine words for each are 0. The used-up places of a buffer are the first of its first page; those behind its last message
-- are the last of its last page, or none where that page is full. Assumes nothing.
use Prim.Native.Nat.{ℕ, zero, suc, ◌+◌, ◌-◌, ◌*◌, ◌/◌, ◌%◌, ◌≤◌, ◌<◌}
use mathlib.Core.Path.{◌≡◌, refl, sym, ap, ◌∙◌}
use mathlib.Core.Logic.{◌≢◌}
use mathlib.Core.Bool.{Bool, true, ◌&&◌}
use mathlib.Core.List.{List, [], ◌∷◌}
use native.Mathlib.Omega.{arith}
use native.Mathlib.Nat.{add-zero, mul-suc}
use lib.Dec.{eqb}
use lib.ListN.{length, take, drop, get_or, length-drop, drop_of_length-le}
use lib.Seq.{take_all, take-append-le, drop-append-le, drop-append-add}
use Rattle.rules.specs.Lists.{all, concat_map, up_from}
use Rattle.rules.specs.Node.{Place}
use Rattle.rules.specs.Frames.{ceil_div}
use Rattle.rules.specs.Valid.{idle, is_wiped}
use Rattle.rules.specs.Memory.{size, free_at, free_count_at, swap_at, swap_count_at, used_offset, count_offset, held_offset, list_offset, group_stride, place_stride, word, words_at, place_at, places_at, frame_places, frame_address, list_at, buffer_at, group_address, paging_from, node_at}
use Rattle.rules.specs.MemoryTest.{zero_at, frame_wiped, idle_are_wiped}
use Rattle.rules.proofs.Map.MapWords.{length-words_at, getD-words_at}
use Rattle.memory.proofs.words.ZeroLaws.{zero-none, zero-swap}
use Rattle.validate.specs.Clauses.{used_up_wiped, behind_wiped, list_start, list_count, list_numbers}
use Rattle.validate.specs.Known.{Paged, Framed}
use Rattle.validate.proofs.RangeLaws.{all_append}
use Rattle.validate.proofs.frames.ListedLaws.{words-split, list-bound}
use Rattle.validate.proofs.frames.PlaceLaws.{eight-places, places-all}

-- Places in a row.

module _ (m : List ℕ) where
  -- words that are 0, in two parts
  zero-split : (a j k : ℕ) → zero_at m a (j + k) ≡ zero_at m a j && zero_at m (a + j) k
  unfolding zero_at
  zero-split a j k = ap (all (eqb 0)) (words-split m a j k) ∙ all_append (eqb 0) (words_at m a j) (words_at m (a + j) k)

  -- one place
  place-zero : (a : ℕ) → is_wiped (place_at m a) ≡ zero_at m a place_stride
  unfolding is_wiped place_at zero_at words_at
  place-zero a = rw (zero-swap (word m a))

  -- several
  places-zero : (a k : ℕ) → all is_wiped (places_at m a k) ≡ zero_at m a (place_stride * k)
  unfolding places_at
  places-zero a zero = sym (zero-none m a)
  places-zero a (suc k) =
      let e : place_stride * suc k ≡ place_stride + place_stride * k = omega arith in
      rw (e, zero-split a place_stride (place_stride * k), place-zero a, places-zero (a + place_stride) k)

  -- those from the r-th on
  places-part : (a k r n : ℕ) → r + n ≤ k → take n (drop r (places_at m a k)) ≡ places_at m (a + place_stride * r) n
  unfolding places_at
  places-part a k zero zero h = refl
  places-part a zero zero (suc n) h = absurd (omega arith)
  places-part a (suc k) zero (suc n) h =
      let e : a + place_stride * 0 ≡ a = omega arith in
      rw e (ap (λ (r : List Place). place_at m a ∷ r) (places-part (a + place_stride) k zero n (omega arith) ∙ rw (add-zero (a + place_stride))))
  places-part a zero (suc r) n h = absurd (omega arith)
  places-part a (suc k) (suc r) n h =
      let e : a + place_stride + place_stride * r ≡ a + place_stride * suc r = omega arith in
      rw (← e) (places-part (a + place_stride) k r n (omega arith))

-- a part of lists of s elements each, joined, that is one list's
part-within : {A B : Type 0} (f : A → List B) (s : ℕ) → ((x : A) → length (f x) ≡ s) → (xs : List A) (q r n : ℕ) (d : A) → q < length xs → r + n ≤ s
    → take n (drop (s * q + r) (concat_map f xs)) ≡ take n (drop r (f (get_or xs q d)))
part-within f s sized [] q r n d h l = absurd (omega arith)
part-within f s sized (x ∷ xs) zero r n d h l =
    let z : s * 0 + r ≡ r = omega arith in
    rw (z, drop-append-le r (f x) (concat_map f xs) (omega (arith, sized x)))
    (take-append-le n (drop r (f x)) (concat_map f xs) (rw (length-drop r (f x), sized x) (omega arith)))
part-within f s sized (x ∷ xs) (suc q) r n d h l =
    let z : s * suc q + r ≡ length (f x) + (s * q + r) = omega (arith, sized x, mul-suc s q) in
    rw (z, drop-append-add (f x) (concat_map f xs) (s * q + r)) (part-within f s sized xs q r n d (omega arith) l)

-- The places of a buffer.

module _ (m : List ℕ) (g : ℕ) where
  -- n of them from place r of its page q on, which are all that page's
  page-zero : (q r n : ℕ) → q < word m (group_address g + held_offset) → r + n ≤ 8
      → all is_wiped (take n (drop (8 * q + r) (buffer_at m (group_address g)).places))
      ≡ zero_at m (frame_address (word m (group_address g + list_offset + q)) + place_stride * r) (place_stride * n)
  unfolding buffer_at list_at frame_places
  page-zero q r n h l =
      let a = group_address g + list_offset in
      let k = word m (group_address g + held_offset) in
      let within = part-within (frame_places m) 8 (eight-places m) (words_at m a k) q r n 0 (rw (length-words_at m a k) h) l in
      let named = ap (λ (x : ℕ). take n (drop r (frame_places m x))) (getD-words_at m a k q h) in
      ap (all is_wiped) (within ∙ named ∙ places-part m (frame_address (word m (a + q))) 8 r n l)
      ∙ places-zero m (frame_address (word m (a + q)) + place_stride * r) n

  module _ (f : Framed m g) (used : ℕ) (first : used ≡ word m (group_address g + used_offset)) where
    -- none is used up
    pub used-up-none : used ≡ 0 → used_up_wiped m g ≡ true
    unfolding used_up_wiped buffer_at
    used-up-none e = rw (← first, e)

    -- where one is, there is a first page
    pub first-page : used ≢ 0 → word m (group_address g + list_offset) < 96
    unfolding ceil_div
    first-page some =
        let page : group_address g + list_offset + 0 ≡ group_address g + list_offset = omega arith in
        rw page at (f.numbers 0 (omega (arith, f.held)))

    -- and they are the first of it
    pub used-up-zero : used ≢ 0 → used_up_wiped m g ≡ zero_at m (frame_address (word m (group_address g + list_offset))) (place_stride * used)
    unfolding used_up_wiped buffer_at ceil_div
    used-up-zero some =
        let listed = group_address g + list_offset in
        let page : listed + 0 ≡ listed = omega arith in
        let start : frame_address (word m listed) + place_stride * 0 ≡ frame_address (word m listed) = omega arith in
        rw (← first) (page-zero 0 0 used (omega (arith, f.held)) (omega (arith, f.used)) ∙ rw (page, start))

    module _ (count : ℕ) (second : count ≡ word m (group_address g + count_offset)) where
      -- the places behind the last message
      behind-all : behind_wiped m g ≡ all is_wiped (drop (used + count) (buffer_at m (group_address g)).places)
      unfolding behind_wiped buffer_at
      behind-all = rw (← first, ← second)

      -- where the last page is full, there are none
      pub behind-none : (used + count) % 8 ≡ 0 → behind_wiped m g ≡ true
      unfolding ceil_div
      behind-none e =
          let ps = (buffer_at m (group_address g)).places in
          let whole : length ps ≤ used + count = omega (arith, places-all m (group_address g), f.held) in
          behind-all ∙ rw (drop_of_length-le ps whole)

      -- Where it is not, the list names it last.

      module _ (some : (used + count) % 8 ≢ 0) where
        held : (used + count) / 8 < word m (group_address g + held_offset)
        unfolding ceil_div
        held = omega (arith, f.held)

        here : group_address g + list_offset + (used + count) / 8 ≡ group_address g + (list_offset + (used + count) / 8)
        here = omega arith

        pub last-inside : list_offset + (used + count) / 8 < group_stride
        last-inside = omega (arith, held, f.few)

        pub last-page : word m (group_address g + (list_offset + (used + count) / 8)) < 96
        last-page = rw (← here) (f.numbers ((used + count) / 8) held)

        -- and they are the last of it
        pub behind-zero : behind_wiped m g
            ≡ zero_at m (frame_address (word m (group_address g + (list_offset + (used + count) / 8))) + place_stride * ((used + count) % 8))
            (place_stride * (8 - (used + count) % 8))
        unfolding ceil_div
        behind-zero =
            let end = used + count in
            let ps = (buffer_at m (group_address g)).places in
            let page : end ≡ 8 * (end / 8) + end % 8 = omega arith in
            let rest : length (drop end ps) ≤ 8 - end % 8 = rw (length-drop end ps) (omega (arith, places-all m (group_address g), f.held)) in
            behind-all
            ∙ ap (all is_wiped) (sym (take_all (8 - end % 8) (drop end ps) rest) ∙ ap (λ (k : ℕ). take (8 - end % 8) (drop k ps)) page)
            ∙ rw (← here) (page-zero (end / 8) (end % 8) (8 - end % 8) held (omega arith))

-- The pages of a list.

-- the page whose number stands at address a is 0
unfoldable pub wiped_at : List ℕ → ℕ → Bool
wiped_at m a = frame_wiped m (word m a)

module _ (m : List ℕ) where
  -- a test of words is one of their addresses
  all_at : (p : ℕ → Bool) (a k : ℕ) → all p (words_at m a k) ≡ all (λ j. p (word m j)) (up_from a k)
  unfolding words_at
  all_at p a zero = refl
  all_at p a (suc k) =
      let e : a + 1 ≡ suc a = omega arith in
      ap (λ (t : Bool). p (word m a) && t) (rw e (all_at p (suc a) k))

  -- all of a list, address by address
  pub list-tested : (l a k : ℕ) → a ≡ list_start l → k ≡ list_count m l → all (frame_wiped m) (list_numbers m l) ≡ all (wiped_at m) (up_from a k)
  unfolding list_numbers wiped_at
  list-tested l a k s e = rw (← s, ← e) (all_at (frame_wiped m) a k)

  -- where a page's number stands
  pub list-pages : (l a k : ℕ) → Paged m l → a ≡ list_start l → k ≡ list_count m l → (x : ℕ) → a ≤ x → x < a + k → (x < size) × (word m x < 96)
  list-pages l a k p s e x low high =
      let here : list_start l + (x - a) ≡ x = omega arith in
      (omega (arith, list-bound m p.counted l p.high), rw here at (p.numbers (x - a) (omega arith)))

  -- those that no buffer holds: the free line, and the swap line
  pub idle-tested : idle_are_wiped m ≡ all (frame_wiped m) (list_numbers m 1) && all (frame_wiped m) (list_numbers m 2)
  unfolding idle_are_wiped idle node_at paging_from list_numbers list_start list_count
  idle-tested = all_append (frame_wiped m) (words_at m free_at (word m free_count_at)) (words_at m swap_at (word m swap_count_at))
