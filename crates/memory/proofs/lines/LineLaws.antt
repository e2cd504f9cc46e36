-- A line of numbers in memory, 0 behind them to the end of its room: a number leaves it, and another joins it. From writes to the line that
-- then stands. Assumes nothing.
use Prim.Native.Nat.{ℕ, suc, ◌+◌, ◌-◌, ◌≤◌, ◌<◌}
use native.Mathlib.Nat.{add-zero}
use native.Mathlib.Omega.{arith}
use mathlib.Core.List.{List, [], ◌∷◌, ◌++◌}
use mathlib.Core.Path.{◌∙◌, ◌≡◌, ap, sym}
use lib.ListN.{length, take, drop, get_or, length-append, length-drop, take-append-drop}
use lib.Seq.{drop-cons, length-take-le}
use Rattle.rules.specs.Build.{page_count, paper01}
use Rattle.rules.specs.Lists.{pad}
use Rattle.rules.specs.Memory.{word, words_at}
use Rattle.rules.proofs.Steps.ListLaws.{length-pad}
use Rattle.rules.proofs.Map.MapWords.{Stands, length-words_at, pad-stands, stands-append, words_at-stands}
use Rattle.memory.specs.Lines.{InLine, Joined, Left}
use Rattle.memory.specs.Writes.{Wrote}
use Rattle.memory.proofs.WriteLaws.{covered, lengthened, shifted, stands_word, widened-end, wrote_as}

-- the line of these numbers stands
pub record LineStands (m : List ℕ) (count line room : ℕ) (xs : List ℕ) : Type 0 where
  pub counted : word m count ≡ length xs
  pub numbers : Stands m line (pad room xs)
  pub few : length xs ≤ room

-- and is written, its count last
pub record LineWrote (m m' : List ℕ) (count line room : ℕ) (xs : List ℕ) : Type 0 where
  pub between : List ℕ
  pub numbers : Wrote m between line (pad room xs)
  pub counted : Wrote between m' count (length xs ∷ [])

-- a padded list in two parts
pad-part : (us vs : List ℕ) (k : ℕ) → pad (length us + k) (us ++ vs) ≡ us ++ pad k vs
pad-part [] vs k = let e : 0 + k ≡ k = omega arith in rw e
pad-part (u ∷ us) vs k = let e : suc (length us) + k ≡ suc (length us + k) = omega arith in rw e (ap (λ (t : List ℕ). u ∷ t) (pad-part us vs k))

-- the numbers without the one at index i
abbrev pub lacking : ℕ → List ℕ → List ℕ
lacking i xs = take i xs ++ drop (suc i) xs

module _ {m : List ℕ} {count line room : ℕ} {xs : List ℕ} (s : LineStands m count line room xs) where
  numbers-stand : Stands m line xs
  numbers-stand = ((pad-stands m line room xs s.few).0 s.numbers).0

  -- a line is read
  pub line_read : words_at m line (word m count) ≡ xs
  line_read = words_at-stands m line (word m count) xs (sym s.counted) numbers-stand

  -- a number of it, and the first
  pub line_at : (j : ℕ) → j < length xs → word m (line + j) ≡ get_or xs j 0
  line_at j h = stands_word m line xs j h numbers-stand

  pub line_first : 1 ≤ length xs → word m line ≡ get_or xs 0 0
  line_first some = let e = add-zero line in rw e at (line_at 0 some)

  -- it lies within the memory where its room does; a number of it may leave, and one join it where there is room
  module _ (below : count < length m) (inside : line + room ≤ length m) where
    pub line-within : InLine m count line
    line-within = record { counted = below; inside = omega (arith, s.counted, s.few) }

    pub may-leave : (i : ℕ) → i < length xs → InLine m count line × (i < word m count)
    may-leave i h = (line-within, omega (arith, s.counted))

    pub may-join : room ≤ page_count paper01 → length xs < room → InLine m count line × ((word m count < page_count paper01) × (line + word m count < length m))
    may-join few h = (line-within, (omega (arith, s.counted), omega (arith, s.counted)))

  module _ {m' : List ℕ} where
    -- the number at index i has left
    pub left-wrote : {i x : ℕ} → i < length xs → Left m m' count line i x → (x ≡ get_or xs i 0) × LineWrote m m' count line room (lacking i xs)
    left-wrote {i} {x} h gone =
        let us = take i xs in
        let y = get_or xs i 0 in
        let vs = drop (suc i) xs in
        let k = room - i in
        let few = s.few in
        let lu : length us ≡ i = length-take-le i xs (omega arith) in
        let lv : length vs ≡ length xs - suc i = length-drop (suc i) xs in
        let parts : xs ≡ us ++ (y ∷ vs) = sym (take-append-drop i xs) ∙ ap (λ (t : List ℕ). us ++ t) (drop-cons xs i 0 h) in
        let all : length us + k ≡ room = omega arith in
        let padded : pad room xs ≡ us ++ pad k (y ∷ vs) = ap (pad room) parts ∙ ap (λ (t : ℕ). pad t (us ++ (y ∷ vs))) (sym all) ∙ pad-part us (y ∷ vs) k in
        let both = rw lu at ((stands-append m line us (pad k (y ∷ vs))).0 (rw padded at s.numbers)) in
        let n : word m count - i - 1 ≡ length vs = omega (arith, s.counted) in
        let w : Wrote m gone.between (line + i) (words_at m (line + i + 1) (length vs) ++ (0 ∷ [])) = rw n at gone.moved in
        let moved : Stands gone.between (line + i) (pad k vs) = shifted (line + i) k (y ∷ []) vs (omega arith) both.1 w in
        let lw : length (words_at m (line + i + 1) (length vs) ++ (0 ∷ [])) ≡ length vs + 1 =
        length-append (words_at m (line + i + 1) (length vs)) (0 ∷ []) ∙ ap (λ (t : ℕ). t + 1) (length-words_at m (line + i + 1) (length vs)) in
        let c : Wrote m gone.between (line + i) (pad k vs) = covered w (line + i) (pad k vs) (omega arith) (omega (arith, length-pad k vs)) moved in
        let fewer : word m count - 1 ≡ length (us ++ vs) = omega (arith, s.counted, length-append us vs) in (
          gone.number ∙ line_at i h,
          record {
            between = gone.between;
            numbers =
                wrote_as
                (widened-end c line us (pad k (y ∷ vs)) (ap (λ (t : ℕ). line + t) (sym lu)) (length-pad k (y ∷ vs) ∙ sym (length-pad k vs)) (rw padded at s.numbers))
                (sym (pad-part us vs k) ∙ ap (λ (t : ℕ). pad t (us ++ vs)) all);
            counted = wrote_as gone.counted (ap (λ (t : ℕ). t ∷ []) fewer);
          },
        )

    -- a number has joined the end
    pub joined-wrote : {x : ℕ} → length xs < room → Joined m m' count line x → LineWrote m m' count line room (xs ++ (x ∷ []))
    joined-wrote {x} h came =
        let more : word m count + 1 ≡ length (xs ++ (x ∷ [])) = omega (arith, s.counted, length-append xs (x ∷ [])) in
        record {
          between = came.between;
          numbers = lengthened line room x xs (line + word m count) (ap (λ (t : ℕ). line + t) s.counted) h s.numbers came.written;
          counted = wrote_as came.counted (ap (λ (t : ℕ). t ∷ []) more);
        }

-- What is written of a line leaves the words before its count and its numbers and those behind them, and the length.

module _ {m m' : List ℕ} {count line x : ℕ} where
  pub left_below : {i : ℕ} → Left m m' count line i x → (b : ℕ) → b < count → b < line → word m' b ≡ word m b
  left_below gone b h l = gone.counted.below b h ∙ gone.moved.below b (omega arith)

  pub left-above : {i : ℕ} → i < word m count → Left m m' count line i x → (b : ℕ) → count < b → line + word m count ≤ b → word m' b ≡ word m b
  left-above {i} inside gone b h l =
      let ws = words_at m (line + i + 1) (word m count - i - 1) in
      gone.counted.above b (omega arith)
      ∙ gone.moved.above b (omega (arith, length-append ws (0 ∷ []), length-words_at m (line + i + 1) (word m count - i - 1)))

  pub left-length : {i : ℕ} → Left m m' count line i x → length m' ≡ length m
  left-length gone = gone.counted.same_length ∙ gone.moved.same_length

-- one fewer is left
pub length-lacking : (i : ℕ) (xs : List ℕ) → i < length xs → length (lacking i xs) + 1 ≡ length xs
length-lacking i xs h =
    omega (arith, length-append (take i xs) (drop (suc i) xs), length-take-le i xs (omega arith), length-drop (suc i) xs)
