-- Words gathered under masks: one before the length adds nothing, and one past it adds itself. Assumes nothing.
use Prim.Native.Nat.{ℕ, ◌+◌, ◌-◌, ◌≤◌, ◌<◌}
use native.Mathlib.Omega.{arith}
use native.Mathlib.Nat.{eq-zero-or-pos, mod-eq_of_lt}
use mathlib.Core.Path.{◌≡◌, ◌∙◌}
use mathlib.Core.List.{List, ◌++◌}
use mathlib.Core.Logic.{◌⊎◌, inl, inr}
use lib.Bits.{bit_and, bit_or, and_mask, and_zero_r, or_zero_r}
use lib.Dec.{eqb}
use lib.ListN.{get_or-append, get_or, get_or-replicate, replicate}
use lib.Seq.{get_or-append-add}
use Rattle.rules.specs.Memory.{word}
use Rattle.rules.specs.MemoryTest.{zero_at}
use Rattle.memory.proofs.words.ZeroLaws.{zero-gathered}

-- eight masks that leave nothing of a word, then eight that leave all of it: the eight from 8 - k on hide the first k words and show the others
unfoldable pub past_masks : List ℕ
past_masks = replicate 8 0 ++ replicate 8 4294967295

-- nothing of a word is left under one of the first eight
mask-hides : (w i : ℕ) → i < 8 → bit_and w (get_or past_masks i 0) ≡ 0
unfolding past_masks
mask-hides w i h =
    rw (get_or-append {A = ℕ} (replicate 8 0) (replicate 8 4294967295) 0 i h, get_or-replicate {A = ℕ} 8 i 0 0 h) (and_zero_r w)

-- all of it under one of the others
mask-shows : (w i : ℕ) → i < 8 → w < 4294967296 → bit_and w (get_or past_masks (8 + i) 0) ≡ w
unfolding past_masks
mask-shows w i h f =
    rw (get_or-append-add {A = ℕ} (replicate 8 0) (replicate 8 4294967295) i 0, get_or-replicate {A = ℕ} 8 i 4294967295 0 h)
    (and_mask w 32 ∙ mod-eq_of_lt f)

-- word j of the eight at address a, of which those past the first k are tested
pub past-gathered : (m : List ℕ) (a k j s : ℕ) → k ≤ 8 → j < 8 → word m (a + j) < 4294967296 → zero_at m (a + k) (j - k) ≡ eqb s 0
    → zero_at m (a + k) (j + 1 - k) ≡ eqb (bit_or s (bit_and (word m (a + j)) (get_or past_masks (8 - k + j) 0))) 0
past-gathered m a k j s few h f e = go (eq-zero-or-pos (k - j))
  where
    go : (k - j ≡ 0) ⊎ (0 < k - j)
        → zero_at m (a + k) (j + 1 - k) ≡ eqb (bit_or s (bit_and (word m (a + j)) (get_or past_masks (8 - k + j) 0))) 0
    go (inl past) =
        let i : 8 - k + j ≡ 8 + (j - k) = omega arith in
        let n : j + 1 - k ≡ j - k + 1 = omega arith in
        let p : a + j ≡ a + k + (j - k) = omega arith in
        rw (i, mask-shows (word m (a + j)) (j - k) (omega arith) f, n, p) (zero-gathered m (a + k) (j - k) s e)
    go (inr before) =
        let n : j + 1 - k ≡ j - k = omega arith in
        rw (mask-hides (word m (a + j)) (8 - k + j) (omega arith), or_zero_r s, n) e
