-- Words are tested for 0 by their |, gathered word by word: it is 0 where every word is, and only there. Assumes nothing.
use Prim.Native.Nat.{ℕ, zero, suc, ◌+◌}
use native.Mathlib.Omega.{arith}
use native.Mathlib.Nat.{add-zero}
use native.Mathlib.Numerals.{add-one}
use mathlib.Core.Bool.{Bool, true, ◌&&◌, and-true, and_assoc}
use mathlib.Core.List.{List}
use mathlib.Core.Path.{◌∙◌, ◌≡◌, ap, refl, sym}
use borrow.Author.Tests.{ne_eqb}
use lib.Bits.{bit_or, or_add_and, and_le_r}
use lib.Dec.{eqb, eqb-suc-zero, eqb-zero-suc}
use Rattle.rules.specs.Memory.{word, words_at}
use Rattle.rules.specs.MemoryTest.{zero_at}

-- x | y is 0 where both are: it is at least x
pub or-zero : (x y : ℕ) → eqb (bit_or x y) 0 ≡ eqb x 0 && eqb y 0
or-zero zero y = refl
or-zero (suc x) y =
    rw (eqb-suc-zero x) (ne_eqb (bit_or (suc x) y) 0 (λ e. omega (arith, or_add_and (suc x) y, and_le_r (suc x) y)))

-- either way round
pub zero-swap : (x : ℕ) → eqb x 0 ≡ eqb 0 x
zero-swap zero = refl
zero-swap (suc x) = eqb-suc-zero x ∙ sym (eqb-zero-suc x)

module _ (m : List ℕ) where
  -- no words are 0
  pub zero-none : (a : ℕ) → zero_at m a 0 ≡ true
  unfolding zero_at words_at
  zero-none a = refl

  -- one word more
  zero_more : (a k : ℕ) → zero_at m a (suc k) ≡ zero_at m a k && eqb 0 (word m (a + k))
  unfolding zero_at words_at
  zero_more a zero = rw (add-zero a) (and-true (eqb 0 (word m a)))
  zero_more a (suc k) =
      let e : a + 1 + k ≡ a + suc k = omega arith in
      ap (λ (r : Bool). eqb 0 (word m a) && r) (rw (← e) (zero_more (a + 1) k)) ∙ sym (and_assoc (eqb 0 (word m a)) (zero_at m (a + 1) k) _)

  -- and it is gathered
  pub zero-gathered : (a k s : ℕ) → zero_at m a k ≡ eqb s 0 → zero_at m a (k + 1) ≡ eqb (bit_or s (word m (a + k))) 0
  zero-gathered a k s e =
      rw (add-one k, zero_more a k, or-zero s (word m (a + k)), e, zero-swap (word m (a + k)))
