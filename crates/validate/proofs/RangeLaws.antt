-- Tests of lists, and of a range by a loop: what the turns so far have passed, and what one failure tells. Assumes nothing.
use Prim.Native.Nat.{ℕ, zero, suc, ◌+◌, ◌≤◌, ◌<◌}
use mathlib.Core.Path.{◌≡◌, refl, sym, ap, ◌∙◌}
use mathlib.Core.Bool.{Bool, true, false, ◌&&◌, true≢false, and-true, and_assoc}
use mathlib.Core.List.{List, [], ◌∷◌, ◌++◌}
use native.Mathlib.Omega.{arith}
use native.Mathlib.Nat.{add-zero, suc-add}
use Rattle.rules.specs.Lists.{all, up_from}
use Rattle.rules.specs.Memory.{word, words_at}
use Rattle.rules.proofs.Map.TestLaws.{range-tells}

-- a test that cannot pass fails
pub fails : (t : Bool) → (t ≡ true → ⊥) → t ≡ false
fails true h = absurd (h refl)
fails false h = refl

-- a test of two lists joined
pub all_append : {A : Type 0} (p : A → Bool) (xs ys : List A) → all p (xs ++ ys) ≡ all p xs && all p ys
all_append p [] ys = refl
all_append p (x ∷ xs) ys = ap (λ (t : Bool). p x && t) (all_append p xs ys) ∙ sym (and_assoc (p x) (all p xs) (all p ys))

-- a test of words is one of their addresses
pub all_words : (p : ℕ → Bool) (m : List ℕ) (a i k : ℕ) → all p (words_at m (a + i) k) ≡ all (λ j. p (word m (a + j))) (up_from i k)
unfolding words_at
all_words p m a i zero = refl
all_words p m a i (suc k) =
    let e : a + i + 1 ≡ a + suc i = omega arith in
    ap (λ (t : Bool). p (word m (a + i)) && t) (rw e (all_words p m a (suc i) k))

-- one number more
pub all_more : (p : ℕ → Bool) (a k : ℕ) → all p (up_from a (k + 1)) ≡ all p (up_from a k) && p (a + k)
all_more p a zero = rw (add-zero a) (and-true (p a))
all_more p a (suc k) =
    let e : suc a + k ≡ a + suc k = omega arith in
    rw (suc-add k 1, ← e)
    (ap (λ (r : Bool). p a && r) (all_more p (suc a) k) ∙ sym (and_assoc (p a) (all p (up_from (suc a) k)) (p (suc a + k))))

-- where a call that answers for a test says no, the test fails
pub refused : {a t : Bool} → a ≡ t → t ≡ false → a ≡ false
refused e n = e ∙ n

-- and where it says yes, it passes
pub accepted : {a t : Bool} → a ≡ t → t ≡ true → a ≡ true
accepted e n = e ∙ n

-- the numbers from a up to, and without, i pass the test
unfoldable pub Passed : (ℕ → Bool) → ℕ → ℕ → Type 0
Passed p a i = (j : ℕ) → a ≤ j → j < i → p j ≡ true

module _ (p : ℕ → Bool) (a : ℕ) where
  -- at first none
  pub passed_none : Passed p a a
  unfolding Passed
  passed_none j low high = absurd (omega arith)

  -- at the end all
  pub passed-all : (i k : ℕ) → Passed p a i → a + k ≤ i → all p (up_from a k) ≡ true
  unfolding Passed
  passed-all i k h e = (range-tells p a k).1 (λ j low high. h j low (omega arith))

  -- one that fails decides
  pub failed-all : (i k : ℕ) → a ≤ i → i < a + k → p i ≡ false → all p (up_from a k) ≡ false
  failed-all i k low high e = fails (all p (up_from a k)) (λ f. true≢false (sym ((range-tells p a k).0 f i low high) ∙ e))
