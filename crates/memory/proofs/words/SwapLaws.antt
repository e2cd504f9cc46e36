-- Two parts of a memory exchanged word by word, and words copied between parts that share none. Assumes nothing.
use Prim.Native.Nat.{ℕ, ◌+◌, ◌≤◌, ◌<◌}
use native.Mathlib.Decide.{dec_lt}
use native.Mathlib.Omega.{arith}
use mathlib.Core.Path.{◌≡◌, refl, ◌∙◌}
use mathlib.Core.List.{List, [], ◌∷◌}
use lib.ListN.{length, set}
use Rattle.rules.specs.Memory.{word, words_at}
use Rattle.rules.proofs.Map.MapWords.{stands-cons}
use Rattle.memory.specs.Writes.{Wrote, Swapped}
use Rattle.memory.proofs.WriteLaws.{same-words_at, words_at-more, wrote-set, wrote-stands}

-- the word that is written
pub wrote-word : {m m' : List ℕ} {a w : ℕ} → Wrote m m' a (w ∷ []) → word m' a ≡ w
wrote-word {m' = m'} {a} {w} v = ((stands-cons m' a w []).0 (wrote-stands v)).0

-- a word behind those copied is as it was: the part it stands in lies above what is written, or below it
pub uncopied : {m m' : List ℕ} {to : ℕ} {ws : List ℕ} → Wrote m m' to ws → (from n : ℕ) → length ws < n → (from < to → from + n ≤ to)
    → word m' (from + length ws) ≡ word m (from + length ws)
uncopied {m} {m'} {to} {ws} w from n less apart = go (dec_lt from to)
  where
    go : Dec (from < to) → word m' (from + length ws) ≡ word m (from + length ws)
    go (yes l) = w.below (from + length ws) (omega (arith, apart l))
    go (no l) = w.above (from + length ws) (omega arith)

-- nothing is exchanged
pub swapped-none : (m : List ℕ) (a b : ℕ) → Swapped m m a b 0
unfolding words_at
swapped-none m a b = record { same_length = refl; first = refl; second = refl; else = λ c f g. refl }

-- one word more
pub swapped-more : {m m' : List ℕ} (a b i : ℕ) → a + i < b → b + i < length m → Swapped m m' a b i
    → Swapped m (set (set m' (a + i) (word m' (b + i))) (b + i) (word m' (a + i))) a b (i + 1)
swapped-more {m} {m'} a b i apart inside s =
    let l = s.same_length in
    let m₁ = set m' (a + i) (word m' (b + i)) in
    let m₂ = set m₁ (b + i) (word m' (a + i)) in
    let w₁ : Wrote m' m₁ (a + i) (word m' (b + i) ∷ []) = wrote-set m' (a + i) (word m' (b + i)) (omega arith) in
    let w₂ : Wrote m₁ m₂ (b + i) (word m' (a + i) ∷ []) = wrote-set m₁ (b + i) (word m' (a + i)) (omega (arith, w₁.same_length)) in
    let x : word m₂ (a + i) ≡ word m (b + i) =
    w₂.below (a + i) (omega arith) ∙ wrote-word w₁ ∙ s.else (b + i) (λ h. omega arith) (λ h. omega arith) in
    let y : word m₂ (b + i) ≡ word m (a + i) = wrote-word w₂ ∙ s.else (a + i) (λ h. omega arith) (λ h. absurd (omega arith)) in
    let first : words_at m₂ a i ≡ words_at m b i =
    same-words_at m' m₂ a i (λ c h k. w₂.below c (omega arith) ∙ w₁.below c (omega arith)) ∙ s.first in
    let second : words_at m₂ b i ≡ words_at m a i =
    same-words_at m' m₂ b i (λ c h k. w₂.below c (omega arith) ∙ w₁.above c (omega arith)) ∙ s.second in
    record {
      same_length = w₂.same_length ∙ w₁.same_length ∙ l;
      first = rw (words_at-more m₂ a i, words_at-more m b i, first, x);
      second = rw (words_at-more m₂ b i, words_at-more m a i, second, y);
      else = λ c f g. outside c f g ∙ s.else c (λ h. omega (arith, f h)) (λ h. omega (arith, g h));
    }
  where
    outside : (c : ℕ) → (a ≤ c → a + (i + 1) ≤ c) → (b ≤ c → b + (i + 1) ≤ c) → word (set (set m' (a + i) (word m' (b + i))) (b + i) (word m' (a + i))) c ≡ word m' c
    outside c f g =
        let l = s.same_length in
        let w₁ = wrote-set m' (a + i) (word m' (b + i)) (omega arith) in
        let w₂ = wrote-set (set m' (a + i) (word m' (b + i))) (b + i) (word m' (a + i)) (omega (arith, w₁.same_length)) in
        apart_from w₂ c (λ h. omega (arith, g (omega arith))) ∙ apart_from w₁ c (λ h. omega (arith, f (omega arith)))
      where
        -- a word beside the one written
        apart_from : {k k' : List ℕ} {d x : ℕ} → Wrote k k' d (x ∷ []) → (e : ℕ) → (e ≡ d → ⊥) → word k' e ≡ word k e
        apart_from {k} {k'} {d} w e other = go (dec_lt e d)
          where
            go : Dec (e < d) → word k' e ≡ word k e
            go (yes h) = w.below e h
            go (no h) = w.above e (omega (arith, other))
