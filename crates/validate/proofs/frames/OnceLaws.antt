-- Numbers marked as they are met: one that is not below n or was met before shows that not every number below n stands once among n, and n
-- numbers that are neither are each of them once. The last by counting: summed over the numbers below n, how often each stands is how many
-- there are; were one missing, the sum would be less. Assumes nothing.
use Prim.Native.Nat.{ℕ, zero, suc, ◌+◌, ◌≤◌, ◌<◌}
use mathlib.Core.Path.{◌≡◌, refl, sym, ◌∙◌}
use mathlib.Core.Logic.{◌≢◌}
use mathlib.Core.Bool.{true, false}
use mathlib.Core.List.{List, [], ◌∷◌, ◌++◌, map}
use native.Mathlib.Omega.{arith}
use native.Mathlib.Decide.{ℕ_discrete}
use lib.Dec.{eqb}
use lib.ListN.{length, get_or, set, replicate, length-set, length-replicate, get_or-replicate}
use lib.Seq.{get_or-set_same, get_or-set_other}
use borrow.Author.Tests.{eqb-true, eq-eqb, ne_eqb}
use Rattle.rules.specs.Lists.{Every, all, sum, count_of, up_from}
use Rattle.rules.specs.Valid.{stands_once}
use Rattle.rules.proofs.Map.TestLaws.{range-tells}
use Rattle.rules.proofs.Steps.EveryLaws.{every_append}
use Rattle.rules.proofs.Steps.ListLaws.{count-append, count-within, once-bounded, sum_lt}
use Rattle.validate.proofs.RangeLaws.{fails, failed-all}

-- in which order does not matter
pub once-turned : (xs ys fs : List ℕ) → all (stands_once (xs ++ ys)) fs ≡ all (stands_once (ys ++ xs)) fs
unfolding stands_once
once-turned xs ys [] = refl
once-turned xs ys (f ∷ fs) =
    let turned : count_of f (xs ++ ys) ≡ count_of f (ys ++ xs) = omega (arith, count-append f xs ys, count-append f ys xs) in
    rw (turned, once-turned xs ys fs)

-- The walk: there are marks for 96 numbers, and n are asked for.

-- the numbers met so far are below n, each at most once, and marked
pub record Marked (n : ℕ) (seen xs : List ℕ) : Type 0 where
  pub room : n ≤ 96
  pub sized : length seen ≡ 96
  pub bounded : Every (λ x. x < n) xs
  pub marks : (f : ℕ) → f < n → get_or seen f 0 ≡ count_of f xs
  pub few : (f : ℕ) → f < n → count_of f xs ≤ 1

-- at first none
pub marked-none : (n : ℕ) → n ≤ 96 → Marked n (replicate 96 0) []
marked-none n h =
    record {
      room = h;
      sized = length-replicate {A = ℕ} 96 0;
      bounded = tt;
      marks = λ f l. get_or-replicate 96 f 0 0 (omega arith);
      few = λ f l. omega arith;
    }

module _ {n : ℕ} (seen xs : List ℕ) (k : Marked n seen xs) (x : ℕ) where
  -- one more that was not met
  pub marked_more : x < n → get_or seen x 0 ≡ 0 → Marked n (set seen x 1) (xs ++ (x ∷ []))
  marked_more h z =
      record {
        room = k.room;
        sized = length-set seen x 1 ∙ k.sized;
        bounded = (every_append (λ y. y < n) xs (x ∷ [])).1 (k.bounded, (h, tt));
        marks = λ f l. here f l (ℕ_discrete x f);
        few = λ f l. once f l (ℕ_discrete x f);
      }
    where
      none : count_of x xs ≡ 0
      none = sym (k.marks x h) ∙ z

      inside : x < 96
      inside = omega (arith, k.room)

      here : (f : ℕ) → f < n → Dec (x ≡ f) → get_or (set seen x 1) f 0 ≡ count_of f (xs ++ (x ∷ []))
      here f l (yes e) =
          rw (← e, get_or-set_same seen x 1 0 (rw k.sized inside), count-append x xs (x ∷ []), eq-eqb x x refl) (omega (arith, none))
      here f l (no d) =
          rw (get_or-set_other seen x f 1 0 (λ e. d (sym e)), count-append f xs (x ∷ []), ne_eqb x f d) (omega (arith, k.marks f l))

      once : (f : ℕ) → f < n → Dec (x ≡ f) → count_of f (xs ++ (x ∷ [])) ≤ 1
      once f l (yes e) = rw (← e, count-append x xs (x ∷ []), eq-eqb x x refl) (omega (arith, none))
      once f l (no d) = rw (count-append f xs (x ∷ []), ne_eqb x f d) (omega (arith, k.few f l))

  -- one that was met
  pub twice-fails : (rest : List ℕ) → x < n → get_or seen x 0 ≢ 0 → all (stands_once (xs ++ (x ∷ rest))) (up_from 0 n) ≡ false
  unfolding stands_once
  twice-fails rest h d =
      failed-all (stands_once (xs ++ (x ∷ rest))) 0 x n (omega arith) (omega arith) (ne_eqb (count_of x (xs ++ (x ∷ rest))) 1 more)
    where
      more : count_of x (xs ++ (x ∷ rest)) ≢ 1
      more e =
          let two = sym (count-append x xs (x ∷ rest)) ∙ e in
          let one = rw (eq-eqb x x refl) at two in
          d (k.marks x h ∙ omega arith)

-- one that is too large
pub over-fails : (n : ℕ) (xs rest : List ℕ) (x : ℕ) → n ≤ x → length (xs ++ (x ∷ rest)) ≡ n
    → all (stands_once (xs ++ (x ∷ rest))) (up_from 0 n) ≡ false
unfolding stands_once
over-fails n xs rest x h l =
    fails (all (stands_once (xs ++ (x ∷ rest))) (up_from 0 n)) (λ e.
    let each = (range-tells (stands_once (xs ++ (x ∷ rest))) 0 n).0 e in
    let small = once-bounded n (xs ++ (x ∷ rest)) (λ f b. eqb-true _ 1 (each f (omega arith) (omega arith))) l in
    let here = ((every_append (λ y. y < n) xs (x ∷ rest)).0 small).1.0 in
    omega arith)

-- How often all numbers of a range stand in a list.

tally : List ℕ → ℕ → ℕ → ℕ
tally xs a n = sum (map (λ f. count_of f xs) (up_from a n))

-- in an empty list
tally-none : (a n : ℕ) → tally [] a n ≡ 0
unfolding tally
tally-none a zero = refl
tally-none a (suc n) = omega (arith, tally-none (suc a) n)

eqb-turned : (a b : ℕ) → eqb a b ≡ eqb b a
eqb-turned a b = go (ℕ_discrete a b)
  where
    go : Dec (a ≡ b) → eqb a b ≡ eqb b a
    go (yes e) = eq-eqb a b e ∙ sym (eq-eqb b a (sym e))
    go (no d) = ne_eqb a b d ∙ sym (ne_eqb b a (λ e. d (sym e)))

-- one number more
tally-more : (x : ℕ) (xs : List ℕ) (a n : ℕ) → tally (x ∷ xs) a n ≡ count_of x (up_from a n) + tally xs a n
unfolding tally
tally-more x xs a zero = refl
tally-more x xs a (suc n) = rw (eqb-turned x a) (omega (arith, tally-more x xs (suc a) n))

-- numbers of the range alone
tally-all : (xs : List ℕ) (k : ℕ) → Every (λ x. x < k) xs → tally xs 0 k ≡ length xs
tally-all [] k e = tally-none 0 k
tally-all (x ∷ xs) k e = omega (arith, tally-more x xs 0 k, count-within x 0 k (omega arith) (omega (arith, e.0)), tally-all xs k e.1)

sum_ones : (a n : ℕ) → sum (map (λ f. 1) (up_from a n)) ≡ n
sum_ones a zero = refl
sum_ones a (suc n) = omega (arith, sum_ones (suc a) n)

-- n numbers below n of which none stands twice are each of them once
pub marked_all : {n : ℕ} (seen xs : List ℕ) → Marked n seen xs → length xs ≡ n → all (stands_once xs) (up_from 0 n) ≡ true
unfolding stands_once tally
marked_all {n} seen xs k l =
    (range-tells (stands_once xs) 0 n).1 (λ f low high. eq-eqb (count_of f xs) 1 (go f (omega arith) (ℕ_discrete (count_of f xs) 0)))
  where
    go : (f : ℕ) → f < n → Dec (count_of f xs ≡ 0) → count_of f xs ≡ 1
    go f h (yes z) =
        let less = sum_lt (λ g. count_of g xs) (λ g. 1) 0 n (λ g low high. k.few g (omega arith)) f (omega arith) (omega arith) (omega arith) in
        absurd (omega (arith, tally-all xs n k.bounded, sum_ones 0 n))
    go f h (no d) = omega (arith, k.few f h)
