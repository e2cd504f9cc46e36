-- The decimal digits of a number: those of its tenth, then the last. So a number below ten to the k has at most k digits, its digits write it,
-- its first digit is not 0 unless the number is, and digits without a leading 0 are those of the number that they write. Assumes nothing.
use Prim.Native.Nat.{ℕ, zero, suc, ◌+◌, ◌-◌, ◌*◌, ◌/◌, ◌%◌, ◌^◌, ◌≤◌, ◌<◌}
use native.Mathlib.Decide.{dec_lt}
use native.Mathlib.Nat.{pow-suc, div-lt_iff_lt-mul}
use native.Mathlib.Omega.{arith}
use mathlib.Core.List.{List, [], ◌∷◌, ◌++◌, append-nil, append_assoc}
use mathlib.Core.Path.{◌≡◌, refl, sym, ap, ◌∙◌}
use lib.ListN.{length, get_or, length-append, get_or-append}
use borrow.Author.Tests.{lt-ltb, le-ltb}
use Rattle.rules.specs.Lists.{Every}
use Rattle.rules.specs.Text.{value_from, decimal_before, decimal}
use Rattle.rules.proofs.Steps.EveryLaws.{every_append}

-- one digit
before_small : (d n : ℕ) (rest : List ℕ) → n < 10 → decimal_before (suc d) n rest ≡ (48 + n) ∷ rest
unfolding decimal_before
before_small d n rest h = rw (lt-ltb n 10 h, decimal_before)

-- one digit more
before_more : (d n : ℕ) (rest : List ℕ) → 10 ≤ n → decimal_before (suc d) n rest ≡ decimal_before d (n / 10) ((48 + n % 10) ∷ rest)
unfolding decimal_before
before_more d n rest h = rw (le-ltb n 10 h, decimal_before)

-- the digits in front of a text
before-append : (d n : ℕ) (rest : List ℕ) → decimal_before d n rest ≡ decimal_before d n [] ++ rest
unfolding decimal_before
before-append zero n rest = refl
before-append (suc d) n rest =
    elim (dec_lt n 10) [
      | yes h ↦ before_small d n rest h ∙ ap (λ (t : List ℕ). t ++ rest) (sym (before_small d n [] h))
      | no l ↦
          let h : 10 ≤ n = omega arith in
          let x : ℕ = 48 + n % 10 in
          before_more d n rest h ∙ before-append d (n / 10) (x ∷ rest)
          ∙ sym (append_assoc (decimal_before d (n / 10) []) (x ∷ []) rest)
          ∙ ap (λ (t : List ℕ). t ++ rest) (sym (before-append d (n / 10) (x ∷ [])) ∙ sym (before_more d n [] h))
    ]

-- any bound above the number serves
before-bound : (d e n : ℕ) (rest : List ℕ) → n < d → n < e → decimal_before d n rest ≡ decimal_before e n rest
before-bound zero e n rest p q = absurd (omega arith)
before-bound (suc d) zero n rest p q = absurd (omega arith)
before-bound (suc d) (suc e) n rest p q =
    elim (dec_lt n 10) [
      | yes h ↦ before_small d n rest h ∙ sym (before_small e n rest h)
      | no l ↦
          let h : 10 ≤ n = omega arith in
          before_more d n rest h
          ∙ before-bound d e (n / 10) ((48 + n % 10) ∷ rest) (omega arith) (omega arith)
          ∙ sym (before_more e n rest h)
    ]

-- a number below ten is one digit
pub decimal-small : (n : ℕ) → n < 10 → decimal n ≡ (48 + n) ∷ []
unfolding decimal
decimal-small n h = before_small n n [] h

-- any other is its tenth and its last digit
pub decimal-more : (n : ℕ) → 10 ≤ n → decimal n ≡ decimal (n / 10) ++ ((48 + n % 10) ∷ [])
unfolding decimal
decimal-more n h =
    before_more n n [] h ∙ before-bound n (suc (n / 10)) (n / 10) ((48 + n % 10) ∷ []) (omega arith) (omega arith)
    ∙ before-append (suc (n / 10)) (n / 10) ((48 + n % 10) ∷ [])

-- what holds of one digit, and of a number where it holds of its tenth, holds of every number
pub by-tenths : (P : ℕ → Type 0) → ((n : ℕ) → n < 10 → P n) → ((n : ℕ) → 10 ≤ n → P (n / 10) → P n) → (n : ℕ) → P n
by-tenths P small more n = go (suc n) n (omega arith)
  where
    go : (k n : ℕ) → n < k → P n
    go zero n h = absurd (omega arith)
    go (suc k) n h = elim (dec_lt n 10) [ yes l ↦ small n l | no l ↦ more n (omega arith) (go k (n / 10) (omega arith)) ]

-- there is a digit
pub decimal-some : (n : ℕ) → 1 ≤ length (decimal n)
decimal-some = by-tenths (λ n. 1 ≤ length (decimal n)) (λ n h. rw (decimal-small n h) (omega arith))
    (λ n h k. rw (decimal-more n h, length-append) (omega arith))

-- a number below ten to the k has at most k digits
pub decimal-length : (k n : ℕ) → n < 10 ^ suc k → length (decimal n) ≤ suc k
decimal-length zero n h = let s : n < 10 = h in rw (decimal-small n s) (omega arith)
decimal-length (suc k) n h =
    elim (dec_lt n 10) [
      | yes l ↦ rw (decimal-small n l) (omega arith)
      | no l ↦
          let g : 10 ≤ n = omega arith in
          let t : n / 10 < 10 ^ suc k = (div-lt_iff_lt-mul {k = 10} {x = n} {y = 10 ^ suc k} (omega arith)).1 (rw (pow-suc 10 (suc k)) at h) in
          let r = decimal-length k (n / 10) t in
          rw (decimal-more n g, length-append) (omega arith)
    ]

-- a number of 32 bits has at most ten
pub decimal-ten : (n : ℕ) → n < 4_294_967_296 → length (decimal n) ≤ 10
decimal-ten n h = decimal-length 9 n (omega arith)

-- a decimal digit
abbrev pub Digit : ℕ → Type 0
Digit c = (48 ≤ c) × (c ≤ 57)

-- a number's digits are digits
pub decimal-digits : (n : ℕ) → Every Digit (decimal n)
decimal-digits = by-tenths (λ n. Every Digit (decimal n)) (λ n h. rw (decimal-small n h) (omega arith, tt))
    (λ n h k. rw (decimal-more n h) ((every_append Digit (decimal (n / 10)) ((48 + n % 10) ∷ [])).1 (k, (omega arith, tt))))

-- digits read behind digits
pub value-append : (a : ℕ) (xs ys : List ℕ) → value_from a (xs ++ ys) ≡ value_from (value_from a xs) ys
unfolding value_from
value-append a [] ys = refl
value-append a (x ∷ xs) ys = value-append (a * 10 + (x - 48)) xs ys

-- a number's digits write it
pub value-decimal : (n : ℕ) → value_from 0 (decimal n) ≡ n
unfolding value_from
value-decimal = by-tenths (λ n. value_from 0 (decimal n) ≡ n) (λ n h. rw (decimal-small n h) (omega arith))
    (λ n h k. rw (decimal-more n h, value-append, k) (omega arith))

-- its first is not 0, unless the number is
pub decimal-leads : (n : ℕ) → 1 ≤ n → get_or (decimal n) 0 0 ≡ 48 → ⊥
decimal-leads = by-tenths (λ n. 1 ≤ n → get_or (decimal n) 0 0 ≡ 48 → ⊥) (λ n h l e. let f = rw (decimal-small n h) at e in omega arith)
    (λ n h k l e. k (omega arith) (sym (get_or-append (decimal (n / 10)) ((48 + n % 10) ∷ []) 0 0 (decimal-some (n / 10))) ∙ rw (decimal-more n h) at e))

-- digits behind a number that is not 0 are the last digits of what both write
pub decimal-behind : (a : ℕ) (cs : List ℕ) → 1 ≤ a → Every Digit cs → decimal (value_from a cs) ≡ decimal a ++ cs
unfolding value_from
decimal-behind a [] h d = sym (append-nil (decimal a))
decimal-behind a (c ∷ cs) h d =
    let x : ℕ = a * 10 + (c - 48) in
    let low = d.0.0 in
    let high = d.0.1 in
    let t : x / 10 ≡ a = omega arith in
    let l : 48 + x % 10 ≡ c = omega arith in
    let e : decimal x ≡ decimal a ++ (c ∷ []) = decimal-more x (omega arith) ∙ ap (λ (y : ℕ). decimal y ++ ((48 + x % 10) ∷ [])) t ∙ ap (λ (y : ℕ). decimal a ++ (y ∷ [])) l in
    decimal-behind x cs (omega arith) d.1 ∙ ap (λ (y : List ℕ). y ++ cs) e ∙ append_assoc (decimal a) (c ∷ []) cs

-- digits that do not begin with 0 are those of the number that they write
pub decimal-led : (c : ℕ) (cs : List ℕ) → (c ≡ 48 → ⊥) → Every Digit (c ∷ cs) → decimal (value_from 0 (c ∷ cs)) ≡ c ∷ cs
unfolding value_from
decimal-led c cs n d =
    let low = d.0.0 in
    let high = d.0.1 in
    let x : ℕ = 0 * 10 + (c - 48) in
    let some : 1 ≤ x = decide-some in
    decimal-behind x cs some d.1 ∙ ap (λ (y : List ℕ). y ++ cs) (decimal-small x (omega arith) ∙ ap (λ (y : ℕ). y ∷ []) (omega arith))
  where
    decide-some : 1 ≤ 0 * 10 + (c - 48)
    decide-some = elim (dec_lt 48 c) [ yes h ↦ omega arith | no h ↦ absurd (n (omega (arith, d.0.0))) ]

-- a number of more digits has one more than its tenth
pub decimal-longer : (n : ℕ) → 10 ≤ n → length (decimal n) ≡ length (decimal (n / 10)) + 1
decimal-longer n h = rw (decimal-more n h) (length-append (decimal (n / 10)) ((48 + n % 10) ∷ []))
