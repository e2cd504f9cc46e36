-- The digits of the next number: nines at the end become zeros, and the digit before them is one more; where all are nines, a one leads the
-- zeros. What follows from a counter that stands at a number. Assumes nothing.
use Prim.Native.Nat.{ℕ, zero, suc, ◌+◌, ◌-◌, ◌*◌, ◌≤◌, ◌<◌}
use native.Mathlib.Decide.{dec_lt}
use native.Mathlib.Omega.{arith}
use mathlib.Core.List.{List, [], ◌∷◌, ◌++◌}
use mathlib.Core.Path.{◌≡◌, refl, sym, subst, ap, ◌∙◌}
use lib.ListN.{length, get_or, replicate, length-append}
use lib.Seq.{length-take-le}
use Rattle.rules.specs.Lists.{Every}
use Rattle.rules.specs.Text.{value_from, decimal}
use Rattle.rules.proofs.Steps.EveryLaws.{every_append, every-replicate}
use Rattle.script.specs.Written.{Appended, Counts, Countable, places, last_count}
use Rattle.script.specs.declared.write.Counter.{Counter as Counter·rt}
use Rattle.script.proofs.write.DecimalLaws.{Digit, decimal-small, decimal-some, decimal-digits, decimal-leads, decimal-led, decimal-length, value-append, value-decimal}

-- k nines
abbrev pub nines : ℕ → List ℕ
nines k = replicate k 57

-- k zeros
abbrev pub zeros : ℕ → List ℕ
zeros k = replicate k 48

-- one more than a number that ends in nines
value-carry : (a k : ℕ) → value_from a (nines k) + 1 ≡ value_from (a + 1) (zeros k)
unfolding value_from
value-carry a zero = refl
value-carry a (suc k) =
    let e : a * 10 + 9 + 1 ≡ (a + 1) * 10 + 0 = omega arith in
    value-carry (a * 10 + 9) k ∙ ap (λ (b : ℕ). value_from b (zeros k)) e

-- the same behind other digits
value-carried : (a c k : ℕ) (ys : List ℕ) → 48 ≤ c → value_from a (ys ++ (c ∷ nines k)) + 1 ≡ value_from a (ys ++ ((c + 1) ∷ zeros k))
unfolding value_from
value-carried a c k ys h =
    let v : ℕ = value_from a ys in
    let e : v * 10 + (c - 48) + 1 ≡ v * 10 + (c + 1 - 48) = omega arith in
    ap (λ (x : ℕ). x + 1) (value-append a ys (c ∷ nines k)) ∙ value-carry (v * 10 + (c - 48)) k ∙ ap (λ (b : ℕ). value_from b (zeros k)) e
    ∙ sym (value-append a ys ((c + 1) ∷ zeros k))

-- the digits of the next number, where not all are nines
pub decimal-next : (ys : List ℕ) (c k n : ℕ) → decimal n ≡ ys ++ (c ∷ nines k) → (c ≡ 57 → ⊥) → decimal (n + 1) ≡ ys ++ ((c + 1) ∷ zeros k)
decimal-next ys c k n e not-nine =
    let all = subst (Every Digit) e (decimal-digits n) in
    let parts = (every_append Digit ys (c ∷ nines k)).0 all in
    let low = parts.1.0.0 in
    let high = parts.1.0.1 in
    let below : c + 1 ≤ 57 = elim (dec_lt c 57) [ yes l ↦ omega arith | no l ↦ absurd (not-nine (omega arith)) ] in
    let new = (every_append Digit ys ((c + 1) ∷ zeros k)).1 (parts.0, ((omega arith, below), every-replicate Digit k 48 (omega arith))) in
    let v : n + 1 ≡ value_from 0 (ys ++ ((c + 1) ∷ zeros k)) =
    ap (λ (x : ℕ). x + 1) (sym (value-decimal n) ∙ ap (value_from 0) e) ∙ value-carried 0 c k ys low in
    ap decimal v ∙ led ys e low new
  where
    led : (ys : List ℕ) → decimal n ≡ ys ++ (c ∷ nines k) → 48 ≤ c → Every Digit (ys ++ ((c + 1) ∷ zeros k))
        → decimal (value_from 0 (ys ++ ((c + 1) ∷ zeros k))) ≡ ys ++ ((c + 1) ∷ zeros k)
    led [] e low new = decimal-led (c + 1) (zeros k) (λ z. omega arith) new
    led (y ∷ ys) e low new =
        let long : 2 ≤ length (decimal n) = rw (e, length-append) (omega arith) in
        let big : 1 ≤ n = elim (dec_lt n 10) [ yes l ↦ let s = ap length (decimal-small n l) in absurd (omega arith) | no l ↦ omega arith ] in
        decimal-led y (ys ++ ((c + 1) ∷ zeros k)) (λ z. decimal-leads n big (ap (λ (t : List ℕ). get_or t 0 0) e ∙ z)) new

-- and where all are
pub decimal-grown : (k n : ℕ) → decimal n ≡ nines k → decimal (n + 1) ≡ 49 ∷ zeros k
unfolding value_from
decimal-grown k n e =
    let v : n + 1 ≡ value_from 0 (49 ∷ zeros k) = ap (λ (x : ℕ). x + 1) (sym (value-decimal n) ∙ ap (value_from 0) e) ∙ value-carry 0 k in
    ap decimal v ∙ decimal-led 49 (zeros k) (λ z. omega arith) (omega arith, every-replicate Digit k 48 (omega arith))

-- the number of twenty nines is the largest
pub nines-last : (n : ℕ) → decimal n ≡ nines places → n ≡ last_count
unfolding value_from
nines-last n e = sym (value-decimal n) ∙ ap (value_from 0) e

module _ {counter : Counter·rt} {n : ℕ} (h : Counts counter n) where
  -- as many digits count as the number has
  pub counts-length : length (decimal n) ≡ counter.len
  counts-length = ap length (sym h.text) ∙ length-take-le counter.len counter.digits (omega (arith, h.whole, h.within))

  -- there is one
  pub counts_some : 1 ≤ counter.len
  counts_some = omega (arith, counts-length, decimal-some n)

-- the digits of a number that is not the largest are not all nines
pub countable-short : {counter : Counter·rt} (h : Countable counter) → decimal h.number ≡ nines counter.len → counter.len < places
countable-short {counter} h e = elim (dec_lt counter.len places) [
  | yes k ↦ k
  | no k ↦
      let m : counter.len ≡ places = omega (arith, h.counts.within) in
      let z = nines-last h.number (e ∙ ap nines m) in
      absurd (omega (arith, h.below))
]

-- a number of 64 bits as the digits that write it
pub counts-written : {digits digits' : List ℕ} {end n : ℕ} → Appended digits 0 digits' end (decimal n) → length digits ≡ places → n < 18_446_744_073_709_551_616
    → Counts (record { digits = digits'; len = end }) n
counts-written {n = n} a whole few =
    let l = decimal-length 19 n (omega arith) in
    let e = a.end in
    record { whole = a.same_length ∙ whole; within = omega arith; text = a.written }
