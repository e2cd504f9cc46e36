-- Digits read one by one, and the number that they write: what is known before each digit, and what holds where they stop. Assumes nothing.
use Prim.Native.Nat.{ℕ, zero, suc, ◌+◌, ◌-◌, ◌*◌, ◌≤◌, ◌<◌}
use native.Mathlib.Numerals.{add-one}
use native.Mathlib.Nat.{add-zero, add-suc}
use native.Mathlib.Omega.{arith}
use borrow.Author.Tests.{leb-true, le-leb, lt-leb, ne_eqb}
use mathlib.Core.Bool.{Bool, true, false, cond, not, ◌&&◌, false≢true}
use mathlib.Core.Path.{◌≡◌, refl, sym, ap, ◌∙◌}
use mathlib.Core.List.{List, [], ◌∷◌}
use mathlib.Core.Option.{none, some}
use lib.Dec.{eqb, leb}
use lib.ListN.{length, drop, get_or, drop_of_length-le}
use lib.Seq.{drop-cons}
use Rattle.std.specs.Char.{is_ascii_digit}
use Rattle.std.specs.Prelude.{Option as Maybe, Some, None, is_some}
use Rattle.rules.specs.Lists.{all}
use Rattle.rules.specs.Text.{is_digit, value_from}
use Rattle.rules.specs.Script.{largest, is_number, number}
use Rattle.script.specs.Read.{line_end, digits_of, Judged, NumberRead}
use Rattle.script.specs.declared.read.Digits.{Digits as Digits·rt}
use Rattle.script.proofs.read.LineEndLaws.{by-test, end_more}

-- both of two tests that pass together
pub both-pass : (a b : Bool) → (a && b) ≡ true → (a ≡ true) × (b ≡ true)
both-pass true b e = (refl, e)
both-pass false b e = absurd (false≢true e)

-- the powers of ten
unfoldable pub ten_to : ℕ → ℕ
ten_to zero = 1
ten_to (suc k) = ten_to k * 10

-- a larger power is no smaller
ten-more : (k d : ℕ) → ten_to k ≤ ten_to (k + d)
unfolding ten_to
ten-more k zero = rw add-zero (omega arith)
ten-more k (suc d) = rw add-suc (omega (arith, ten-more k d))

-- ten digits are below the tenth power
ten-bound : (k : ℕ) → k ≤ 10 → ten_to k ≤ 10_000_000_000
unfolding ten_to
ten-bound k h =
    let e : k + (10 - k) ≡ 10 = omega arith in
    rw e at (ten-more k (10 - k))

-- a digit's code is 48 to 57
pub digit-range : (c : ℕ) → is_digit c ≡ true → (48 ≤ c) × (c ≤ 57)
unfolding is_digit
digit-range c e = let p = both-pass (leb 48 c) (leb c 57) e in (leb-true 48 c p.0, leb-true c 57 p.1)

-- a digit is one of ASCII
pub digit-same : (c : ℕ) → is_digit c ≡ is_ascii_digit c
unfolding is_digit
digit-same c = refl

-- where no number was read there is none
pub no-number : {n : ℕ} → ◌≡◌ {A = Maybe ℕ} None (Some n) → ⊥
no-number e = false≢true (ap is_some e)

module _ (s : List ℕ) (i : ℕ) where
  -- at the end of the text no digits stand
  pub digits-at-end : length s ≤ i → digits_of (drop i s) ≡ []
  unfolding digits_of
  digits-at-end h = rw (drop_of_length-le s h)

  -- nor at a byte that is no digit
  pub digits-stop : i < length s → is_digit (get_or s i 0) ≡ false → digits_of (drop i s) ≡ []
  unfolding digits_of
  digits-stop h e = rw (drop-cons s i 0 h, digits_of, e)

  -- a digit is their first
  pub digits_more : i < length s → is_digit (get_or s i 0) ≡ true → digits_of (drop i s) ≡ get_or s i 0 ∷ digits_of (drop (i + 1) s)
  unfolding digits_of
  digits_more h e = rw (add-one, drop-cons s i 0 h, digits_of, e)

-- all of them are digits
pub digits-all : (l : List ℕ) → all is_digit (digits_of l) ≡ true
unfolding digits_of
digits-all [] = refl
digits-all (x ∷ xs) = by-test (is_digit x) (λ e. rw (digits_of, e, e) (digits-all xs)) (λ e. rw (digits_of, e))

-- up to ten digits: whether there are some and what they write decide
number-judged :
    (ds : List ℕ) → length ds ≤ 10 → all is_digit ds ≡ true
    → number ds ≡ cond (not (eqb (length ds) 0) && leb (value_from 0 ds) largest) (some (value_from 0 ds)) none
unfolding number is_number
number-judged [] h e = refl
number-judged (d ∷ ds) h e = rw (le-leb (length (d ∷ ds)) 10 h, e, ne_eqb (length (d ∷ ds)) 0 (λ q. omega arith))

-- more than ten are no number
number-long : (ds : List ℕ) → 10 < length ds → number ds ≡ none
unfolding number is_number
number-long [] h = refl
number-long (d ∷ ds) h = rw (lt-leb (length (d ∷ ds)) 10 h)

-- the digits from a position on, where those up to i are read, and are at most ten, and write the value
pub record Reading (s : List ℕ) (at value i : ℕ) : Type 0 where
  pub from : at ≤ i
  pub inside : i ≤ length s
  pub short : i ≤ at + 10
  pub valued : value_from value (digits_of (drop i s)) ≡ value_from 0 (digits_of (drop at s))
  pub counted : i + length (digits_of (drop i s)) ≡ at + length (digits_of (drop at s))
  pub bounded : value < ten_to (i - at)
  pub same_line : line_end s i ≡ line_end s at

-- before the first digit
pub reading-none : (s : List ℕ) (at : ℕ) → at ≤ length s → Reading s at 0 at
unfolding ten_to
reading-none s at h =
    let e : at - at ≡ 0 = omega arith in
    record {
      from = omega arith;
      inside = h;
      short = omega arith;
      valued = refl;
      counted = refl;
      bounded = rw e (omega arith);
      same_line = refl;
    }

module _ {s : List ℕ} {at value i : ℕ} (r : Reading s at value i) where
  -- one digit more fits
  pub reading-fits : i < at + 10 → value * 10 + 9 < 10_000_000_000
  unfolding ten_to
  reading-fits h =
      let b = r.bounded in
      let t = ten-bound (suc (i - at)) (omega arith) in
      omega arith

  -- and is read
  pub reading-more :
      i < length s → i < at + 10 → is_digit (get_or s i 0) ≡ true → Reading s at (value * 10 + (get_or s i 0 - 48)) (i + 1)
  unfolding ten_to value_from
  reading-more inside short e =
      let d = digits_more s i inside e in
      let range = digit-range (get_or s i 0) e in
      let k : i + 1 - at ≡ suc (i - at) = omega (arith, r.from) in
      let counted = r.counted in
      let bounded = r.bounded in
      record {
        from = omega (arith, r.from);
        inside = omega arith;
        short = omega arith;
        valued = rw d at r.valued;
        counted = let q = ap length d in omega arith;
        bounded = rw k (omega arith);
        same_line = end_more s i inside (λ q. omega arith) ∙ r.same_line;
      }

  module _ (stop : digits_of (drop i s) ≡ []) where
    -- where they stop all are read
    reading-stops : i ≡ at + length (digits_of (drop at s))
    reading-stops = let q = ap length stop in let counted = r.counted in omega arith

    -- and judged
    reading-judged : number (digits_of (drop at s)) ≡ cond (not (eqb (i - at) 0) && leb value largest) (some value) none
    unfolding value_from
    reading-judged =
        let ds = digits_of (drop at s) in
        let short = r.short in
        let stops = reading-stops in
        let n : length ds ≡ i - at = omega arith in
        let v : value ≡ value_from 0 ds = rw stop at r.valued in
        number-judged ds (omega arith) (digits-all (drop at s)) ∙ rw (n, ← v)

    -- what is judged is the number
    pub read-stops : {d : Digits·rt} → Judged value (i - at) i d → NumberRead s at d
    read-stops j =
        record {
          found = j.found ∙ sym reading-judged;
          behind = λ n e. j.behind ∙ reading-stops;
          inside = rw j.behind r.inside;
          same_line = ap (line_end s) j.behind ∙ r.same_line;
        }

  -- an eleventh digit is one too many
  pub reading-long : i < length s → at + 10 ≤ i → is_digit (get_or s i 0) ≡ true → number (digits_of (drop at s)) ≡ none
  reading-long inside long e =
      let q = ap length (digits_more s i inside e) in
      let counted = r.counted in
      number-long (digits_of (drop at s)) (omega arith)
