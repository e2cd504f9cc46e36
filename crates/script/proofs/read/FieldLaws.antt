-- The fields of a line read one by one: what is known before each, and what holds where they stop. Assumes nothing.
use Prim.Native.Nat.{ℕ, ◌+◌, ◌-◌, ◌*◌, ◌≤◌, ◌<◌}
use native.Mathlib.Numerals.{add-one}
use native.Mathlib.Omega.{arith}
use borrow.Author.Tests.{ne_eqb, eqb-true, eqb-false, le-leb, leb-true, leb-false, lt-ltb, le-ltb}
use mathlib.Core.Bool.{Bool, true, false, cond, false≢true}
use mathlib.Core.Path.{◌≡◌, refl, sym, ap, ◌∙◌}
use mathlib.Core.List.{List, [], ◌∷◌, ◌++◌, append-nil, append_assoc}
use mathlib.Core.Option.{Option, none, some}
use lib.Dec.{eqb, leb, ltb}
use lib.ListN.{length, take, drop, set, get_or, length-set}
use lib.Seq.{take-suc-set, drop-drop}
use Rattle.std.specs.Prelude.{Some, None, Result, Ok, Err, is_ok}
use Rattle.rules.specs.Text.{is_digit}
use Rattle.rules.specs.Script.{line_limit, is_number, number, and_number}
use Rattle.script.specs.Read.{line_of, line_end, digits_of, numbers_behind, rest_of_line, fields_ended, read_to, NumberRead, FieldsRead}
use Rattle.script.specs.declared.read.Digits.{Digits as Digits·rt}
use Rattle.script.specs.declared.read.Fields.{Fields as Fields·rt}
use Rattle.script.proofs.read.LineEndLaws.{by-test, line-newline, line-more, end_empty, end_more}
use Rattle.script.proofs.read.NumberLaws.{digit-range, digits-all}
use Rattle.script.proofs.read.SplitLaws.{behind-comma}

-- the digits that a text begins with stand in its line
line-digits : (l : List ℕ) → line_of l ≡ digits_of l ++ line_of (drop (length (digits_of l)) l)
unfolding line_of digits_of
line-digits [] = refl
line-digits (x ∷ xs) =
    by-test
    (is_digit x)
    (λ e. let range = digit-range x e in rw (digits_of, e, line_of, ne_eqb x 10 (λ q. omega arith)) (ap (λ (r : List ℕ). x ∷ r) (line-digits xs)))
    (λ e. rw (digits_of, e))

-- and no digit behind them
line_after : (l : List ℕ) → digits_of (line_of (drop (length (digits_of l)) l)) ≡ []
unfolding line_of digits_of
line_after [] = refl
line_after (x ∷ xs) =
    by-test
    (is_digit x)
    (λ e. rw (digits_of, e) (line_after xs))
    (λ e. by-test (eqb x 10) (λ t. rw (digits_of, e, line_of, t)) (λ t. rw (digits_of, e, line_of, t, digits_of, e)))

-- numbers in front of those read behind them
unfoldable pub following : List ℕ → Option (List ℕ) → Option (List ℕ)
following ns none = none
following ns (some ms) = some (ns ++ ms)

-- a number joins those in front
following-more : (ns : List ℕ) (n : ℕ) (o : Option (List ℕ)) → following ns (and_number (some n) o) ≡ following (ns ++ (n ∷ [])) o
unfolding following and_number
following-more ns n none = refl
following-more ns n (some ms) = rw append_assoc

-- where they cannot be read there are none
unread : {i : ℕ} {f : Fields·rt} → ◌≡◌ {A = Result Fields·rt ℕ} (Err i) (Ok f) → ⊥
unread e = false≢true (ap is_ok e)

-- how many were read
abbrev count_of : Result Fields·rt ℕ → ℕ
count_of (Ok f) = f.count
count_of (Err stop) = 0

-- what is told where the fields cannot be read
pub fields-unread :
    {s : List ℕ} {at : ℕ} {fields : List ℕ} {i : ℕ}
    → rest_of_line (line_of (drop at s)) ≡ none → i ≤ length s → line_end s i ≡ line_end s at
    → FieldsRead s at fields (Err i)
fields-unread bad inside same =
    record {
      found = sym bad;
      ended = λ f e. absurd (unread e);
      counted = λ f e. absurd (unread e);
      inside = inside;
      same_line = same;
    }

-- the fields from a position on, where those up to i are read
pub record Fielding (s : List ℕ) (at count : ℕ) (fields : List ℕ) (i : ℕ) : Type 0 where
  pub inside : i ≤ length s
  pub room : at + 2 * count ≤ i
  pub counted : count ≤ 64
  pub fields-room : 64 ≤ length fields
  pub found : following (take count fields) (numbers_behind (line_of (drop i s))) ≡ numbers_behind (line_of (drop at s))
  pub same_line : line_end s i ≡ line_end s at

-- in front of none nothing changes
following-none : (o : Option (List ℕ)) → following [] o ≡ o
unfolding following
following-none none = refl
following-none (some ms) = refl

-- before the first
pub fielding-none : (s : List ℕ) (at : ℕ) (fields : List ℕ) → at ≤ length s → 64 ≤ length fields → Fielding s at 0 fields at
fielding-none s at fields h l =
    record {
      inside = h;
      room = omega arith;
      counted = omega arith;
      fields-room = l;
      found = following-none (numbers_behind (line_of (drop at s)));
      same_line = refl;
    }

module _ (s : List ℕ) (i : ℕ) (inside : i < length s) (comma : get_or s i 0 ≡ 44) where
  -- a comma is no newline
  no-newline : get_or s i 0 ≡ 10 → ⊥
  no-newline q = omega arith

  -- at a comma: the number behind it, and those behind that
  at-comma :
      numbers_behind (line_of (drop i s))
      ≡ and_number (number (digits_of (drop (i + 1) s))) (numbers_behind (line_of (drop (i + 1 + length (digits_of (drop (i + 1) s))) s)))
  at-comma =
      let l = drop (i + 1) s in
      let n = length (digits_of l) in
      rw (line-more s i inside no-newline, comma, line-digits l, ← drop-drop n (i + 1) s)
      (behind-comma (digits_of l) (line_of (drop n l)) (digits-all l) (line_after l))

-- a number has digits
number_digits : (ds : List ℕ) {v : ℕ} → number ds ≡ some v → 0 < length ds
unfolding number is_number
number_digits [] e = absurd (never e)
  where
    never : {v : ℕ} → ◌≡◌ {A = Option ℕ} none (some v) → ⊥
    never e = let z : ◌≡◌ {A = ℕ} 0 1 = cc in omega arith
number_digits (d ∷ ds) e = omega arith

-- nothing either way
cond_same : (t : Bool) → cond {A = Option (List ℕ)} t none none ≡ none
cond_same true = refl
cond_same false = refl

-- a line of 128 bytes behind its letter is over its limit
over-limit : (r : List ℕ) → 128 ≤ length r → rest_of_line r ≡ none
unfolding rest_of_line
over-limit r h = rw (le-leb 128 (length r) h)

-- where no number is read, none is of the line
pub rest-none : (r : List ℕ) → numbers_behind r ≡ none → rest_of_line r ≡ none
unfolding rest_of_line
rest-none r e = rw e (cond_same (leb 128 (length r)))

module _ {s : List ℕ} {at count : ℕ} {fields : List ℕ} {i : ℕ} (r : Fielding s at count fields i) where
  -- how long the line behind the letter is
  rest-length : at + length (line_of (drop at s)) ≡ i + length (line_of (drop i s))
  unfolding line_end
  rest-length = sym r.same_line

  -- a field that is bad makes all bad
  none-behind : numbers_behind (line_of (drop i s)) ≡ none → rest_of_line (line_of (drop at s)) ≡ none
  unfolding following
  none-behind e = rest-none (line_of (drop at s)) (sym (rw e at r.found))

  module _ (inside : i < length s) (comma : get_or s i 0 ≡ 44) where
    -- a comma that ends the line's room
    pub fielding-long : at + 127 ≤ i → rest_of_line (line_of (drop at s)) ≡ none
    fielding-long h =
        let q = ap length (line-more s i inside (no-newline s i inside comma)) in
        let l = rest-length in
        over-limit (line_of (drop at s)) (omega arith)

    module _ {d : Digits·rt} (n : NumberRead s (i + 1) d) where
      -- the line goes on behind the number
      pub fielding-same : line_end s d.next ≡ line_end s at
      fielding-same = n.same_line ∙ end_more s i inside (no-newline s i inside comma) ∙ r.same_line

      -- a bad number
      pub fielding-bad : d.value ≡ None → rest_of_line (line_of (drop at s)) ≡ none
      unfolding and_number
      fielding-bad e = none-behind (at-comma s i inside comma ∙ rw (← n.found, e))

      -- a good one
      pub fielding-more : {value : ℕ} → d.value ≡ Some value → count < 64 → Fielding s at (count + 1) (set fields count value) d.next
      fielding-more {value} e less =
          let ds = digits_of (drop (i + 1) s) in
          let v : number ds ≡ some value = rw e at (sym n.found) in
          let some-digits = number_digits ds v in
          let behind = n.behind value e in
          let room = r.room in
          let long = r.fields-room in
          record {
            inside = n.inside;
            room = omega arith;
            counted = omega arith;
            fields-room = simp length-set long;
            found =
                rw (add-one, take-suc-set fields count value (omega arith), behind, ← following-more)
                (ap (λ (o : Option (List ℕ)). following (take count fields) o) (rw (← v) (sym (at-comma s i inside comma))) ∙ r.found);
            same_line = fielding-same;
          }

  -- a byte that is neither comma nor newline
  fielding-stop : i < length s → (get_or s i 0 ≡ 44 → ⊥) → (get_or s i 0 ≡ 10 → ⊥) → rest_of_line (line_of (drop at s)) ≡ none
  unfolding numbers_behind
  fielding-stop inside comma newline = none-behind (rw (line-more s i inside newline, numbers_behind, ne_eqb (get_or s i 0) 44 comma))

  module _ (stop : line_of (drop i s) ≡ []) where
    -- at the end of the line all numbers are read, and count where it is not over its limit
    fielding-found : rest_of_line (line_of (drop at s)) ≡ cond (ltb (i - at) line_limit) (some (take count fields)) none
    unfolding rest_of_line numbers_behind following
    fielding-found =
        let line = line_of (drop at s) in
        let q = ap length stop in
        let l = rest-length in
        let all : numbers_behind line ≡ some (take count fields) = sym (rw (stop, append-nil) at r.found) in
        by-test
        (leb 128 (length line))
        (λ t. let over = leb-true 128 (length line) t in rw (t, le-ltb (i - at) 128 (omega arith)))
        (λ t. let under = leb-false 128 (length line) t in rw (t, all, lt-ltb (i - at) 128 (omega arith)))

    -- that is what is told there
    pub fields-ended : {f : Result Fields·rt ℕ} → f ≡ fields_ended true (i - at) count i → FieldsRead s at fields f
    fields-ended e =
        by-test (ltb (i - at) line_limit)
        (λ t.
        rw (e, t)
        record {
          found = sym (fielding-found ∙ rw t);
          ended = λ f q. sym (ap read_to q) ∙ sym (end_empty s i stop) ∙ r.same_line;
          counted = λ f q. let c = ap count_of q in let few = r.counted in omega arith;
          inside = r.inside;
          same_line = r.same_line;
        })
        (λ t. rw (e, t) (fields-unread (fielding-found ∙ rw t) r.inside r.same_line))

  -- at a byte that is no comma the fields end, and with them the line or not
  pub fields-byte : i < length s → (get_or s i 0 ≡ 44 → ⊥) → {f : Result Fields·rt ℕ} → f ≡ fields_ended (eqb (get_or s i 0) 10) (i - at) count i → FieldsRead s at fields f
  fields-byte inside comma e =
      by-test
      (eqb (get_or s i 0) 10)
      (λ t. fields-ended (line-newline s i inside (eqb-true (get_or s i 0) 10 t)) (e ∙ rw t))
      (λ t. rw (e, t) (fields-unread (fielding-stop inside comma (eqb-false (get_or s i 0) 10 t)) r.inside r.same_line))
