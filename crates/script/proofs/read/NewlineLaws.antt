-- A text with a newline in it is no line that can be read; one without is a line. Assumes nothing.
use Prim.Native.Nat.{ℕ, ◌+◌, ◌≤◌, ◌<◌}
use native.Mathlib.Omega.{arith}
use borrow.Author.Tests.{eqb-true, ne_eqb}
use mathlib.Core.Bool.{Bool, false, true≢false}
use mathlib.Core.Path.{◌≡◌, refl, sym, ap, ◌∙◌}
use mathlib.Core.List.{List, [], ◌∷◌}
use mathlib.Core.Option.{none}
use lib.Dec.{eqb}
use lib.ListN.{length}
use Rattle.rules.specs.Lists.{all}
use Rattle.rules.specs.Operation.{unknown}
use Rattle.rules.specs.Text.{extend_first, split, is_digit}
use Rattle.rules.specs.Script.{letters, lettered, number, and_number, numbers, read_line}
use Rattle.rules.specs.Script as script
use Rattle.rules.specs.Types.{operation_of}
use Rattle.script.specs.Read.{line_of, line_end, numbers_behind, rest_of_line, unreadable_line, LineRead, TextRead}
use Rattle.script.specs.declared.read.Line.{Line as Line·rt}
use Rattle.script.proofs.read.SplitLaws.{number-bad, number-none}
use Rattle.script.proofs.read.FieldLaws.{rest-none}
use Rattle.script.proofs.read.ReadLaws.{no-letter, reads-letter, reads-empty}
use Rattle.script.proofs.read.LineEndLaws.{by-test}

-- every field is digits alone
abbrev all_digits : List (List ℕ) → Bool
all_digits ps = all (all is_digit) ps

-- where one is not, none is a number
fields-bad : (ps : List (List ℕ)) → all_digits ps ≡ false → numbers ps ≡ none
unfolding numbers and_number
fields-bad [] e = absurd (true≢false e)
fields-bad (p ∷ ps) e =
    by-test
    (all is_digit p)
    (λ t. rw (fields-bad ps (rw t at e)) (number-none (number p)))
    (λ t. rw (number-bad p t))

-- a byte that is no digit spoils the first field
extend-bad : (c : ℕ) (ps : List (List ℕ)) → is_digit c ≡ false → all_digits (extend_first c ps) ≡ false
unfolding extend_first
extend-bad c [] e = rw e
extend-bad c (p ∷ ps) e = rw e

-- a byte in front mends none
extend-more : (c : ℕ) (ps : List (List ℕ)) → all_digits ps ≡ false → all_digits (extend_first c ps) ≡ false
unfolding extend_first
extend-more c [] e = absurd (true≢false e)
extend-more c (p ∷ ps) e = by-test (is_digit c) (λ t. rw t e) (λ t. rw t)

-- a newline is no digit
newline-bad : (c : ℕ) → c ≡ 10 → is_digit c ≡ false
unfolding is_digit
newline-bad c e = rw e

-- nor is it a comma: it spoils its field
newline-fields : (l : List ℕ) → length (line_of l) < length l → all_digits (split 44 l) ≡ false
unfolding line_of split
newline-fields [] h = absurd (omega arith)
newline-fields (x ∷ xs) h =
    by-test
    (eqb x 10)
    (λ t. let e = eqb-true x 10 t in rw (split, ne_eqb x 44 (λ q. omega arith)) (extend-bad x (split 44 xs) (newline-bad x e)))
    (λ t.
    let m = rw (line_of, t) at h in
    let more = newline-fields xs (omega arith) in
    by-test (eqb x 44) (λ q. rw (split, q) more) (λ q. rw (split, q) (extend-more x (split 44 xs) more)))

-- behind a letter too
newline-behind : (r : List ℕ) → length (line_of r) < length r → numbers_behind r ≡ none
unfolding line_of numbers_behind
newline-behind [] h = absurd (omega arith)
newline-behind (x ∷ xs) h =
    by-test
    (eqb x 44)
    (λ t.
    let e = eqb-true x 44 t in
    let m = rw (line_of, ne_eqb x 10 (λ q. omega arith)) at h in
    rw (numbers_behind, t) (fields-bad (split 44 xs) (newline-fields xs (omega arith))))
    (λ t. rw (numbers_behind, t))

-- so a text with one cannot be read
newline-unreadable : (l : List ℕ) → length (line_of l) < length l → read_line l ≡ unknown
unfolding line_of lettered letters script.operation_of
newline-unreadable [] h = absurd (omega arith)
newline-unreadable (x ∷ xs) h =
    by-test
    (eqb x 10)
    (λ t. rw (eqb-true x 10 t) (reads-letter 10 xs ∙ no-letter 10 (λ ns. refl) (rest_of_line xs)))
    (λ t.
    let m = rw (line_of, t) at h in
    reads-letter x xs ∙ rw (rest-none xs (newline-behind xs (omega arith))))

-- a text without one is its line
line-whole : (l : List ℕ) → length l ≤ length (line_of l) → line_of l ≡ l
unfolding line_of
line-whole [] h = refl
line-whole (x ∷ xs) h =
    by-test
    (eqb x 10)
    (λ t. let m = rw (line_of, t) at h in absurd (omega arith))
    (λ t. let m = rw (line_of, t) at h in rw (line_of, t, line-whole xs (omega arith)))

-- a text of no bytes
empty : (l : List ℕ) → length l ≡ 0 → l ≡ []
empty [] e = refl
empty (x ∷ xs) e = absurd (omega arith)

module _ {text fields : List ℕ} where
  -- an empty text
  pub text-empty : length text ≡ 0 → TextRead text fields (unreadable_line 1)
  unfolding operation_of line_of line_end
  text-empty e =
      let none = empty text e in
      record {
        operation = sym (ap read_line none ∙ reads-empty);
        next = rw none;
        counted = omega arith;
      }

  module _ {l : Line·rt} (r : LineRead text 0 fields l) where
    -- where its first line ends
    ends : l.next ≡ length (line_of text) + 1
    unfolding line_end
    ends = let q = r.next in omega arith

    -- one with a newline in it
    pub text-broken : l.next ≤ length text → TextRead text fields (unreadable_line l.next)
    unfolding operation_of
    text-broken h =
        let q = ends in
        record {
          operation = sym (newline-unreadable text (omega arith));
          next = r.next;
          counted = omega arith;
        }

    -- one without
    pub text-whole : length text < l.next → TextRead text fields l
    text-whole h =
        let q = ends in
        record {
          operation = r.operation ∙ ap read_line (line-whole text (omega arith));
          next = r.next;
          counted = r.counted;
        }
