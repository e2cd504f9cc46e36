-- A line read whole: its letter, what stands behind it, and where it ends. Assumes nothing.
use Prim.Native.Nat.{ℕ, zero, suc, ◌+◌, ◌-◌, ◌≤◌, ◌<◌}
use native.Mathlib.Omega.{arith}
use mathlib.Core.Path.{◌≡◌, refl, sym, ap, ◌∙◌}
use mathlib.Core.List.{List, [], ◌∷◌}
use mathlib.Core.Option.{Option, none, some}
use borrow.Author.Tests.{eqb-true, lt-ltb}
use lib.Dec.{eqb, leb, leb-suc-suc}
use lib.ListN.{length, take, drop, get_or}
use lib.Seq.{length-take-le, take-nil}
use Rattle.std.specs.Prelude.{Result, Ok, Err}
use Rattle.rules.specs.Operation.{unknown}
use Rattle.rules.specs.Text.{extend_first, split}
use Rattle.rules.specs.Script.{letters, lettered, only_byte, numbers, read_fields, read_line}
use Rattle.rules.specs.Script as script
use Rattle.rules.specs.Types.{operation_of}
use Rattle.rules.specs.declared.Operation.{Operation as Operation·rt}
use Rattle.script.specs.Read.{line_of, line_end, numbers_behind, rest_of_line, unreadable_line, fields_of, read_to, FieldsRead, Lettered, LineRead}
use Rattle.script.specs.declared.read.Fields.{Fields as Fields·rt}
use Rattle.script.proofs.read.LineEndLaws.{by-test, line-newline, line-more, end_empty, end_more}

-- a byte that is no letter reads to no operation
pub no-letter : (c : ℕ) → ((ns : List ℕ) → lettered c letters ns ≡ unknown) → (o : Option (List ℕ)) → script.operation_of c o ≡ unknown
unfolding script.operation_of
no-letter c h none = refl
no-letter c h (some ns) = h ns

-- several bytes in front of the first comma are no letter
several : (k x : ℕ) (ps : List (List ℕ)) → read_fields (extend_first k (extend_first x ps)) ≡ unknown
unfolding extend_first read_fields only_byte lettered letters
several k x [] = no-letter 0 (λ ns. refl) (numbers [])
several k x (p ∷ ps) = no-letter 0 (λ ns. refl) (numbers ps)

-- a letter, and the numbers behind it
letter-alone : (k : ℕ) (r : List ℕ) → read_fields (extend_first k (split 44 r)) ≡ script.operation_of k (numbers_behind r)
unfolding split extend_first read_fields only_byte numbers numbers_behind script.operation_of
letter-alone k [] = refl
letter-alone k (x ∷ xs) = by-test (eqb x 44) (λ e. rw (split, numbers_behind, e)) (λ e. rw (split, numbers_behind, e) (several k x (split 44 xs)))

-- the same where the first byte is a comma, which is no letter either
letter-fields : (k : ℕ) (r : List ℕ) → read_fields (split 44 (k ∷ r)) ≡ script.operation_of k (numbers_behind r)
unfolding split read_fields only_byte lettered letters
letter-fields k r =
    by-test
    (eqb k 44)
    (λ e. rw (split, e, eqb-true k 44 e) (no-letter 0 (λ ns. refl) (numbers (split 44 r)) ∙ sym (no-letter 44 (λ ns. refl) (numbers_behind r))))
    (λ e. rw (split, e) (letter-alone k r))

-- a line that is not empty
pub reads-letter : (k : ℕ) (r : List ℕ) → read_line (k ∷ r) ≡ script.operation_of k (rest_of_line r)
unfolding read_line rest_of_line script.operation_of
reads-letter k r =
    by-test
    (leb 128 (length r))
    (λ e. rw (leb-suc-suc 128 (length r), e))
    (λ e. rw (leb-suc-suc 128 (length r), e) (letter-fields k r))

-- an empty one
pub reads-empty : read_line [] ≡ unknown
unfolding read_line read_fields split only_byte numbers script.operation_of lettered letters
reads-empty = refl

-- one over its limit, however long
pub reads-long : (l : List ℕ) → 128 < length l → read_line l ≡ unknown
unfolding read_line
reads-long l h = rw (lt-ltb 128 (length l) h)

-- the numbers behind the first
behind-first : (n : ℕ) (fields : List ℕ) → take (n - 1) (drop 1 fields) ≡ drop 1 (take n fields)
behind-first zero fields = refl
behind-first (suc n) [] = take-nil (suc n - 1)
behind-first (suc n) (x ∷ xs) = let e : suc n - 1 ≡ n = omega arith in rw e

-- the first
first_of : (n : ℕ) (fields : List ℕ) → get_or (take n fields) 0 (get_or fields 0 0) ≡ get_or fields 0 0
first_of zero fields = refl
first_of (suc n) [] = refl
first_of (suc n) (x ∷ xs) = refl

module _ {s : List ℕ} {at : ℕ} (inside : at < length s) where
  -- a line that is empty
  pub line-is-empty : get_or s at 0 ≡ 10 → {fields : List ℕ} → LineRead s at fields (unreadable_line (at + 1))
  unfolding operation_of
  line-is-empty e =
      let l = line-newline s at inside e in
      record {
        operation = rw l (sym reads-empty);
        next = let q = end_empty s at l in omega arith;
        counted = omega arith;
      }

  module _ (letter : get_or s at 0 ≡ 10 → ⊥) {fields : List ℕ} {f : Result Fields·rt ℕ} (r : FieldsRead s (at + 1) fields f) where
    -- what the line reads to
    reads-to : read_line (line_of (drop at s)) ≡ script.operation_of (get_or s at 0) (fields_of fields f)
    reads-to = rw (line-more s at inside letter, r.found) (reads-letter (get_or s at 0) (line_of (drop (at + 1) s)))

    -- where it ends
    ends_at : line_end s (read_to f) ≡ line_end s at
    ends_at = r.same_line ∙ end_more s at inside letter

    -- a line that cannot be read
    pub line-unread : {stop : ℕ} → f ≡ Err stop → {e : ℕ} → e ≡ line_end s stop → LineRead s at fields (unreadable_line (e + 1))
    unfolding operation_of script.operation_of
    line-unread bad h =
        record {
          operation = sym (reads-to ∙ rw bad);
          next = let q = rw bad at ends_at in omega arith;
          counted = omega arith;
        }

    -- one that can
    pub line-is-read :
        {g : Fields·rt} → f ≡ Ok g → 64 ≤ length fields → {op : Operation·rt} → Lettered (get_or s at 0) g.count (get_or fields 0 0) op
        → LineRead s at fields (record { op = op; count = g.count; next = g.next + 1 })
    unfolding Lettered
    line-is-read {g} good room {op} l =
        let n = g.count in
        let counted = r.counted g good in
        let ended = r.ended g good in
        let ends = end_more s at inside letter in
        record {
          operation =
              ap (operation_of op) (behind-first n fields)
              ∙ l (take n fields) (length-take-le n fields (omega arith)) (first_of n fields)
              ∙ sym (reads-to ∙ rw good);
          next = omega arith;
          counted = counted;
        }
