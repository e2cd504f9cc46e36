-- An answer as a line of text. Assumes nothing.
use Prim.Native.Nat.{ℕ, ◌+◌, ◌≤◌}
use native.Mathlib.Omega.{arith}
use mathlib.Core.Bool.{Bool, not, cond}
use mathlib.Core.List.{List, ◌++◌, append_assoc}
use mathlib.Core.Path.{◌≡◌, sym, ap, ◌∙◌}
use lib.ListN.{length}
use borrow.Author.Tests.{eq-eqb, ne_eqb}
use Rattle.rules.specs.Operation.{unreadable}
use Rattle.rules.specs.Text.{bytes, decimal}
use Rattle.reasons.specs.Why.{Told, why_line}
use Rattle.script.specs.Written.{Appended}
use Rattle.follow.specs.Text.{why_room}
use Rattle.why.specs.declared.one.Text.TheVariants.{Answer, Refusal}
use Rattle.why.specs.One.{Written, answer_line, refusal_line, refusal_words}

-- the words of a refusal
pub words-unread : (a : ℕ) → a ≡ unreadable → bytes ": it can't be read\n" ≡ refusal_words a
unfolding refusal_words
words-unread a e = rw (eq-eqb a unreadable e)

pub words-else : (a : ℕ) → (a ≡ unreadable → ⊥) → bytes ": it is no accepted arrival of this script\n" ≡ refusal_words a
unfolding refusal_words
words-else a e = rw (ne_eqb a unreadable e)

-- its parts joined
in_a_row : (a b c d e : List ℕ) → (a ++ b) ++ ((c ++ d) ++ e) ≡ a ++ (b ++ (c ++ (d ++ e)))
in_a_row a b c d e = simp append_assoc

pub refusal-row : (w a : ℕ) {ws : List ℕ} → ws ≡ refusal_words a → (bytes "why: line " ++ decimal w) ++ ((bytes ": refused with " ++ decimal a) ++ ws) ≡ refusal_line w a
unfolding refusal_line
refusal-row w a {ws} e =
    in_a_row (bytes "why: line ") (decimal w) (bytes ": refused with ") (decimal a) ws
    ∙ ap (λ (x : List ℕ). bytes "why: line " ++ (decimal w ++ (bytes ": refused with " ++ (decimal a ++ x)))) e

-- what is told, written
module _ (w : ℕ) (t : Told) {out out' : List ℕ} {end : ℕ} where
  pub why-written : t.answer ≡ 0 → why_room ≤ length out → Appended out 0 out' end (why_line w t.reason t.line) × (end ≤ 0 + why_room)
      → Written w t out' (Answer end)
  unfolding answer_line
  why-written zero room a =
      record {
        within = let s = a.0.same_length in let f = a.1 in omega arith;
        text = a.0.written ∙ ap (λ (b : Bool). cond b (why_line w t.reason t.line) (refusal_line w t.answer)) (sym (eq-eqb t.answer 0 zero));
        refused = ap not (sym (eq-eqb t.answer 0 zero));
      }

  pub refusal-written : (t.answer ≡ 0 → ⊥) → why_room ≤ length out → Appended out 0 out' end (refusal_line w t.answer) × (end ≤ why_room)
      → Written w t out' (Refusal end)
  unfolding answer_line
  refusal-written other room a =
      record {
        within = let s = a.0.same_length in let f = a.1 in omega arith;
        text = a.0.written ∙ ap (λ (b : Bool). cond b (why_line w t.reason t.line) (refusal_line w t.answer)) (sym (ne_eqb t.answer 0 other));
        refused = ap not (sym (ne_eqb t.answer 0 other));
      }
