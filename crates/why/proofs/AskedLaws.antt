-- An argument read as a number. Assumes nothing.
use Prim.Native.Nat.{ℕ, ◌≤◌, ◌<◌}
use native.Mathlib.Decide.{dec_lt}
use native.Mathlib.Omega.{arith}
use mathlib.Core.Bool.{Bool, true, false, true≢false, not, ◌&&◌}
use mathlib.Core.List.{List, [], ◌∷◌}
use mathlib.Core.Option.{none}
use Rattle.std.proofs.Common.{None, Option, Some}
use mathlib.Core.Path.{◌≡◌, ◌∙◌, refl, sym, ap}
use lib.Dec.{eqb, leb}
use lib.Pointwise.{pointwise}
use lib.ListN.{length}
use Rattle.rules.specs.Lists.{all, is_empty}
use Rattle.rules.specs.Script.{is_number, number}
use Rattle.rules.specs.Text.{bytes, is_digit}
use Rattle.script.specs.Read.{NumberRead, digits_of, found_number}
use Rattle.script.proofs.read.LineEndLaws.{by-test}
use Rattle.script.specs.declared.read.Digits.{Digits as Digits·rt}
use Rattle.why.specs.Asked.{Asks, line_asked}
use Rattle.why.specs.declared.asked.Asked.{Asked as Asked·rt}
use Rattle.why.specs.declared.asked.Asked.TheVariants.{Line}

-- the digits that a text begins with are no more than it has, and all of it where they are as many
digits-few : (t : List ℕ) → length (digits_of t) ≤ length t
unfolding digits_of
digits-few [] = omega arith
digits-few (x ∷ t) = let h = digits-few t in by-test (is_digit x) (λ e. rw (digits_of, e) (omega arith)) (λ e. rw (digits_of, e) (omega arith))

digits-whole : (t : List ℕ) → length t ≤ length (digits_of t) → digits_of t ≡ t
unfolding digits_of
digits-whole [] h = refl
digits-whole (x ∷ t) h =
    by-test (is_digit x)
    (λ e. rw (digits_of, e) (ap (λ (l : List ℕ). x ∷ l) (digits-whole t (let f = rw (digits_of, e) at h in omega arith))))
    (λ e. let f = rw (digits_of, e) at h in absurd (omega arith))

-- a text that goes on behind them is not of digits
digits-else : (t : List ℕ) → length (digits_of t) < length t → all is_digit t ≡ false
unfolding digits_of
digits-else [] h = absurd (omega arith)
digits-else (x ∷ t) h =
    by-test (is_digit x)
    (λ e. rw e (digits-else t (let f = rw (digits_of, e) at h in omega arith)))
    (λ e. rw e)

-- such a text is no number
number-else : (t : List ℕ) → all is_digit t ≡ false → number t ≡ none
unfolding number is_number
number-else t e = rw (e, both_false (not (is_empty t)) (leb (length t) 10))
  where
    both_false : (a b : Bool) → (a && (b && false)) ≡ false
    both_false true true = refl
    both_false true false = refl
    both_false false b = refl

-- what was read of it
module _ {t : List ℕ} {d : Digits·rt} (r : NumberRead t 0 d) where
  -- no number
  pub asked-none : d.value ≡ None → None ≡ line_asked (number t)
  unfolding line_asked
  asked-none bad = go (dec_lt (length (digits_of t)) (length t))
    where
      read_none : number (digits_of t) ≡ none
      read_none = sym r.found ∙ ap found_number bad

      go : Dec (length (digits_of t) < length t) → None ≡ line_asked (number t)
      go (yes more) = ap line_asked (sym (number-else t (digits-else t more)))
      go (no whole) = ap line_asked (sym (ap number (sym (digits-whole t (omega arith))) ∙ read_none))

  module _ {line : ℕ} (ok : d.value ≡ Some line) where
    -- one, with something behind it
    pub asked-more : d.next < length t → None ≡ line_asked (number t)
    unfolding line_asked
    asked-more more = let b = r.behind line ok in ap line_asked (sym (number-else t (digits-else t (omega arith))))

    -- all of it is one
    pub asked-line : length t ≤ d.next → Some (Line line) ≡ line_asked (number t)
    unfolding line_asked
    asked-line whole =
        let b = r.behind line ok in
        let f = digits-few t in
        ap line_asked (sym (ap number (sym (digits-whole t (omega arith))) ∙ sym r.found ∙ ap found_number ok))

-- What is asked.

asks-line : {t : List ℕ} {a : Option Asked·rt} → (t ≡ bytes "--all" → ⊥) → a ≡ line_asked (number t) → Asks t a
asks-line other e = record { all = λ same. absurd (other same); line = λ _. e }

-- where the test finds another text
pub asks-other : {t s : List ℕ} {same : Bool} {a : Option Asked·rt} → same ≡ pointwise eqb t s → s ≡ bytes "--all" → same ≡ false → a ≡ line_asked (number t)
    → Asks t a
asks-other compared read other e = asks-line (λ is. true≢false (sym (compared ∙ rw (is, read) refl) ∙ other)) e
