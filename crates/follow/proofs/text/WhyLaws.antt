-- The answer for a message as a line of text. Assumes nothing.
use Prim.Native.Nat.{ℕ, zero, suc, ◌+◌, ◌≤◌}
use native.Mathlib.Omega.{arith}
use mathlib.Core.List.{List, [], ◌∷◌, ◌++◌, append_assoc}
use mathlib.Core.Path.{◌≡◌, refl, sym, ap, ◌∙◌}
use lib.ListN.{length}
use Rattle.rules.specs.Script.{newline}
use Rattle.rules.specs.Text.{bytes, decimal}
use Rattle.reasons.specs.Why.{reason_words, why_line}
use Rattle.script.specs.Written.{Appended}
use Rattle.script.proofs.write.AppendedLaws.{appended-as, appended-none}

-- the words of the reason with number k, written
pub words-put : {out out' : List ℕ} {at end : ℕ} {bs : List ℕ} (reason k room : ℕ) → reason ≡ k → bs ≡ reason_words k → length bs ≤ room → Appended out at out' end bs
    → Appended out at out' end (reason_words reason) × (end ≤ at + room)
words-put reason k room e w few a = (appended-as a (w ∙ ap reason_words (sym e)), let f = a.end in omega arith)

-- none for 0
pub words-none : (out : List ℕ) (at reason room : ℕ) → reason ≡ 0 → Appended out at out at (reason_words reason) × (at ≤ at + room)
unfolding reason_words
words-none out at reason room e = (appended-as (appended-none out at) (ap reason_words (sym e)), omega arith)

-- any other is the last
pub words-else : (r : ℕ) → (r ≡ 0 → ⊥) → (r ≡ 1 → ⊥) → (r ≡ 2 → ⊥) → (r ≡ 3 → ⊥) → (r ≡ 4 → ⊥) → (r ≡ 5 → ⊥) → (r ≡ 6 → ⊥) → bytes "the processor was taken" ≡ reason_words r
unfolding reason_words
words-else zero a b c d e f g = absurd (a refl)
words-else (suc zero) a b c d e f g = absurd (b refl)
words-else (suc (suc zero)) a b c d e f g = absurd (c refl)
words-else (suc (suc (suc zero))) a b c d e f g = absurd (d refl)
words-else (suc (suc (suc (suc zero)))) a b c d e f g = absurd (e refl)
words-else (suc (suc (suc (suc (suc zero))))) a b c d e f g = absurd (f refl)
words-else (suc (suc (suc (suc (suc (suc zero)))))) a b c d e f g = absurd (g refl)
words-else (suc (suc (suc (suc (suc (suc (suc k))))))) a b c d e f g = refl

-- its parts joined
in_a_row : (a b c d e f g h i : List ℕ)
    → (a ++ b) ++ ((c ++ d) ++ ((e ++ f) ++ (g ++ (h ++ i)))) ≡ a ++ (b ++ (c ++ (d ++ (e ++ (f ++ (g ++ (h ++ i)))))))
in_a_row a b c d e f g h i = simp append_assoc

pub why-row : (w reason line : ℕ)
    → (bytes "line " ++ decimal w) ++ ((bytes ": reason " ++ decimal reason) ++ ((bytes " at line " ++ decimal line) ++ (bytes ": " ++ (reason_words reason ++ (newline ∷ [])))))
    ≡ why_line w reason line
unfolding why_line
why-row w reason line =
    in_a_row (bytes "line ") (decimal w) (bytes ": reason ") (decimal reason) (bytes " at line ") (decimal line) (bytes ": ") (reason_words reason) (newline ∷ [])
