-- Bytes written behind bytes: none, one, and what two writers in a row write. Assumes nothing.
use Prim.Native.Nat.{ℕ, ◌+◌, ◌≤◌, ◌<◌}
use native.Mathlib.Nat.{add-zero}
use native.Mathlib.Numerals.{add-one}
use native.Mathlib.Decide.{dec_lt}
use native.Mathlib.Omega.{arith}
use mathlib.Core.List.{List, [], ◌∷◌, ◌++◌, append-nil, append_assoc}
use mathlib.Core.Path.{◌≡◌, refl, sym, subst, ap, ◌∙◌}
use lib.ListN.{length, take, set, length-append, length-set}
use lib.Seq.{take_all, take-suc-set, length-take-le}
use Rattle.script.specs.Written.{Appended}

-- nothing is written
pub appended-none : (out : List ℕ) (at : ℕ) → Appended out at out at []
appended-none out at = record { same_length = refl; end = sym (add-zero at); written = sym (append-nil (take at out)) }

-- a byte is written
pub appended-byte : (out : List ℕ) (at b : ℕ) → at < length out → Appended out at (set out at b) (at + 1) (b ∷ [])
appended-byte out at b h =
    record {
      same_length = length-set out at b;
      end = refl;
      written = ap (λ (k : ℕ). take k (set out at b)) (add-one at) ∙ take-suc-set out at b h;
    }

-- the same bytes by another name
pub appended-as : {o o' : List ℕ} {a a' : ℕ} {bs cs : List ℕ} → Appended o a o' a' bs → bs ≡ cs → Appended o a o' a' cs
appended-as {o} {o'} {a} {a'} w e = subst (Appended o a o' a') e w

-- and the same end
pub appended-to : {o o' : List ℕ} {a a' b : ℕ} {bs : List ℕ} → Appended o a o' a' bs → a' ≡ b → Appended o a o' b bs
appended-to {o} {o'} {a} {bs = bs} w e = subst (λ (k : ℕ). Appended o a o' k bs) e w

module _ {o o' : List ℕ} {a a' : ℕ} {bs : List ℕ} (w : Appended o a o' a' bs) where
  -- bytes written behind those written
  pub appended_then : {o'' : List ℕ} {a'' : ℕ} {cs : List ℕ} → Appended o' a' o'' a'' cs → Appended o a o'' a'' (bs ++ cs)
  appended_then {cs = cs} v =
      record {
        same_length = v.same_length ∙ w.same_length;
        end = omega (arith, length-append bs cs, v.end, w.end);
        written = v.written ∙ ap (λ (t : List ℕ). t ++ cs) w.written ∙ append_assoc (take a o) bs cs;
      }

  -- a byte written behind those written
  pub appended-next : (b : ℕ) → a' < length o → Appended o a (set o' a' b) (a' + 1) (bs ++ (b ∷ []))
  appended-next b h = appended_then (appended-byte o' a' b (omega (arith, w.same_length)))

-- what is written is inside
pub appended-within : {o o' : List ℕ} {a a' : ℕ} {bs : List ℕ} → Appended o a o' a' bs → a ≤ length o → a' ≤ length o
appended-within {o} {o'} {a} {a'} {bs} w inside =
    elim (dec_lt (length o) a') [
      | yes h ↦
          let l = ap length (sym (take_all a' o' (omega (arith, w.same_length))) ∙ w.written) ∙ length-append (take a o) bs in
          omega (arith, length-take-le a o inside, w.same_length, w.end)
      | no h ↦ omega arith
    ]
