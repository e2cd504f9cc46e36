-- The line that a text begins with, byte by byte, and texts that are one line. Assumes nothing.
use Prim.Native.Nat.{ℕ, zero, suc}
use native.Mathlib.Omega.{arith}
use mathlib.Core.Bool.{true, false}
use mathlib.Core.List.{List, [], ◌∷◌, ◌++◌}
use mathlib.Core.Path.{◌≡◌, ◌∙◌, refl, sym, ap}
use lib.Dec.{eqb}
use lib.ListN.{length, take}
use lib.Seq.{take_all}
use Rattle.rules.specs.Script.{newline}
use Rattle.rules.specs.Text.{split, extend_first}
use Rattle.script.specs.Feeding.{whole, begun, all_but_last, last_part}
use Rattle.script.specs.Read.{line_end, line_of, OneLine}
use Rattle.script.proofs.read.LineEndLaws.{by-test}
use Rattle.script.proofs.PortionLaws.{whole-newline, whole-other, join_lines}

module _ (x : ℕ) (xs : List ℕ) where
  -- a newline ends it
  pub line-newline : eqb x newline ≡ true → line_of (x ∷ xs) ≡ []
  unfolding line_of
  line-newline q = rw (q, line_of)

  -- any other byte is its first
  pub line_other : eqb x newline ≡ false → line_of (x ∷ xs) ≡ x ∷ line_of xs
  unfolding line_of
  line_other q = rw (q, line_of)

-- the line is one
pub one_of : (t : List ℕ) → OneLine (line_of t)
unfolding line_of
one_of [] = refl
one_of (x ∷ xs) =
    by-test (eqb x newline)
    (λ q. ap line_of (line-newline x xs q) ∙ sym (line-newline x xs q))
    (λ q. ap line_of (line_other x xs q) ∙ line_other x (line_of xs) q ∙ ap (λ (l : List ℕ). x ∷ l) (one_of xs) ∙ sym (line_other x xs q))

-- one line begins with no newline, and what follows is one
one-tail : (x : ℕ) (xs : List ℕ) → OneLine (x ∷ xs) → (eqb x newline ≡ false) × OneLine xs
one-tail x xs one = by-test (eqb x newline) (λ q. absurd (let e = ap length (sym (line-newline x xs q) ∙ one) in omega arith)) (λ q. (q, let e : x ∷ line_of xs ≡ x ∷ xs = sym (line_other x xs q) ∙ one in cc))

-- the front of one line is one
pub one-take : (n : ℕ) (t : List ℕ) → OneLine t → OneLine (take n t)
unfolding line_of
one-take zero t one = refl
one-take (suc n) [] one = refl
one-take (suc n) (x ∷ xs) one =
    let o = one-tail x xs one in
    line_other x (take n xs) o.0 ∙ ap (λ (l : List ℕ). x ∷ l) (one-take n xs o.1)

-- two of them make one
pub one-append : (s t : List ℕ) → OneLine s → OneLine t → OneLine (s ++ t)
one-append [] t os ot = ot
one-append (x ∷ xs) t os ot =
    let o = one-tail x xs os in
    line_other x (xs ++ t) o.0 ∙ ap (λ (l : List ℕ). x ∷ l) (one-append xs t o.1 ot)

-- a text that completes no line is one
pub one-begun : (t : List ℕ) → whole t ≡ [] → OneLine t
unfolding line_of
one-begun [] e = refl
one-begun (x ∷ xs) e =
    by-test (eqb x newline)
    (λ q. absurd (let f = ap length (sym (whole-newline x xs q).0 ∙ e) in omega arith))
    (λ q. line_other x xs q ∙ ap (λ (l : List ℕ). x ∷ l) (one-begun xs (none (whole xs) (sym (whole-other x xs q).0 ∙ e))))
  where
    none : (ls : List (List ℕ)) → join_lines x ls ≡ [] → ls ≡ []
    none [] q = refl
    none (l ∷ ls) q = absurd (let f = ap length q in omega arith)

-- a text begins with its line
pub line-front : (u : List ℕ) → take (length (line_of u)) u ≡ line_of u
unfolding line_of
line-front [] = refl
line-front (x ∷ xs) =
    by-test (eqb x newline)
    (λ q. rw (q, line_of))
    (λ q. rw (q, line_of) (ap (λ (ys : List ℕ). x ∷ ys) (line-front xs)))

-- from its beginning it ends with its line
pub end-first : (u : List ℕ) → line_end u 0 ≡ length (line_of u)
unfolding line_end
end-first u = omega arith

-- and is one where its line is as long
pub one-long : (u : List ℕ) → length (line_of u) ≡ length u → OneLine u
one-long u e = sym (line-front u) ∙ take_all (length (line_of u)) u (omega arith)

-- One line split at newlines: it is one part, and with a newline behind it the first.

split-other : (x : ℕ) (xs : List ℕ) → eqb x newline ≡ false → split newline (x ∷ xs) ≡ extend_first x (split newline xs)
unfolding split
split-other x xs q = rw (q, split)

pub one_split : (t : List ℕ) → OneLine t → split newline t ≡ t ∷ []
unfolding split extend_first
one_split [] one = refl
one_split (x ∷ xs) one =
    let o = one-tail x xs one in
    split-other x xs o.0 ∙ ap (extend_first x) (one_split xs o.1)

pub ended-split : (t r : List ℕ) → OneLine t → split newline (t ++ (newline ∷ r)) ≡ t ∷ split newline r
unfolding split extend_first
ended-split [] r one = refl
ended-split (x ∷ xs) r one =
    let o = one-tail x xs one in
    split-other x (xs ++ (newline ∷ r)) o.0 ∙ ap (extend_first x) (ended-split xs r o.1)

-- it has begun
pub begun-one : (t : List ℕ) → OneLine t → begun t ≡ t
unfolding begun last_part
begun-one t one = ap last_part (one_split t one)

-- and with its newline it is whole
pub whole-one : (t : List ℕ) → OneLine t → whole (t ++ (newline ∷ [])) ≡ t ∷ []
unfolding whole all_but_last split
whole-one t one = ap all_but_last (ended-split t [] one)

-- and nothing has begun
pub ended-begun : (t : List ℕ) → OneLine t → begun (t ++ (newline ∷ [])) ≡ []
unfolding begun last_part split
ended-begun t one = ap last_part (ended-split t [] one)
