-- The line that begins at a position, byte by byte, and where it ends. Assumes nothing.
use Prim.Native.Nat.{ℕ, ◌+◌, ◌≤◌, ◌<◌}
use native.Mathlib.Numerals.{add-one}
use native.Mathlib.Omega.{arith}
use borrow.Author.Tests.{eq-eqb, ne_eqb}
use mathlib.Core.Bool.{Bool, true, false}
use mathlib.Core.Path.{◌≡◌, refl}
use mathlib.Core.List.{List, [], ◌∷◌}
use lib.Dec.{eqb}
use lib.ListN.{length, drop, get_or, length-drop, drop_of_length-le}
use lib.Seq.{drop-cons}
use Rattle.script.specs.Read.{line_of, line_end}

-- either way of a test
pub by-test : {P : Type 0} (t : Bool) → (t ≡ true → P) → (t ≡ false → P) → P
by-test true f g = f refl
by-test false f g = g refl

-- a line is no longer than its text
line-short : (l : List ℕ) → length (line_of l) ≤ length l
unfolding line_of
line-short [] = omega arith
line-short (x ∷ xs) = by-test (eqb x 10) (λ e. rw (line_of, e) (omega arith)) (λ e. rw (line_of, e) (omega (arith, line-short xs)))

module _ (s : List ℕ) (i : ℕ) where
  -- a line ends in its text
  pub end-inside : i ≤ length s → line_end s i ≤ length s
  unfolding line_end
  end-inside h = omega (arith, line-short (drop i s), length-drop i s)

  -- at the end of the text the line is empty
  pub line-at-end : length s ≤ i → line_of (drop i s) ≡ []
  unfolding line_of
  line-at-end h = rw (drop_of_length-le s h)

  -- at a newline it is empty too
  pub line-newline : i < length s → get_or s i 0 ≡ 10 → line_of (drop i s) ≡ []
  unfolding line_of
  line-newline h e = rw (drop-cons s i 0 h, line_of, eq-eqb (get_or s i 0) 10 e)

  -- any other byte is its first
  pub line-more : i < length s → (get_or s i 0 ≡ 10 → ⊥) → line_of (drop i s) ≡ get_or s i 0 ∷ line_of (drop (i + 1) s)
  unfolding line_of
  line-more h e = rw (add-one, drop-cons s i 0 h, line_of, ne_eqb (get_or s i 0) 10 e)

  -- a line that begins at its end ends there
  pub end_empty : line_of (drop i s) ≡ [] → line_end s i ≡ i
  unfolding line_end
  end_empty e = rw e (omega arith)

  -- a byte that is no newline leaves the end where it is
  pub end_more : i < length s → (get_or s i 0 ≡ 10 → ⊥) → line_end s (i + 1) ≡ line_end s i
  unfolding line_end
  end_more h e = rw (line-more h e) (omega arith)
