-- The least number of the swap line, found one number at a time: it is a swap page's where all are. Assumes nothing.
use Prim.Native.Nat.{ℕ, ◌+◌, ◌≤◌, ◌<◌, min}
use mathlib.Core.Path.{◌≡◌, ◌∙◌}
use mathlib.Core.Logic.{◌⊎◌, inl, inr}
use mathlib.Core.Bool.{◌&&◌, and-false, and_comm}
use mathlib.Core.List.{List}
use native.Mathlib.Omega.{arith}
use native.Mathlib.Decide.{dec_lt}
use native.Mathlib.Nat.{zero-add}
use Rattle.std.proofs.Math.Nat.{min-eq_left, min-eq_right}
use Rattle.std.proofs.lemmas.Bool.{cases_lt}
use borrow.Author.Tests.{le-leb, lt-leb}
use lib.Dec.{leb}
use Rattle.rules.specs.Lists.{all, up_from}
use Rattle.rules.specs.Memory.{word, swap_at}
use Rattle.validate.specs.Clauses.{swap_page}
use Rattle.validate.proofs.RangeLaws.{all_more}

-- two bounds are that of the less
less-decides : (n l w : ℕ) → w ≤ l → leb n l && leb n w ≡ leb n w
less-decides n l w h =
    elim (dec_lt w n) [
      | yes b ↦ rw (lt-leb n w b) (and-false (leb n l))
      | no b ↦ rw (le-leb n l (omega arith))
    ]

-- one number more
pub least-more : (m : List ℕ) (i l w : ℕ) → all (swap_page m) (up_from 0 i) ≡ leb 32 l → w ≡ word m (swap_at + i)
    → all (swap_page m) (up_from 0 (i + 1)) ≡ leb 32 (min l w)
unfolding swap_page
least-more m i l w e at = all_more (swap_page m) 0 i ∙ rw (zero-add i, ← at, e) (go (cases_lt w l))
  where
    go : (w < l) ⊎ (l ≤ w) → leb 32 l && leb 32 w ≡ leb 32 (min l w)
    go (inl h) = let below : w ≤ l = omega arith in rw (min-eq_right below) (less-decides 32 l w below)
    go (inr h) = rw (min-eq_left h, and_comm (leb 32 l) (leb 32 w)) (less-decides 32 w l h)
