-- The nested walk over the lists from a up to b and their numbers: what is marked as it goes on, and what it has found where it ends; then what
-- a walk over all pages, and one over all frames, tells of the node. Assumes nothing.
use Prim.Native.Nat.{ℕ, ◌+◌, ◌-◌, ◌≤◌, ◌<◌}
use mathlib.Core.Path.{◌≡◌, refl, sym, ap, ◌∙◌}
use mathlib.Core.Logic.{◌≢◌}
use mathlib.Core.Bool.{Bool, true, false}
use mathlib.Core.List.{List, ◌++◌, append-nil, append_assoc}
use native.Mathlib.Omega.{arith}
use lib.ListN.{length, get_or, set, replicate, length-append}
use Rattle.rules.specs.Lists.{all, up_from}
use Rattle.rules.specs.Valid.{frame_numbers, frame_order, stands_once}
use Rattle.rules.specs.Memory.{word, words_at, node_at}
use Rattle.validate.specs.Clauses.{list_start, list_count, list_numbers, listed, pages_once, entered_once}
use Rattle.validate.proofs.frames.ListedLaws.{words_more, listed-none, listed_more, numbers-listed, order-listed, numbers-split, behind}
use Rattle.validate.proofs.frames.OnceLaws.{Marked, marked-none, marked_more, marked_all, twice-fails, over-fails, once-turned}

module _ (m : List ℕ) (a n : ℕ) where
  -- at first
  pub walk_none : n ≤ 96 → Marked n (replicate 96 0) (listed m a (a - a))
  walk_none h = rw (listed-none m a) (marked-none n h)

  module _ (seen : List ℕ) (l : ℕ) where
    -- into a list
    pub walk-enters : (at : ℕ) → Marked n seen (listed m a (l - a)) → Marked n seen (listed m a (l - a) ++ words_at m at 0)
    unfolding words_at
    walk-enters at k = rw append-nil k

    -- past a number that was not met
    pub walk-next : (at i : ℕ) → Marked n seen (listed m a (l - a) ++ words_at m at i) → word m (at + i) < n → get_or seen (word m (at + i)) 0 ≡ 0
        → Marked n (set seen (word m (at + i)) 1) (listed m a (l - a) ++ words_at m at (i + 1))
    walk-next at i k h z =
        rw (words_more m at i, ← append_assoc) (marked_more seen (listed m a (l - a) ++ words_at m at i) k (word m (at + i)) h z)

    -- past the end of the list
    pub walk-leaves : (at i : ℕ) → a ≤ l → at ≡ list_start l → i ≡ list_count m l → Marked n seen (listed m a (l - a) ++ words_at m at i)
        → Marked n seen (listed m a (l + 1 - a))
    unfolding list_numbers
    walk-leaves at i low s e k = rw (listed_more m a l low, ← s, ← e) k

  module _ (b : ℕ) (whole : length (listed m a (b - a)) ≡ n) where
    -- at a number that is too large
    pub walk-over : (l at i : ℕ) → a ≤ l → l < b → at ≡ list_start l → i < list_count m l → n ≤ word m (at + i)
        → all (stands_once (listed m a (b - a))) (up_from 0 n) ≡ false
    walk-over l at i low high s h o =
        let e = numbers-split m a b l i low high h in
        rw e
        (over-fails n (listed m a (l - a) ++ words_at m (list_start l) i) (behind m b l i) (word m (list_start l + i)) (rw (← s) o)
        (sym (ap length e) ∙ whole))

    -- at a number that was met
    pub walk-twice : (seen : List ℕ) (l at i : ℕ) → a ≤ l → l < b → at ≡ list_start l → i < list_count m l
        → Marked n seen (listed m a (l - a) ++ words_at m at i) → word m (at + i) < n → get_or seen (word m (at + i)) 0 ≢ 0
        → all (stands_once (listed m a (b - a))) (up_from 0 n) ≡ false
    walk-twice seen l at i low high s h k w d =
        rw (numbers-split m a b l i low high h, ← s)
        (twice-fails seen (listed m a (l - a) ++ words_at m at i) k (word m (at + i)) (behind m b l i) w d)

    -- at the end
    pub walk_ends : (seen : List ℕ) → Marked n seen (listed m a (b - a)) → all (stands_once (listed m a (b - a))) (up_from 0 n) ≡ true
    walk_ends seen k = marked_all seen (listed m a (b - a)) k whole

-- What the walks tell of the node.

module _ (m : List ℕ) where
  -- its pages, counted
  pub pages-length : length (frame_numbers (node_at m)) ≡ length (listed m 1 10)
  pages-length = ap length (numbers-listed m)

  -- and each once
  pub pages-walked : (t : Bool) → all (stands_once (listed m 1 10)) (up_from 0 96) ≡ t → pages_once m ≡ t
  unfolding pages_once
  pages-walked t h = rw (numbers-listed m) h

  -- its frames, counted
  pub order-length : length (frame_order (node_at m)) ≡ length (listed m 0 2)
  order-length =
      order-listed m (λ fs. length fs ≡ length (listed m 0 2)) (λ xs ys h.
      length-append xs ys ∙ omega (arith, length-append ys xs)) refl

  -- and each once
  pub order-walked : (t : Bool) → all (stands_once (listed m 0 2)) (up_from 0 32) ≡ t → entered_once m ≡ t
  unfolding entered_once
  order-walked t h =
      order-listed m (λ fs. all (stands_once fs) (up_from 0 32) ≡ t) (λ xs ys e. once-turned xs ys (up_from 0 32) ∙ e) h
