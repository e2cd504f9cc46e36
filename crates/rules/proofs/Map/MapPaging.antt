-- Swap space and the order of entry, as the last part of the memory map: two counts, the counts of pages sent out and brought in, and the
-- numbers of the two lines. It takes a hundred words; what stands at its address is read back there, and passes the memory test's clauses on
-- it; and where those clauses pass, what stands there is the part that is read. Assumes nothing.
use Prim.Native.Nat.{ℕ, ◌+◌, ◌-◌, ◌≤◌}
use mathlib.Core.Path.{◌≡◌, refl, sym}
use mathlib.Core.Logic.{◌↔◌}
use mathlib.Core.Bool.{true}
use mathlib.Core.List.{List}
use lib.ListN.{length, length-append}
use Rattle.rules.specs.Lists.{pad}
use Rattle.rules.specs.Build.{paper01}
use Rattle.rules.specs.Node.{Paging}
use Rattle.rules.specs.Memory.{paging_at, swap_count_at, entered_count_at, out_at, brought_at, swap_at, entered_at}
use Rattle.rules.specs.Memory.{word, line_words, paging_words, paging_from}
use Rattle.rules.specs.MemoryTest.{zero_at}
use Rattle.rules.proofs.Steps.ListLaws.{length-pad}
use Rattle.rules.proofs.Map.MapWords.{Stands, stands-cons, stands-append, stands-words_at, words_at-stands, length-words_at, pad-stands}

-- it takes a hundred words
pub length-paging : (s : Paging) → length (paging_words s) ≡ 100
unfolding paging_words line_words
length-paging s = simp (length-append, length-pad)

-- what stands there, word by word
pub record PagingStands (m : List ℕ) (s : Paging) : Type 0 where
  pub swap-count : word m swap_count_at ≡ length s.swap
  pub entered-count : word m entered_count_at ≡ length s.entered
  pub out : word m out_at ≡ s.out
  pub brought : word m brought_at ≡ s.brought
  pub swap : Stands m swap_at s.swap
  pub swap-zero : zero_at m (swap_at + length s.swap) (paper01.swap - length s.swap) ≡ true
  pub entered : Stands m entered_at s.entered
  pub entered-zero : zero_at m (entered_at + length s.entered) (paper01.frames - length s.entered) ≡ true

-- what the memory test asks of it
pub record PagingFits (m : List ℕ) : Type 0 where
  pub swap : word m swap_count_at ≤ paper01.swap
  pub entered : word m entered_count_at ≤ paper01.frames
  pub swap-zero : zero_at m (swap_at + word m swap_count_at) (paper01.swap - word m swap_count_at) ≡ true
  pub entered-zero : zero_at m (entered_at + word m entered_count_at) (paper01.frames - word m entered_count_at) ≡ true

module _ (m : List ℕ) where
  -- lines that are not too long stand word by word
  pub paging-stands : (s : Paging) → length s.swap ≤ paper01.swap → length s.entered ≤ paper01.frames
      → Stands m paging_at (paging_words s) ↔ PagingStands m s
  unfolding paging_words line_words
  paging-stands s h l =
      let both = stands-append m swap_at (pad paper01.swap s.swap) (line_words s.entered) in
      let line = pad-stands m swap_at paper01.swap s.swap h in
      let order = pad-stands m entered_at paper01.frames s.entered l in
      simp (stands-cons, both, length-pad) (
        λ k.
            record {
              swap-count = k.0;
              entered-count = k.1.0;
              out = k.1.1.0;
              brought = k.1.1.1.0;
              swap = (line.0 k.1.1.1.1.0).0;
              swap-zero = (line.0 k.1.1.1.1.0).1;
              entered = (order.0 k.1.1.1.1.1).0;
              entered-zero = (order.0 k.1.1.1.1.1).1;
            },
        λ k. (
          k.swap-count,
          (
            k.entered-count,
            (k.out, (k.brought, (line.1 (k.swap, k.swap-zero), order.1 (k.entered, k.entered-zero)))),
          ),
        ),
      )

  -- what stands there is read there, and its words pass the test
  pub read-paging : (s : Paging) → length s.swap ≤ paper01.swap → length s.entered ≤ paper01.frames
      → Stands m paging_at (paging_words s) → (paging_from m ≡ s) × PagingFits m
  unfolding paging_from
  read-paging s h l stand =
      let k = (paging-stands s h l).0 stand in
      let swap = words_at-stands m swap_at (word m swap_count_at) s.swap (sym k.swap-count) k.swap in
      let entered = words_at-stands m entered_at (word m entered_count_at) s.entered (sym k.entered-count) k.entered in (
        λ i. record { swap = swap i; entered = entered i; out = k.out i; brought = k.brought i },
        record {
          swap = rw k.swap-count h;
          entered = rw k.entered-count l;
          swap-zero = rw k.swap-count k.swap-zero;
          entered-zero = rw k.entered-count k.entered-zero;
        },
      )

  -- words that pass the test are those of what is read
  pub paging-from-stands : PagingFits m → Stands m paging_at (paging_words (paging_from m))
  unfolding paging_from
  paging-from-stands f =
      let swap : length (paging_from m).swap ≡ word m swap_count_at = length-words_at m swap_at (word m swap_count_at) in
      let entered : length (paging_from m).entered ≡ word m entered_count_at = length-words_at m entered_at (word m entered_count_at) in
      (paging-stands (paging_from m) (rw swap f.swap) (rw entered f.entered)).1
      (record {
        swap-count = sym swap;
        entered-count = sym entered;
        out = refl;
        brought = refl;
        swap = stands-words_at m swap_at (word m swap_count_at);
        swap-zero = rw swap f.swap-zero;
        entered = stands-words_at m entered_at (word m entered_count_at);
        entered-zero = rw entered f.entered-zero;
      })
