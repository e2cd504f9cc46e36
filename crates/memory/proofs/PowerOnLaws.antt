-- The words at power-on: all 0 but the counts and the lines of the free frames and the free swap pages. Assumes nothing.
use Rattle.rules.specs.MemoryTest.{power_on_memory, replaced}
use Prim.Native.Nat.{◌+◌, ◌-◌, ◌≤◌, suc, zero, ℕ, ◌<◌}
use native.Mathlib.Nat.{add-zero}
use native.Mathlib.Omega.{arith}
use mathlib.Core.List.{List, [], ◌++◌, ◌∷◌}
use mathlib.Core.Path.{◌∙◌, ◌≡◌, ap, refl, sym}
use lib.ListN.{drop, length, replicate}
use borrow.Author.Tests.{lt-leb, le-leb}
use Rattle.rules.specs.Build.{paper01}
use Rattle.rules.specs.Lists.{up_from}
use Rattle.rules.specs.Memory.{free_at, free_count_at, groups_at, queue_at, swap_at, swap_count_at, words, all_pages, flag_word, frame_words, group_words, line_words, list_words, paging_words, place_words, queue_words, size, pages_from, pages_of, places_of}
use Rattle.rules.specs.Node.{empty_paging, power_on, empty_page}
use Rattle.rules.specs.Operation.{all_zero, not_node, refused}
use Rattle.rules.specs.Types.{report_of}
use Rattle.rules.specs.declared.Report.{Report as Report·rt}
use Rattle.rules.proofs.Map.MapWords.{Stands, stands-front}
use Rattle.memory.specs.Answers.{Answers}
use Rattle.memory.specs.Writes.{Wrote}
use Rattle.memory.proofs.PieceLaws.{same_drop}
use Rattle.memory.proofs.WriteLaws.{widened, wrote-over, wrote-stands}

-- a memory whose front is written is the words and the rest
pub wrote-front : {m m' ws : List ℕ} → Wrote m m' 0 ws → length ws ≡ size → size ≤ length m → m' ≡ ws ++ drop size m
unfolding Stands
wrote-front {m} {m'} {ws} w l long =
    let e = stands-front m' ws (omega (arith, w.same_length)) w.here in
    sym e ∙ ap (λ (k : ℕ). ws ++ drop k m') l
    ∙ ap (λ (t : List ℕ). ws ++ t) (same_drop m m' size w.same_length (λ b h. w.above b (omega arith)))

-- the words of a node at power-on: those before the swap line's count, and from there on
abbrev power-on-front : List ℕ
power-on-front = 0 ∷ 0 ∷ 0 ∷ 32 ∷ replicate (free_at - queue_at) 0 ++ (up_from 0 32 ++ replicate (swap_count_at - groups_at) 0)

pub power-on-words : words (power_on paper01) ≡ power-on-front ++ ((64 ∷ 0 ∷ 0 ∷ 0 ∷ []) ++ (up_from 32 64 ++ replicate 32 0))
unfolding words power_on empty_paging queue_words line_words list_words group_words paging_words flag_word all_pages pages_of pages_from frame_words places_of empty_page place_words
power-on-words = refl

-- numbers upward, one more
pub up_from-more : (a k : ℕ) → up_from a (k + 1) ≡ up_from a k ++ ((a + k) ∷ [])
up_from-more a zero = rw add-zero
up_from-more a (suc k) =
    let e : suc k + 1 ≡ suc (k + 1) = omega arith in
    let f : suc a + k ≡ a + suc k = omega arith in
    rw e (rw (up_from-more (suc a) k, f))

-- all words are 0, then the count and the line of the free frames are written, and those of the swap pages
pub powered : {m m₁ m₂ m₃ m₄ m₅ : List ℕ} → size ≤ length m → Wrote m m₁ 0 (replicate size 0)
    → Wrote m₁ m₂ free_count_at (32 ∷ []) → Wrote m₂ m₃ free_at (up_from 0 32) → Wrote m₃ m₄ swap_count_at (64 ∷ []) → Wrote m₄ m₅ swap_at (up_from 32 64)
    → m₅ ≡ replaced (power_on paper01) m
unfolding replaced
powered {m} long w₁ w₂ w₃ w₄ w₅ =
    let u₂ = wrote-over w₁ (widened w₂ 0 (0 ∷ 0 ∷ 0 ∷ []) (0 ∷ []) (replicate (size - queue_at) 0) refl refl (wrote-stands w₁)) refl in
    let u₃ = wrote-over u₂ (widened w₃ 0 (0 ∷ 0 ∷ 0 ∷ 32 ∷ replicate (free_at - queue_at) 0) (replicate 32 0) (replicate (size - groups_at) 0) refl refl (wrote-stands u₂)) refl in
    let u₄ = wrote-over u₃ (widened w₄ 0 power-on-front (0 ∷ []) (replicate 99 0) refl refl (wrote-stands u₃)) refl in
    let u₅ = wrote-over u₄ (widened w₅ 0 (power-on-front ++ (64 ∷ 0 ∷ 0 ∷ 0 ∷ [])) (replicate 64 0) (replicate 32 0) refl refl (wrote-stands u₄)) refl in
    wrote-front u₅ refl long ∙ ap (λ (ws : List ℕ). ws ++ drop size m) (sym power-on-words)

-- power-on on memory that is long enough, and on memory that is not
pub power-on-answered : (m : List ℕ) {m' : List ℕ} {rep : Report·rt} → size ≤ length m → m' ≡ replaced (power_on paper01) m → rep ≡ report_of all_zero → Answers m' rep (power_on_memory m)
unfolding power_on_memory
power-on-answered m long e r = rw (le-leb size (length m) long, power_on_memory) (record { reported = r; left = e })

pub power-on-refused : (m : List ℕ) {rep : Report·rt} → length m < size → rep ≡ report_of (refused not_node) → Answers m rep (power_on_memory m)
unfolding power_on_memory
power-on-refused m short r = rw (lt-leb size (length m) short, power_on_memory) (record { reported = r; left = refl })
