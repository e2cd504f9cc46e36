-- The lines of a node, each where it stands in memory, and swap space written part by part: from a line that is written to the words of swap
-- space, and to the node that the memory then holds. Assumes nothing.
use Prim.Native.Nat.{ℕ, ◌+◌, ◌≤◌}
use native.Mathlib.Omega.{arith}
use mathlib.Core.List.{List, [], ◌∷◌, ◌++◌, map}
use mathlib.Core.Path.{◌∙◌, ◌≡◌, refl, sym}
use lib.ListN.{length}
use Rattle.rules.specs.Build.{paper01}
use Rattle.rules.specs.Lists.{Every, pad}
use Rattle.rules.specs.Memory.{brought_at, entered_at, entered_count_at, free_at, free_count_at, line_words, out_at, paging_at, paging_words, swap_at, swap_count_at}
use Rattle.rules.specs.Node.{Node, Paging, with_entered, with_free, with_paging}
use Rattle.rules.specs.Sound.{Mapped}
use Rattle.rules.specs.Valid.{frame_numbers, idle}
use Rattle.rules.proofs.Steps.ListLaws.{length-pad}
use Rattle.rules.proofs.Map.MapPaging.{PagingStands, paging-stands}
use Rattle.rules.proofs.Map.MapWords.{Stands, pad-stands}
use Rattle.memory.specs.Holds.{Holds}
use Rattle.memory.specs.Writes.{Wrote}
use Rattle.memory.proofs.lines.LineLaws.{LineStands, LineWrote}
use Rattle.memory.proofs.PieceLaws.{PageStands, Pieces, holds-pieces, pieces-hold, emptied}
use Rattle.memory.proofs.PieceWrites.{line-put, paging-put}
use Rattle.memory.proofs.WriteLaws.{widened, widened-end, wrote-over, wrote-stands}

-- Each line stands.

module _ {m : List ℕ} {n : Node} {r : List ℕ} (p : Pieces m n r) where
  pub free-line : length n.free ≤ paper01.frames → LineStands m free_count_at free_at paper01.frames n.free
  unfolding line_words
  free-line short = record { counted = p.free-count; numbers = p.free; few = short }

  module _ (swaps : length n.paging.swap ≤ paper01.swap) (entries : length n.paging.entered ≤ paper01.frames) where
    -- swap space stands word by word
    pub paging-words : PagingStands m n.paging
    paging-words = (paging-stands m n.paging swaps entries).0 p.paging

    pub swap_line : LineStands m swap_count_at swap_at paper01.swap n.paging.swap
    swap_line =
        record {
          counted = paging-words.swap-count;
          numbers = (pad-stands m swap_at paper01.swap n.paging.swap swaps).1 (paging-words.swap, paging-words.swap-zero);
          few = swaps;
        }

    pub entered-line : LineStands m entered_count_at entered_at paper01.frames n.paging.entered
    entered-line =
        record {
          counted = paging-words.entered-count;
          numbers = (pad-stands m entered_at paper01.frames n.paging.entered entries).1 (paging-words.entered, paging-words.entered-zero);
          few = entries;
        }

-- The free line is written.
pub free-put : {m m' : List ℕ} {n : Node} {r : List ℕ} → Pieces m n r → (fs : List ℕ) → Every (PageStands m) (map emptied fs)
    → LineWrote m m' free_count_at free_at paper01.frames fs → Pieces m' (with_free fs n) r
unfolding line_words
free-put p fs stand w = line-put p fs stand w.numbers w.counted

-- A part of swap space is written.

module _ {m m' : List ℕ} (s : Paging) (h : Stands m paging_at (paging_words s)) where
  -- the swap line
  pub swap-wrote : (fs : List ℕ) → LineWrote m m' swap_count_at swap_at paper01.swap fs
      → Wrote m m' paging_at (paging_words (record { swap = fs; entered = s.entered; out = s.out; brought = s.brought }))
  unfolding paging_words line_words
  swap-wrote fs w =
      let old = pad paper01.swap s.swap in
      let new = pad paper01.swap fs in
      let order = pad paper01.frames s.entered in
      let same : length old ≡ length new = length-pad paper01.swap s.swap ∙ sym (length-pad paper01.swap fs) in
      let w₁ = widened w.numbers paging_at (length s.swap ∷ length s.entered ∷ s.out ∷ s.brought ∷ []) old order refl same h in
      let w₂ = widened w.counted paging_at [] (length s.swap ∷ []) (length s.entered ∷ s.out ∷ s.brought ∷ new ++ order) refl refl (wrote-stands w₁) in
      wrote-over w₁ w₂ refl

  -- the order of entry
  pub entered-wrote : (es : List ℕ) → LineWrote m m' entered_count_at entered_at paper01.frames es → Wrote m m' paging_at (paging_words (with_entered es s))
  unfolding paging_words line_words with_entered
  entered-wrote es w =
      let line = pad paper01.swap s.swap in
      let old = pad paper01.frames s.entered in
      let new = pad paper01.frames es in
      let same : length old ≡ length new = length-pad paper01.frames s.entered ∙ sym (length-pad paper01.frames es) in
      let front : List ℕ = length s.swap ∷ length s.entered ∷ s.out ∷ s.brought ∷ line in
      let at : entered_at ≡ paging_at + length front = omega (arith, length-pad paper01.swap s.swap) in
      let w₁ = widened-end w.numbers paging_at front old at same h in
      let w₂ = widened w.counted paging_at (length s.swap ∷ []) (length s.entered ∷ []) (s.out ∷ s.brought ∷ line ++ new) refl refl (wrote-stands w₁) in
      wrote-over w₁ w₂ refl

  -- the counts of pages sent out and brought in
  pub out-wrote : (k : ℕ) → Wrote m m' out_at (k ∷ [])
      → Wrote m m' paging_at (paging_words (record { swap = s.swap; entered = s.entered; out = k; brought = s.brought }))
  unfolding paging_words
  out-wrote k w =
      widened w paging_at (length s.swap ∷ length s.entered ∷ []) (s.out ∷ [])
      (s.brought ∷ pad paper01.swap s.swap ++ line_words s.entered) refl refl h

  pub brought-wrote : (k : ℕ) → Wrote m m' brought_at (k ∷ [])
      → Wrote m m' paging_at (paging_words (record { swap = s.swap; entered = s.entered; out = s.out; brought = k }))
  unfolding paging_words
  brought-wrote k w =
      widened w paging_at (length s.swap ∷ length s.entered ∷ s.out ∷ []) (s.brought ∷ [])
      (pad paper01.swap s.swap ++ line_words s.entered) refl refl h

-- all of it but the swap line: such a node can be mapped
pub mapped-paging : {n : Node} → Mapped n → (es : List ℕ) (o b : ℕ) → length es ≤ paper01.frames
    → Mapped (with_paging (record { swap = n.paging.swap; entered = es; out = o; brought = b }) n)
unfolding with_paging frame_numbers idle
mapped-paging v es o b short =
    record {
      queue-length = v.queue-length;
      queue-good = v.queue-good;
      group-count = v.group-count;
      groups-whole = v.groups-whole;
      frames-once = v.frames-once;
      frames-all = v.frames-all;
      free-short = v.free-short;
      swap-short = v.swap-short;
      entered-short = short;
    }

-- and is held where they are written
pub paging-held : {m m' : List ℕ} {n : Node} {r : List ℕ} → Holds m n r → (es : List ℕ) (o b : ℕ) → length es ≤ paper01.frames
    → Wrote m m' paging_at (paging_words (record { swap = n.paging.swap; entered = es; out = o; brought = b }))
    → Holds m' (with_paging (record { swap = n.paging.swap; entered = es; out = o; brought = b }) n) r
paging-held {n = n} h es o b short w =
    let p = holds-pieces h in
    pieces-hold (mapped-paging h.mapped es o b short)
    (paging-put p (record { swap = n.paging.swap; entered = es; out = o; brought = b }) p.swap-pages w)

-- the order of entry alone
pub entered-held : {m m' : List ℕ} {n : Node} {r : List ℕ} → Holds m n r → (es : List ℕ) → length es ≤ paper01.frames
    → LineWrote m m' entered_count_at entered_at paper01.frames es → Holds m' (with_paging (with_entered es n.paging) n) r
unfolding with_entered
entered-held {n = n} h es short w =
    paging-held h es n.paging.out n.paging.brought short (entered-wrote n.paging (holds-pieces h).paging es w)
