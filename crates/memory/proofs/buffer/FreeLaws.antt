-- The first message of a buffer, whose place is wiped by then, goes: its place is used up, or its frame is freed and leaves the order of entry.
-- From writes to the node that the memory then holds. Assumes nothing.
use Prim.Native.Nat.{◌+◌, ◌-◌, ◌<◌, ◌≤◌, pred, suc, ℕ}
use native.Mathlib.Omega.{arith}
use mathlib.Core.List.{List, [], ◌++◌, ◌∷◌, map, map-append}
use mathlib.Core.Path.{◌∙◌, ◌≡◌, ap, refl, sym}
use lib.ListN.{drop, get_or, length, length-append, length-drop, take}
use Rattle.rules.specs.Build.{group_count, page_count, paper01}
use Rattle.rules.specs.Frames.{first_frame, free_first, with_stock}
use Rattle.rules.specs.Lists.{Every}
use Rattle.rules.specs.Memory.{count_offset, free_at, free_count_at, group_address, group_words, held_offset, list_offset, size, used_offset, word, pages_from, pages_of}
use Rattle.rules.specs.Node.{Node, group_of, with_buffer, with_entered, with_free, with_group, with_paging, empty_page}
use Rattle.rules.specs.Valid.{GoodPlace}
use Rattle.rules.proofs.Steps.EveryLaws.{every_append, every_drop}
use Rattle.rules.proofs.Steps.ListLaws.{weight-append}
use Rattle.rules.proofs.Map.MapParts.{length-group}
use Rattle.memory.specs.Holds.{Holds, InOrder, Waits, departing, freeing, releasing, using_up, with_both, with_counts}
use Rattle.memory.specs.Lines.{InLine, Joined, Left}
use Rattle.memory.specs.Writes.{Wrote, group_front, group_read, recounted}
use Rattle.memory.proofs.LinePieces.{free-line, free-put}
use Rattle.memory.proofs.CountLaws.{lists-short}
use Rattle.memory.proofs.group.GroupLaws.{group-whole, group-words, list-line, list_wrote, mapped-group, record-stands, record-within, counts-held, counts-wrote, with_pages}
use Rattle.memory.proofs.lines.LineLaws.{LineWrote, joined-wrote, left_below, left-length, left-wrote, line_first, line-within}
use Rattle.memory.proofs.lines.IndexLaws.{index_below}
use Rattle.memory.proofs.PieceLaws.{PageStands, Pieces, holds-pieces, pieces-hold, emptied}
use Rattle.memory.proofs.PieceWrites.{frames-above, group-put}
use Rattle.memory.proofs.WriteLaws.{wrote-over, wrote-stands}

-- The first place is used up.

pub using-up-held : {m m₁ : List ℕ} {n : Node} {r : List ℕ} → Holds m n r → (g : ℕ) → 1 ≤ g → g ≤ group_count
    → Wrote m m₁ (group_address g)
    (group_front (recounted (word m (group_address g + used_offset) + 1) (word m (group_address g + count_offset) - 1) (group_read m g)))
    → Holds m₁ (using_up g n) r
unfolding using_up
using-up-held {n = n} h g low high w =
    let words = group-words (holds-pieces h) h.mapped g low high in
    let B = (group_of n g).buffer in
    counts-held h g low high (B.used + 1) (B.count - 1) (rw (words.used, words.count) at w)

-- The first frame is freed.

-- a frame goes from the front of a group's list to the end of the free line
released : {m m₁ m₂ m₃ : List ℕ} {n : Node} {r : List ℕ} → Holds m n r → (g : ℕ) → 1 ≤ g → g ≤ group_count → length n.free < paper01.frames
    → (f : ℕ) (fs : List ℕ) → (group_of n g).buffer.frames ≡ f ∷ fs
    → LineWrote m m₁ (group_address g + held_offset) (group_address g + list_offset) (page_count paper01) fs
    → Wrote m₁ m₂ (group_address g) (group_front (recounted 0 ((group_of n g).buffer.count - 1) (group_read m₁ g)))
    → Joined m₂ m₃ free_count_at free_at f → take 8 (group_of n g).buffer.places ≡ empty_page paper01
    → Holds m₃ (with_both g (n.free ++ (f ∷ []))
    (record { used = 0; count = (group_of n g).buffer.count - 1; frames = fs; places = drop 8 (group_of n g).buffer.places }) n) r
unfolding with_both with_group with_free with_buffer with_pages with_counts pages_of pages_from group_of
released {m} {m₁} {m₂} {m₃} {n} {r} h g low high few f fs e w₁ w₂ came empty =
    let v = h.mapped in
    let p = holds-pieces h in
    let G = group_of n g in
    let B = G.buffer in
    let a = group_address g in
    let whole = group-whole v g low high in
    let many : length B.frames ≡ suc (length fs) = ap length e in
    let ps = drop 8 B.places in
    let G₁ = with_pages fs ps G in
    let G' = with_counts 0 (B.count - 1) G₁ in
    let u₁ = list_wrote a G fs ps (record-stands p g low high) w₁ in
    let u₂ = counts-wrote g G₁ whole.descriptor (omega (arith, lists-short v g low high)) (wrote-stands u₁) 0 (B.count - 1) w₂ in
    let u : Wrote m m₂ a (group_words G') = wrote-over u₁ u₂ (length-group G₁ ∙ sym (length-group G')) in
    let frames : Every (PageStands m) (pages_from paper01 (f ∷ fs) B.places) = rw e at (p.group-pages (pred g) (omega arith)) in
    let p₂ : Pieces m₂ (with_group g G' n) r = group-put p g low high v.group-count G' u frames.1 in
    let first : PageStands m (emptied f) = rw empty at frames.0 in
    let s₂ = frames-above u (omega (arith, record-within g high, length-group G')) (emptied f ∷ []) (first, tt) in
    let line = joined-wrote (free-line p₂ (omega arith)) (omega arith) came in
    let stand : Every (PageStands m₂) (map emptied (n.free ++ (f ∷ []))) =
    rw map-append ((every_append (PageStands m₂) (map emptied n.free) (emptied f ∷ [])).1 (p₂.free-pages, s₂)) in
    let p₃ = free-put p₂ (n.free ++ (f ∷ [])) stand line in
    pieces-hold
    (mapped-group v g low high G' (n.free ++ (f ∷ []))
    (record {
      descriptor = whole.descriptor;
      whole = length-drop 8 B.places ∙ omega (arith, whole.whole);
      places = every_drop GoodPlace 8 B.places whole.places;
    })
    (omega (arith, length-append n.free (f ∷ [])))
    (λ w. rw e (omega (arith, weight-append w n.free (f ∷ [])))))
    p₃

-- what is read of a buffer with a message
pub record Reads (m : List ℕ) (g : ℕ) : Type 0 where
  pub long : size ≤ length m
  pub count : 1 ≤ word m (group_address g + count_offset)
  pub used : word m (group_address g + used_offset) < 8
  pub held : 1 ≤ word m (group_address g + held_offset)
  pub list : InLine m (group_address g + held_offset) (group_address g + list_offset)
  pub free : word m free_count_at < paper01.frames

-- of such a buffer's node a frame is in use, so the free line has a place
waits-room : (g : ℕ) (n : Node) → Waits g n → length n.free < paper01.frames
waits-room g n waits =
    let once = waits.entered in
    omega (arith, waits.order, index_below (get_or (group_of n g).buffer.frames 0 0) n.paging.entered (omega arith))

module _ {m : List ℕ} {n : Node} {r : List ℕ} (h : Holds m n r) (g : ℕ) (low : 1 ≤ g) (high : g ≤ group_count) (waits : Waits g n) where
  pub reads : Reads m g
  reads =
      let p = holds-pieces h in
      let words = group-words p h.mapped g low high in
      let in-record = record-within g high in
      let long = p.long in
      record {
        long = p.long;
        count = rw words.count waits.some;
        used = rw words.used waits.used;
        held = rw words.held waits.held;
        list = line-within (list-line p h.mapped g low high) (omega arith) (omega arith);
        free = rw p.free-count (waits-room g n waits);
      }

  -- the first frame's number
  pub first_read : word m (group_address g + list_offset) ≡ get_or (group_of n g).buffer.frames 0 0
  first_read = line_first (list-line (holds-pieces h) h.mapped g low high) waits.held

  -- it has gone to the free line
  pub releasing-held : {m₁ m₂ m₃ : List ℕ} (f : ℕ) → take 8 (group_of n g).buffer.places ≡ empty_page paper01 → Left m m₁ (group_address g + held_offset) (group_address g + list_offset) 0 f
      → Wrote m₁ m₂ (group_address g) (group_front (recounted 0 (word m (group_address g + count_offset) - 1) (group_read m₁ g)))
      → Joined m₂ m₃ free_count_at free_at f → Holds m₃ (releasing g n) r
  unfolding releasing free_first first_frame
  releasing-held {m₁} {m₂} {m₃} f empty gone w came = go (group_of n g).buffer.frames refl
    where
      go : (fs : List ℕ) → (group_of n g).buffer.frames ≡ fs
          → Holds m₃ (with_both g (n.free ++ (get_or fs 0 0 ∷ []))
          (record { used = 0; count = (group_of n g).buffer.count - 1; frames = drop 1 fs; places = drop 8 (group_of n g).buffer.places }) n) r
      go [] e = absurd (omega (arith, ap length e, waits.held))
      go (x ∷ fs) e =
          let words = group-words (holds-pieces h) h.mapped g low high in
          let t = left-wrote (list-line (holds-pieces h) h.mapped g low high) waits.held gone in
          let first : f ≡ x = t.0 ∙ ap (λ (ys : List ℕ). get_or ys 0 0) e in
          released h g low high (waits-room g n waits) x fs e (rw e at t.1) (rw words.count at w) (rw first at came) empty

  -- it is still once in the order of entry
  pub releasing-order : InOrder (word m (group_address g + list_offset)) (releasing g n)
  unfolding releasing with_both with_free with_group
  releasing-order = rw first_read waits.entered

  -- and leaves it: it is freed
  pub releasing-departed : departing (word m (group_address g + list_offset)) (releasing g n) ≡ freeing g n
  unfolding departing releasing freeing free_first first_frame with_both with_stock with_free with_paging with_entered with_group group_of
  releasing-departed = rw first_read

-- the groups stand above the counts
above-header : (g : ℕ) → free_count_at < group_address g
unfolding group_address
above-header g = omega arith

-- writes to a group's record leave the count of free frames
pub free-kept : {m m₁ m₂ : List ℕ} {f : ℕ} {ws : List ℕ} (g : ℕ) → Left m m₁ (group_address g + held_offset) (group_address g + list_offset) 0 f
    → Wrote m₁ m₂ (group_address g) ws → word m₂ free_count_at ≡ word m free_count_at
free-kept g gone w =
    let low = above-header g in
    w.below free_count_at (omega arith) ∙ left_below gone free_count_at (omega arith) (omega arith)

-- so the free line has room for the frame
pub free-room : {m m₁ m₂ : List ℕ} {f : ℕ} {ws : List ℕ} (g : ℕ) → Reads m g → Left m m₁ (group_address g + held_offset) (group_address g + list_offset) 0 f
    → Wrote m₁ m₂ (group_address g) ws → InLine m₂ free_count_at free_at × ((word m₂ free_count_at < page_count paper01) × (free_at + word m₂ free_count_at < length m₂))
free-room g reads gone w =
    let same = free-kept g gone w in
    let long = reads.long in
    let few = reads.free in
    let l = w.same_length ∙ left-length gone in
    (record { counted = omega arith; inside = omega arith }, (omega arith, omega arith))
