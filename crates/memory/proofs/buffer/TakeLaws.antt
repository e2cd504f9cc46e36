-- A group takes the front of the free line, which enters: from writes to the node that the memory then holds. Assumes nothing.
use Prim.Native.Nat.{◌*◌, ◌+◌, ◌≤◌, ◌<◌, pred, suc, ℕ}
use native.Mathlib.Omega.{arith}
use mathlib.Core.List.{List, [], ◌++◌, ◌∷◌, map}
use mathlib.Core.Path.{◌≡◌, ap, refl, subst, ◌∙◌}
use lib.ListN.{drop, get_or, length, length-append, length-drop, take}
use lib.Seq.{drop-append-le, take_all, take-append-le}
use Rattle.rules.specs.Build.{group_count, page_count, paper01}
use Rattle.rules.specs.Frames.{extended, take_frame, with_stock}
use Rattle.rules.specs.Lists.{Every}
use Rattle.rules.specs.Memory.{entered_at, entered_count_at, free_at, free_count_at, group_address, held_offset, list_offset, word, words_at, pages_from, pages_of}
use Rattle.rules.specs.Node.{Node, Place, group_of, with_buffer, with_entered, with_free, with_group, with_paging, empty_page}
use Rattle.rules.specs.Valid.{GoodPlace}
use Rattle.rules.proofs.Steps.EveryLaws.{every_append}
use Rattle.rules.proofs.Steps.FrameLaws.{length-page, page-good}
use Rattle.rules.proofs.Steps.ListLaws.{length-pad, weight, weight-append}
use Rattle.memory.specs.Holds.{FrameLeft, Holds, InOrder, OrderRoom, departing, entering, granting, taking, with_both}
use Rattle.memory.specs.Lines.{InLine, Joined, Left, index_of}
use Rattle.memory.proofs.CountLaws.{lists-short}
use Rattle.memory.proofs.LinePieces.{entered-held, entered-line, free-line, free-put}
use Rattle.memory.proofs.group.GroupLaws.{group-whole, group-words, list_wrote, mapped-group, record-line, record-stands, with_pages}
use Rattle.memory.proofs.lines.LineLaws.{LineStands, LineWrote, joined-wrote, left-above, left-length, left-wrote, length-lacking, line_first, line_read, may-join, may-leave}
use Rattle.memory.proofs.lines.IndexLaws.{index_below, without-index}
use Rattle.memory.proofs.PieceLaws.{PageStands, Pieces, holds-pieces, pieces-hold, emptied}
use Rattle.memory.proofs.PieceWrites.{frames-above, group-put}

-- The order of entry.

pub order-line : {m : List ℕ} {n : Node} {r : List ℕ} → Holds m n r → LineStands m entered_count_at entered_at paper01.frames n.paging.entered
order-line h = entered-line (holds-pieces h) h.mapped.swap-short h.mapped.entered-short

-- it has room for one more
pub order-room : {m : List ℕ} {n : Node} {r : List ℕ} → Holds m n r → OrderRoom n
    → InLine m entered_count_at entered_at × ((word m entered_count_at < page_count paper01) × (entered_at + word m entered_count_at < length m))
order-room h room =
    let long = (holds-pieces h).long in
    may-join (order-line h) (omega arith) (omega arith) (omega arith) room

-- a frame has joined it
pub entering-held : {m m' : List ℕ} {n : Node} {r : List ℕ} → Holds m n r → OrderRoom n → (f : ℕ)
    → Joined m m' entered_count_at entered_at f → Holds m' (entering f n) r
unfolding entering
entering-held {n = n} h room f came =
    let es = n.paging.entered in
    entered-held h (es ++ (f ∷ [])) (omega (arith, length-append es (f ∷ [])))
    (joined-wrote (order-line h) room came)

-- where a frame stands in it
pub order-index : {m : List ℕ} {n : Node} {r : List ℕ} → Holds m n r → (f : ℕ) → index_of f (words_at m entered_at (word m entered_count_at)) ≡ index_of f n.paging.entered
order-index h f = ap (index_of f) (line_read (order-line h))

pub order-within : {m : List ℕ} {n : Node} {r : List ℕ} → Holds m n r → (f : ℕ) → InOrder f n
    → InLine m entered_count_at entered_at × (index_of f n.paging.entered < word m entered_count_at)
order-within {n = n} h f once =
    let long = (holds-pieces h).long in
    may-leave (order-line h) (omega arith) (omega arith) (index_of f n.paging.entered) (index_below f n.paging.entered (omega arith))

-- a frame has left it, where it stands
pub departing-held : {m m' : List ℕ} {n : Node} {r : List ℕ} → Holds m n r → (f : ℕ) → InOrder f n → {x : ℕ}
    → Left m m' entered_count_at entered_at (index_of f n.paging.entered) x → Holds m' (departing f n) r
unfolding departing
departing-held {m} {m'} {n} {r} h f once gone =
    let es = n.paging.entered in
    let below = index_below f es (omega arith) in
    let w = (left-wrote (order-line h) below gone).1 in
    let few = length-lacking (index_of f es) es below in
    subst (λ (t : List ℕ). Holds m' (with_paging (with_entered t n.paging) n) r) (without-index f es once)
    (entered-held h _ (omega (arith, h.mapped.entered-short)) w)

-- The free line and a list.

-- a buffer's frames with one more
from-append : (fs : List ℕ) (ps : List Place) (k : ℕ) (qs : List Place) → length ps ≡ length fs * paper01.per_frame
    → pages_from paper01 (fs ++ (k ∷ [])) (ps ++ qs) ≡ pages_from paper01 fs ps ++ (record { number = k; places = take paper01.per_frame qs } ∷ [])
unfolding pages_from
from-append [] [] k qs h = refl
from-append [] (p ∷ ps) k qs h = absurd (omega arith)
from-append (f ∷ fs) ps k qs h =
    let eight : 8 ≤ length ps = omega arith in
    rw (take-append-le 8 ps qs eight, drop-append-le 8 ps qs eight, from-append fs (drop 8 ps) k qs (rw length-drop (omega arith)))

-- a frame goes from the front of the free line to the end of a group's list
granted : {m m₁ m₂ : List ℕ} {n : Node} {r : List ℕ} → Holds m n r → (g : ℕ) → 1 ≤ g → g ≤ group_count
    → (x : ℕ) (fs : List ℕ) → n.free ≡ x ∷ fs
    → LineWrote m m₁ free_count_at free_at paper01.frames fs
    → Joined m₁ m₂ (group_address g + held_offset) (group_address g + list_offset) x
    → Holds m₂ (with_both g fs (extended paper01 x (group_of n g).buffer) n) r
unfolding extended with_both with_free with_group with_buffer with_pages pages_of group_of
granted {m} {m₁} {m₂} {n} {r} h g low high x fs e w came =
    let v = h.mapped in
    let p = holds-pieces h in
    let G = group_of n g in
    let B = G.buffer in
    let a = group_address g in
    let whole = group-whole v g low high in
    let short = lists-short v g low high in
    let many : length n.free ≡ suc (length fs) = ap length e in
    let page = empty_page paper01 in
    let stand : Every (PageStands m) (map emptied (x ∷ fs)) = rw e at p.free-pages in
    let p₁ : Pieces m₁ (with_free fs n) r = free-put p fs stand.1 w in
    let lw = length-pad paper01.frames fs in
    let s₁ = frames-above w.counted (omega arith) (emptied x ∷ []) (frames-above w.numbers (omega arith) (emptied x ∷ []) (stand.0, tt)) in
    let record₁ = record-stands p₁ g low high in
    let longer : List ℕ = B.frames ++ (x ∷ []) in
    let places : List Place = B.places ++ page in
    let l : length longer ≡ length B.frames + 1 = length-append B.frames (x ∷ []) in
    let list = joined-wrote (record-line m₁ a G whole.descriptor (omega arith) record₁) (omega arith) came in
    let wg = list_wrote a G longer places record₁ list in
    let all : take 8 page ≡ page = take_all 8 page (omega (arith, length-page paper01)) in
    let frames : Every (PageStands m₁) (pages_from paper01 longer places) =
    rw (from-append B.frames B.places x page whole.whole, all)
    ((every_append (PageStands m₁) (pages_from paper01 B.frames B.places) (emptied x ∷ [])).1 (p₁.group-pages (pred g) (omega arith), s₁)) in
    pieces-hold
    (mapped-group v g low high (with_pages longer places G) fs
    (record {
      descriptor = whole.descriptor;
      whole = omega (arith, length-append B.places page, length-page paper01, whole.whole, l);
      places = (every_append GoodPlace B.places page).1 (whole.places, page-good paper01);
    })
    (omega (arith, v.free-short)) (λ u. rw e (unweighed u)))
    (group-put p₁ g low high v.group-count (with_pages longer places G) wg frames)
  where
    unweighed : (w : ℕ → ℕ) → weight w fs + weight w ((group_of n g).buffer.frames ++ (x ∷ []))
        ≡ weight w (x ∷ fs) + weight w (group_of n g).buffer.frames
    unweighed w = omega (arith, weight-append w (group_of n g).buffer.frames (x ∷ []))

module _ {m : List ℕ} {n : Node} {r : List ℕ} (h : Holds m n r) (g : ℕ) (left : FrameLeft n) where
  -- a frame may leave the free line
  pub free-within : InLine m free_count_at free_at × (0 < word m free_count_at)
  free-within =
      let long = (holds-pieces h).long in
      may-leave (free-line (holds-pieces h) h.mapped.free-short) (omega arith) (omega arith) 0 left.some

  -- and join the list
  pub list-room : {m₁ : List ℕ} {f : ℕ} → 1 ≤ g → g ≤ group_count → Left m m₁ free_count_at free_at 0 f
      → InLine m₁ (group_address g + held_offset) (group_address g + list_offset)
      × ((word m₁ (group_address g + held_offset) < page_count paper01) × (group_address g + list_offset + word m₁ (group_address g + held_offset) < length m₁))
  unfolding group_address
  list-room low high gone =
      let long = (holds-pieces h).long in
      let few = h.mapped.free-short in
      let same = left-above free-within.1 gone (group_address g + held_offset) (omega arith) (omega (arith, (holds-pieces h).free-count)) in
      let held = (group-words (holds-pieces h) h.mapped g low high).held in
      let short = lists-short h.mapped g low high in
      let l = left-length gone in
      (record { counted = omega arith; inside = omega (arith, left.some) }, (omega (arith, left.some), omega (arith, left.some)))

  pub granting-held : {m₁ m₂ : List ℕ} → 1 ≤ g → g ≤ group_count → (f : ℕ) → Left m m₁ free_count_at free_at 0 f
      → Joined m₁ m₂ (group_address g + held_offset) (group_address g + list_offset) f → Holds m₂ (granting g n) r
  unfolding granting take_frame
  granting-held {m₁} {m₂} low high f gone came = go n.free refl
    where
      go : (fs : List ℕ) → n.free ≡ fs
          → Holds m₂ (with_both g (take_frame paper01 fs n.paging.entered (group_of n g).buffer).free (take_frame paper01 fs n.paging.entered (group_of n g).buffer).buffer n) r
      go [] e = absurd (omega (arith, left.some, ap length e))
      go (x ∷ fs) e =
          let t = left-wrote (free-line (holds-pieces h) h.mapped.free-short) left.some gone in
          let number : f ≡ x = t.0 ∙ ap (λ (ys : List ℕ). get_or ys 0 0) e in
          granted h g low high x fs e (rw e at t.1) (rw number at came)

  -- with the frame that stood in front it is all that taking does
  pub granting-entered : entering (word m free_at) (granting g n) ≡ taking g n
  unfolding entering granting taking take_frame with_both with_stock with_free with_paging with_entered with_group group_of
  granting-entered = go n.free refl
    where
      go : (fs : List ℕ) → n.free ≡ fs
          → entering (word m free_at) (with_both g (take_frame paper01 fs n.paging.entered (group_of n g).buffer).free (take_frame paper01 fs n.paging.entered (group_of n g).buffer).buffer n)
          ≡ with_stock g (take_frame paper01 fs n.paging.entered (group_of n g).buffer) n
      go [] e = absurd (omega (arith, left.some, ap length e))
      go (x ∷ fs) e =
          let front = line_first (free-line (holds-pieces h) h.mapped.free-short) left.some in
          let number : word m free_at ≡ x = front ∙ ap (λ (ys : List ℕ). get_or ys 0 0) e in
          rw number

  -- the order of entry has a place for it
  pub granting-room : OrderRoom (granting g n)
  unfolding granting with_both with_free with_group
  granting-room = omega (arith, left.some, left.order)
