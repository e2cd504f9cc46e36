-- The place of a buffer's first message is wiped, before the message goes: from the words written to the node that the memory then holds, and
-- from that node to the one in which the message is removed. Assumes nothing.
use Prim.Native.Nat.{ℕ, suc, pred, ◌+◌, ◌-◌, ◌*◌, ◌≤◌, ◌<◌}
use native.Mathlib.Omega.{arith}
use mathlib.Core.List.{List, [], ◌∷◌}
use mathlib.Core.Logic.{◌≢◌, ◌⊎◌, inl, inr}
use mathlib.Core.Path.{◌∙◌, ◌≡◌, ap, refl}
use lib.ListN.{drop, get_or, length, length-set, replicate, set, take}
use lib.Seq.{drop-set-lt, get_or-set_same, length-take-le, set-set, set_split, take-set-le, take-suc-set}
use borrow.Author.Tests.{eq-eqb, ne_eqb}
use Rattle.rules.specs.Build.{group_count, page_count, paper01}
use Rattle.rules.specs.Frames.{Stock, first_frame, free_first, remove_first, use_up, with_stock}
use Rattle.rules.specs.Lists.{Every}
use Rattle.rules.specs.Memory.{count_offset, frame_address, group_address, list_offset, place_stride, place_words, used_offset, word}
use Rattle.rules.specs.Node.{Buffer, Group, Node, empty_group, empty_page, empty_place, group_of, unused, with_buffer, with_entered, with_free, with_group, with_paging}
use Rattle.rules.specs.Sound.{Mapped}
use Rattle.rules.specs.Valid.{GoodPlace, Wiped}
use Rattle.rules.proofs.Steps.EveryLaws.{every_append, every_set, every_take}
use Rattle.rules.proofs.Steps.FrameLaws.{place-good, place-wiped, wiped-places}
use Rattle.rules.proofs.Steps.NodeLaws.{group-same}
use Rattle.memory.specs.Holds.{Emptied, Holds, Waits, freeing, placed, removing, using_up, wiping, with_counts}
use Rattle.memory.specs.Writes.{Wrote}
use Rattle.memory.proofs.CountLaws.{its-bounded}
use Rattle.memory.proofs.PieceLaws.{holds-pieces, pieces-hold}
use Rattle.memory.proofs.buffer.PutLaws.{place-put}
use Rattle.memory.proofs.group.GroupLaws.{group-whole, group-words, list-line, mapped-group}
use Rattle.memory.proofs.lines.LineLaws.{line_first}

-- The words.

-- the address of the first message's place, as it is read from memory
abbrev pub first_at : List ℕ → ℕ → ℕ
first_at m g = frame_address (word m (group_address g + list_offset)) + place_stride * word m (group_address g + used_offset)

-- it is one of a page's
pub first-place : {m : List ℕ} {n : Node} {r : List ℕ} → Holds m n r → (g : ℕ) → 1 ≤ g → g ≤ group_count → Waits g n
    → (word m (group_address g + list_offset) < page_count paper01) × (word m (group_address g + used_offset) < paper01.per_frame)
first-place h g low high waits =
    let p = holds-pieces h in
    let v = h.mapped in (
      rw (line_first (list-line p v g low high) waits.held) (its-bounded v g low high 0 waits.held),
      rw (group-words p v g low high).used waits.used,
    )

-- its words are written, all of them 0
pub wiping-held : {m m₁ : List ℕ} {n : Node} {r : List ℕ} → Holds m n r → (g : ℕ) → 1 ≤ g → g ≤ group_count → Waits g n
    → Wrote m m₁ (first_at m g) (replicate place_stride 0) → Holds m₁ (wiping g n) r
unfolding wiping placed with_group with_free with_buffer place_words
wiping-held {m} {m₁} {n} {r} h g low high waits w =
    let v = h.mapped in
    let p = holds-pieces h in
    let words = group-words p v g low high in
    let whole = group-whole v g low high in
    let B = (group_of n g).buffer in
    let first : word m (group_address g + list_offset) ≡ get_or B.frames 0 0 = line_first (list-line p v g low high) waits.held in
    let w' : Wrote m m₁ (frame_address (get_or B.frames 0 0) + place_stride * B.used) (place_words empty_place) = rw (first, words.used) at w in
    let at : 8 * 0 + B.used ≡ B.used = omega arith in
    pieces-hold
    (mapped-group v g low high (placed B.used empty_place (group_of n g)) n.free
    (record {
      descriptor = whole.descriptor;
      whole = length-set B.places B.used empty_place ∙ whole.whole;
      places = every_set GoodPlace B.places B.used empty_place whole.places place-good;
    })
    v.free-short (λ w. refl))
    (rw at at (place-put p v g low high 0 B.used waits.held waits.used empty_place place-good w'))

-- The node.

module _ {n : Node} (v : Mapped n) (g : ℕ) (low : 1 ≤ g) (high : g ≤ group_count) where
  -- its group has that place set
  wiped-group : group_of (wiping g n) g ≡ placed (group_of n g).buffer.used empty_place (group_of n g)
  unfolding wiping
  wiped-group = group-same n g (placed (group_of n g).buffer.used empty_place (group_of n g)) (omega (arith, v.group-count))

  -- its counts are read as they were
  pub wiped-counts : {m r : List ℕ} → Holds m (wiping g n) r
      → (word m (group_address g + count_offset) ≡ (group_of n g).buffer.count) × (word m (group_address g + used_offset) ≡ (group_of n g).buffer.used)
  unfolding placed with_buffer
  wiped-counts h =
      let words = group-words (holds-pieces h) h.mapped g low high in
      (words.count ∙ ap (λ (G : Group). G.buffer.count) wiped-group, words.used ∙ ap (λ (G : Group). G.buffer.used) wiped-group)

  module _ (waits : Waits g n) where
    abbrev its : Buffer
    its = (group_of n g).buffer

    both : Every Wiped (take its.used its.places) × Every Wiped (drop (its.used + its.count) its.places)
    unfolding unused
    both = (every_append Wiped (take its.used its.places) (drop (its.used + its.count) its.places)).0 waits.wiped

    -- the message is counted as it was
    pub wiping-waits : Waits g (wiping g n)
    unfolding placed with_buffer unused
    wiping-waits =
        let some = waits.some in
        let front = take-set-le its.used its.places its.used empty_place (omega arith) in
        let behind = drop-set-lt (its.used + its.count) its.places its.used empty_place (omega arith) in
        let other : ((wiping g n).free ≡ n.free) × ((wiping g n).paging ≡ n.paging) = unfold wiping with_group in (refl, refl) in
        let G = wiped-group in
        record {
          some = rw G waits.some;
          used = rw G waits.used;
          held = rw G waits.held;
          entered = rw (G, other.1) waits.entered;
          order = rw (other.0, other.1) waits.order;
          wiped = rw (G, front, behind) ((every_append Wiped (take its.used its.places) (drop (its.used + its.count) its.places)).1 both);
        }

    -- the first page is wiped where it was the last of all
    page-last : its.count ≡ 1 → Every Wiped (take 8 (set its.places its.used empty_place))
    page-last one =
        let held = waits.held in
        let used = waits.used in
        let whole = (group-whole v g low high).whole in
        let at : its.used + its.count ≡ suc its.used = omega arith in
        let behind : Every Wiped (drop (suc its.used) its.places) = rw at at both.1 in
        every_take Wiped 8 (set its.places its.used empty_place)
        (rw (set_split its.places its.used empty_place (omega arith))
        ((every_append Wiped (take its.used its.places) (empty_place ∷ drop (suc its.used) its.places)).1 (both.0, (place-wiped, behind))))

    -- or the last of the page
    page-end : its.used + 1 ≡ 8 → Every Wiped (take 8 (set its.places its.used empty_place))
    page-end end =
        let held = waits.held in
        let whole = (group-whole v g low high).whole in
        let eight : 8 ≡ suc its.used = omega arith in
        rw (eight, take-suc-set its.places its.used empty_place (omega arith))
        ((every_append Wiped (take its.used its.places) (empty_place ∷ [])).1 (both.0, (place-wiped, tt)))

    -- so its page is empty then
    pub wiping-emptied : (its.count ≡ 1) ⊎ (its.used + 1 ≡ 8) → Emptied g (wiping g n)
    unfolding placed with_buffer empty_page
    wiping-emptied last =
        let held = waits.held in
        let whole = group-whole v g low high in
        let long = whole.whole in
        let ps = set its.places its.used empty_place in
        let l = length-set its.places its.used empty_place in
        let eight : length (take 8 ps) ≡ 8 = length-take-le 8 ps (omega arith) in
        let good = every_take GoodPlace 8 ps (every_set GoodPlace its.places its.used empty_place whole.places place-good) in
        record { waits = wiping-waits; page = rw wiped-group (wiped-places (take 8 ps) good (go last) ∙ ap (λ (k : ℕ). replicate k empty_place) eight) }
      where
        go : (its.count ≡ 1) ⊎ (its.used + 1 ≡ 8) → Every Wiped (take 8 (set its.places its.used empty_place))
        go (inl one) = page-last one
        go (inr end) = page-end end

    -- Either way the message is removed.

    -- a stock put in does not tell whether the place was wiped before
    stock-wiped : (t : Stock) → with_stock g t (wiping g n) ≡ with_stock g t n
    unfolding with_stock with_group with_free with_paging with_entered with_buffer wiping placed group_of
    stock-wiped t =
        let G = placed its.used empty_place (group_of n g) in
        let same : get_or (set n.groups (pred g) G) (pred g) empty_group ≡ G = get_or-set_same n.groups (pred g) G empty_group (omega (arith, v.group-count)) in
        let over = set-set n.groups (pred g) G (with_buffer t.buffer G) in
        rw (same, over)

    -- nor does a frame freed
    freeing-wiped : freeing g (wiping g n) ≡ freeing g n
    unfolding freeing free_first first_frame placed with_buffer wiping with_group
    freeing-wiped =
        let behind = drop-set-lt 8 its.places its.used empty_place waits.used in
        rw (wiped-group, behind) (stock-wiped (free_first paper01 n.free n.paging.entered its))

    -- used up, it is what the rules use up
    using-wiped : using_up g (wiping g n) ≡ with_stock g (use_up n.free n.paging.entered its) n
    unfolding using_up use_up wiping placed with_counts with_stock with_group with_free with_paging with_entered with_buffer group_of
    using-wiped =
        let G = placed its.used empty_place (group_of n g) in
        let same : get_or (set n.groups (pred g) G) (pred g) empty_group ≡ G = get_or-set_same n.groups (pred g) G empty_group (omega (arith, v.group-count)) in
        let over = set-set n.groups (pred g) G (with_counts (its.used + 1) (its.count - 1) G) in
        rw (same, over)

    pub removing-last : its.count ≡ 1 → freeing g (wiping g n) ≡ removing g n
    unfolding freeing removing remove_first
    removing-last e = freeing-wiped ∙ rw (eq-eqb its.count 1 e)

    pub removing-frame : its.count ≢ 1 → its.used + 1 ≡ 8 → freeing g (wiping g n) ≡ removing g n
    unfolding freeing removing remove_first
    removing-frame d e = freeing-wiped ∙ rw (ne_eqb its.count 1 d, eq-eqb (its.used + 1) 8 e)

    pub removing-used : its.count ≢ 1 → its.used + 1 ≢ 8 → using_up g (wiping g n) ≡ removing g n
    unfolding removing remove_first
    removing-used d e = using-wiped ∙ rw (ne_eqb its.count 1 d, ne_eqb (its.used + 1) 8 e)
