-- A message is put behind the last of a buffer: from writes to the node that the memory then holds. Assumes nothing.
use Prim.Native.Nat.{◌%◌, ◌*◌, ◌+◌, ◌/◌, ◌<◌, ◌≤◌, pred, ℕ}
use native.Mathlib.Omega.{arith}
use mathlib.Core.List.{List, map}
use mathlib.Core.Path.{◌∙◌, ◌≡◌, refl, subst}
use lib.ListN.{get_or, length, length-set, set}
use lib.Seq.{get_or-set_same, set-set}
use Rattle.rules.specs.Build.{group_count, paper01}
use Rattle.rules.specs.Frames.{appended}
use Rattle.rules.specs.Lists.{Every, count_of}
use Rattle.rules.specs.Memory.{count_offset, frame_address, group_address, group_stride, group_words, groups_at, paging_at, place_stride, place_words, used_offset, word, list_offset, pages_of}
use Rattle.rules.specs.Node.{Message, Node, Place, empty_group, group_of, place_of, with_buffer, with_free, with_group}
use Rattle.rules.specs.Valid.{GoodPlace}
use Rattle.rules.proofs.Steps.EveryLaws.{every-getD, every_set}
use Rattle.rules.proofs.Steps.FrameLaws.{place_of-good}
use Rattle.rules.proofs.Map.PageLaws.{good-from, numbers-from}
use Rattle.rules.proofs.Map.MapParts.{length-group, length-place}
use Rattle.rules.proofs.Map.MapRead.{length-line, length-queue}
use Rattle.rules.proofs.Map.MapWords.{Stands}
use Rattle.rules.specs.Sound.{Mapped, WholeGroup}
use Rattle.memory.specs.Holds.{Holds, Room, putting, placed, with_counts}
use Rattle.memory.specs.Writes.{Wrote, group_front, group_read, recounted}
use Rattle.memory.proofs.CountLaws.{its-bounded, its-free, its-once, its-other, its-swap, lists-short}
use Rattle.memory.proofs.group.GroupLaws.{group-whole, group-words, listed, mapped-group, record-stands, counts-wrote}
use Rattle.memory.proofs.PieceLaws.{PageStands, Pieces, emptied, emptied-numbers, emptied-whole, holds-pieces, pieces-hold}
use Rattle.memory.proofs.PieceWrites.{group-put, rest-kept, set_cases}
use Rattle.memory.proofs.buffer.PlaceLaws.{frames-kept, frames-put}
use Rattle.memory.proofs.WriteLaws.{kept_above, kept-below}

-- a place of a group's buffer is written
pub place-put : {m m' : List ℕ} {n : Node} {r : List ℕ} → Pieces m n r → Mapped n → (g : ℕ) → 1 ≤ g → g ≤ group_count → (j q : ℕ)
    → j < length (group_of n g).buffer.frames → q < paper01.per_frame → (x : Place) → GoodPlace x
    → Wrote m m' (frame_address (get_or (group_of n g).buffer.frames j 0) + place_stride * q) (place_words x)
    → Pieces m' (with_group g (placed (paper01.per_frame * j + q) x (group_of n g)) n) r
unfolding with_group with_buffer placed group_of pages_of frame_address group_words
place-put {m} {m'} {n} p v g low high j q inside below x gx w =
    let G = get_or n.groups (pred g) empty_group in
    let G' = placed (paper01.per_frame * j + q) x G in
    let f = get_or G.buffer.frames j 0 in
    let count = v.group-count in
    let whole = group-whole v g low high in
    let bounded = its-bounded v g low high j inside in
    let lx = length-place x gx in
    let kept-empty : (fs : List ℕ) → count_of f fs ≡ 0 → Every (PageStands m) (map emptied fs) → Every (PageStands m') (map emptied fs) =
    λ fs none. frames-kept f q below x gx w (map emptied fs) (emptied-whole fs) (rw (emptied-numbers fs) none) in
    record {
      long = omega (arith, p.long, w.same_length);
      rest = rest-kept w (omega arith) p.rest;
      running = w.below 0 (omega arith) ∙ p.running;
      timer = w.below 1 (omega arith) ∙ p.timer;
      queued = w.below 2 (omega arith) ∙ p.queued;
      free-count = w.below 3 (omega arith) ∙ p.free-count;
      queue = kept-below w 4 _ (omega (arith, length-queue n.queue)) p.queue;
      free = kept-below w 164 _ (omega (arith, length-line n.free)) p.free;
      groups = λ i h.
          let each = kept-below w (groups_at + group_stride * i) (group_words (get_or n.groups i empty_group))
          (omega (arith, length-group (get_or n.groups i empty_group))) (p.groups i h) in
          set_cases (λ H. Stands m' (groups_at + group_stride * i) (group_words H)) n.groups i (pred g) G' (omega arith)
          (λ same. subst (λ (k : ℕ). Stands m' (groups_at + group_stride * i) (group_words (get_or n.groups k empty_group))) same each) (λ other. each);
      paging = kept_above w paging_at _ (omega arith) p.paging;
      free-pages = kept-empty n.free (its-free v g low high j inside) p.free-pages;
      swap-pages = kept-empty n.paging.swap (its-swap v g low high j inside) p.swap-pages;
      group-pages = λ i h.
          set_cases (λ H. Every (PageStands m') (pages_of paper01 H)) n.groups i (pred g) G' (omega arith)
          (λ same. frames-put f q below x gx w G.buffer.frames G.buffer.places j inside refl (its-once v g low high j inside)
          whole.whole whole.places (p.group-pages (pred g) (omega arith)))
          (λ other.
          let H = get_or n.groups i empty_group in
          let good = every-getD WholeGroup n.groups i empty_group v.groups-whole (omega arith) in
          frames-kept f q below x gx w (pages_of paper01 H) (good-from paper01 H.buffer.frames H.buffer.places good.whole good.places)
          (rw (numbers-from paper01 H.buffer.frames H.buffer.places) (its-other v g low high j inside i h other)) (p.group-pages i h));
    }

-- the address of the place behind the last message of group g's buffer, as it is read from memory
abbrev pub end_place : List ℕ → ℕ → ℕ
end_place m g =
    frame_address (word m (group_address g + (list_offset + (word m (group_address g + used_offset) + word m (group_address g + count_offset)) / 8)))
    + place_stride * ((word m (group_address g + used_offset) + word m (group_address g + count_offset)) % 8)

-- the flags and counts of group g in m₁ with one message more than is read in m
abbrev pub counted : List ℕ → List ℕ → ℕ → List ℕ
counted m m₁ g =
    group_front (recounted (word m (group_address g + used_offset)) (word m (group_address g + count_offset) + 1) (group_read m₁ g))

-- a message is written there, and counted: it is put
pub putting-held : {m m₁ m₂ : List ℕ} {n : Node} {r : List ℕ} → Holds m n r → (x : Message) → 1 ≤ x.group → x.group ≤ group_count → Room x.group n
    → Wrote m m₁ (end_place m x.group) (place_words (place_of x))
    → Wrote m₁ m₂ (group_address x.group) (counted m m₁ x.group)
    → Holds m₂ (putting x n) r
unfolding putting with_free with_group with_buffer with_counts group_words pages_of placed appended group_of
putting-held {m} {m₁} {m₂} {n} {r} h x low high room w₁ w₂ =
    let g = x.group in
    let v = h.mapped in
    let p = holds-pieces h in
    let G = group_of n g in
    let B = G.buffer in
    let end = B.used + B.count in
    let a = group_address g in
    let words = group-words p v g low high in
    let whole = group-whole v g low high in
    let count = v.group-count in
    let good = place_of-good x in
    let inside : end / 8 < length B.frames = omega (arith, whole.whole) in
    let at : word m (a + used_offset) + word m (a + count_offset) ≡ end = cc (words.used, words.count) in
    let last : word m (a + (list_offset + end / 8)) ≡ get_or B.frames (end / 8) 0 = listed m a B.frames (end / 8) inside words.list in
    let w₁' : Wrote m m₁ (frame_address (get_or B.frames (end / 8) 0) + place_stride * (end % 8)) (place_words (place_of x)) = rw (at, last) at w₁ in
    let G' = placed (8 * (end / 8) + end % 8) (place_of x) G in
    let n' = with_group g G' n in
    let p₁ : Pieces m₁ n' r = place-put p v g low high (end / 8) (end % 8) inside (omega arith) (place_of x) good w₁' in
    let same : get_or (set n.groups (pred g) G') (pred g) empty_group ≡ G' = get_or-set_same n.groups (pred g) G' empty_group (omega arith) in
    let stands : Stands m₁ a (group_words G') = rw same at (record-stands p₁ g low high) in
    let frames : Every (PageStands m₁) (pages_of paper01 G') = rw same at (p₁.group-pages (pred g) (omega arith)) in
    let e : 8 * (end / 8) + end % 8 ≡ end = omega arith in
    let G'' = with_buffer (appended x B) G in
    let w₂' : Wrote m₁ m₂ a (group_words G'') =
    counts-wrote g G' whole.descriptor (omega (arith, lists-short v g low high)) stands B.used (B.count + 1) (rw (words.used, words.count) at w₂) in
    let p₂ : Pieces m₂ (with_group g G'' n') r = group-put p₁ g low high (length-set n.groups (pred g) G' ∙ count) G'' w₂' (rw e at frames) in
    let over : with_group g G'' n' ≡ with_group g G'' n = λ i. record {
      running = n.running;
      timer = n.timer;
      queue = n.queue;
      free = n.free;
      paging = n.paging;
      groups = set-set n.groups (pred g) G' G'' i;
    } in
    pieces-hold
    (mapped-group v g low high G'' n.free
    (record {
      descriptor = whole.descriptor;
      whole = length-set B.places end (place_of x) ∙ whole.whole;
      places = every_set GoodPlace B.places end (place_of x) whole.places good;
    })
    v.free-short (λ w. refl))
    (subst (λ (k : Node). Pieces m₂ k r) over p₂)

pub putting-kept : {m m₁ m₂ : List ℕ} {n : Node} {r : List ℕ} → Holds m n r → (x : Message) (g : ℕ) → x.group ≡ g → 1 ≤ g → g ≤ group_count → Room g n
    → Wrote m m₁ (end_place m g) (place_words (place_of x))
    → Wrote m₁ m₂ (group_address g) (counted m m₁ g)
    → Holds m₂ (putting x n) r
unfolding place_of
putting-kept {m₁ = m₁} h x g e low high room w₁ w₂ = putting-held {m₁ = m₁} h x (rw e low) (rw e high) (rw e room) (rw e w₁) (rw e w₂)
