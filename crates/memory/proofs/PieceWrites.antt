-- What a write to one piece of a node leaves of the others, and the pieces after it: the two numbers that stand alone, the queue with its
-- count, the free line with its count, a group's record, and swap space with the order of entry. Assumes nothing.
use Prim.Native.Nat.{◌*◌, ◌+◌, ◌-◌, ◌<◌, ◌≤◌, pred, ℕ}
use native.Mathlib.Decide.{dec_lt, ℕ_discrete}
use native.Mathlib.Omega.{arith}
use mathlib.Core.List.{List, [], ◌∷◌, map}
use mathlib.Core.Logic.{◌≢◌}
use mathlib.Core.Path.{◌∙◌, ◌≡◌, refl}
use lib.ListN.{drop, get_or, length, set}
use lib.Seq.{get_or-set_other, get_or-set_same}
use Rattle.rules.specs.Build.{group_count, paper01}
use Rattle.rules.specs.Lists.{Every, concat_map}
use Rattle.rules.specs.Memory.{frame_address, frame_stride, frames_at, free_at, free_count_at, group_address, group_stride, group_words, groups_at, line_words, paging_at, paging_words, place_words, queue_at, queue_words, queued_at, running_at, size, timer_at, Page, pages_of}
use Rattle.rules.specs.Node.{Group, Message, Node, Paging, empty_group, with_free, with_group, with_paging, with_queue, with_running, with_timer}
use Rattle.rules.specs.Sound.{Mapped}
use Rattle.rules.specs.Valid.{GoodMessage, frame_numbers, idle}
use Rattle.rules.proofs.Steps.EveryLaws.{every-mono}
use Rattle.rules.proofs.Map.MapPaging.{length-paging}
use Rattle.rules.proofs.Map.MapParts.{length-group}
use Rattle.rules.proofs.Map.MapRead.{length-line, length-queue}
use Rattle.rules.proofs.Map.MapWords.{Stands, stands-cons, stands-nil}
use Rattle.memory.specs.Holds.{Holds}
use Rattle.memory.specs.Writes.{Wrote}
use Rattle.memory.proofs.PieceLaws.{PageStands, Pieces, holds-pieces, pieces-hold, same_drop, emptied}
use Rattle.memory.proofs.WriteLaws.{kept_above, kept-below, widened, wrote-stands}

-- of the groups with one exchanged: that one, or one of the others
pub set_cases : (P : Group → Type 0) (Gs : List Group) (i k : ℕ) (G : Group) → k < length Gs → (i ≡ k → P G) → (i ≢ k → P (get_or Gs i empty_group))
    → P (get_or (set Gs k G) i empty_group)
set_cases P Gs i k G h same other = go (ℕ_discrete i k)
  where
    go : Dec (i ≡ k) → P (get_or (set Gs k G) i empty_group)
    go (yes e) = rw (e, get_or-set_same Gs k G empty_group h) (same e)
    go (no d) = rw (get_or-set_other Gs k i G empty_group d) (other d)

module _ {m m' : List ℕ} {a : ℕ} {ws : List ℕ} (w : Wrote m m' a ws) where
  -- the rest stays
  pub rest-kept : {r : List ℕ} → a + length ws ≤ size → drop size m ≡ r → drop size m' ≡ r
  rest-kept h e = same_drop m m' size w.same_length (λ b l. w.above b (omega arith)) ∙ e

  -- pages stay where the write is below them
  pub frames-above : a + length ws ≤ frames_at → (xs : List Page) → Every (PageStands m) xs → Every (PageStands m') xs
  unfolding frame_address
  frames-above h =
      every-mono (PageStands m) (PageStands m') (λ x s.
      record {
        stands = kept_above w (frames_at + frame_stride * x.number) (concat_map place_words x.places) (omega arith) s.stands;
        inside = s.inside;
      })

  -- and where it is above them
  pub frames-below : paging_at ≤ a → (xs : List Page) → Every (PageStands m) xs → Every (PageStands m') xs
  frames-below h =
      every-mono (PageStands m) (PageStands m') (λ x s.
      record {
        stands = kept-below w (frame_address x.number) (concat_map place_words x.places) (omega (arith, s.inside)) s.stands;
        inside = s.inside;
      })

  -- the record of a group stays where the write is outside it
  pub group-outside : (i : ℕ) (G : Group) → (groups_at + group_stride * i < a → groups_at + group_stride * i + group_stride ≤ a)
      → (a ≤ groups_at + group_stride * i → a + length ws ≤ groups_at + group_stride * i)
      → Stands m (groups_at + group_stride * i) (group_words G) → Stands m' (groups_at + group_stride * i) (group_words G)
  group-outside i G under over h = go (dec_lt (groups_at + group_stride * i) a)
    where
      go : Dec (groups_at + group_stride * i < a) → Stands m' (groups_at + group_stride * i) (group_words G)
      go (yes l) = kept-below w _ (group_words G) (omega (arith, under l, length-group G)) h
      go (no l) = kept_above w _ (group_words G) (over (omega arith)) h

-- the record of a group is written
pub group-put : {m m' : List ℕ} {n : Node} {r : List ℕ} → Pieces m n r → (g : ℕ) → 1 ≤ g → g ≤ group_count → length n.groups ≡ group_count
    → (G : Group) → Wrote m m' (group_address g) (group_words G) → Every (PageStands m) (pages_of paper01 G) → Pieces m' (with_group g G n) r
unfolding with_group group_address
group-put {m} {m'} {n} p g low high count G w e =
    let l = length-group G in
    let at : groups_at + group_stride * (g - 1) ≡ groups_at + group_stride * pred g = omega arith in
    record {
      long = omega (arith, p.long, w.same_length);
      rest = rest-kept w (omega arith) p.rest;
      running = w.below 0 (omega arith) ∙ p.running;
      timer = w.below 1 (omega arith) ∙ p.timer;
      queued = w.below 2 (omega arith) ∙ p.queued;
      free-count = w.below 3 (omega arith) ∙ p.free-count;
      queue = kept-below w 4 _ (omega (arith, length-queue n.queue)) p.queue;
      free = kept-below w 164 _ (omega (arith, length-line n.free)) p.free;
      groups = λ i h.
          set_cases (λ H. Stands m' (groups_at + group_stride * i) (group_words H)) n.groups i (pred g) G (omega arith)
          (λ same. rw (same, ← at) (wrote-stands w))
          (λ other. group-outside w i (get_or n.groups i empty_group) (λ k. omega arith) (λ k. omega arith) (p.groups i h));
      paging = kept_above w paging_at _ (omega arith) p.paging;
      free-pages = frames-above w (omega arith) (map emptied n.free) p.free-pages;
      swap-pages = frames-above w (omega arith) (map emptied n.paging.swap) p.swap-pages;
      group-pages = λ i h.
          set_cases (λ H. Every (PageStands m') (pages_of paper01 H)) n.groups i (pred g) G (omega arith)
          (λ same. frames-above w (omega arith) (pages_of paper01 G) e)
          (λ other. frames-above w (omega arith) (pages_of paper01 (get_or n.groups i empty_group)) (p.group-pages i h));
    }

-- a node with other numbers and another queue can be mapped
mapped-front : {n : Node} → Mapped n → (g t : ℕ) (q : List Message) → length q ≤ paper01.places → Every GoodMessage q
    → Mapped (with_timer t (with_running g (with_queue q n)))
unfolding with_running with_timer with_queue frame_numbers idle
mapped-front v g t q few good =
    record {
      queue-length = few;
      queue-good = good;
      group-count = v.group-count;
      groups-whole = v.groups-whole;
      frames-once = v.frames-once;
      frames-all = v.frames-all;
      free-short = v.free-short;
      swap-short = v.swap-short;
      entered-short = v.entered-short;
    }

-- the two numbers that stand alone are written
numbers-held : {m m' : List ℕ} {n : Node} {r : List ℕ} → Holds m n r → (g t : ℕ) → Wrote m m' running_at (g ∷ t ∷ [])
    → Holds m' (with_timer t (with_running g n)) r
unfolding with_running with_timer with_queue
numbers-held {m} {m'} {n} {r} h g t w =
    let p = holds-pieces h in
    let v = h.mapped in
    let both = (stands-cons m' 0 g (t ∷ [])).0 (wrote-stands w) in
    pieces-hold
    (mapped-front v g t n.queue v.queue-length v.queue-good)
    (record {
      long = omega (arith, p.long, w.same_length);
      rest = rest-kept w (omega arith) p.rest;
      running = both.0;
      timer = ((stands-cons m' 1 t []).0 both.1).0;
      queued = w.above 2 (omega arith) ∙ p.queued;
      free-count = w.above 3 (omega arith) ∙ p.free-count;
      queue = kept_above w 4 _ (omega arith) p.queue;
      free = kept_above w 164 _ (omega arith) p.free;
      groups = λ j l. kept_above w (groups_at + group_stride * j) _ (omega arith) (p.groups j l);
      paging = kept_above w paging_at _ (omega arith) p.paging;
      free-pages = frames-above w (omega arith) (map emptied n.free) p.free-pages;
      swap-pages = frames-above w (omega arith) (map emptied n.paging.swap) p.swap-pages;
      group-pages = λ j l. frames-above w (omega arith) (pages_of paper01 (get_or n.groups j empty_group)) (p.group-pages j l);
    })

-- they stand as they were
numbers-stand : {m : List ℕ} {n : Node} {r : List ℕ} → Holds m n r → Stands m running_at (n.running ∷ n.timer ∷ [])
numbers-stand {m} {n} h =
    let p = holds-pieces h in
    (stands-cons m 0 n.running (n.timer ∷ [])).1 (p.running, (stands-cons m 1 n.timer []).1 (p.timer, stands-nil m 2))

-- the running group is set
pub running-held : {m m' : List ℕ} {n : Node} {r : List ℕ} → Holds m n r → (g : ℕ) → Wrote m m' running_at (g ∷ []) → Holds m' (with_running g n) r
unfolding with_running with_timer
running-held {n = n} h g w =
    numbers-held h g n.timer (widened w running_at [] (n.running ∷ []) (n.timer ∷ []) refl refl (numbers-stand h))

-- the timer is set
pub timer-held : {m m' : List ℕ} {n : Node} {r : List ℕ} → Holds m n r → (t : ℕ) → Wrote m m' timer_at (t ∷ []) → Holds m' (with_timer t n) r
unfolding with_running with_timer
timer-held {n = n} h t w =
    numbers-held h n.running t (widened w running_at (n.running ∷ []) (n.timer ∷ []) [] refl refl (numbers-stand h))

-- the queue is written, and its count
pub queue-held : {m m₁ m₂ : List ℕ} {n : Node} {r : List ℕ} → Holds m n r → (q : List Message) → length q ≤ paper01.places → Every GoodMessage q
    → Wrote m m₁ queue_at (queue_words q) → Wrote m₁ m₂ queued_at (length q ∷ []) → Holds m₂ (with_queue q n) r
unfolding with_queue with_running with_timer
queue-held {m} {m₁} {m₂} {n} {r} h q few good w₁ w₂ =
    let p = holds-pieces h in
    let v = h.mapped in
    let long = length-queue q in
    let frames : (xs : List Page) → Every (PageStands m) xs → Every (PageStands m₂) xs =
    λ xs t. frames-above w₂ (omega arith) xs (frames-above w₁ (omega arith) xs t) in
    pieces-hold
    (mapped-front v n.running n.timer q few good)
    (record {
      long = omega (arith, p.long, w₁.same_length, w₂.same_length);
      rest = rest-kept w₂ (omega arith) (rest-kept w₁ (omega arith) p.rest);
      running = w₂.below 0 (omega arith) ∙ w₁.below 0 (omega arith) ∙ p.running;
      timer = w₂.below 1 (omega arith) ∙ w₁.below 1 (omega arith) ∙ p.timer;
      queued = ((stands-cons m₂ 2 (length q) []).0 (wrote-stands w₂)).0;
      free-count = w₂.above 3 (omega arith) ∙ w₁.below 3 (omega arith) ∙ p.free-count;
      queue = kept_above w₂ 4 _ (omega arith) (wrote-stands w₁);
      free = kept_above w₂ 164 _ (omega arith) (kept_above w₁ 164 _ (omega arith) p.free);
      groups = λ j l. kept_above w₂ (groups_at + group_stride * j) _ (omega arith) (kept_above w₁ (groups_at + group_stride * j) _ (omega arith) (p.groups j l));
      paging = kept_above w₂ paging_at _ (omega arith) (kept_above w₁ paging_at _ (omega arith) p.paging);
      free-pages = frames (map emptied n.free) p.free-pages;
      swap-pages = frames (map emptied n.paging.swap) p.swap-pages;
      group-pages = λ j l. frames (pages_of paper01 (get_or n.groups j empty_group)) (p.group-pages j l);
    })

-- the free line is written, and its count; the frames of the new line are empty
pub line-put : {m m₁ m₂ : List ℕ} {n : Node} {r : List ℕ} → Pieces m n r → (fs : List ℕ) → Every (PageStands m) (map emptied fs)
    → Wrote m m₁ free_at (line_words fs) → Wrote m₁ m₂ free_count_at (length fs ∷ []) → Pieces m₂ (with_free fs n) r
unfolding with_free
line-put {m} {m₁} {m₂} {n} {r} p fs stand w₁ w₂ =
    let k = length-line fs in
    let frames : (xs : List Page) → Every (PageStands m) xs → Every (PageStands m₂) xs =
    λ xs t. frames-above w₂ (omega arith) xs (frames-above w₁ (omega arith) xs t) in
    record {
      long = omega (arith, p.long, w₁.same_length, w₂.same_length);
      rest = rest-kept w₂ (omega arith) (rest-kept w₁ (omega arith) p.rest);
      running = w₂.below 0 (omega arith) ∙ w₁.below 0 (omega arith) ∙ p.running;
      timer = w₂.below 1 (omega arith) ∙ w₁.below 1 (omega arith) ∙ p.timer;
      queued = w₂.below 2 (omega arith) ∙ w₁.below 2 (omega arith) ∙ p.queued;
      free-count = ((stands-cons m₂ 3 (length fs) []).0 (wrote-stands w₂)).0;
      queue = kept_above w₂ 4 _ (omega arith) (kept-below w₁ 4 _ (omega (arith, length-queue n.queue)) p.queue);
      free = kept_above w₂ free_at _ (omega arith) (wrote-stands w₁);
      groups = λ i h.
          kept_above w₂ (groups_at + group_stride * i) _ (omega arith)
          (kept_above w₁ (groups_at + group_stride * i) _ (omega arith) (p.groups i h));
      paging = kept_above w₂ paging_at _ (omega arith) (kept_above w₁ paging_at _ (omega arith) p.paging);
      free-pages = frames (map emptied fs) stand;
      swap-pages = frames (map emptied n.paging.swap) p.swap-pages;
      group-pages = λ i h. frames (pages_of paper01 (get_or n.groups i empty_group)) (p.group-pages i h);
    }

-- swap space and the order of entry are written; the swap pages of the new line are empty
pub paging-put : {m m' : List ℕ} {n : Node} {r : List ℕ} → Pieces m n r → (s : Paging) → Every (PageStands m) (map emptied s.swap)
    → Wrote m m' paging_at (paging_words s) → Pieces m' (with_paging s n) r
unfolding with_paging
paging-put {n = n} p s stand w =
    let k = length-paging s in
    record {
      long = omega (arith, p.long, w.same_length);
      rest = rest-kept w (omega arith) p.rest;
      running = w.below 0 (omega arith) ∙ p.running;
      timer = w.below 1 (omega arith) ∙ p.timer;
      queued = w.below 2 (omega arith) ∙ p.queued;
      free-count = w.below 3 (omega arith) ∙ p.free-count;
      queue = kept-below w 4 _ (omega (arith, length-queue n.queue)) p.queue;
      free = kept-below w 164 _ (omega (arith, length-line n.free)) p.free;
      groups = λ i h.
          kept-below w (groups_at + group_stride * i) _ (omega (arith, length-group (get_or n.groups i empty_group))) (p.groups i h);
      paging = wrote-stands w;
      free-pages = frames-below w (omega arith) (map emptied n.free) p.free-pages;
      swap-pages = frames-below w (omega arith) (map emptied s.swap) stand;
      group-pages = λ i h. frames-below w (omega arith) (pages_of paper01 (get_or n.groups i empty_group)) (p.group-pages i h);
    }
