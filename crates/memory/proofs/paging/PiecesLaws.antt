-- The pieces of a node after pages have moved and their numbers were traded in the lists: every page of every list stands at the address of
-- its new number, those of the two lines are empty as they were, and each group's record has the traded list. Assumes nothing.
use Prim.Native.Nat.{ℕ, ◌+◌, ◌-◌, ◌*◌, ◌≤◌, ◌<◌}
use native.Mathlib.Decide.{ℕ_discrete}
use native.Mathlib.Omega.{arith}
use mathlib.Core.Path.{◌≡◌, refl, sym, ap, ◌∙◌, subst}
use mathlib.Core.List.{List, [], ◌∷◌, ◌++◌, map}
use lib.ListN.{length, get_or, replicate, length-map, length-replicate, get_or-map}
use Rattle.rules.specs.Build.{paper01, page_count, group_count}
use Rattle.rules.specs.Lists.{Every, concat_map, pad}
use Rattle.rules.specs.Memory.{frame_address, frames_at, group_address, group_stride, group_words, groups_at, held_offset, list_at, list_offset, list_words, paging_at, place_words, queue_at, free_at, size, word, words_at, Page, pages_from, pages_of}
use Rattle.rules.specs.Node.{Group, Node, empty_group, with_buffer, with_groups}
use Rattle.rules.specs.Paging.{traded, traded_in, trading}
use Rattle.rules.specs.Sound.{WholeGroup}
use Rattle.rules.proofs.Steps.EveryLaws.{every-getD, every-mono}
use Rattle.rules.proofs.Steps.ListLaws.{pad-fits}
use Rattle.rules.proofs.Map.PageLaws.{good-from}
use Rattle.rules.proofs.Map.MapParts.{length-group}
use Rattle.rules.proofs.Map.MapRead.{length-line, length-queue}
use Rattle.rules.proofs.Map.MapWords.{Stands, stands-append, stands-cons}
use Rattle.memory.specs.Paging.{InList, Listing, Traded}
use Rattle.memory.proofs.group.GroupLaws.{before_list, length_before, record_front}
use Rattle.memory.proofs.PieceLaws.{PageStands, Pieces, same_drop, emptied}
use Rattle.memory.proofs.WriteLaws.{same-stands}
use Rattle.memory.proofs.paging.MoveLaws.{Follows, empty-kept, pages-follow}

-- a node whose groups are whole and whose lists fit, as are those of a node that can be mapped and of one with a number taken out of a line
pub record Laid (n : Node) : Type 0 where
  pub group-count : length n.groups ≡ group_count
  pub groups-whole : Every WholeGroup n.groups
  pub short : (i : ℕ) → i < group_count → length (get_or n.groups i empty_group).buffer.frames ≤ page_count paper01

-- how many pages a group has is read
held-read : (m : List ℕ) (a : ℕ) (G : Group) → Stands m a (group_words G) → word m (a + held_offset) ≡ length G.buffer.frames
unfolding group_words
held-read m a G s = ((stands-cons m (a + held_offset) (length G.buffer.frames) _).0 ((stands-append m a (record_front G) _).0 s).1).0

-- the lists of the memory of such a node are short
pub laid-listing : {m : List ℕ} {n : Node} {r : List ℕ} → Pieces m n r → Laid n → Listing m
unfolding group_address
laid-listing {m} {n} p v =
    record {
      long = p.long;
      short = λ g low high.
          let here = held-read m (groups_at + group_stride * (g - 1)) (get_or n.groups (g - 1) empty_group) (p.groups (g - 1) (omega arith)) in
          omega (arith, v.short (g - 1) (omega arith));
    }

-- Numbers traded in memory.

module _ {m m' : List ℕ} {p q : ℕ} (L : Listing m) (s : Traded m m' p q group_count) where
  -- below the groups nothing changes
  traded-below : (b : ℕ) → b < groups_at → word m' b ≡ word m b
  unfolding group_address
  traded-below b h = s.else b (λ g l k t. omega (arith, t.low))

  -- nor above them
  traded-above : (b : ℕ) → frames_at ≤ b → word m' b ≡ word m b
  unfolding group_address
  traded-above b h = s.else b (λ g l k t. omega (arith, t.high, L.short g l k))

  -- nor in a record beside its list
  traded-beside : (i j : ℕ) → i < group_count → j < group_stride → (list_offset ≤ j → list_offset + word m (groups_at + group_stride * i + held_offset) ≤ j)
      → word m' (groups_at + group_stride * i + j) ≡ word m (groups_at + group_stride * i + j)
  unfolding group_address
  traded-beside i j li lj out = s.else (groups_at + group_stride * i + j) (λ g l k t. go g l k t (ℕ_discrete g (i + 1)))
    where
      go : (g : ℕ) → 1 ≤ g → g ≤ group_count → InList m g (groups_at + group_stride * i + j) → Dec (g ≡ i + 1) → ⊥
      go g l k t (yes e) =
          let at : groups_at + group_stride * (g - 1) ≡ groups_at + group_stride * i = omega arith in
          let high = rw at at t.high in
          omega (arith, out (omega (arith, t.low)))
      go g l k t (no d) = omega (arith, d, t.low, t.high, L.short g l k)

  -- the list of a record is traded
  traded-list : (i : ℕ) → i < group_count → (fs : List ℕ) → word m (groups_at + group_stride * i + held_offset) ≡ length fs
      → Stands m (groups_at + group_stride * i + list_offset) fs → Stands m' (groups_at + group_stride * i + list_offset) (map (traded p q) fs)
  unfolding group_address list_at Stands
  traded-list i li fs held st =
      let at : groups_at + group_stride * (i + 1 - 1) ≡ groups_at + group_stride * i = omega arith in
      let lists = rw (at, held) at (s.lists (i + 1) (omega arith) (omega arith)) in
      ap (words_at m' (groups_at + group_stride * i + list_offset)) (length-map fs (traded p q)) ∙ lists ∙ ap (map (traded p q)) st

  -- so the record of a group is that of the group traded
  group-traded : (i : ℕ) → i < group_count → (G : Group) → length G.buffer.frames ≤ page_count paper01
      → Stands m (groups_at + group_stride * i) (group_words G) → Stands m' (groups_at + group_stride * i) (group_words (traded_in p q G))
  unfolding group_words list_words traded_in with_buffer
  group-traded i li G few st =
      let a = groups_at + group_stride * i in
      let fs = G.buffer.frames in
      let gs = map (traded p q) fs in
      let zs : List ℕ = replicate (page_count paper01 - length fs) 0 in
      let front = before_list G in
      let lf : length front ≡ list_offset = length_before G in
      let lg : length gs ≡ length fs = length-map fs (traded p q) in
      let lz : length zs ≡ page_count paper01 - length fs = length-replicate {A = ℕ} (page_count paper01 - length fs) 0 in
      let held = held-read m a G st in
      let first = rw lf at ((stands-append m a front (fs ++ zs)).0 (rw (pad-fits (page_count paper01) fs few) at st)) in
      let second = (stands-append m (a + list_offset) fs zs).0 first.1 in
      let new-front : Stands m' a front = same-stands m m' a front (λ b l h. beside a refl b l (omega arith) (λ k. omega arith)) first.0 in
      let new-list : Stands m' (a + list_offset) gs = traded-list i li fs held second.0 in
      let new-zeros : Stands m' (a + list_offset + length fs) zs =
      same-stands m m' (a + list_offset + length fs) zs (λ b l h. beside a refl b (omega arith) (omega arith) (λ k. omega arith)) second.1 in
      let e : pad (page_count paper01) gs ≡ gs ++ zs = pad-fits (page_count paper01) gs (omega arith) ∙ rw lg in
      rw (lg, e) ((stands-append m' a front (gs ++ zs)).1 (new-front, rw lf ((stands-append m' (a + list_offset) gs zs).1 (new-list, rw lg new-zeros))))
    where
      beside : (a : ℕ) → groups_at + group_stride * i ≡ a → (b : ℕ) → a ≤ b → b < a + group_stride → (a + list_offset ≤ b → a + list_offset + word m (a + held_offset) ≤ b)
          → word m' b ≡ word m b
      beside a e b low high out =
          let at : groups_at + group_stride * i + (b - a) ≡ b = omega arith in
          rw at at (traded-beside i (b - a) li (omega arith) (λ k. let o = out (omega arith) in rw e (omega arith)))

  -- pages stand as they did
  frames-traded : (xs : List Page) → Every (PageStands m) xs → Every (PageStands m') xs
  unfolding frame_address
  frames-traded =
      every-mono (PageStands m) (PageStands m') (λ x t.
      record {
        stands = same-stands m m' (frame_address x.number) (concat_map place_words x.places) (λ b l h. traded-above b (omega arith)) t.stands;
        inside = t.inside;
      })

-- Pages have moved, and then numbers were traded.

module _ {m m₁ m₂ : List ℕ} {n : Node} {r : List ℕ} (k : Pieces m n r) (v : Laid n) {p q : ℕ} (lp : p < page_count paper01) (lq : q < page_count paper01)
    (same : length m₁ ≡ length m) (else : (b : ℕ) → (b < frames_at → word m₁ b ≡ word m b) × (paging_at ≤ b → word m₁ b ≡ word m b))
    (s : Traded m₁ m₂ p q group_count) where
  -- the lists are short after the move too
  moved-listing : Listing m₁
  unfolding group_address
  moved-listing =
      let L = laid-listing k v in
      record {
        long = omega (arith, k.long);
        short = λ g low high. rw ((else (groups_at + group_stride * (g - 1) + held_offset)).0 (omega arith)) (L.short g low high);
      }

  below : (b : ℕ) → b < groups_at → word m₂ b ≡ word m b
  below b h = traded-below moved-listing s b h ∙ (else b).0 (omega arith)

  above : (b : ℕ) → paging_at ≤ b → word m₂ b ≡ word m b
  above b h = traded-above moved-listing s b (omega arith) ∙ (else b).1 h

  -- the node has the pages where they are now
  pub pages-put : Every (λ f. Follows m m₁ f f) n.free → Every (λ f. Follows m m₁ f f) n.paging.swap
      → ((i : ℕ) → i < group_count → Every (λ x. Follows m m₁ x (traded p q x)) (get_or n.groups i empty_group).buffer.frames) → Pieces m₂ (trading p q n) r
  unfolding trading with_groups pages_of traded_in with_buffer
  pages-put free swap lists =
      let L = moved-listing in
      record {
        long = omega (arith, k.long, s.same_length);
        rest = same_drop m m₂ size (s.same_length ∙ same) (λ b h. above b (omega arith)) ∙ k.rest;
        running = below 0 (omega arith) ∙ k.running;
        timer = below 1 (omega arith) ∙ k.timer;
        queued = below 2 (omega arith) ∙ k.queued;
        free-count = below 3 (omega arith) ∙ k.free-count;
        queue = same-stands m m₂ queue_at _ (λ b l h. below b (omega (arith, length-queue n.queue))) k.queue;
        free = same-stands m m₂ free_at _ (λ b l h. below b (omega (arith, length-line n.free))) k.free;
        groups = λ i h.
            let G = get_or n.groups i empty_group in
            subst (λ (H : Group). Stands m₂ (groups_at + group_stride * i) (group_words H)) (sym (get_or-map (traded_in p q) n.groups i empty_group))
            (group-traded L s i h G (v.short i h)
            (same-stands m m₁ (groups_at + group_stride * i) (group_words G) (λ b l j. (else b).0 (omega (arith, length-group G))) (k.groups i h)));
        paging = same-stands m m₂ paging_at _ (λ b l h. above b l) k.paging;
        free-pages = frames-traded L s (map emptied n.free) (empty-kept m m₁ n.free free k.free-pages);
        swap-pages = frames-traded L s (map emptied n.paging.swap) (empty-kept m m₁ n.paging.swap swap k.swap-pages);
        group-pages = λ i h.
            let G = get_or n.groups i empty_group in
            let whole : WholeGroup G = every-getD WholeGroup n.groups i empty_group v.groups-whole (omega (arith, v.group-count)) in
            subst (λ (H : Group). Every (PageStands m₂) (pages_of paper01 H)) (sym (get_or-map (traded_in p q) n.groups i empty_group))
            (frames-traded L s (pages_from paper01 (map (traded p q) G.buffer.frames) G.buffer.places) (pages-follow m m₁ p q lp lq G.buffer.frames G.buffer.places
            (good-from paper01 G.buffer.frames G.buffer.places whole.whole whole.places) (lists i h) (k.group-pages i h)));
      }

  -- a page that stood after the move stands too
  pub beside-put : (x : Page) → PageStands m₁ x → PageStands m₂ x
  beside-put x st = (frames-traded moved-listing s (x ∷ []) (st, tt)).0
