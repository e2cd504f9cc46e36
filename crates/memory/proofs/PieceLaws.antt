-- A memory that holds a node, piece by piece: the numbers, the queue, the free line, each group's record, each page where its number says, and
-- swap space with the order of entry. Pages are told by where they are held and not by a lookup among all of them; a frame or swap page that
-- no buffer holds is an empty one. Assumes nothing.
use Prim.Native.Nat.{ℕ, zero, suc, ◌+◌, ◌-◌, ◌*◌, ◌≤◌, ◌<◌}
use mathlib.Core.Path.{◌≡◌, refl, sym, subst, ap, ◌∙◌}
use mathlib.Core.Logic.{◌↔◌}
use mathlib.Core.List.{List, [], ◌∷◌, ◌++◌, map, map-append}
use native.Mathlib.Omega.{arith}
use lib.ListN.{length, drop, get_or, length-append, length-drop}
use lib.Seq.{ext_get_or, get_or-drop, drop_at}
use Rattle.rules.specs.Lists.{Every, concat_map, count_of, up_from}
use Rattle.rules.specs.Build.{paper01, page_count, group_count}
use Rattle.rules.specs.Node.{Place, Node, empty_group, empty_page}
use Rattle.rules.specs.Valid.{idle, frame_list}
use Rattle.rules.specs.Memory.{running_at, timer_at, queued_at, free_count_at, queue_at, free_at, groups_at, group_stride, frames_at, frame_stride, paging_at, size, word, words, queue_words, line_words, group_words, place_words, frame_words, paging_words, all_pages, frame_address, Page, pages_of, places_of}
use Rattle.rules.proofs.Steps.EveryLaws.{every_of, every-at, every_append, every-concat, every-getD, every_map, every-mapped, every-unmap}
use Rattle.rules.proofs.Steps.ListLaws.{every-counted}
use Rattle.rules.specs.Sound.{Mapped}
use Rattle.rules.proofs.Map.MapWords.{Stands, stands-append, stands-nil, parts-stand, front-stands, stands-front}
use Rattle.rules.proofs.Map.MapParts.{length-group}
use Rattle.rules.proofs.Map.PageLaws.{found, GoodPage, page_number, empty-good}
use Rattle.rules.proofs.Map.MapFrames.{page-length, all-good, all-numbers, numbers-bounded, each-found, idle-empty, idle-unlisted, unlisted-idle, length-frame}
use Rattle.rules.proofs.Map.MapRead.{MapStands, map-stands, words-length}
use Rattle.memory.specs.Holds.{Holds}

-- the words of a page stand at the address of its number, all of them below what is kept of swap space
pub record PageStands (m : List ℕ) (x : Page) : Type 0 where
  pub stands : Stands m (frame_address x.number) (concat_map place_words x.places)
  pub inside : frame_address x.number + length (concat_map place_words x.places) ≤ paging_at

-- the places of a page: all of them, and each with its eight words
abbrev pub WholePage : Page → Type 0
WholePage x = GoodPage paper01 x.places

-- the frame or swap page with number f as an empty page
abbrev pub emptied : ℕ → Page
emptied f = record { number = f; places = empty_page paper01 }

-- such pages have those numbers, and are whole
pub emptied-numbers : (fs : List ℕ) → map page_number (map emptied fs) ≡ fs
emptied-numbers [] = refl
emptied-numbers (f ∷ fs) = ap (λ (r : List ℕ). f ∷ r) (emptied-numbers fs)

pub emptied-whole : (fs : List ℕ) → Every WholePage (map emptied fs)
emptied-whole = every_map WholePage emptied (λ f. empty-good paper01)

pub record Pieces (m : List ℕ) (n : Node) (r : List ℕ) : Type 0 where
  pub long : size ≤ length m
  pub rest : drop size m ≡ r
  pub running : word m running_at ≡ n.running
  pub timer : word m timer_at ≡ n.timer
  pub queued : word m queued_at ≡ length n.queue
  pub free-count : word m free_count_at ≡ length n.free
  pub queue : Stands m queue_at (queue_words n.queue)
  pub free : Stands m free_at (line_words n.free)
  pub groups : (i : ℕ) → i < group_count → Stands m (groups_at + group_stride * i) (group_words (get_or n.groups i empty_group))
  pub paging : Stands m paging_at (paging_words n.paging)
  pub free-pages : Every (PageStands m) (map emptied n.free)
  pub swap-pages : Every (PageStands m) (map emptied n.paging.swap)
  pub group-pages : (i : ℕ) → i < group_count → Every (PageStands m) (pages_of paper01 (get_or n.groups i empty_group))

-- what holds at each index holds of every element
pub every-index : {A : Type 0} (P : A → Type 0) (d : A) (xs : List A) → ((i : ℕ) → i < length xs → P (get_or xs i d)) → Every P xs
every-index P d [] f = tt
every-index P d (x ∷ xs) f = (f 0 (omega arith), every-index P d xs (λ i h. f (suc i) (omega arith)))

-- lists of s words each, one behind the other, stand each at its own address
pub lists-stand : {X : Type 0} (m : List ℕ) (w : X → List ℕ) (s : ℕ) (d : X) → ((x : X) → length (w x) ≡ s) → (xs : List X) (a : ℕ)
    → Stands m a (concat_map w xs) ↔ ((i : ℕ) → i < length xs → Stands m (a + s * i) (w (get_or xs i d)))
lists-stand m w s d sized [] a = (λ h i l. absurd (omega arith), λ h. stands-nil m a)
lists-stand {X} m w s d sized (x ∷ xs) a =
    let both = stands-append m a (w x) (concat_map w xs) in
    let r = lists-stand m w s d sized xs (a + s) in
    let one = sized x in (
      λ h. go (both.0 h).0 (r.0 (rw one at (both.0 h).1)),
      λ h. both.1 (
        subst (λ (b : ℕ). Stands m b (w x)) (omega arith) (h 0 (omega arith)),
        rw one (r.1 (λ i l. subst (λ (b : ℕ). Stands m b (w (get_or xs i d))) (omega arith) (h (suc i) (omega arith)))),
      ),
    )
  where
    go : Stands m a (w x) → ((i : ℕ) → i < length xs → Stands m (a + s + s * i) (w (get_or xs i d)))
        → (i : ℕ) → i < suc (length xs) → Stands m (a + s * i) (w (get_or (x ∷ xs) i d))
    go p f zero l = subst (λ (b : ℕ). Stands m b (w x)) (omega arith) p
    go p f (suc i) l = subst (λ (b : ℕ). Stands m b (w (get_or xs i d))) (omega arith) (f i (omega arith))

-- the words of the page that is found under a number
by_number : (m : List ℕ) (j : ℕ) (y : Page) (ps : List Place) → y.number ≡ j → ps ≡ y.places → PageStands m y
    → Stands m (frame_address j) (concat_map place_words ps)
by_number m j y ps e q h = rw (q, ← e) h.stands

-- a whole page of one of the 96 numbers stands where its words do
pub page-stands : (m : List ℕ) (x : Page) → WholePage x → x.number < page_count paper01
    → Stands m (frame_address x.number) (concat_map place_words x.places) → PageStands m x
unfolding frame_address
page-stands m x good below s = record { stands = s; inside = omega (arith, page-length x.places good) }

module _ (m : List ℕ) (n : Node) (v : Mapped n) where
  -- the frames' region stands page by page: those that no buffer holds, and those of the buffers
  frames-stand : Stands m frames_at (concat_map (frame_words (all_pages n)) (up_from 0 (page_count paper01)))
      ↔ (Every (PageStands m) (map emptied (idle n)) × Every (PageStands m) (all_pages n))
  unfolding frame_words frame_address
  frames-stand =
      let parts = parts-stand m (frame_words (all_pages n)) frames_at frame_stride 0 (page_count paper01) (λ j l k. length-frame n v j) in (
        λ h. (
          every-mapped (λ f. (f < page_count paper01) × (count_of f (concat_map frame_list n.groups) ≡ 0)) (PageStands m) emptied
              (λ f k. page-stands m (emptied f) (empty-good paper01) k.0 (rw (idle-empty n f k.1) at (parts.0 h f (omega arith) k.0)))
              (idle n) (idle-unlisted n v),
          every_of _ (all_pages n) (λ x k.
              let below = every-at (λ y. y.number < page_count paper01) (numbers-bounded n v) k in
              let same = every-at (λ y. places_of paper01 y.number (all_pages n) ≡ y.places) (each-found n v) k in
              page-stands m x (every-at WholePage (all-good n v) k) below (rw same at (parts.0 h x.number (omega arith) below))),
        ),
        λ e. parts.1 (λ j l k. held-or-idle e.0 e.1 j k (count_of j (concat_map frame_list n.groups)) refl),
      )
    where
      held-or-idle : Every (PageStands m) (map emptied (idle n)) → Every (PageStands m) (all_pages n) → (j : ℕ) → j < page_count paper01
          → (c : ℕ) → count_of j (concat_map frame_list n.groups) ≡ c → Stands m (frame_address j) (concat_map place_words (places_of paper01 j (all_pages n)))
      held-or-idle idles pages j k zero e =
          let stands = every-counted (λ f. PageStands m (emptied f)) j (idle n) (every-unmap (PageStands m) emptied (idle n) idles) (unlisted-idle n v j k e) in
          rw (idle-empty n j e) stands.stands
      held-or-idle idles pages j k (suc c) e =
          let t = found paper01 j (PageStands m) (all_pages n) (rw (all-numbers n) (omega arith)) pages in
          by_number m j t.0 (places_of paper01 j (all_pages n)) t.1.0 t.1.1.0 t.1.1.1

  -- the map stands piece by piece
  pub map-pieces : (r : List ℕ) → size ≤ length m → drop size m ≡ r → MapStands m n → Pieces m n r
  unfolding all_pages idle
  map-pieces r long rest s =
      let all = frames-stand.0 s.frames in
      let lines = (every_append (PageStands m) (map emptied n.free) (map emptied n.paging.swap)).0 (rw map-append at all.0) in
      let each = (every-concat (PageStands m) (pages_of paper01) n.groups).0 all.1 in
      let count = v.group-count in
      record {
        long = long;
        rest = rest;
        running = s.running;
        timer = s.timer;
        queued = s.queued;
        free-count = s.free-count;
        queue = s.queue;
        free = s.free;
        groups = λ i l. (lists-stand m group_words group_stride empty_group length-group n.groups groups_at).0 s.groups i (omega arith);
        paging = s.paging;
        free-pages = lines.0;
        swap-pages = lines.1;
        group-pages = λ i l. every-getD (λ G. Every (PageStands m) (pages_of paper01 G)) n.groups i empty_group each (omega arith);
      }

  -- and back
  pub pieces-map : {r : List ℕ} → Pieces m n r → MapStands m n
  unfolding all_pages idle
  pieces-map p =
      let count = v.group-count in
      let lines = (every_append (PageStands m) (map emptied n.free) (map emptied n.paging.swap)).1 (p.free-pages, p.swap-pages) in
      let each = every-index (λ G. Every (PageStands m) (pages_of paper01 G)) empty_group n.groups (λ i l. p.group-pages i (omega arith)) in
      record {
        running = p.running;
        timer = p.timer;
        queued = p.queued;
        free-count = p.free-count;
        queue = p.queue;
        free = p.free;
        groups = (lists-stand m group_words group_stride empty_group length-group n.groups groups_at).1 (λ i l. p.groups i (omega arith));
        frames = frames-stand.1 (rw map-append lines, (every-concat (PageStands m) (pages_of paper01) n.groups).1 each);
        paging = p.paging;
      }

-- a memory that holds a node has its pieces
pub holds-pieces : {m : List ℕ} {n : Node} {r : List ℕ} → Holds m n r → Pieces m n r
holds-pieces {m} {n} {r} h =
    let l = words-length n h.mapped in
    map-pieces m n h.mapped r (omega (arith, ap length h.map, length-append (words n) r)) (ap (drop size) h.map ∙ drop_at (words n) r size l)
    ((map-stands n h.mapped m).0 (subst (λ (k : List ℕ). Stands k 0 (words n)) (sym h.map) (front-stands (words n) r)))

-- and a memory that has the pieces of a node holds it
pub pieces-hold : {m : List ℕ} {n : Node} {r : List ℕ} → Mapped n → Pieces m n r → Holds m n r
pieces-hold {m} {n} {r} v p =
    let l = words-length n v in
    let long = p.long in
    let s = (map-stands n v m).1 (pieces-map m n v p) in
    let all = rw l at (stands-front m (words n) (omega arith) s) in
    record { mapped = v; map = sym all ∙ ap (λ (t : List ℕ). words n ++ t) p.rest }

-- a memory that is the same from an address on
pub same_drop : (m m' : List ℕ) (a : ℕ) → length m' ≡ length m → ((b : ℕ) → a ≤ b → word m' b ≡ word m b) → drop a m' ≡ drop a m
unfolding word
same_drop m m' a long same =
    ext_get_or 0 (drop a m') (drop a m) (simp length-drop (ap (λ (k : ℕ). k - a) long))
    (λ i l. get_or-drop a m' i 0 ∙ same (a + i) (omega arith) ∙ sym (get_or-drop a m i 0))
