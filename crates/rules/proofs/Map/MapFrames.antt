-- The pages of a node, found by number. The map writes the frame or swap page with number f by looking f up among the pages of all buffers. In
-- a node that can be mapped each number below 96 stands once, so the lookup finds the one page of that number, and an empty one for a number
-- of the free line or the swap line, which no buffer holds; and the pages of a buffer, cut from its places eight by eight, are joined to those
-- places again. Assumes nothing.
use Prim.Native.Nat.{ℕ, ◌+◌, ◌*◌, ◌≤◌, ◌<◌}
use mathlib.Core.Path.{◌≡◌, refl, ◌∙◌}
use mathlib.Core.Bool.{Bool, true, false}
use mathlib.Core.List.Memᴰ
use mathlib.Core.List.{List, [], ◌∷◌, map, Memᴰ}
use native.Mathlib.Omega.{arith}
use lib.Dec.{eqb}
use lib.ListN.{length, drop, get_or, replicate, length-drop, take-append-drop}
use lib.Seq.{take_at, drop_at}
use Rattle.rules.specs.Lists.{Every, concat_map, count_of}
use Rattle.rules.specs.Build.{paper01, page_count}
use Rattle.rules.specs.Node.{Place, Group, Node, empty_page}
use Rattle.rules.specs.Valid.{frame_list, idle, frame_numbers}
use Rattle.rules.specs.Memory.{Page, pages_from, pages_of, places_of, all_pages, place_at, frame_places, frame_words, place_words, frame_address, frame_stride, place_stride}
use Rattle.rules.specs.Sound.{WholeGroup, Mapped}
use Rattle.rules.proofs.Steps.EveryLaws.{every_of, every-at, every-mono, every_append, every-concat, every-unmap}
use Rattle.rules.proofs.Steps.ListLaws.{count-append, count-member, length-parts, getD-parts, once-bounded}
use Rattle.rules.proofs.Map.MapWords.{length-records, record-at}
use Rattle.rules.proofs.Map.MapParts.{places, length-place}
use Rattle.rules.proofs.Map.PageLaws.{GoodPage, page_number, empty-good, numbers-groups, good-from, places-here, places-there, found_none, found-either}

-- the numbers of all pages: the groups' lists
pub all-numbers : (n : Node) → map page_number (all_pages n) ≡ concat_map frame_list n.groups
unfolding all_pages
all-numbers n = numbers-groups paper01 n.groups

-- a page whose number stands once is found by it
found-once : {x : Page} {xs : List Page} → Memᴰ x xs → count_of x.number (map page_number xs) ≤ 1
    → places_of paper01 x.number xs ≡ x.places
found-once {x} (Memᴰ.head {x = y} {xs = ys} q) h = places-here paper01 x.number y ys (cc q) ∙ cc q
found-once {x} (Memᴰ.tail {x = y} {xs = ys} k) h = go (eqb y.number x.number) refl (found-once k)
  where
    go : (t : Bool) → eqb y.number x.number ≡ t
        → (count_of x.number (map page_number ys) ≤ 1 → places_of paper01 x.number ys ≡ x.places)
        → places_of paper01 x.number (y ∷ ys) ≡ x.places
    go true q r = absurd (let l = rw q at h in omega (arith, count-member (Memᴰ.map page_number k)))
    go false q r = let l = rw q at h in places-there paper01 x.number y ys q ∙ r (omega arith)

-- The pages of a buffer.

-- one has 72 words
pub page-length : (ps : List Place) → GoodPage paper01 ps → length (concat_map place_words ps) ≡ frame_stride
page-length ps g = rw (length-parts place_words place_stride ps (every-mono _ _ length-place ps g.places), g.whole)

-- a buffer's places are those of its pages, one page's after the other's
pub places-from : (g : ℕ → List Place) (fs : List ℕ) (ps : List Place) → length ps ≡ length fs * paper01.per_frame
    → Every (λ x. g x.number ≡ x.places) (pages_from paper01 fs ps) → concat_map g fs ≡ ps
unfolding pages_from
places-from g [] [] h e = refl
places-from g [] (p ∷ ps) h e = absurd (omega arith)
places-from g (f ∷ fs) ps h e =
    let r = places-from g fs (drop 8 ps) (rw length-drop (omega arith)) e.1 in
    rw (e.0, r) (take-append-drop 8 ps)

-- and back: where places are read frame by frame, each page has those that are read at its number
pub from_places : (m : List ℕ) (fs : List ℕ)
    → Every (λ x. x.places ≡ frame_places m x.number) (pages_from paper01 fs (concat_map (frame_places m) fs))
unfolding pages_from frame_places
from_places m [] = tt
from_places m (f ∷ fs) =
    let l : length (frame_places m f) ≡ 8 = length-records (places m) (frame_address f) 8 in
    (take_at (frame_places m f) (concat_map (frame_places m) fs) 8 l, rw (drop_at (frame_places m f) (concat_map (frame_places m) fs) 8 l) (from_places m fs))

-- place i of the j-th page
pub page-place : (m fs : List ℕ) (j i : ℕ) (d : Place) → j < length fs → i < paper01.per_frame
    → get_or (concat_map (frame_places m) fs) (paper01.per_frame * j + i) d ≡ place_at m (frame_address (get_or fs j 0) + place_stride * i)
unfolding frame_places
page-place m fs j i d h l =
    getD-parts (frame_places m) 8 (λ f. length-records (places m) (frame_address f) 8) fs j i 0 d h l
    ∙ record-at (places m) d (frame_address (get_or fs j 0)) 8 i l

-- A number that is in no list.

module _ (n : Node) (f : ℕ) (unlisted : count_of f (concat_map frame_list n.groups) ≡ 0) where
  -- finds an empty page
  pub idle-empty : places_of paper01 f (all_pages n) ≡ empty_page paper01
  idle-empty = found_none paper01 f (all_pages n) (rw (all-numbers n) unlisted)

  -- whose words are 0
  pub idle-words : frame_words (all_pages n) f ≡ replicate frame_stride 0
  unfolding frame_words place_words empty_page
  idle-words = rw idle-empty

-- The pages of a node that can be mapped.

module _ (n : Node) (v : Mapped n) where
  -- all of them are whole
  pub all-good : Every (λ x. GoodPage paper01 x.places) (all_pages n)
  unfolding all_pages pages_of
  all-good = (every-concat _ (pages_of paper01) n.groups).1 (every-mono WholeGroup _ group-good n.groups v.groups-whole)
    where
      group-good : (G : Group) → WholeGroup G → Every (λ x. GoodPage paper01 x.places) (pages_of paper01 G)
      group-good G g = good-from paper01 G.buffer.frames G.buffer.places g.whole g.places

  -- the numbers of the two lines and of the lists are below 96
  pub both-bounded : Every (λ f. f < page_count paper01) (idle n) × Every (λ f. f < page_count paper01) (concat_map frame_list n.groups)
  unfolding frame_numbers
  both-bounded =
      (every_append (λ f. f < page_count paper01) (idle n) (concat_map frame_list n.groups)).0
      (once-bounded (page_count paper01) (frame_numbers n) v.frames-once v.frames-all)

  -- and each of them stands once in all
  both-once : (f : ℕ) → f < page_count paper01 → count_of f (idle n) + count_of f (concat_map frame_list n.groups) ≡ 1
  unfolding frame_numbers
  both-once f h = omega (arith, v.frames-once f h, count-append f (idle n) (concat_map frame_list n.groups))

  -- the pages' numbers are below 96
  pub numbers-bounded : Every (λ x. x.number < page_count paper01) (all_pages n)
  numbers-bounded = every-unmap (λ f. f < page_count paper01) page_number (all_pages n) (rw (all-numbers n) both-bounded.1)

  -- each is found by its number
  pub each-found : Every (λ x. places_of paper01 x.number (all_pages n) ≡ x.places) (all_pages n)
  each-found =
      every_of _ (all_pages n) (λ x h.
      let once = both-once x.number (every-at (λ x. x.number < page_count paper01) numbers-bounded h) in
      found-once h (rw (all-numbers n) (omega arith)))

  -- a number of the two lines is below 96, and in no list
  pub idle-unlisted : Every (λ f. (f < page_count paper01) × (count_of f (concat_map frame_list n.groups) ≡ 0)) (idle n)
  idle-unlisted =
      every_of _ (idle n) (λ f h.
      let low = every-at (λ f. f < page_count paper01) both-bounded.0 h in
      (low, omega (arith, both-once f low, count-member h)))

  -- and a number below 96 that is in no list is of the two lines
  pub unlisted-idle : (f : ℕ) → f < page_count paper01 → count_of f (concat_map frame_list n.groups) ≡ 0 → 1 ≤ count_of f (idle n)
  unlisted-idle f h none = omega (arith, both-once f h)

  -- any number finds a whole page
  pub found-good : (f : ℕ) → GoodPage paper01 (places_of paper01 f (all_pages n))
  found-good f = found-either paper01 f (GoodPage paper01) (all_pages n) (empty-good paper01) all-good

  -- of 72 words
  pub length-frame : (f : ℕ) → length (frame_words (all_pages n) f) ≡ frame_stride
  unfolding frame_words
  length-frame f = page-length (places_of paper01 f (all_pages n)) (found-good f)
