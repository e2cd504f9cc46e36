-- The pages of buffers: their numbers, their places cut page by page, and the places of a number found among them. A number that no page has
-- finds an empty page. Assumes nothing.
use Prim.Native.Nat.{ℕ, ◌*◌, ◌≤◌}
use mathlib.Core.Path.{◌≡◌, refl, ap, ◌∙◌}
use mathlib.Core.Bool.{Bool, true, false}
use mathlib.Core.List.{List, [], ◌∷◌, map, map-append}
use native.Mathlib.Omega.{arith}
use lib.Dec.{eqb}
use lib.ListN.{length, take, drop, length-drop, take-append-drop}
use lib.Seq.{length-take-le}
use borrow.Author.Tests.{eqb-true, eq-eqb}
use Rattle.rules.specs.Lists.{Every, concat_map, count_of}
use Rattle.rules.specs.Build.{Build}
use Rattle.rules.specs.Node.{Place, Group, empty_page}
use Rattle.rules.specs.Valid.{GoodPlace, frame_list}
use Rattle.rules.specs.Memory.{Page, pages_from, pages_of, places_of}
use Rattle.rules.proofs.Steps.EveryLaws.{every_append}
use Rattle.rules.proofs.Steps.FrameLaws.{length-page, page-good}

-- a page's number
abbrev pub page_number : Page → ℕ
page_number x = x.number

-- the places of a page: all of them, and each with its eight words
pub record GoodPage (b : Build) (ps : List Place) : Type 0 where
  pub whole : length ps ≡ b.per_frame
  pub places : Every GoodPlace ps

-- those of an empty page
pub empty-good : (b : Build) → GoodPage b (empty_page b)
empty-good b = record { whole = length-page b; places = page-good b }

-- the numbers of the pages of a buffer: its list
pub numbers-from : (b : Build) (fs : List ℕ) (ps : List Place) → map page_number (pages_from b fs ps) ≡ fs
unfolding pages_from
numbers-from b [] ps = refl
numbers-from b (f ∷ fs) ps = ap (λ (r : List ℕ). f ∷ r) (numbers-from b fs (drop b.per_frame ps))

-- of the pages of all groups: their lists
pub numbers-groups : (b : Build) (Gs : List Group) → map page_number (concat_map (pages_of b) Gs) ≡ concat_map frame_list Gs
unfolding pages_of frame_list
numbers-groups b [] = refl
numbers-groups b (G ∷ Gs) =
    let r = numbers-groups b Gs in
    let e = numbers-from b G.buffer.frames G.buffer.places in
    map-append page_number (pages_of b G) (concat_map (pages_of b) Gs) ∙ cc (e, r)

-- a buffer's pages are whole, and their places good, where there are places for each page
pub good-from : (b : Build) (fs : List ℕ) (ps : List Place) → length ps ≡ length fs * b.per_frame → Every GoodPlace ps
    → Every (λ x. GoodPage b x.places) (pages_from b fs ps)
unfolding pages_from
good-from b [] ps h e = tt
good-from b (f ∷ fs) ps h e =
    let k = b.per_frame in
    let both = (every_append GoodPlace (take k ps) (drop k ps)).0 (rw (take-append-drop k ps) e) in
    let fits : k ≤ length ps = omega arith in
    (record { whole = length-take-le k ps fits; places = both.0 }, good-from b fs (drop k ps) (rw length-drop (omega arith)) both.1)

-- Places found by a number.

module _ (b : Build) (f : ℕ) where
  -- the first page is taken where its number fits
  pub places-here : (x : Page) (xs : List Page) → x.number ≡ f → places_of b f (x ∷ xs) ≡ x.places
  unfolding places_of
  places-here x xs e = rw (eq-eqb x.number f e, places_of)

  -- and is passed where it does not
  pub places-there : (x : Page) (xs : List Page) → eqb x.number f ≡ false → places_of b f (x ∷ xs) ≡ places_of b f xs
  unfolding places_of
  places-there x xs e = rw (e, places_of)

  -- a number that stands among pages' is that of a page, whose places are found
  pub found : (P : Page → Type 0) (xs : List Page) → 1 ≤ count_of f (map page_number xs) → Every P xs
      → (x : Page) × ((x.number ≡ f) × ((places_of b f xs ≡ x.places) × P x))
  found P [] h e = absurd (omega arith)
  found P (x ∷ xs) h e = go (eqb x.number f) refl (found P xs)
    where
      go : (t : Bool) → eqb x.number f ≡ t
          → (1 ≤ count_of f (map page_number xs) → Every P xs → (y : Page) × ((y.number ≡ f) × ((places_of b f xs ≡ y.places) × P y)))
          → (y : Page) × ((y.number ≡ f) × ((places_of b f (x ∷ xs) ≡ y.places) × P y))
      go true q r = let same = eqb-true x.number f q in (x, (same, (places-here x xs same, e.0)))
      go false q r =
          let k = rw q at h in
          let t = r (omega arith) e.1 in
          (t.0, (t.1.0, (places-there x xs q ∙ t.1.1.0, t.1.1.1)))

  -- one that does not finds an empty page
  pub found_none : (xs : List Page) → count_of f (map page_number xs) ≡ 0 → places_of b f xs ≡ empty_page b
  unfolding places_of
  found_none [] h = refl
  found_none (x ∷ xs) h = go (eqb x.number f) refl (found_none xs)
    where
      go : (t : Bool) → eqb x.number f ≡ t → (count_of f (map page_number xs) ≡ 0 → places_of b f xs ≡ empty_page b)
          → places_of b f (x ∷ xs) ≡ empty_page b
      go true q r = absurd (let k = rw q at h in omega arith)
      go false q r = let k = rw q at h in places-there x xs q ∙ r (omega arith)

  -- either way, what holds of every page's places and of an empty page's holds of those that are found
  pub found-either : (P : List Place → Type 0) (xs : List Page) → P (empty_page b) → Every (λ x. P x.places) xs → P (places_of b f xs)
  unfolding places_of
  found-either P [] empty e = empty
  found-either P (x ∷ xs) empty e = go (eqb x.number f) refl (found-either P xs empty e.1)
    where
      go : (t : Bool) → eqb x.number f ≡ t → P (places_of b f xs) → P (places_of b f (x ∷ xs))
      go true q r = rw (places-here x xs (eqb-true x.number f q)) e.0
      go false q r = rw (places-there x xs q) r
