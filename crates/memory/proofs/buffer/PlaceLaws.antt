-- A place of a frame is written: that frame has the place set, and every other frame is as it was, since each number stands once. Assumes
-- nothing.
use Prim.Native.Nat.{◌*◌, ◌+◌, ◌<◌, ◌≤◌, suc, zero, ℕ}
use native.Mathlib.Decide.{dec_lt}
use native.Mathlib.Omega.{arith}
use mathlib.Core.List.{List, [], ◌∷◌, map}
use mathlib.Core.Logic.{◌≢◌}
use mathlib.Core.Path.{◌≡◌, ap, sym, ◌∙◌}
use lib.ListN.{drop, get_or, length, length-drop, length-set, set, take}
use lib.Seq.{drop-set-add, drop-set-lt, length-take-le, take-set-le, take-set-lt}
use borrow.Author.Tests.{eq-eqb, ne_eqb}
use Rattle.rules.specs.Build.{paper01}
use Rattle.rules.specs.Lists.{Every, concat_map, count_of}
use Rattle.rules.specs.Memory.{frame_address, frame_stride, frames_at, place_stride, place_words, Page, pages_from}
use Rattle.rules.specs.Node.{Place}
use Rattle.rules.specs.Valid.{GoodPlace}
use Rattle.rules.proofs.Steps.EveryLaws.{every-at, every_drop, every-mono, every_of, every_set, every_take, every-unmap}
use Rattle.rules.proofs.Steps.ListLaws.{count_at, length-parts}
use Rattle.rules.proofs.Map.PageLaws.{good-from, numbers-from, page_number}
use Rattle.rules.proofs.Map.MapFrames.{page-length}
use Rattle.rules.proofs.Map.MapParts.{length-place}
use Rattle.rules.proofs.Map.MapWords.{Stands, stands-append}
use Rattle.memory.specs.Writes.{Wrote}
use Rattle.memory.proofs.CountLaws.{count_none}
use Rattle.memory.proofs.PieceLaws.{PageStands, WholePage}
use Rattle.memory.proofs.WriteLaws.{kept_above, kept-below, wrote-stands}

-- the words of a good frame are 72
length-places : (ps : List Place) → Every GoodPlace ps → length (concat_map place_words ps) ≡ place_stride * length ps
length-places ps e = length-parts place_words place_stride ps (every-mono _ _ length-place ps e)

-- a place is written where it stands
place_in : {m m' : List ℕ} (a q : ℕ) (x : Place) (ps : List Place) → Every GoodPlace ps → GoodPlace x → q < length ps
    → Wrote m m' (a + place_stride * q) (place_words x) → Stands m a (concat_map place_words ps) → Stands m' a (concat_map place_words (set ps q x))
place_in a q x [] good gx h w s = absurd (omega arith)
place_in {m} {m'} a zero x (p ∷ ps) good gx h w s =
    let both = (stands-append m a (place_words p) (concat_map place_words ps)).0 s in
    let lp = length-place p good.0 in
    let lx = length-place x gx in
    let e : a + place_stride * 0 ≡ a = omega arith in
    (stands-append m' a (place_words x) (concat_map place_words ps)).1 (
      rw e at (wrote-stands w),
      rw lx (kept_above w (a + 9) (concat_map place_words ps) (omega arith) (rw lp at both.1)),
    )
place_in {m} {m'} a (suc q) x (p ∷ ps) good gx h w s =
    let both = (stands-append m a (place_words p) (concat_map place_words ps)).0 s in
    let lp = length-place p good.0 in
    let e : a + place_stride * suc q ≡ a + 9 + place_stride * q = omega arith in
    let w' : Wrote m m' (a + 9 + place_stride * q) (place_words x) = rw e at w in
    (stands-append m' a (place_words p) (concat_map place_words (set ps q x))).1 (
      kept-below w a (place_words p) (omega arith) both.0,
      rw lp (place_in (a + 9) q x ps good.1 gx (omega arith) w' (rw lp at both.1)),
    )

-- and takes as many words as it took
place-length : (q : ℕ) (x : Place) (ps : List Place) → Every GoodPlace ps → GoodPlace x
    → length (concat_map place_words (set ps q x)) ≡ length (concat_map place_words ps)
place-length q x ps good gx =
    length-places (set ps q x) (every_set GoodPlace ps q x good gx) ∙ ap (λ (k : ℕ). place_stride * k) (length-set ps q x) ∙ sym (length-places ps good)

module _ {m m' : List ℕ} (f q : ℕ) (below : q < paper01.per_frame) (x : Place) (gx : GoodPlace x)
    (w : Wrote m m' (frame_address f + place_stride * q) (place_words x)) where
  -- a frame of another number stays
  frame-kept : (y : Page) → WholePage y → y.number ≢ f → PageStands m y → PageStands m' y
  unfolding frame_address
  frame-kept y good other s = go (dec_lt y.number f)
    where
      go : Dec (y.number < f) → PageStands m' y
      go (yes l) =
          record {
            stands = kept-below w (frames_at + frame_stride * y.number) (concat_map place_words y.places) (omega (arith, page-length y.places good)) s.stands;
            inside = s.inside;
          }
      go (no l) =
          record {
            stands = kept_above w (frames_at + frame_stride * y.number) (concat_map place_words y.places) (omega (arith, length-place x gx)) s.stands;
            inside = s.inside;
          }

  -- frames among which the number does not stand stay
  pub frames-kept : (xs : List Page) → Every WholePage xs → count_of f (map page_number xs) ≡ 0 → Every (PageStands m) xs → Every (PageStands m') xs
  frames-kept xs good none s =
      let others = every-unmap (λ k. k ≢ f) page_number xs (count_none f (map page_number xs) none) in
      every_of (PageStands m') xs (λ y h.
      frame-kept y (every-at WholePage good h) (every-at (λ z. z.number ≢ f) others h) (every-at (PageStands m) s h))

  -- of a buffer's frames the one of that number has the place set
  pub frames-put : (fs : List ℕ) (ps : List Place) (j : ℕ) → j < length fs → get_or fs j 0 ≡ f → count_of f fs ≡ 1 → length ps ≡ length fs * paper01.per_frame
      → Every GoodPlace ps → Every (PageStands m) (pages_from paper01 fs ps) → Every (PageStands m') (pages_from paper01 fs (set ps (paper01.per_frame * j + q) x))
  unfolding pages_from
  frames-put [] ps j h at once whole good s = absurd (omega arith)
  frames-put (k ∷ fs) ps zero h at once whole good s =
      let eight : 8 ≤ length ps = omega arith in
      let l : length (take 8 ps) ≡ 8 = length-take-le 8 ps eight in
      let first : PageStands m' (record { number = k; places = set (take 8 ps) q x }) =
      record {
        stands = place_in (frame_address k) q x (take 8 ps) (every_take GoodPlace 8 ps good) gx (omega arith) (rw (← at) at w) s.0.stands;
        inside = omega (arith, s.0.inside, place-length q x (take 8 ps) (every_take GoodPlace 8 ps good) gx);
      } in
      let none : count_of f fs ≡ 0 = let c = rw (eq-eqb k f at) at once in omega arith in
      let rest : Every (PageStands m') (pages_from paper01 fs (drop 8 ps)) =
      frames-kept (pages_from paper01 fs (drop 8 ps)) (good-from paper01 fs (drop 8 ps) (rw length-drop (omega arith)) (every_drop GoodPlace 8 ps good))
      (rw (numbers-from paper01 fs (drop 8 ps)) none) s.1 in
      let e : 8 * 0 + q ≡ q = omega arith in
      rw (e, take-set-lt 8 ps q x below, drop-set-lt 8 ps q x below) (first, rest)
  frames-put (k ∷ fs) ps (suc j) h at once whole good s =
      let here = count_at f fs j (omega arith) at in
      let other : k ≢ f = λ e. let c = rw (eq-eqb k f e) at once in omega arith in
      let none : count_of f fs ≡ 1 = let c = rw (ne_eqb k f other) at once in omega arith in
      let eight : 8 ≤ length ps = omega arith in
      let l : length (take 8 ps) ≡ 8 = length-take-le 8 ps eight in
      let first : PageStands m' (record { number = k; places = take 8 ps }) =
      frame-kept (record { number = k; places = take 8 ps }) (record { whole = l; places = every_take GoodPlace 8 ps good }) other s.0 in
      let rest = frames-put fs (drop 8 ps) j (omega arith) at none (rw length-drop (omega arith)) (every_drop GoodPlace 8 ps good) s.1 in
      let e : 8 * suc j + q ≡ 8 + (8 * j + q) = omega arith in
      rw (e, take-set-le 8 ps (8 + (8 * j + q)) x (omega arith), drop-set-add 8 ps (8 * j + q) x) (first, rest)
