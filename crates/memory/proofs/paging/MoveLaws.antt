-- Pages copied and exchanged: the words of each page stand where its number, traded, says. Assumes nothing.
use Prim.Native.Nat.{ℕ, ◌+◌, ◌≤◌, ◌<◌}
use native.Mathlib.Decide.{dec_lt, ℕ_discrete}
use native.Mathlib.Omega.{arith}
use mathlib.Core.Path.{◌≡◌, refl, sym, ap, ◌∙◌}
use mathlib.Core.Logic.{◌≢◌}
use mathlib.Core.List.{List, [], ◌∷◌, map}
use lib.ListN.{drop, length, replicate}
use Rattle.rules.specs.Build.{paper01, page_count}
use Rattle.rules.specs.Lists.{Every, concat_map}
use Rattle.rules.specs.Node.{Place}
use Rattle.rules.specs.Memory.{frame_address, frame_stride, frames_at, paging_at, place_words, word, words_at, Page, pages_from}
use Rattle.rules.specs.Paging.{traded}
use Rattle.rules.proofs.Steps.PagingLaws.{traded-first, traded-other, traded-second}
use Rattle.rules.proofs.Map.MapFrames.{page-length}
use Rattle.rules.proofs.Map.MapWords.{Stands, length-words_at, words_at-stands}
use Rattle.memory.specs.Writes.{Wrote, Swapped}
use Rattle.memory.proofs.PieceLaws.{PageStands, page-stands, WholePage, emptied}
use Rattle.memory.proofs.WriteLaws.{same-words_at}
use Rattle.rules.proofs.Map.PageLaws.{empty-good}

-- what a number is traded for, by what it is
traded-cases : (P : ℕ → ℕ → Type 0) (p q x : ℕ) → (x ≡ p → P p q) → (x ≢ p → x ≡ q → P q p) → (x ≢ p → x ≢ q → P x x) → P x (traded p q x)
traded-cases P p q x first second other = go (ℕ_discrete x p) (ℕ_discrete x q)
  where
    go : Dec (x ≡ p) → Dec (x ≡ q) → P x (traded p q x)
    go (yes e) d = rw (traded-first p q x e, e) (first e)
    go (no d) (yes e) = rw (traded-second p q x d e, e) (second d e)
    go (no d) (no e) = rw (traded-other p q x d e) (other d e)

-- trading goes both ways
pub traded-sym : (p q x : ℕ) → traded p q x ≡ traded q p x
traded-sym p q x =
    traded-cases (λ y z. z ≡ traded q p y) p q x
    (λ e. go (ℕ_discrete p q)) (λ d e. sym (traded-first q p q refl)) (λ d e. sym (traded-other q p x e d))
  where
    go : Dec (p ≡ q) → q ≡ traded q p p
    go (yes e) = sym e ∙ sym (traded-first q p p e)
    go (no d) = sym (traded-second q p p d refl)

-- the words of page x in m are those of page y in m'
abbrev pub Follows : List ℕ → List ℕ → ℕ → ℕ → Type 0
Follows m m' x y = words_at m' (frame_address y) frame_stride ≡ words_at m (frame_address x) frame_stride

-- a page with these words stands there
pub page-follows : {m m' : List ℕ} (x : Page) (k : ℕ) → WholePage x → k < page_count paper01 → Follows m m' x.number k → PageStands m x
    → PageStands m' (record { number = k; places = x.places })
unfolding Stands
page-follows {m} {m'} x k good below same s =
    let l = page-length x.places good in
    page-stands m' (record { number = k; places = x.places }) (record { whole = good.whole; places = good.places }) below
    (ap (words_at m' (frame_address k)) l ∙ same ∙ words_at-stands m (frame_address x.number) frame_stride (concat_map place_words x.places) l s.stands)

-- a page that stands is one of the 96
pub stands-below : {m : List ℕ} (x : Page) → WholePage x → PageStands m x → x.number < page_count paper01
unfolding frame_address
stands-below x good s = omega (arith, page-length x.places good, s.inside)

-- empty pages of numbers at which the words stay are empty still
pub empty-kept : (m m' : List ℕ) (fs : List ℕ) → Every (λ f. Follows m m' f f) fs → Every (PageStands m) (map emptied fs) → Every (PageStands m') (map emptied fs)
empty-kept m m' [] same s = tt
empty-kept m m' (f ∷ fs) same s =
    let good = empty-good paper01 in
    (page-follows (emptied f) f good (stands-below (emptied f) good s.0) same.0 s.0, empty-kept m m' fs same.1 s.1)

-- the pages of a buffer whose words go where their numbers do
pub pages-follow : (m m' : List ℕ) (p q : ℕ) → p < page_count paper01 → q < page_count paper01 → (fs : List ℕ) (ps : List Place)
    → Every WholePage (pages_from paper01 fs ps) → Every (λ x. Follows m m' x (traded p q x)) fs
    → Every (PageStands m) (pages_from paper01 fs ps) → Every (PageStands m') (pages_from paper01 (map (traded p q) fs) ps)
unfolding pages_from
pages-follow m m' p q lp lq [] ps good same s = tt
pages-follow m m' p q lp lq (f ∷ fs) ps good same s =
    let below = stands-below _ good.0 s.0 in
    let inside : traded p q f < page_count paper01 = traded-cases (λ y z. z < page_count paper01) p q f (λ e. lq) (λ d e. lp) (λ d e. below) in
    (page-follows _ (traded p q f) good.0 inside same.0 s.0, pages-follow m m' p q lp lq fs (drop 8 ps) good.1 same.1 s.1)

-- A page is written over.

module _ {m m' ws : List ℕ} (q : ℕ) (long : length ws ≡ frame_stride) (w : Wrote m m' (frame_address q) ws) where
  -- the others keep their words
  pub wrote_kept : (x : ℕ) → x ≢ q → Follows m m' x x
  unfolding frame_address
  wrote_kept x other = same-words_at m m' (frame_address x) frame_stride (λ b l h. go b l h (dec_lt x q))
    where
      go : (b : ℕ) → frame_address x ≤ b → b < frame_address x + frame_stride → Dec (x < q) → word m' b ≡ word m b
      go b l h (yes less) = w.below b (omega arith)
      go b l h (no more) = w.above b (omega (arith, other))

  -- what is no page's stays
  wrote-else : q < page_count paper01 → (b : ℕ) → (b < frames_at → word m' b ≡ word m b) × (paging_at ≤ b → word m' b ≡ word m b)
  unfolding frame_address
  wrote-else below b = (λ h. w.below b (omega arith), λ h. w.above b (omega arith))

-- A page is copied, and what it leaves is wiped.

module _ {m m₁ m₂ : List ℕ} (p q : ℕ) (apart : p ≢ q) (w : Wrote m m₁ (frame_address q) (words_at m (frame_address p) frame_stride))
    (z : Wrote m₁ m₂ (frame_address p) (replicate frame_stride 0)) where
  -- the others keep their words
  pub moved-kept : (x : ℕ) → x ≢ p → x ≢ q → Follows m m₂ x x
  moved-kept x d e = wrote_kept p refl z x d ∙ wrote_kept q (length-words_at m (frame_address p) frame_stride) w x e

  -- and every page but the one written over is where its number says
  pub moved-follows : (x : ℕ) → x ≢ q → Follows m m₂ x (traded p q x)
  moved-follows x other =
      traded-cases (Follows m m₂) p q x
      (λ e. wrote_kept p refl z q (λ same. apart (sym same)) ∙ rw (length-words_at m (frame_address p) frame_stride) at w.here)
      (λ d e. absurd (other e)) (λ d e. moved-kept x d other)

  -- what is no page's stays
  pub moved-else : p < page_count paper01 → q < page_count paper01 → (b : ℕ) → (b < frames_at → word m₂ b ≡ word m b) × (paging_at ≤ b → word m₂ b ≡ word m b)
  moved-else lp lq b =
      let first = wrote-else q (length-words_at m (frame_address p) frame_stride) w lq b in
      let second = wrote-else p refl z lp b in
      (λ h. second.0 h ∙ first.0 h, λ h. second.1 h ∙ first.1 h)

-- Two pages are exchanged.

module _ {m m' : List ℕ} (p q : ℕ) (s : Swapped m m' (frame_address p) (frame_address q) frame_stride) where
  pub swapped-kept : (x : ℕ) → x ≢ p → x ≢ q → Follows m m' x x
  unfolding frame_address
  swapped-kept x other more = same-words_at m m' (frame_address x) frame_stride (λ b l h. s.else b (λ i. go b l h p other i) (λ i. go b l h q more i))
    where
      go : (b : ℕ) → frame_address x ≤ b → b < frame_address x + frame_stride → (y : ℕ) → x ≢ y → frame_address y ≤ b → frame_address y + frame_stride ≤ b
      go b l h y d i = omega (arith, d)

  pub swapped-follows : (x : ℕ) → Follows m m' x (traded p q x)
  swapped-follows x = traded-cases (Follows m m') p q x (λ e. s.second) (λ d e. s.first) (λ d e. swapped-kept x d e)

  pub swapped-else : p < page_count paper01 → q < page_count paper01 → (b : ℕ) → (b < frames_at → word m' b ≡ word m b) × (paging_at ≤ b → word m' b ≡ word m b)
  unfolding frame_address
  swapped-else lp lq b =
      (λ h. s.else b (λ i. absurd (omega arith)) (λ i. absurd (omega arith)), λ h. s.else b (λ i. omega arith) (λ i. omega arith))
