-- A page is brought in where no frame is free: from writes to the node that the memory then holds. The victim's frame goes to the end of the
-- order of entry, both pages are counted, and they trade places. Assumes nothing.
use Prim.Native.Nat.{ℕ, ◌<◌}
use native.Mathlib.Omega.{arith}
use mathlib.Core.List.{List, [], ◌∷◌, ◌++◌}
use mathlib.Core.Path.{◌≡◌, ap, subst}
use lib.ListN.{length}
use Rattle.rules.specs.Build.{paper01, page_count}
use Rattle.rules.specs.Frames.{without}
use Rattle.rules.specs.Memory.{brought_at, out_at, word}
use Rattle.rules.specs.Node.{Node, with_entered, with_groups, with_paging}
use Rattle.rules.specs.Paging.{bring_in, exchange, more, trading, victim}
use Rattle.rules.specs.Sound.{Listed, Mapped, Sound}
use Rattle.rules.proofs.Steps.ListLaws.{every-counted}
use Rattle.rules.proofs.Steps.PagingLaws.{bring-sound, entered_below, listed_below, listed-once, victim-stands}
use Rattle.rules.proofs.Steps.SoundLaws.{line-lengths, sound-mapped}
use Rattle.memory.specs.Holds.{Holds, InOrder, OrderRoom, departing, entering}
use Rattle.memory.specs.Lines.{index_of}
use Rattle.memory.specs.Paging.{Exchanging, Listing, PagesSwapped, bringing}
use Rattle.memory.specs.Writes.{Wrote}
use Rattle.memory.proofs.PieceLaws.{holds-pieces, pieces-hold}
use Rattle.memory.proofs.lines.IndexLaws.{index_below, without-index}
use Rattle.memory.proofs.lines.LineLaws.{length-lacking}
use Rattle.memory.proofs.paging.IdleLaws.{mapped-laid, swapped-put}
use Rattle.memory.proofs.paging.PiecesLaws.{laid-listing}
use Rattle.memory.proofs.paging.CountedLaws.{brought-held, brought_more, out-held, out_more}

-- the victim's frame has gone to the end of the order of entry, and both pages are counted
unfoldable pub renewed : Node → Node
renewed n =
    with_paging
    (record {
      swap = n.paging.swap;
      entered = without (victim n) n.paging.entered ++ (victim n ∷ []);
      out = more n.paging.out;
      brought = more n.paging.brought;
    })
    n

-- that is so after these four calls
pub renewed-held : {m₁ m₂ m₃ : List ℕ} (n : Node) {r : List ℕ} {f : ℕ} → f ≡ victim n → Holds m₁ (entering f (departing f n)) r
    → Wrote m₁ m₂ out_at (more (word m₁ out_at) ∷ []) → Wrote m₂ m₃ brought_at (more (word m₂ brought_at) ∷ []) → Holds m₃ (renewed n) r
unfolding entering departing out_more brought_more renewed with_paging with_entered
renewed-held {m₃ = m₃} n {r} e h w₁ w₂ =
    subst (λ (g : ℕ). Holds m₃ (brought_more (out_more (entering g (departing g n)))) r) e (brought-held (out-held h w₁) w₂)

module _ {p : ℕ} {n : Node} (c : Exchanging p n) where
  sound : Sound paper01 n
  sound = c.away.owned.sound

  -- the victim is a group's page
  victim-listed : Listed (victim n) n
  victim-listed = (victim-stands sound c.full).1.0

  -- stands once in the order of entry
  pub victim-ordered : InOrder (victim n) n
  victim-ordered = (victim-stands sound c.full).0

  -- and leaves a place there
  pub departing-room : OrderRoom (departing (victim n) n)
  unfolding departing with_entered with_paging
  departing-room =
      let shorter = without-index (victim n) n.paging.entered victim-ordered in
      let below = index_below (victim n) n.paging.entered (omega (arith, victim-ordered)) in
      omega (arith, ap length shorter, length-lacking (index_of (victim n) n.paging.entered) n.paging.entered below, line-lengths sound)

  module _ {m r : List ℕ} (h : Holds m (renewed n) r) where
    -- the pages can be exchanged: the victim is in a frame, and p is not
    pub renewed-ready : ((victim n < p) × (p < page_count paper01)) × Listing m
    unfolding renewed with_paging
    renewed-ready =
        let frame = every-counted (λ k. k < paper01.frames) (victim n) n.paging.entered (entered_below sound) (omega (arith, victim-ordered)) in
        ((omega (arith, c.away.high), listed_below sound p c.away.owned.listed), laid-listing (holds-pieces h) (mapped-laid h.mapped))

    pub exchanged-held : {m₁ : List ℕ} → PagesSwapped m m₁ (victim n) p → Holds m₁ (bringing p n) r
    unfolding renewed bring_in exchange trading with_groups with_paging
    exchanged-held {m₁} swapped = go n.free c.full (sound-mapped (bring-sound sound p c.away.high c.away.owned.listed))
      where
        go : (fs : List ℕ) → fs ≡ [] → Mapped (bring_in p fs n) → Holds m₁ (bring_in p fs n) r
        go [] e mapped =
            let listed = c.away.owned.listed in
            let one = listed-once sound (victim n) victim-listed in
            let other = listed-once sound p listed in
            pieces-hold mapped
            (swapped-put (holds-pieces h) (mapped-laid h.mapped) (victim n) p (listed_below sound (victim n) victim-listed) (listed_below sound p listed) other.0 other.1.0 one.0 one.1.0 swapped)
        go (x ∷ fs) e mapped = absurd (omega (arith, ap length e))
