-- A page is sent out: from writes to the node that the memory then holds. Its frame has left the order of entry, and it is counted; then the
-- front of the swap line leaves it, the page goes there, and the frame, wiped, joins the free line. Assumes nothing.
use Prim.Native.Nat.{ℕ, ◌+◌, ◌<◌}
use native.Mathlib.Omega.{arith}
use mathlib.Core.List.{List, [], ◌∷◌, ◌++◌, map, map-append}
use mathlib.Core.Logic.{◌≢◌}
use mathlib.Core.Path.{◌≡◌, refl, sym, ap, ◌∙◌, subst}
use lib.ListN.{length, get_or}
use Rattle.rules.specs.Build.{paper01, page_count}
use Rattle.rules.specs.Frames.{without}
use Rattle.rules.specs.Lists.{Every, concat_map, count_of}
use Rattle.rules.specs.Memory.{free_at, free_count_at, out_at, swap_at, swap_count_at, word}
use Rattle.rules.specs.Node.{Node, with_entered, with_free, with_groups, with_paging}
use Rattle.rules.specs.Paging.{more, send_out, trading, victim}
use Rattle.rules.specs.Sound.{Listed}
use Rattle.rules.specs.Valid.{frame_list}
use Rattle.rules.proofs.Steps.EveryLaws.{every_append}
use Rattle.rules.proofs.Steps.ListLaws.{count-append}
use Rattle.rules.proofs.Steps.PagingLaws.{listed_below, listed-once, send-sound, victim-stands}
use Rattle.rules.proofs.Steps.SoundLaws.{sound-mapped}
use Rattle.memory.specs.Holds.{Holds, InOrder, departing}
use Rattle.memory.specs.Lines.{InLine, Joined, Left}
use Rattle.memory.specs.Paging.{PageMoved, Sending, sending}
use Rattle.memory.specs.Writes.{Wrote}
use Rattle.memory.proofs.LinePieces.{free-line, free-put, swap_line, swap-wrote}
use Rattle.memory.proofs.PieceLaws.{PageStands, Pieces, holds-pieces, pieces-hold, emptied}
use Rattle.memory.proofs.PieceWrites.{paging-put}
use Rattle.memory.proofs.lines.LineLaws.{LineWrote, joined-wrote, left-wrote, line-within}
use Rattle.memory.proofs.paging.IdleLaws.{mapped-laid, moved-empty, moved-put}
use Rattle.memory.proofs.paging.MoveLaws.{stands-below}
use Rattle.memory.proofs.paging.PiecesLaws.{Laid}
use Rattle.memory.proofs.paging.CountedLaws.{listed-apart, out-held, out_more, swap-alone}
use Rattle.rules.proofs.Map.PageLaws.{empty-good}

-- its frame has left the order of entry, and it is counted
unfoldable pub parted : Node → Node
parted n =
    with_paging
    (record {
      swap = n.paging.swap;
      entered = without (victim n) n.paging.entered;
      out = more n.paging.out;
      brought = n.paging.brought;
    })
    n

-- that is so after these two calls
pub parted-held : {m₁ m₂ : List ℕ} (n : Node) {r : List ℕ} {f : ℕ} → f ≡ victim n → Holds m₁ (departing f n) r → Wrote m₁ m₂ out_at (more (word m₁ out_at) ∷ [])
    → Holds m₂ (parted n) r
unfolding departing out_more parted with_paging with_entered
parted-held {m₂ = m₂} n {r} e h w =
    subst (λ (g : ℕ). Holds m₂ (out_more (departing g n)) r) e (out-held h w)

-- and with these pages in the swap line
unfoldable pub parted_with : List ℕ → Node → Node
parted_with ss n =
    with_paging
    (record { swap = ss; entered = without (victim n) n.paging.entered; out = more n.paging.out; brought = n.paging.brought })
    n

-- what stands when the front of the swap line, x, has left it
pub record Taken (m : List ℕ) (n : Node) (r : List ℕ) (x : ℕ) : Type 0 where
  pub front : ℕ
  pub behind : List ℕ
  pub line : n.paging.swap ≡ front ∷ behind
  pub number : x ≡ front
  pub pieces : Pieces m (parted_with behind n) r
  pub laid : Laid (parted_with behind n)
  pub low : victim n < page_count paper01
  pub high : x < page_count paper01

module _ {n : Node} (c : Sending n) where
  -- the victim is a group's page
  owned : Listed (victim n) n
  owned = (victim-stands c.crowded.sound c.crowded.full).1.0

  -- and stands once in the order of entry
  pub victim-ordered : InOrder (victim n) n
  victim-ordered = (victim-stands c.crowded.sound c.crowded.full).0

  module _ {m r : List ℕ} (h : Holds m (parted n) r) where
    -- the swap line can be left
    pub parted-ready : InLine m swap_count_at swap_at × (0 < word m swap_count_at)
    unfolding parted with_paging
    parted-ready =
        let p = holds-pieces h in
        let long = p.long in
        let line = swap_line p h.mapped.swap-short h.mapped.entered-short in
        (line-within line (omega arith) (omega arith), omega (arith, line.counted, c.some))

    pub taken : {m₁ : List ℕ} {x : ℕ} → Left m m₁ swap_count_at swap_at 0 x → Taken m₁ n r x
    unfolding parted parted_with with_paging
    taken {m₁} {x} gone = go n.paging.swap refl
      where
        go : (ss : List ℕ) → n.paging.swap ≡ ss → Taken m₁ n r x
        go [] e = absurd (omega (arith, c.some, ap length e))
        go (s ∷ ss) e =
            let v = h.mapped in
            let p = holds-pieces h in
            let t = left-wrote (swap_line p v.swap-short v.entered-short) (omega (arith, ap length e)) gone in
            let number : x ≡ s = t.0 ∙ ap (λ (l : List ℕ). get_or l 0 0) e in
            let wrote : LineWrote m m₁ swap_count_at swap_at paper01.swap ss = rw e at t.1 in
            let stand : Every (PageStands m) (map emptied (s ∷ ss)) = rw e at p.swap-pages in
            let old = mapped-laid v in
            record {
              front = s;
              behind = ss;
              line = e;
              number = number;
              pieces = paging-put p (parted_with ss n).paging stand.1 (swap-wrote (parted n).paging p.paging ss wrote);
              laid = record {
                group-count = old.group-count;
                groups-whole = old.groups-whole;
                short = old.short;
              };
              low = listed_below c.crowded.sound (victim n) owned;
              high = rw number (stands-below (emptied s) (empty-good paper01) stand.0);
            }

  module _ {m₁ m₂ r : List ℕ} {x : ℕ} (t : Taken m₁ n r x) (moved : PageMoved m₁ m₂ (victim n) x) where
    -- the front stood nowhere else
    alone : (count_of x n.free ≡ 0) × ((count_of x t.behind ≡ 0) × (count_of x (concat_map frame_list n.groups) ≡ 0))
    alone = let below = t.high in rw t.number (swap-alone c.crowded.sound t.front t.behind t.line (rw t.number at below))

    -- the victim is another, and in no line
    apart : victim n ≢ x
    apart = listed-apart n (victim n) x owned alone.1.1

    unlined : (count_of (victim n) n.free ≡ 0) × (count_of (victim n) t.behind ≡ 0)
    unlined =
        let once = listed-once c.crowded.sound (victim n) owned in
        (once.0, omega (arith, once.1.0, count-append (victim n) (t.front ∷ []) t.behind, ap (count_of (victim n)) t.line))

    -- the page is there
    pub sent_pieces : Pieces m₂ (trading (victim n) x (parted_with t.behind n)) r
    unfolding parted_with with_paging
    sent_pieces =
        moved-put t.pieces t.laid (victim n) x t.low t.high alone.0 alone.1.0 unlined.0 unlined.1 apart alone.1.1 moved

    -- and its frame is empty
    sent-left : PageStands m₂ (emptied (victim n))
    unfolding parted_with with_paging
    sent-left =
        moved-empty t.pieces t.laid (victim n) x t.low t.high alone.0 alone.1.0 unlined.0 unlined.1 apart moved

    -- the free line can be joined
    pub sent-ready : InLine m₂ free_count_at free_at × ((word m₂ free_count_at < page_count paper01) × (free_at + word m₂ free_count_at < length m₂))
    unfolding parted_with trading with_groups with_paging
    sent-ready =
        let p = sent_pieces in
        let long = p.long in
        let none : word m₂ free_count_at ≡ 0 = p.free-count ∙ ap length c.crowded.full in
        (record { counted = omega arith; inside = omega arith }, (omega arith, omega arith))

    pub sent-held : {m₃ : List ℕ} → Joined m₂ m₃ free_count_at free_at (victim n) → Holds m₃ (sending n) r
    unfolding parted_with send_out trading with_groups with_free with_paging
    sent-held {m₃} came =
        let p = sent_pieces in
        let fs = n.free ++ (victim n ∷ []) in
        let none = ap length c.crowded.full in
        let joined = joined-wrote (free-line p (omega arith)) (omega arith) came in
        let stand : Every (PageStands m₂) (map emptied fs) =
        rw map-append ((every_append (PageStands m₂) (map emptied n.free) (emptied (victim n) ∷ [])).1 (p.free-pages, (sent-left, tt))) in
        let held : Pieces m₃ (send_out (victim n) (t.front ∷ t.behind) n) r =
        subst (λ (k : ℕ). Pieces m₃ (with_free fs (trading (victim n) k (parted_with t.behind n))) r) t.number (free-put p fs stand joined) in
        pieces-hold (sound-mapped (send-sound c.crowded.sound c.crowded.full))
        (subst (λ (ss : List ℕ). Pieces m₃ (send_out (victim n) ss n) r) (sym t.line) held)
