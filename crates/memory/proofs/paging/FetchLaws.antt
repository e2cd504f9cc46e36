-- A page is brought into a free frame: from writes to the node that the memory then holds. The frame has entered, and the page is counted;
-- then the front of the free line leaves it, the page goes there, and its swap page, wiped, joins the swap line. Assumes nothing.
use Prim.Native.Nat.{ℕ, ◌+◌, ◌≤◌, ◌<◌}
use native.Mathlib.Omega.{arith}
use mathlib.Core.List.{List, [], ◌∷◌, ◌++◌, map, map-append}
use mathlib.Core.Logic.{◌≢◌}
use mathlib.Core.Path.{◌≡◌, refl, sym, ap, ◌∙◌, subst}
use lib.ListN.{length, get_or, length-append}
use Rattle.rules.specs.Build.{paper01, page_count}
use Rattle.rules.specs.Lists.{Every, concat_map, count_of}
use Rattle.rules.specs.Memory.{brought_at, free_at, free_count_at, swap_at, swap_count_at, word}
use Rattle.rules.specs.Node.{Node, Paging, with_entered, with_free, with_groups, with_paging}
use Rattle.rules.specs.Paging.{bring_in, more, trading}
use Rattle.rules.specs.Sound.{Mapped}
use Rattle.rules.specs.Valid.{frame_list}
use Rattle.rules.proofs.Steps.EveryLaws.{every_append}
use Rattle.rules.proofs.Steps.ListLaws.{count-append}
use Rattle.rules.proofs.Steps.PagingLaws.{bring-sound, listed_below, listed-once}
use Rattle.rules.proofs.Steps.SoundLaws.{line-lengths, sound-mapped}
use Rattle.memory.specs.Holds.{Holds, OrderRoom, entering}
use Rattle.memory.specs.Lines.{InLine, Joined, Left}
use Rattle.memory.specs.Paging.{Fetching, PageMoved, bringing}
use Rattle.memory.specs.Writes.{Wrote}
use Rattle.memory.proofs.LinePieces.{free-line, free-put, swap_line, swap-wrote}
use Rattle.memory.proofs.PieceLaws.{PageStands, Pieces, holds-pieces, pieces-hold, emptied}
use Rattle.memory.proofs.PieceWrites.{paging-put}
use Rattle.memory.proofs.lines.LineLaws.{LineStands, LineWrote, joined-wrote, left-wrote, line_first, line-within}
use Rattle.memory.proofs.paging.IdleLaws.{mapped-laid, moved-empty, moved-put, trading-sym}
use Rattle.memory.proofs.paging.MoveLaws.{stands-below}
use Rattle.memory.proofs.paging.PiecesLaws.{Laid}
use Rattle.memory.proofs.paging.CountedLaws.{brought-held, brought_more, free-alone, listed-apart}
use Rattle.rules.proofs.Map.PageLaws.{empty-good}

-- frame f has entered, and the page is counted
unfoldable pub entered : ℕ → Node → Node
entered f n =
    with_paging
    (record {
      swap = n.paging.swap;
      entered = n.paging.entered ++ (f ∷ []);
      out = n.paging.out;
      brought = more n.paging.brought;
    })
    n

-- that is so after these two calls
pub entered-more : {m₁ m₂ : List ℕ} (n : Node) {r : List ℕ} (f : ℕ) → Holds m₁ (entering f n) r → Wrote m₁ m₂ brought_at (more (word m₁ brought_at) ∷ [])
    → Holds m₂ (entered f n) r
unfolding entering brought_more entered with_paging with_entered
entered-more n f h w = brought-held h w

-- what stands when the front of the free line, f, has left it
pub record Opened (m : List ℕ) (n : Node) (r : List ℕ) (f p : ℕ) : Type 0 where
  pub front : ℕ
  pub behind : List ℕ
  pub line : n.free ≡ front ∷ behind
  pub number : f ≡ front
  pub pieces : Pieces m (with_free behind (entered f n)) r
  pub laid : Laid (with_free behind (entered f n))
  pub low : f < page_count paper01
  pub high : p < page_count paper01
  pub swaps : length n.paging.swap ≤ paper01.swap
  pub entries : length (n.paging.entered ++ (f ∷ [])) ≤ paper01.frames

module _ {p : ℕ} {n : Node} (c : Fetching p n) where
  -- the front of the free line is read
  pub fetching-front : {m r : List ℕ} → Holds m n r → word m free_at ≡ get_or n.free 0 0
  fetching-front h = line_first (free-line (holds-pieces h) h.mapped.free-short) c.some

  -- a frame is not in use
  pub fetching-room : OrderRoom n
  fetching-room = omega (arith, line-lengths c.away.owned.sound, c.some)

  module _ {m r : List ℕ} {f : ℕ} (front : f ≡ get_or n.free 0 0) (h : Holds m (entered f n) r) where
    -- the free line can be left
    pub entered-ready : InLine m free_count_at free_at × (0 < word m free_count_at)
    unfolding entered with_paging
    entered-ready =
        let k = holds-pieces h in
        let long = k.long in
        let line = free-line k h.mapped.free-short in
        (line-within line (omega arith) (omega arith), omega (arith, line.counted, c.some))

    pub opened : {m₁ : List ℕ} {y : ℕ} → Left m m₁ free_count_at free_at 0 y → Opened m₁ n r f p
    unfolding entered with_free with_paging
    opened {m₁} gone = go n.free refl
      where
        go : (fs : List ℕ) → n.free ≡ fs → Opened m₁ n r f p
        go [] e = absurd (omega (arith, c.some, ap length e))
        go (x ∷ fs) e =
            let v = h.mapped in
            let k = holds-pieces h in
            let wrote : LineWrote m m₁ free_count_at free_at paper01.frames fs =
            rw e at (left-wrote (free-line k v.free-short) (omega (arith, ap length e)) gone).1 in
            let stand : Every (PageStands m) (map emptied (x ∷ fs)) = rw e at k.free-pages in
            let old = mapped-laid v in
            let number : f ≡ x = front ∙ ap (λ (l : List ℕ). get_or l 0 0) e in
            record {
              front = x;
              behind = fs;
              line = e;
              number = number;
              pieces = free-put k fs stand.1 wrote;
              laid = record {
                group-count = old.group-count;
                groups-whole = old.groups-whole;
                short = old.short;
              };
              low = rw number (stands-below (emptied x) (empty-good paper01) stand.0);
              high = listed_below c.away.owned.sound p c.away.owned.listed;
              swaps = v.swap-short;
              entries = v.entered-short;
            }

  module _ {m₁ m₂ r : List ℕ} {f : ℕ} (t : Opened m₁ n r f p) (moved : PageMoved m₁ m₂ p f) where
    -- the front stood nowhere else
    alone : (count_of f t.behind ≡ 0)
        × ((count_of f n.paging.swap ≡ 0) × (count_of f (concat_map frame_list n.groups) ≡ 0))
    alone = let below = t.low in rw t.number (free-alone c.away.owned.sound t.front t.behind t.line (rw t.number at below))

    -- the page's number is another, and in no line
    apart : p ≢ f
    apart = listed-apart n p f c.away.owned.listed alone.1.1

    unlined : (count_of p t.behind ≡ 0) × (count_of p n.paging.swap ≡ 0)
    unlined =
        let once = listed-once c.away.owned.sound p c.away.owned.listed in
        (omega (arith, once.0, count-append p (t.front ∷ []) t.behind, ap (count_of p) t.line), once.1.0)

    -- the page is there
    pub fetched-pieces : Pieces m₂ (trading f p (with_free t.behind (entered f n))) r
    unfolding entered with_free with_paging
    fetched-pieces =
        subst (λ (u : Node). Pieces m₂ u r) (trading-sym p f (with_free t.behind (entered f n)))
        (moved-put t.pieces t.laid p f t.high t.low alone.0 alone.1.0 unlined.0 unlined.1 apart alone.1.1 moved)

    -- and its swap page is empty
    fetched-left : PageStands m₂ (emptied p)
    unfolding entered with_free with_paging
    fetched-left = moved-empty t.pieces t.laid p f t.high t.low alone.0 alone.1.0 unlined.0 unlined.1 apart moved

    line : LineStands m₂ swap_count_at swap_at paper01.swap n.paging.swap
    unfolding entered trading with_groups with_free with_paging
    line = swap_line fetched-pieces t.swaps t.entries

    -- the swap line can be joined
    pub fetched-ready : InLine m₂ swap_count_at swap_at × ((word m₂ swap_count_at < page_count paper01) × (swap_at + word m₂ swap_count_at < length m₂))
    fetched-ready =
        let long = fetched-pieces.long in
        (line-within line (omega arith) (omega arith), (omega (arith, line.counted, line.few), omega (arith, line.counted, line.few)))

    pub fetched-held : {m₃ : List ℕ} → Joined m₂ m₃ swap_count_at swap_at p → Holds m₃ (bringing p n) r
    unfolding entered bring_in trading with_groups with_free with_paging
    fetched-held {m₃} came =
        let a = c.away in
        go n.free t.line (sound-mapped (bring-sound a.owned.sound p a.high a.owned.listed))
      where
        go : (fs : List ℕ) → fs ≡ t.front ∷ t.behind → Mapped (bring_in p fs n) → Holds m₃ (bring_in p fs n) r
        go [] e mapped = absurd (omega (arith, ap length e))
        go (x ∷ fs) e mapped =
            let ss = n.paging.swap ++ (p ∷ []) in
            let room : length n.paging.swap < paper01.swap = omega (arith, mapped.swap-short, length-append n.paging.swap (p ∷ [])) in
            let joined = joined-wrote line room came in
            let paging : Paging =
            record { swap = ss; entered = n.paging.entered ++ (f ∷ []); out = n.paging.out; brought = more n.paging.brought } in
            let stand : Every (PageStands m₂) (map emptied ss) =
            rw map-append ((every_append (PageStands m₂) (map emptied n.paging.swap) (emptied p ∷ [])).1 (fetched-pieces.swap-pages, (fetched-left, tt))) in
            let k : Pieces m₃ (with_paging paging (trading f p (with_free t.behind n))) r =
            paging-put fetched-pieces paging stand (swap-wrote (entered f n).paging fetched-pieces.paging ss joined) in
            let held : Pieces m₃ (bring_in p (t.front ∷ t.behind) n) r = rw t.number at k in
            pieces-hold mapped (subst (λ (l : List ℕ). Pieces m₃ (bring_in p l n) r) (sym e) held)
