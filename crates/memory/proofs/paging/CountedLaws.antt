-- Pages counted as they are sent out and brought in, and numbers that stand once: the front of a line is no group's page and stands nowhere
-- else. Assumes nothing.
use Prim.Native.Nat.{ℕ, ◌+◌, ◌<◌}
use native.Mathlib.Omega.{arith}
use mathlib.Core.List.{List, [], ◌∷◌}
use mathlib.Core.Logic.{◌≢◌}
use mathlib.Core.Path.{◌≡◌, refl, ap, ◌∙◌}
use borrow.Author.Tests.{eq-eqb}
use Rattle.rules.specs.Build.{paper01, page_count}
use Rattle.rules.specs.Lists.{concat_map, count_of}
use Rattle.rules.specs.Memory.{out_at, brought_at, word}
use Rattle.rules.specs.Node.{Node, with_paging}
use Rattle.rules.specs.Paging.{more}
use Rattle.rules.specs.Sound.{Listed, Sound}
use Rattle.rules.specs.Valid.{frame_list}
use Rattle.rules.proofs.Steps.PagingLaws.{counted}
use Rattle.memory.specs.Holds.{Holds}
use Rattle.memory.specs.Writes.{Wrote}
use Rattle.memory.proofs.LinePieces.{brought-wrote, out-wrote, paging-held, paging-words}
use Rattle.memory.proofs.PieceLaws.{holds-pieces}

-- The counts.

-- one page more was sent out
unfoldable pub out_more : Node → Node
out_more n =
    with_paging (record { swap = n.paging.swap; entered = n.paging.entered; out = more n.paging.out; brought = n.paging.brought }) n

pub out-held : {m m' : List ℕ} {n : Node} {r : List ℕ} → Holds m n r → Wrote m m' out_at (more (word m out_at) ∷ []) → Holds m' (out_more n) r
unfolding out_more
out-held {n = n} h w =
    let p = holds-pieces h in
    let v = h.mapped in
    paging-held h n.paging.entered (more n.paging.out) n.paging.brought v.entered-short
    (out-wrote n.paging p.paging (more n.paging.out) (rw (paging-words p v.swap-short v.entered-short).out at w))

-- one page more was brought in
unfoldable pub brought_more : Node → Node
brought_more n =
    with_paging (record { swap = n.paging.swap; entered = n.paging.entered; out = n.paging.out; brought = more n.paging.brought }) n

pub brought-held : {m m' : List ℕ} {n : Node} {r : List ℕ} → Holds m n r → Wrote m m' brought_at (more (word m brought_at) ∷ []) → Holds m' (brought_more n) r
unfolding brought_more
brought-held {n = n} h w =
    let p = holds-pieces h in
    let v = h.mapped in
    paging-held h n.paging.entered n.paging.out (more n.paging.brought) v.entered-short
    (brought-wrote n.paging p.paging (more n.paging.brought) (rw (paging-words p v.swap-short v.entered-short).brought at w))

-- A number that stands in a line.

-- the front of a line is counted
front-counted : (xs : List ℕ) (y : ℕ) (ys : List ℕ) → xs ≡ y ∷ ys → count_of y xs ≡ 1 + count_of y ys
front-counted xs y ys e = ap (count_of y) e ∙ rw (eq-eqb y y refl)

-- the front of the swap line stands nowhere else
pub swap-alone : {n : Node} → Sound paper01 n → (s : ℕ) (ss : List ℕ) → n.paging.swap ≡ s ∷ ss → s < page_count paper01
    → (count_of s n.free ≡ 0)
    × ((count_of s ss ≡ 0) × (count_of s (concat_map frame_list n.groups) ≡ 0))
swap-alone {n} sound s ss e below =
    let all = counted sound s in
    let once = sound.frames-once s below in
    let here = front-counted n.paging.swap s ss e in
    (omega arith, (omega arith, omega arith))

-- and so does the front of the free line
pub free-alone : {n : Node} → Sound paper01 n → (f : ℕ) (fs : List ℕ) → n.free ≡ f ∷ fs → f < page_count paper01
    → (count_of f fs ≡ 0)
    × ((count_of f n.paging.swap ≡ 0) × (count_of f (concat_map frame_list n.groups) ≡ 0))
free-alone {n} sound f fs e below =
    let all = counted sound f in
    let once = sound.frames-once f below in
    let here = front-counted n.free f fs e in
    (omega arith, (omega arith, omega arith))

-- a group's page is no such number
pub listed-apart : (n : Node) (p q : ℕ) → Listed p n → count_of q (concat_map frame_list n.groups) ≡ 0 → p ≢ q
listed-apart n p q listed none same = let l = rw same at listed in omega arith
