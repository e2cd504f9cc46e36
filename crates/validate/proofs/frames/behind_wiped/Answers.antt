-- `validate::frames::behind_wiped` meets its contract: the places behind the last message are the last of the last page, or none where that is
-- full. Assumes nothing.
use Prim.Native.Nat.{◌<◌}
use mathlib.Core.Path.{◌∙◌}
use native.Mathlib.Omega.{arith}
use Rattle.rules.specs.Memory.{frame_address}
use Rattle.validate.proofs.frames.PlaceLaws.{room}
use Rattle.validate.proofs.frames.WipedLaws.{behind-none, last-inside, last-page, behind-zero}
use Rattle.validate.proofs.frames.behind_wiped.Goals as goal
use Rattle.validate.proofs.frames.behind_wiped.Lts as lts
use Rattle.validate.proofs.frames.behind_wiped.Tie as tie
use Rattle.validate.proofs.frames.behind_wiped.Reads as past

-- The places of the code that lemmas speak of.

abbrev After-group_word3 : Type 0
After-group_word3 = lts.After-group_word3 tie.the-claims past.Pre past.Post

pub overflow_add-end : goal.overflow_add-end
overflow_add-end c =
    omega (arith, room c.args.m.now c.args.g c.requires, c.requires.few)

pub returns-then-place-eq0 : goal.returns-then-place-eq0
returns-then-place-eq0 c =
    behind-none c.args.m.now c.args.g c.requires _ c.group_word.ensures _ c.group_word-2.ensures c.if-place-eq0.true

pub group_word-f-requires : goal.group_word-f-requires
group_word-f-requires c =
    let inside = last-inside c.args.m.now c.args.g c.requires _ c.group_word.ensures _ c.group_word-2.ensures c.if-place-eq0.false in
    record { long = c.requires.long; low = c.requires.low; high = c.requires.high; inside = inside }

-- the last page
page : (c : After-group_word3) → c.group_word-f.result < 96
page c =
    rw c.group_word-f.ensures
    (last-page c.args.m.now c.args.g c.requires _ c.group_word.ensures _ c.group_word-2.ensures c.if-place-eq0.false)

pub place_at-requires : goal.place_at-requires
place_at-requires c = (page c.before, omega arith)

pub zeros-requires : goal.zeros-requires
unfolding frame_address
zeros-requires c =
    omega (arith, page c.before.before, c.requires.long)

pub returns : goal.returns
returns c =
    behind-zero c.args.m.now c.args.g c.requires _ c.group_word.ensures _ c.group_word-2.ensures c.if-place-eq0.false
    ∙ rw (← c.group_word-f.ensures, ← c.place_at.ensures) c.zeros.ensures
