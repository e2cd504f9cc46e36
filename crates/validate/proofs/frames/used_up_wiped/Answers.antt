-- `validate::frames::used_up_wiped` meets its contract: the used-up places are the first of the first page. Assumes nothing.
use Prim.Native.Nat.{◌<◌}
use mathlib.Core.Path.{◌∙◌}
use native.Mathlib.Omega.{arith}
use Rattle.rules.specs.Memory.{frame_address}
use Rattle.validate.proofs.frames.WipedLaws.{used-up-none, first-page, used-up-zero}
use Rattle.validate.proofs.frames.used_up_wiped.Goals as goal
use Rattle.validate.proofs.frames.used_up_wiped.Lts as lts
use Rattle.validate.proofs.frames.used_up_wiped.Tie as tie
use Rattle.validate.proofs.frames.used_up_wiped.Reads as past

-- The places of the code that lemmas speak of.

abbrev After-group_word2 : Type 0
After-group_word2 = lts.After-group_word2 tie.the-claims past.Pre past.Post

pub returns-then-used-eq0 : goal.returns-then-used-eq0
returns-then-used-eq0 c =
    used-up-none c.args.m.now c.args.g c.requires _ c.group_word-used.ensures c.if-used-eq0.true

-- the first page
page : (c : After-group_word2) → c.group_word-f.result < 96
page c =
    rw c.group_word-f.ensures (first-page c.args.m.now c.args.g c.requires _ c.group_word-used.ensures c.if-used-eq0.false)

pub page_at-requires : goal.page_at-requires
page_at-requires c = page c.before

pub zeros-requires : goal.zeros-requires
unfolding frame_address
zeros-requires c =
    omega (arith, page c.before.before, c.requires.long, c.requires.used)

pub returns : goal.returns
returns c =
    used-up-zero c.args.m.now c.args.g c.requires _ c.group_word-used.ensures c.if-used-eq0.false
    ∙ rw (← c.group_word-f.ensures, ← c.page_at.ensures) c.zeros.ensures
