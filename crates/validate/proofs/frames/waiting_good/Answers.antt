-- `validate::frames::waiting_good` meets its contract: the places from h up to p pass, page by page, and the first page that fails decides.
-- Assumes nothing.
use Prim.Native.Nat.{◌+◌, ◌<◌}
use mathlib.Core.Path.{◌∙◌}
use native.Mathlib.Omega.{arith}
use Rattle.rules.specs.Memory.{word, group_address, used_offset, count_offset}
use Rattle.validate.proofs.RangeLaws.{passed_none, passed-all, refused, accepted}
use Rattle.validate.proofs.frames.PlaceLaws.{room, waiting-places, listed-inside, listed-frame, frame-passed, frame-failed}
use Rattle.validate.proofs.frames.waiting_good.Goals as goal
use Rattle.validate.proofs.frames.waiting_good.Lts as lts
use Rattle.validate.proofs.frames.waiting_good.Tie as tie
use Rattle.validate.proofs.frames.waiting_good.Reads as past

-- The places of the code that lemmas speak of.

abbrev After-group_word3 : Type 0
After-group_word3 = lts.After-group_word3 tie.the-claims past.Pre past.Post goal.the-invariant-loop-p goal.the-decreases-loop-p

abbrev In-loop : Type 0
In-loop = lts.In-loop tie.the-claims past.Pre past.Post goal.the-invariant-loop-p goal.the-decreases-loop-p

pub overflow_add-end : goal.overflow_add-end
overflow_add-end c =
    omega (arith, room c.args.m.now c.args.g c.requires)

pub loop-p-init : goal.loop-p-init
loop-p-init c = (omega arith, (omega arith, passed_none _ _))

-- place p is one of the waiting ones
within : (c : In-loop)
    → let s = c.args in
    c.loop-p.p < word s.m.now (group_address s.g + used_offset) + word s.m.now (group_address s.g + count_offset)
within c = omega arith

pub overflow_add-p : goal.overflow_add-p
overflow_add-p c =
    omega (arith, listed-inside c.args.m.now c.args.g c.requires c.loop-p.p (within c.before))

pub group_word-f-requires : goal.group_word-f-requires
group_word-f-requires c =
    let inside = listed-inside c.args.m.now c.args.g c.requires c.loop-p.p (within c.before) in
    record { long = c.requires.long; low = c.requires.low; high = c.requires.high; inside = inside }

-- the page of place p
frame : (c : After-group_word3) → c.group_word-f.result < 96
frame c =
    listed-frame c.args.m.now c.args.g c.requires c.loop-p.p (within c.before) c.group_word-f.result c.group_word-f.ensures

pub places_waiting-requires : goal.places_waiting-requires
places_waiting-requires c =
    (c.requires.long, (frame c.before.before, (omega arith, c.in_frame-to.ensures.1.0)))

pub returns-then-not-places_waiting : goal.returns-then-not-places_waiting
returns-then-not-places_waiting c =
    let m = c.args.m.now in
    let a = group_address c.args.g in
    let k = c.in_frame-to in
    waiting-places m c.args.g c.requires
    ∙ frame-failed m c.args.g c.requires c.loop-p.p (within c.before.before.before.before.before) c.group_word-f.result k.result
    c.group_word-f.ensures k.ensures.1.0 (word m (a + used_offset)) (word m (a + count_offset)) (omega arith) (omega arith)
    (refused c.places_waiting.ensures c.if-not-places_waiting.true)

pub overflow_add-p-in-loop-p : goal.overflow_add-p-in-loop-p
overflow_add-p-in-loop-p c =
    omega (arith, room c.args.m.now c.args.g c.requires, c.requires.few)

pub loop-p-preserved : goal.loop-p-preserved
loop-p-preserved c =
    let k = c.in_frame-to in
    let passed =
    frame-passed c.args.m.now c.args.g c.requires c.loop-p.p (within c.before.before.before.before.before) c.group_word-f.result k.result
    c.group_word-f.ensures k.ensures.1.0 _ c.loop-p.invariant.1.1
    (accepted c.places_waiting.ensures c.if-not-places_waiting.false) in
    (omega arith, (omega arith, passed))

pub returns : goal.returns
returns c =
    let first = c.group_word-used.ensures in
    let many = c.group_word.ensures in
    waiting-places c.args.m.now c.args.g c.requires
    ∙ rw (← first, ← many) (passed-all _ _ _ c.group_word.result c.loop-p.invariant.1.1 (omega arith))
