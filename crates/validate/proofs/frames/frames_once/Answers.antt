-- `validate::frames::frames_once` meets its contract: the numbers of the lists passed are marked, and one that is too large or marked before decides.
-- Assumes nothing.
use mathlib.Core.Path.{◌≡◌, ◌∙◌}
use native.Mathlib.Omega.{arith}
use Rattle.rules.specs.Memory.{word}
use Rattle.validate.proofs.frames.ListedLaws.{list-bound}
use Rattle.validate.proofs.frames.WalkLaws.{walk_none, walk-enters, walk-next, walk-leaves, walk-over, walk-twice, walk_ends}
use Rattle.validate.proofs.frames.frames_once.Goals as goal
use Rattle.validate.proofs.frames.frames_once.Goals.{then-f-limit-via-then-f-limit, then-f-limit-via-else-f-limit+then-seen-f-ne0}

pub loop-l-init : goal.loop-l-init
loop-l-init c = let s = c.args in walk_none s.m.now s.from s.limit c.requires.from_le_to.1.1

pub loop-i-init : goal.loop-i-init
loop-i-init c =
    let s = c.args in
    walk-enters s.m.now s.from s.limit c.loop-l.seen c.loop-l.l _ c.loop-l.invariant

pub overflow_add-f : goal.overflow_add-f
overflow_add-f c = omega (arith, list-bound c.args.m.now c.requires.counted c.loop-l.l (omega arith))

pub offset_bounds-m-at : goal.offset_bounds-m-at
offset_bounds-m-at c = omega (arith, list-bound c.args.m.now c.requires.counted c.loop-l.l (omega arith))

pub bounds-m-at : goal.bounds-m-at
bounds-m-at c = omega (arith, list-bound c.args.m.now c.requires.counted c.loop-l.l (omega arith))

pub returns-then-f-limit : goal.returns-then-f-limit
unfolding word
returns-then-f-limit c =
    let s = c.args in
    elim c.then-f-limit.branch [
      | then-f-limit-via-then-f-limit w ↦
          walk-over s.m.now s.from s.limit s.to c.requires.from_len c.loop-l.l c.list_at-at.result c.loop-i.i
          (omega arith) (omega arith) c.list_at-at.ensures (omega arith) (omega arith)
      | then-f-limit-via-else-f-limit+then-seen-f-ne0 w ↦
          walk-twice s.m.now s.from s.limit s.to c.requires.from_len c.loop-i.seen c.loop-l.l c.list_at-at.result c.loop-i.i
          (omega arith) (omega arith) c.list_at-at.ensures (omega arith) c.loop-i.invariant (omega arith) w.if-seen-f-ne0.true
    ]

pub loop-i-preserved : goal.loop-i-preserved
unfolding word
loop-i-preserved c =
    let s = c.args in
    walk-next s.m.now s.from s.limit c.loop-i.seen c.loop-l.l c.list_at-at.result c.loop-i.i
    c.loop-i.invariant c.if-f-limit.false c.if-seen-f-ne0.false

pub loop-l-preserved : goal.loop-l-preserved
loop-l-preserved c =
    let s = c.args in
    let e : c.loop-i.i ≡ c.list_count-count.result = omega arith in
    walk-leaves s.m.now s.from s.limit c.loop-i.seen c.loop-l.l _ _ (omega arith) c.list_at-at.ensures
    (e ∙ c.list_count-count.ensures) c.loop-i.invariant

pub returns-after-loop-l : goal.returns-after-loop-l
returns-after-loop-l c =
    let last : c.loop-l.l ≡ c.args.to = omega arith in
    walk_ends c.args.m.now c.args.from c.args.limit c.args.to c.requires.from_len c.loop-l.seen (rw last at c.loop-l.invariant)
