-- `validate::holds_node` meets its contract: the clauses on the words that are read, then on the frames, then on the lines, each part
-- standing on those before it, are with those on the flags, which it requires, together those of the node. Assumes nothing.
use mathlib.Core.Path.{sym, ◌∙◌}
use Rattle.validate.proofs.FactLaws.{lined}
use Rattle.validate.proofs.TestLaws.{numbers-fail, frames-fail, lines-decide}
use Rattle.validate.proofs.holds_node.Goals as goal
use Rattle.validate.proofs.holds_node.Goals.{then-numbers_good, else-numbers_good}

pub lines_good-requires : goal.lines_good-requires
lines_good-requires c =
    elim c.if-numbers_good.branch [
      | then-numbers_good w ↦
          lined c.args.m.now c.requires.counted c.requires.group_count_value (c.numbers_good.ensures ∙ w.if-numbers_good.true)
          (w.frames_good.ensures ∙ sym w.value-is ∙ c.if-frames_good.true)
      | else-numbers_good w ↦ cc
    ]

pub returns-then-frames_good : goal.returns-then-frames_good
returns-then-frames_good c =
    elim c.if-numbers_good.branch [
      | then-numbers_good w ↦
          lines-decide c.args.m.now c.requires.counted _ c.requires.group_count_value (c.numbers_good.ensures ∙ w.if-numbers_good.true)
          (w.frames_good.ensures ∙ sym w.value-is ∙ c.if-frames_good.true) c.lines_good.ensures
      | else-numbers_good w ↦ cc
    ]

pub returns-else-frames_good : goal.returns-else-frames_good
returns-else-frames_good c =
    elim c.if-numbers_good.branch [
      | then-numbers_good w ↦
          frames-fail c.args.m.now c.requires.counted (w.frames_good.ensures ∙ sym w.value-is ∙ c.if-frames_good.false) ∙ sym c.if-frames_good.false
      | else-numbers_good w ↦
          numbers-fail c.args.m.now c.requires.counted (c.numbers_good.ensures ∙ w.if-numbers_good.false) ∙ sym c.if-frames_good.false
    ]
