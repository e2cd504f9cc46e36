-- `validate::lines::Lines::pending_has_line` meets its contract: a group that is pending has a line. Assumes nothing.
use Rattle.std.proofs.Common.{arith}
use Rattle.std.proofs.lemmas.Grind.{common_steps}
use Rattle.validate.proofs.lines.LineLaws.{pending-off, pending-on}
use Rattle.validate.proofs.lines.Lines.pending_has_line.Goals as goal

pub returns-then-group_word-ne1 : goal.returns-then-group_word-ne1
returns-then-group_word-ne1 c =
    grind (arith, common_steps, pending-off c.args.self.now.m.now c.args.g (c.args.self.now.lined.framed c.args.g c.requires.0 c.requires.1) _ c.group_word.ensures)

pub returns-else-group_word-ne1 : goal.returns-else-group_word-ne1
returns-else-group_word-ne1 c =
    pending-on c.args.self.now.m.now c.args.g (c.args.self.now.lined.framed c.args.g c.requires.0 c.requires.1) _ _ c.group_word.ensures c.if-group_word-ne1.false c.has_line.ensures
