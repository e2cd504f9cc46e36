-- `validate::lines::Lines::has_line` meets its contract: the line is the buffer, then the messages in the queue. Assumes nothing.
use Rattle.std.proofs.Common.{arith}
use Rattle.std.proofs.lemmas.Grind.{common_steps}
use Rattle.validate.proofs.lines.LineLaws.{line-buffered, line-direct}
use Rattle.validate.proofs.lines.Lines.has_line.Goals as goal

pub returns-then-group_word-ne0 : goal.returns-then-group_word-ne0
returns-then-group_word-ne0 c =
    grind (arith, common_steps, line-buffered c.args.self.now.m.now c.args.g (c.args.self.now.lined.framed c.args.g c.requires.0 c.requires.1) _ c.group_word.ensures)

pub returns-else-group_word-ne0 : goal.returns-else-group_word-ne0
returns-else-group_word-ne0 c =
    let queued = c.args.self.now.counted.each c.args.g (omega arith) in
    grind (arith, common_steps, line-direct c.args.self.now.m.now c.args.g (c.args.self.now.lined.framed c.args.g c.requires.0 c.requires.1) _ _ c.group_word.ensures c.if-group_word-ne0.false queued)
