-- `follow::waiting::tell_line` meets its contract: its message joins, and those at the head leave. Assumes nothing.
use Rattle.follow.proofs.waiting.TellLaws.{line-left, line_quiet}
use Rattle.follow.proofs.waiting.tell_line.Goals as goal

pub returns-in-None : goal.returns-in-None
returns-in-None c = line_quiet c.args.waiting.now c.args.count c.args.i c.args.l c.join-n.result c.join-n.new.waiting (rw c.is_some.ensures at c.join-n.ensures.0) c.join-n.ensures.1 c.in-None.is

pub returns-in-Some : goal.returns-in-Some
returns-in-Some c = line-left c.args.waiting.now c.args.count c.args.i c.args.l c.join-n.result c.join-n.new.waiting (rw c.is_some.ensures at c.join-n.ensures.0) c.join-n.ensures.1 c.in-Some.gone c.in-Some.is c.put_left-end.ensures.0 c.put_left-end.ensures.1 c.leave.ensures.0 c.leave.ensures.1
