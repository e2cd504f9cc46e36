-- `why::why_program` meets its contract: it ends with what the one that was asked ends with. Assumes nothing.
use borrow.Author.Rules.{rules}
use Rattle.why.proofs.ProgramLaws.{ends-all, ends-line}
use Rattle.why.proofs.why_program.Goals as goal

pub returns-in-Some-Line-clause-told : goal.returns-in-Some-Line-clause-told
returns-in-Some-Line-clause-told g c = ends-line c.asked_of.ensures c.tell_one.result c.status.ensures _ _ (cc) (search rules) c.tell_one.ensures

pub returns-in-Some-All-clause-told : goal.returns-in-Some-All-clause-told
returns-in-Some-All-clause-told g c = ends-all c.asked_of.ensures c.tell_all.result c.status-in-Some-All.ensures _ (cc) (search rules) c.tell_all.ensures
