-- `validate::frames::idle_wiped` meets its contract: what no buffer holds is in the free line or in the swap line. Assumes nothing.
use Rattle.std.proofs.Common.{arith}
use Rattle.std.proofs.lemmas.Grind.{common_steps}
use Rattle.validate.proofs.frames.WipedLaws.{idle-tested}
use Rattle.validate.proofs.frames.idle_wiped.Goals as goal

pub returns-then-list_wiped : goal.returns-then-list_wiped
returns-then-list_wiped c = grind (arith, common_steps, idle-tested c.args.m.now)

pub returns-else-list_wiped : goal.returns-else-list_wiped
returns-else-list_wiped c = grind (arith, common_steps, idle-tested c.args.m.now)
