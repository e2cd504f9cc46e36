-- `validate::words::group_flags` meets its contract: it asks the one thing that the clauses on flags come to. Assumes nothing.
use Rattle.std.proofs.Common.{arith}
use Rattle.std.proofs.lemmas.Grind.{common_steps}
use Rattle.validate.proofs.words.WordLaws.{flags_parted}
use Rattle.validate.proofs.words.group_flags.Goals as goal

pub returns-then-group_word-atomic : goal.returns-then-group_word-atomic
returns-then-group_word-atomic c =
    grind (arith, common_steps, flags_parted c.args.m.now c.args.g c.group_word-atomic.result c.group_word-atomic.ensures)

pub returns-else-group_word-atomic : goal.returns-else-group_word-atomic
returns-else-group_word-atomic c =
    grind (arith, common_steps, flags_parted c.args.m.now c.args.g c.group_word-atomic.result c.group_word-atomic.ensures)
