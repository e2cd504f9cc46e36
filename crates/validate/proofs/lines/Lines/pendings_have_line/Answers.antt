-- `validate::lines::Lines::pendings_have_line` meets its contract: its closure answers the test. Assumes nothing.
use mathlib.Core.Path.{refl}
use Rattle.std.proofs.Common.{rules}
use Rattle.rules.specs.Valid.{pending_has_line}
use Rattle.rules.specs.Memory.{node_at}
use Rattle.validate.proofs.AllLaws.{all_range}
use Rattle.validate.proofs.lines.Lines.pendings_have_line.Goals as goal

pub returns : goal.returns
returns c =
    all_range (pending_has_line (node_at c.args.self.now.m.now)) 1 9 8 refl refl c.all.ensures.ran (λ x t q k. search rules)
