-- `follow::seen::left_by` meets its contract: D alone disposes. Assumes nothing.
use borrow.Enum.Refused.{opened}
use native.Mathlib.Omega.{arith}
use mathlib.Core.Bool.{◌&&◌}
use lib.Dec.{eqb}
use Rattle.follow.proofs.seen.ReasonLaws.{few-disposed, none-disposed, one-disposed}
use Rattle.follow.proofs.seen.left_by.Goals as goal

pub returns-in-Dispose : goal.returns-in-Dispose
returns-in-Dispose c = (one-disposed c.args.op c.in-Dispose.is _ c.args.moved c.disposed.ensures, let k = few-disposed (eqb c.args.answer 0 && eqb c.args.trap 0) c.disposed.ensures in omega arith)

pub returns-in_default : goal.returns-in_default
returns-in_default c = (none-disposed c.args.op (opened c.in_default.in_default-own.keys2) _ c.args.moved, omega arith)
