-- `follow::seen::gone` meets its contract: where the operation has no reason none leaves. Assumes nothing.
use native.Mathlib.Omega.{arith}
use Rattle.reasons.proofs.NumberLaws.{reason-placed}
use Rattle.follow.proofs.seen.ReasonLaws.{gone-none, gone-some}
use Rattle.follow.proofs.seen.gone.Goals as goal

pub returns-in_err-first : goal.returns-in_err-first
returns-in_err-first c = rw (c.from_residual.ensures) (gone-none c.args.memory.now c.args.op c.args.left c.in_err-first.ensures, omega arith)

pub returns : goal.returns
returns c =
    (rw (reason-placed c.in_ok-first.first, reason-placed c.later_reason.result) (gone-some c.args.memory.now c.args.op c.args.left c.in_ok-first.first c.later_reason.result c.in_ok-first.ensures c.later_reason.ensures), omega arith)
