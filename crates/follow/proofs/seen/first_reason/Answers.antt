-- `follow::seen::first_reason` meets its contract: each arm has the reason of its operation. Assumes nothing.
use borrow.Enum.Refused.{opened}
use native.Mathlib.Omega.{arith}
use Rattle.std.specs.Prelude.{None}
use mathlib.Core.Logic.{⊎_elim}
use mathlib.Core.Path.{refl}
use Rattle.rules.specs.Types.{operation_of}
use Rattle.reasons.specs.ByPlace.{first_reason}
use Rattle.follow.proofs.seen.ReasonLaws.{arrival-known, first-none, first-named, first-quiet}
use Rattle.follow.proofs.seen.first_reason.Goals as goal

pub returns-then-left-eq0 : goal.returns-then-left-eq0
returns-then-left-eq0 c = first-none c.args.memory.now c.args.op c.if-left-eq0.true None

pub own_reason-requires : goal.own_reason-requires
own_reason-requires c = arrival-known c.in-Arrive.is c.requires (let t = c.if-left-eq0.false in omega arith)

pub returns-in-Arrive : goal.returns-in-Arrive
unfolding operation_of first_reason
returns-in-Arrive c = first-named c.args.memory.now c.args.op c.in-Arrive.is c.args.left _ (λ ws. c.own_reason.ensures)

pub returns-in-Schedule : goal.returns-in-Schedule
unfolding operation_of first_reason
returns-in-Schedule c =
    ⊎_elim (λ x. first-named c.args.memory.now c.args.op x.1 c.args.left _ (λ ws. refl))
    (λ e. first-named c.args.memory.now c.args.op e c.args.left _ (λ ws. refl)) c.in-Schedule.is

pub returns-in-Tick : goal.returns-in-Tick
unfolding operation_of first_reason
returns-in-Tick c = first-named c.args.memory.now c.args.op c.in-Tick.is c.args.left _ (λ ws. refl)

pub returns-in-Dispose : goal.returns-in-Dispose
unfolding operation_of first_reason
returns-in-Dispose c = first-named c.args.memory.now c.args.op c.in-Dispose.is c.args.left _ (λ ws. refl)

pub returns-in_default : goal.returns-in_default
returns-in_default c = first-quiet c.args.memory.now c.args.op (opened c.in_default.in_default-own.keys5) c.args.left
