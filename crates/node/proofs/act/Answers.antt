-- `node::act` meets its contract: each arm hands on to the function of its operation. Assumes nothing.
use mathlib.Core.Path.{subst, sym}
use Rattle.std.specs.Prelude.{Ok}
use Rattle.rules.specs.Types.{operation_of}
use Rattle.rules.specs.declared.Operation.{Operation as Operation·rt}
use Rattle.node.specs.Steps.{Acted}
use Rattle.node.proofs.OperationLaws.{a-request, unknown-acts}
use Rattle.node.proofs.act.Goals as goal

pub returns-in-Arrive : goal.returns-in-Arrive
unfolding operation_of
returns-in-Arrive c n r h v = rw c.in-Arrive.is (c.arrive.ensures n r h v)

pub returns-in-Schedule : goal.returns-in-Schedule
unfolding operation_of
returns-in-Schedule c n r h v = rw c.in-Schedule.is (c.schedule.ensures n r h v)

pub returns-in-Preempt : goal.returns-in-Preempt
unfolding operation_of
returns-in-Preempt c n r h v = subst (λ (o : Operation·rt). Acted c.preempt.new.m n r (operation_of o c.args.words.now) (Ok c.preempt.result)) (sym c.in-Preempt.is) (c.preempt.ensures n r h v)

pub returns-in-Dispatch : goal.returns-in-Dispatch
unfolding operation_of
returns-in-Dispatch c n r h v = rw c.in-Dispatch.is (c.dispatch.ensures n r h v)

pub returns-in-Tick : goal.returns-in-Tick
unfolding operation_of
returns-in-Tick c n r h v = rw c.in-Tick.is (c.tick.ensures n r h v)

pub returns-in-Turn : goal.returns-in-Turn
unfolding operation_of
returns-in-Turn c n r h v = subst (λ (o : Operation·rt). Acted c.args.memory.now n r (operation_of o c.args.words.now) (Ok c.turn.result)) (sym c.in-Turn.is) (c.turn.ensures n r h v)

pub returns-in-Unknown : goal.returns-in-Unknown
unfolding operation_of
returns-in-Unknown c n r h v = rw c.in-Unknown.is (unknown-acts h)

pub returns-in_default : goal.returns-in_default
returns-in_default c n r h v = let a = a-request c.args.op c.in_default.in_default-own.keys8 c.args.words.now in rw a.beside (c.request.ensures a.request a.alone n r h v)
