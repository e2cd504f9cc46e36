-- `node::request` meets its contract: a group runs, and each arm hands on to the function of its request. Assumes nothing.
use native.Mathlib.Omega.{arith}
use Prim.Native.Nat.{ℕ}
use mathlib.Core.List.{List, []}
use mathlib.Core.Path.{◌≡◌, ◌∙◌, ap, sym}
use Rattle.rules.specs.Memory.{running_at, word}
use Rattle.rules.specs.Operation.{Request, user}
use Rattle.rules.specs.Types.{operation_of}
use Rattle.rules.specs.declared.Operation.{Operation as Operation·rt}
use Rattle.memory.proofs.PieceLaws.{holds-pieces}
use Rattle.node.specs.Steps.{IsNode}
use Rattle.node.specs.Steps.{IsRunning}
use Rattle.node.proofs.OperationLaws.{nobody-acts, not-request, somebody-runs}
use Rattle.node.proofs.StepMap.{handed-on}
use Rattle.node.proofs.request.Goals as goal

-- where a group runs on a node, the memory holds such a node
running : (m : List ℕ) → IsNode m → (word m running_at ≡ 0 → ⊥) → IsRunning m
unfolding word
running m p some = record { node = p.node; rest = p.rest; holds = p.holds; fact = somebody-runs p.holds some p.fact }

pub bounds-memory-0 : goal.bounds-memory-0
bounds-memory-0 c = let l = (holds-pieces c.requires.holds).long in omega arith

pub returns-then-memory-eq0 : goal.returns-then-memory-eq0
unfolding word
returns-then-memory-eq0 c q e n r h v = nobody-acts h c.if-memory-eq0.true q

pub poll-requires : goal.poll-requires
unfolding word
poll-requires c = running c.args.memory.now c.requires c.if-memory-eq0.false

pub peek-requires : goal.peek-requires
unfolding word
peek-requires c = running c.args.memory.now c.requires c.if-memory-eq0.false

pub dispose-requires : goal.dispose-requires
unfolding word
dispose-requires c = running c.args.memory.now c.requires c.if-memory-eq0.false

pub begin-requires : goal.begin-requires
unfolding word
begin-requires c = running c.args.memory.now c.requires c.if-memory-eq0.false

pub end-requires : goal.end-requires
unfolding word
end-requires c = running c.args.memory.now c.requires c.if-memory-eq0.false

pub describe-requires : goal.describe-requires
unfolding word
describe-requires c = running c.args.memory.now c.requires c.if-memory-eq0.false

pub launchable-requires : goal.launchable-requires
unfolding word
launchable-requires c = running c.args.memory.now c.requires c.if-memory-eq0.false

-- the request that is asked, by its Rattle name
asked : (op o : Operation·rt) (q : Request) → op ≡ o → operation_of op [] ≡ user q → operation_of o [] ≡ user q
asked op o q is e = ap (λ (x : Operation·rt). operation_of x []) (sym is) ∙ e

pub returns-in-Poll : goal.returns-in-Poll
unfolding word operation_of
returns-in-Poll c q e n r h v = rw (← asked c.args.op _ q c.in-Poll.is e) (c.poll.ensures n r h (somebody-runs h c.if-memory-eq0.false v))

pub returns-in_ok-peek-in-Peek : goal.returns-in_ok-peek-in-Peek
unfolding word operation_of
returns-in_ok-peek-in-Peek c q e n r h v = rw (← asked c.args.op _ q c.in-Peek.is e) (c.in_ok-peek-in-Peek.ensures n r h (somebody-runs h c.if-memory-eq0.false v))

pub returns-in_err-peek-in-Peek : goal.returns-in_err-peek-in-Peek
unfolding word operation_of
returns-in_err-peek-in-Peek c q e n r h v =
    rw (← asked c.args.op _ q c.in-Peek.is e, handed-on c.from_residual.result c.from_residual.ensures.1) (c.in_err-peek-in-Peek.ensures n r h (somebody-runs h c.if-memory-eq0.false v))

pub returns-in-Dispose : goal.returns-in-Dispose
unfolding word operation_of
returns-in-Dispose c q e n r h v = rw (← asked c.args.op _ q c.in-Dispose.is e) (c.dispose.ensures n r h (somebody-runs h c.if-memory-eq0.false v))

pub returns-in-BeginAtomic : goal.returns-in-BeginAtomic
unfolding word operation_of
returns-in-BeginAtomic c q e n r h v = rw (c.accepted.ensures, ← asked c.args.op _ q c.in-BeginAtomic.is e) (c.begin.ensures n r h (somebody-runs h c.if-memory-eq0.false v))

pub returns-in-EndAtomic : goal.returns-in-EndAtomic
unfolding word operation_of
returns-in-EndAtomic c q e n r h v = rw (← asked c.args.op _ q c.in-EndAtomic.is e) (c.end.ensures n r h (somebody-runs h c.if-memory-eq0.false v))

pub returns-in_ok-describe-in-Describe : goal.returns-in_ok-describe-in-Describe
unfolding word operation_of
returns-in_ok-describe-in-Describe c q e n r h v = rw (← asked c.args.op _ q c.in-Describe.is e) (c.in_ok-describe-in-Describe.ensures n r h (somebody-runs h c.if-memory-eq0.false v))

pub returns-in_err-describe-in-Describe : goal.returns-in_err-describe-in-Describe
unfolding word operation_of
returns-in_err-describe-in-Describe c q e n r h v =
    rw (← asked c.args.op _ q c.in-Describe.is e, handed-on c.from_residual-in_err-describe-in-Describe.result c.from_residual-in_err-describe-in-Describe.ensures.1) (c.in_err-describe-in-Describe.ensures n r h (somebody-runs h c.if-memory-eq0.false v))

pub returns-in-Launch : goal.returns-in-Launch
unfolding word operation_of
returns-in-Launch c q e n r h v = rw (← asked c.args.op _ q c.in-Launch.is e) (c.launchable.ensures n r h (somebody-runs h c.if-memory-eq0.false v))

pub returns-in_default : goal.returns-in_default
returns-in_default c q e n r h v = absurd (not-request c.args.op c.in_default.in_default-own.keys8 q e)
