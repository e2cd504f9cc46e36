-- `node::kernel::preempt` meets its contract: with nobody running nothing is done; else the processor is taken, and what settling leaves is
-- what O leaves. Assumes nothing.
use native.Mathlib.Omega.{arith}
use mathlib.Core.Path.{◌∙◌, sym}
use Rattle.rules.specs.Memory.{word}
use Rattle.rules.specs.Node.{with_running}
use Rattle.rules.specs.Operation.{preempt}
use Rattle.memory.proofs.PieceLaws.{holds-pieces}
use Rattle.node.proofs.kernel.KernelLaws.{handed, handed-sound, preempt-nobody, preempt-taken}
use Rattle.node.proofs.StepMap.{acting-unsettled, stepping-still}
use Rattle.node.proofs.kernel.preempt.Goals as goal

pub bounds-m-0 : goal.bounds-m-0
bounds-m-0 c = omega (arith, (holds-pieces c.requires.holds).long)

pub returns-then-m-eq0 : goal.returns-then-m-eq0
unfolding word
returns-then-m-eq0 c n r h v = rw c.accepted.ensures (stepping-still preempt (preempt-nobody v (sym (holds-pieces h).running ∙ c.if-m-eq0.true)) h)

pub returns : goal.returns
returns c n r h v =
    acting-unsettled preempt (with_running 0 n) 0 0 (preempt-taken v) (handed-sound v 0 (omega arith)) (omega arith) (handed h 0)
