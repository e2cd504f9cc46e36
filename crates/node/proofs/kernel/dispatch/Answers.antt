-- `node::kernel::dispatch` meets its contract: past its refusals the processor is given. Assumes nothing.
use native.Mathlib.Omega.{arith}
use mathlib.Core.Path.{◌∙◌, refl, sym}
use Rattle.rules.specs.Memory.{word}
use Rattle.rules.specs.Node.{with_running}
use Rattle.rules.specs.Operation.{dispatch}
use Rattle.rules.specs.Step.{act, valued}
use Rattle.memory.proofs.PieceLaws.{holds-pieces}
use Rattle.node.proofs.kernel.KernelLaws.{dispatch-accepted, dispatch-busy, dispatch-high, dispatch-none, handed, handed-sound}
use Rattle.node.proofs.StepMap.{acting-unsettled, one-act, stepping-refused}
use Rattle.node.proofs.kernel.dispatch.Goals as goal
use Rattle.node.proofs.kernel.dispatch.Goals.{then-g-eq0-via-then-g-eq0, then-g-eq0-via-else-g-eq0+then-g-gt-GROUPS}

pub returns-then-g-eq0 : goal.returns-then-g-eq0
returns-then-g-eq0 c n r h v =
    let g = c.args.g in
    stepping-refused (dispatch g) 13
    (elim c.then-g-eq0.branch [
      | then-g-eq0-via-then-g-eq0 w ↦ dispatch-none n g w.if-g-eq0.true
      | then-g-eq0-via-else-g-eq0+then-g-gt-GROUPS w ↦ dispatch-high n g w.if-g-eq0.false w.if-g-gt-GROUPS.true
    ]) h

pub bounds-m-0 : goal.bounds-m-0
bounds-m-0 c = omega (arith, (holds-pieces c.requires.holds).long)

pub returns-then-m-ne0 : goal.returns-then-m-ne0
unfolding word
returns-then-m-ne0 c n r h v =
    let g = c.args.g in
    stepping-refused (dispatch g) 15
    (dispatch-busy n g c.if-g-eq0.false c.if-g-gt-GROUPS.false (λ e. c.if-m-ne0.true ((holds-pieces h).running ∙ e))) h

pub bounds-m-0-2 : goal.bounds-m-0-2
bounds-m-0-2 c = omega (arith, (holds-pieces c.requires.holds).long)

pub returns : goal.returns
unfolding word act valued
returns c n r h v =
    let g = c.args.g in
    let high = c.if-g-gt-GROUPS.false in
    acting-unsettled (dispatch g) (with_running g n) 0 0 (one-act n (dispatch g) tt (dispatch-accepted n g c.if-g-eq0.false high (sym (holds-pieces h).running ∙ c.if-m-ne0.false)) refl)
    (handed-sound v g high) (omega arith) (handed h g)
