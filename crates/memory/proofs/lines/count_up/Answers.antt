-- `memory::lines::count_up` meets its contract. The loop's invariant: the numbers passed are written. Assumes nothing.
use Prim.Native.Nat.{◌+◌}
use native.Mathlib.Omega.{arith}
use mathlib.Core.Path.{sym}
use Rattle.rules.proofs.Steps.ListLaws.{length-up_from}
use Rattle.memory.proofs.PowerOnLaws.{up_from-more}
use Rattle.memory.proofs.WriteLaws.{wrote_as, wrote-next, wrote_none}
use Rattle.memory.proofs.lines.count_up.Goals as goal

pub loop-i-init : goal.loop-i-init
loop-i-init c = wrote_none _ _

pub loop-i-preserved : goal.loop-i-preserved
loop-i-preserved c =
    let i = c.loop-i.i in
    let from = c.args.from in
    let line = c.args.line in
    let l = length-up_from from i in
    wrote_as (wrote-next c.loop-i.invariant (line + i) (from + i) (omega arith) (omega arith)) (sym (up_from-more from i))
