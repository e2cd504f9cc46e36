-- `capi::head::fugu_head` meets its contract: the part is small, so that its numbers are words. Assumes nothing.
use native.Mathlib.Omega.{arith}
use Rattle.capi.proofs.HeadRange.{head_small}
use Rattle.capi.proofs.ToldLaws.{pair-told, pair-nothing}
use Rattle.capi.proofs.head.fugu_head.Goals as goal

pub returns-then-part : goal.returns-then-part
returns-then-part c = pair-nothing _ _ _ c.if-part.true

pub overflow_cast-part : goal.overflow_cast-part
overflow_cast-part c =
    let small = head_small c.args.memory.now in
    rw c.head_part-head.ensures (record { fits = omega (arith, small.start) })

pub overflow_cast-part-2 : goal.overflow_cast-part-2
overflow_cast-part-2 c =
    let small = head_small c.args.memory.now in
    rw c.head_part-head.ensures (record { fits = omega (arith, small.len) })

pub returns : goal.returns
returns c = rw c.head_part-head.ensures (pair-told _ _ _ c.if-part.false)
