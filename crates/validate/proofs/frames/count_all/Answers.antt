-- `validate::frames::count_all` meets its contract: the total is the length of the lists passed, of at most 96 numbers each. Assumes nothing.
use mathlib.Core.Path.{sym, ap}
use native.Mathlib.Omega.{arith}
use lib.ListN.{length}
use Rattle.validate.proofs.frames.ListedLaws.{listed-none, listed-length, list-bound}
use Rattle.validate.proofs.frames.count_all.Goals as goal

pub loop-l-init : goal.loop-l-init
loop-l-init c = let s = c.args in (sym (ap length (listed-none s.m.now s.from)), omega arith)

pub overflow_add-total : goal.overflow_add-total
overflow_add-total c = omega (arith, list-bound c.args.m.now c.requires.counted c.loop-l.l (omega arith))

pub loop-l-preserved : goal.loop-l-preserved
loop-l-preserved c =
    let s = c.args in
    let l = c.loop-l in
    let more = listed-length s.m.now s.from l.l (omega arith) in
    let few = list-bound s.m.now c.requires.counted l.l (omega arith) in
    (omega arith, omega arith)
