-- `memory::words::swap` meets its contract. The invariant: i words are exchanged. Assumes nothing.
use native.Mathlib.Omega.{arith}
use Rattle.rules.specs.Memory.{word}
use Rattle.memory.proofs.words.SwapLaws.{swapped-none, swapped-more}
use Rattle.memory.proofs.words.swap.Goals as goal

pub loop-i-init : goal.loop-i-init
loop-i-init c = swapped-none c.args.m.now c.args.a c.args.b

pub loop-i-preserved : goal.loop-i-preserved
unfolding word
loop-i-preserved c =
    let a = c.args in
    let i = c.loop-i.i in
    swapped-more a.a a.b i (omega arith) (omega arith) c.loop-i.invariant
