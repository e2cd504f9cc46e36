-- `memory::words::zeros` meets its contract: the | of the words passed is 0 where they are, and only there. Assumes nothing.
use Prim.Native.Nat.{◌+◌, ◌-◌}
use native.Mathlib.Omega.{arith}
use mathlib.Core.Path.{◌≡◌}
use Rattle.rules.specs.Memory.{word}
use Rattle.memory.proofs.words.ZeroLaws.{zero-none, zero-gathered}
use Rattle.memory.proofs.words.zeros.Goals as goal

pub loop-i-init : goal.loop-i-init
loop-i-init c =
    let none : c.args.a - c.args.a ≡ 0 = omega arith in
    rw none (zero-none c.args.m.now c.args.a)

pub loop-i-preserved : goal.loop-i-preserved
unfolding word
loop-i-preserved c =
    let s = c.args in
    let i = c.loop-i.i in
    let next : i + 1 - s.a ≡ i - s.a + 1 = omega arith in
    let here : s.a + (i - s.a) ≡ i = omega arith in
    let gathered = zero-gathered s.m.now s.a (i - s.a) c.loop-i.sum c.loop-i.invariant in
    rw next (rw here at gathered)

pub returns : goal.returns
returns c =
    let s = c.args in
    let n : c.loop-i.i - s.a ≡ s.n = omega arith in
    rw n at c.loop-i.invariant
