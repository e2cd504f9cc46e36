-- `validate::frames::past_zero` meets its contract: the | of the words passed, each under its mask, is 0 where those past the length are, and
-- only there. Assumes nothing.
use Prim.Native.Nat.{◌+◌, ◌-◌}
use mathlib.Core.Path.{◌≡◌}
use native.Mathlib.Omega.{arith}
use Rattle.std.proofs.Common.{rules}
use Rattle.rules.specs.Memory.{word}
use Rattle.memory.proofs.words.ZeroLaws.{zero-none}
use Rattle.validate.proofs.frames.MaskLaws.{past_masks, past-gathered}
use Rattle.validate.proofs.frames.past_zero.Goals as goal

pub loop-j-init : goal.loop-j-init
loop-j-init c =
    let s = c.args in
    let none : 0 - s.len ≡ 0 = omega arith in
    rw none (zero-none s.m.now (s.a + s.len))

pub loop-j-preserved : goal.loop-j-preserved
unfolding word past_masks
loop-j-preserved c =
    let m = c.args.m.now in
    past-gathered m c.args.a c.args.len c.loop-j.j c.loop-j.sum (omega arith) (omega arith) (search rules) c.loop-j.invariant
