-- `memory::words::copy_in` meets its contract: the part is written whole. Assumes nothing.
use Prim.Native.Nat.{◌+◌, ◌-◌}
use native.Mathlib.Omega.{arith}
use mathlib.Core.Path.{◌≡◌, ap}
use lib.ListN.{length}
use Rattle.memory.proofs.WriteLaws.{wrote_as, wrote_range}
use Rattle.memory.proofs.words.copy_in.Goals as goal

pub returns : goal.returns
returns c =
    let a = c.args in
    let k : a.at + length a.words.now - a.at ≡ length a.words.now = omega arith in
    let w = c.copy_all.ensures.after in
    rw k (wrote_as (wrote_range a.m.now c.copy_all.new.to a.at (length a.words.now) (omega arith) (ap length w)) w)
