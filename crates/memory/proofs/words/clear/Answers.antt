-- `memory::words::clear` meets its contract: the part is written whole. Assumes nothing.
use Prim.Native.Nat.{◌+◌, ◌-◌}
use native.Mathlib.Omega.{arith}
use mathlib.Core.Path.{◌≡◌}
use lib.ListN.{length, take, drop, replicate, length-drop}
use lib.Seq.{length-take-le}
use Rattle.memory.proofs.WriteLaws.{wrote_as, wrote_range}
use Rattle.memory.proofs.words.clear.Goals as goal

pub returns : goal.returns
returns c =
    let a = c.args in
    let m = a.m.now in
    let k : a.at + a.n - a.at ≡ a.n = omega arith in
    let l : length (take a.n (drop a.at m)) ≡ a.n = length-take-le a.n (drop a.at m) (omega (arith, length-drop a.at m)) in
    let zeros : c.fill.new.self ≡ replicate a.n 0 = rw (k, l) at c.fill.ensures.after (λ y h. h) in
    rw k (wrote_as (wrote_range m c.fill.new.self a.at a.n (omega arith) (rw (k, l) at c.fill.ensures.len)) zeros)
