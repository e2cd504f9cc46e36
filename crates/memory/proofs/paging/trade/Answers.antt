-- `memory::paging::trade` meets its contract. The invariant: the lists of the groups before g are traded. Assumes nothing.
use Prim.Native.Nat.{◌+◌, ◌-◌}
use native.Mathlib.Omega.{arith}
use mathlib.Core.Path.{◌≡◌}
use Rattle.memory.proofs.paging.TradeLaws.{traded-more, traded-listing}
use Rattle.memory.proofs.paging.trade.Goals as goal

pub trade_list-requires-clause-held_offset_bound : goal.trade_list-requires-clause-held_offset_bound
trade_list-requires-clause-held_offset_bound c =
    (traded-listing c.requires (omega arith) c.loop-g.invariant).short c.loop-g.g (omega arith) (omega arith)

pub loop-g-preserved : goal.loop-g-preserved
loop-g-preserved c =
    let g = c.loop-g.g in
    let this : g ≡ g - 1 + 1 = omega arith in
    let next : g + 1 - 1 ≡ g - 1 + 1 = omega arith in
    rw next (traded-more c.requires c.args.p c.args.q (g - 1) (omega arith) c.loop-g.invariant (rw this at c.trade_list.ensures))
