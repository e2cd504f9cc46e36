-- `memory::paging::trade` meets its contract. The invariant: the lists of the groups before g are traded. Assumes nothing.
use Prim.Native.Nat.{◌-◌}
use Rattle.memory.specs.Paging.{Traded}
use Rattle.memory.proofs.paging.trade.Given as goal

abbrev pub invariant-loop-g : goal.invariant-loop-g
invariant-loop-g l = Traded l.initial.m l.m l.p l.q (l.g - 1)
