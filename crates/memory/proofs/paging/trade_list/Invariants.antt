-- `memory::paging::trade_list` meets its contract. The invariant: the numbers passed are traded, and the others as they were. Assumes nothing.
use Prim.Native.Nat.{◌-◌}
use mathlib.Core.List.{map}
use Rattle.rules.specs.Memory.{words_at}
use Rattle.rules.specs.Paging.{traded}
use Rattle.memory.specs.Writes.{Wrote}
use Rattle.memory.proofs.paging.trade_list.Given as goal

abbrev pub invariant-loop-i : goal.invariant-loop-i
invariant-loop-i l = Wrote l.initial.m l.m l.at (map (traded l.p l.q) (words_at l.initial.m l.at (l.i - l.at)))
