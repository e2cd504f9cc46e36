-- `memory::words::zeros` meets its contract: the | of the words passed is 0 where they are, and only there. Assumes nothing.
use Prim.Native.Nat.{◌-◌}
use mathlib.Core.Path.{◌≡◌}
use lib.Dec.{eqb}
use Rattle.rules.specs.MemoryTest.{zero_at}
use Rattle.memory.proofs.words.zeros.Given as goal

abbrev pub invariant-loop-i : goal.invariant-loop-i
invariant-loop-i l = zero_at l.m l.a (l.i - l.a) ≡ eqb l.sum 0
