-- `validate::frames::past_zero` meets its contract: the | of the words passed, each under its mask, is 0 where those past the length are, and
-- only there. Assumes nothing.
use Prim.Native.Nat.{◌+◌, ◌-◌}
use mathlib.Core.Path.{◌≡◌}
use lib.Dec.{eqb}
use Rattle.rules.specs.MemoryTest.{zero_at}
use Rattle.validate.proofs.frames.past_zero.Given as goal

abbrev pub invariant-loop-j : goal.invariant-loop-j
invariant-loop-j l = zero_at l.m (l.a + l.len) (l.j - l.len) ≡ eqb l.sum 0
