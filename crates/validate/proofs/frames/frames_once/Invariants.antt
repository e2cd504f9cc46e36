-- `validate::frames::frames_once` meets its contract: the numbers of the lists passed are marked, and one that is too large or marked before decides.
-- Assumes nothing.
use Prim.Native.Nat.{◌-◌}
use mathlib.Core.List.{◌++◌}
use Rattle.rules.specs.Memory.{words_at}
use Rattle.validate.specs.Clauses.{listed}
use Rattle.validate.proofs.frames.OnceLaws.{Marked}
use Rattle.validate.proofs.frames.frames_once.Given as goal

abbrev pub invariant-loop-i : goal.invariant-loop-i
invariant-loop-i l = Marked l.limit l.seen (listed l.m l.from (l.l - l.from) ++ words_at l.m l.at l.i)

abbrev pub invariant-loop-l : goal.invariant-loop-l
invariant-loop-l l = Marked l.limit l.seen (listed l.m l.from (l.l - l.from))
