-- `validate::lines::Lines::pledges_fit` meets its contract: the sum is that of the pledges of the groups below g, none above 98. Assumes nothing.
use Prim.Native.Nat.{◌*◌, ◌≤◌}
use mathlib.Core.Path.{◌≡◌}
use Rattle.validate.proofs.lines.CountLaws.{pledged_to}
use Rattle.validate.proofs.lines.Lines.pledges_fit.Given as goal

abbrev pub invariant-loop-g : goal.invariant-loop-g
invariant-loop-g l = (l.sum ≡ pledged_to l.self.m.now l.g) × (l.sum ≤ 98 * l.g)
