-- `validate::frames::waiting_good` meets its contract: the places from h up to p pass, page by page, and the first page that fails decides.
-- Assumes nothing.
use Prim.Native.Nat.{◌-◌, ◌≤◌}
use Rattle.validate.specs.Clauses.{waiting_at}
use Rattle.validate.proofs.RangeLaws.{Passed}
use Rattle.validate.proofs.frames.waiting_good.Given as goal

abbrev pub invariant-loop-p : goal.invariant-loop-p
invariant-loop-p l = (l.used ≤ l.p) × ((l.p ≤ l.end) × Passed (waiting_at l.m l.g) l.used l.p)

abbrev pub decreases-loop-p : goal.decreases-loop-p
decreases-loop-p l = l.end - l.p
