-- `script::feed::behind_last` meets its contract: no newline stands behind the position that the loop has reached. Assumes nothing.
use Prim.Native.Nat.{◌≤◌}
use mathlib.Core.List.{[]}
use mathlib.Core.Path.{◌≡◌}
use lib.ListN.{length, drop}
use Rattle.script.specs.Feeding.{whole}
use Rattle.script.proofs.feed.behind_last.Given as goal

abbrev pub invariant-loop-i : goal.invariant-loop-i
invariant-loop-i l = (l.from ≤ l.i) × ((l.i ≤ length l.s) × (whole (drop l.i l.s) ≡ []))
