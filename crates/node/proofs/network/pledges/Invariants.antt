-- `node::network::pledges` meets its contract: before group i the sum is that of the pledges of groups 1 to i - 1. Assumes nothing.
use Prim.Native.Nat.{ℕ, ◌-◌, ◌*◌, ◌≤◌}
use mathlib.Core.List.{List}
use mathlib.Core.Path.{◌≡◌}
use Rattle.rules.specs.Build.{paper01}
use Rattle.rules.specs.Frames.{pledge}
use Rattle.rules.specs.Lists.{up_from}
use Rattle.rules.specs.Node.{Message, Node}
use Rattle.rules.specs.Refusal.{queued}
use Rattle.rules.proofs.Steps.ListLaws.{weight}
use Rattle.memory.specs.Holds.{Holds}
use Rattle.node.proofs.network.pledges.Given as goal

abbrev pub invariant-loop-i : goal.invariant-loop-i
invariant-loop-i l =
    (l.sum ≤ 113 * (l.i - 1))
    × ((n : Node) (r : List ℕ) → Holds l.m n r → (x : Message) → x.group ≡ l.g → l.sum ≡ weight (pledge paper01 (queued x n)) (up_from 1 (l.i - 1)))
