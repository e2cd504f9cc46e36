-- `node::network::queued_of` meets its contract: after i places, k is how many of the queue's first i messages are of group g. Assumes
-- nothing.
use Prim.Native.Nat.{ℕ, ◌≤◌}
use mathlib.Core.List.{List}
use mathlib.Core.Path.{◌≡◌}
use Rattle.rules.specs.Node.{Node}
use Rattle.memory.specs.Holds.{Holds}
use Rattle.node.proofs.network.PledgeReads.{among}
use Rattle.node.proofs.network.queued_of.Given as goal

abbrev pub invariant-loop-i : goal.invariant-loop-i
invariant-loop-i l = (l.k ≤ l.i) × ((n : Node) (r : List ℕ) → Holds l.m n r → l.k ≡ among n l.g l.i)
