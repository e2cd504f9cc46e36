-- `node::settling::settle` meets its contract: at each turn the pass of the rules goes on at the node that the memory holds. The measure is the queue's count. Assumes nothing.
use Prim.Native.Nat.{ℕ}
use mathlib.Core.List.{List}
use mathlib.Core.Path.{◌≡◌}
use lib.ListN.{length}
use Rattle.rules.specs.Build.{paper01}
use Rattle.rules.specs.Memory.{queued_at, word}
use Rattle.rules.specs.Node.{Node}
use Rattle.rules.specs.Sound.{Sound}
use Rattle.memory.specs.Holds.{Holds}
use Rattle.node.proofs.settling.PassLaws.{Passing}
use Rattle.node.proofs.settling.settle.Given as goal

abbrev pub invariant-loop-m : goal.invariant-loop-m
invariant-loop-m l =
    (length l.m ≡ length l.initial.m) × ((n : Node) (r : List ℕ) → Holds l.initial.m n r → Sound paper01 n → Passing l.m n r l.moved)

abbrev pub decreases-loop-m : goal.decreases-loop-m
decreases-loop-m l = word l.m queued_at
