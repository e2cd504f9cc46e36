-- `node::settling::drain` meets its contract: at each turn the drain goes on at the node that the memory holds, with as many messages left as
-- turns. Assumes nothing.
use Prim.Native.Nat.{ℕ, ◌+◌}
use mathlib.Core.List.{List}
use mathlib.Core.Path.{◌≡◌}
use lib.ListN.{length}
use Rattle.rules.specs.Build.{paper01}
use Rattle.rules.specs.Memory.{queued_at, word}
use Rattle.rules.specs.Node.{Node}
use Rattle.rules.specs.Sound.{Sound}
use Rattle.memory.specs.Holds.{Holds}
use Rattle.node.proofs.settling.PassLaws.{Draining}
use Rattle.node.proofs.settling.drain.Given as goal

abbrev pub invariant-loop : goal.invariant-loop
invariant-loop l =
    (length l.m ≡ length l.initial.m)
    × ((l.counter + word l.m queued_at ≡ l.moved) × ((n : Node) (r : List ℕ) → Holds l.initial.m n r → Sound paper01 n → Draining l.m n r))
