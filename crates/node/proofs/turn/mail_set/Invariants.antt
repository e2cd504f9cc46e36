-- `node::turn::mail_set` meets its contract: with group g still to come, the set is that of the groups above it. Assumes nothing.
use Prim.Native.Nat.{ℕ, suc, ◌-◌}
use mathlib.Core.List.{List}
use mathlib.Core.Path.{◌≡◌}
use Rattle.rules.specs.Build.{group_count, paper01}
use Rattle.rules.specs.Node.{Node}
use Rattle.rules.specs.Turn.{has_mail}
use Rattle.rules.specs.Turns.{set_from}
use Rattle.rules.specs.Valid.{Valid}
use Rattle.memory.specs.Holds.{Holds}
use Rattle.node.proofs.turn.mail_set.Given as goal

abbrev pub invariant-loop-g : goal.invariant-loop-g
invariant-loop-g l =
    (n : Node) (r : List ℕ) → Holds l.m n r → Valid paper01 n → l.set ≡ set_from (has_mail n) (suc l.g) (group_count - l.g)
