-- Whether a message may stay at the head of the queue, as it is read from memory. Assumes nothing.
use Prim.Native.Nat.{ℕ}
use mathlib.Core.Bool.{false, not}
use mathlib.Core.List.{List}
use mathlib.Core.Logic.{◌≢◌}
use mathlib.Core.Path.{◌∙◌, ◌≡◌, sym}
use borrow.Author.Tests.{eq-eqb, ne_eqb}
use Rattle.rules.specs.Memory.{running_at, word}
use Rattle.rules.specs.Node.{Message, Node, buffered}
use Rattle.rules.specs.Settling.{may_stay}
use Rattle.memory.specs.Holds.{Holds}
use Rattle.memory.proofs.PieceLaws.{holds-pieces}

module _ {m : List ℕ} {n : Node} {r : List ℕ} (h : Holds m n r) (x : Message) where
  -- another group's may not
  pub stays-other : word m running_at ≢ x.group → may_stay n x ≡ false
  unfolding may_stay
  stays-other other = rw (ne_eqb x.group n.running (λ e. other ((holds-pieces h).running ∙ sym e)))

  -- the running group's may where it is direct
  pub stays-own : word m running_at ≡ x.group → may_stay n x ≡ not (buffered n x.group)
  unfolding may_stay
  stays-own own = rw (eq-eqb x.group n.running (sym own ∙ (holds-pieces h).running))
