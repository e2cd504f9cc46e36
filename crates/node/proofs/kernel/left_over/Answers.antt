-- `node::kernel::left_over` meets its contract. Assumes nothing.
use Prim.Native.Nat.{◌%◌}
use mathlib.Core.Bool.{Bool, cond}
use mathlib.Core.Path.{◌∙◌, ap, sym}
use Rattle.node.specs.Steps.{rest}
use Rattle.node.proofs.kernel.left_over.Goals as goal

pub returns-then-forced : goal.returns-then-forced
unfolding rest
returns-then-forced c n r h s = sym (ap (λ (f : Bool). cond f (c.args.t % 256) 0) (c.forced.ensures n r h s ∙ c.if-forced.true))

pub returns-else-forced : goal.returns-else-forced
unfolding rest
returns-else-forced c n r h s = sym (ap (λ (f : Bool). cond f (c.args.t % 256) 0) (c.forced.ensures n r h s ∙ c.if-forced.false))
