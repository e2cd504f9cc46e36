-- `node::settling::stays` meets its contract: the two tests are those of `may_stay`. Assumes nothing.
use mathlib.Core.Bool.{not}
use mathlib.Core.Path.{◌∙◌, ap, sym}
use borrow.Author.Tests.{ne_eqb}
use Rattle.rules.specs.Memory.{running_at, word}
use Rattle.rules.specs.Node.{buffered}
use Rattle.node.proofs.settling.StayLaws.{stays-other, stays-own}
use Rattle.node.proofs.settling.stays.Goals as goal

pub returns-then-m-g : goal.returns-then-m-g
unfolding word
returns-then-m-g c n r h x e = stays-own h x (c.if-m-g.true ∙ sym e) ∙ ap not (ap (buffered n) e ∙ c.buffered.ensures n r h)

pub returns-else-m-g : goal.returns-else-m-g
unfolding word
returns-else-m-g c n r h x e =
    rw (ne_eqb (word c.args.m.now running_at) c.args.g c.if-m-g.false) (stays-other h x (λ q. c.if-m-g.false (q ∙ e)))
