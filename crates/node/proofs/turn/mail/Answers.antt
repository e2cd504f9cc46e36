-- `node::turn::mail` meets its contract: a group has mail where its buffer holds messages, and else where some of its own are queued. Assumes nothing.
use native.Mathlib.Omega.{arith}
use mathlib.Core.Path.{sym, ap, ◌∙◌}
use lib.Dec.{ltb}
use Rattle.memory.proofs.PieceLaws.{holds-pieces}
use Rattle.node.proofs.turn.MailLaws.{buffered-mail, queued-mail}
use Rattle.node.proofs.turn.mail.Goals as goal

pub holds-requires : goal.holds-requires
holds-requires c =
    let p = c.requires in
    record { long = (holds-pieces p.node.holds).long; low = p.le_g.0; high = p.le_g.1; inside = omega arith }

pub returns-then-holds : goal.returns-then-holds
returns-then-holds c n r h v =
    c.if-holds.true ∙ sym (buffered-mail v c.args.g c.requires.le_g.0 c.requires.le_g.1 (c.holds.ensures n r h ∙ c.if-holds.true))

pub returns-else-holds : goal.returns-else-holds
returns-else-holds c n r h v =
    ap (ltb 0) (c.queued_of.ensures n r h) ∙ queued-mail n c.args.g (c.holds.ensures n r h ∙ c.if-holds.false)
