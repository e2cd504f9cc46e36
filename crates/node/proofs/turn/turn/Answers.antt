-- `node::turn::turn` meets its contract: the bits name what the search finds, and after a step that changes nothing nothing is due. Assumes
-- nothing.
use native.Mathlib.Omega.{arith}
use mathlib.Core.Path.{◌∙◌}
use Rattle.rules.specs.Memory.{word}
use Rattle.rules.specs.Turns.{by_bits}
use Rattle.memory.proofs.PieceLaws.{holds-pieces}
use Rattle.node.proofs.turn.MailLaws.{mail-byte, turn-acts}
use Rattle.node.proofs.turn.turn.Goals as goal

pub bounds-m-0 : goal.bounds-m-0
bounds-m-0 c = omega (arith, (holds-pieces c.requires.holds).long)

pub next-g-requires : goal.next-g-requires
unfolding word
next-g-requires c =
    let p = c.requires in
    (omega (arith, c.mail_set.ensures p.node p.rest p.holds p.fact, mail-byte p.node), omega (arith, (holds-pieces p.holds).running, p.fact.running-bound))

pub returns : goal.returns
unfolding word
returns c n r h v =
    let set = c.mail_set.ensures n r h v in
    turn-acts h v (c.next-g.ensures ∙ (λ i. by_bits (set i) ((holds-pieces h).running i)))
