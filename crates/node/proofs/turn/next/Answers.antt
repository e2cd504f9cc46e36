-- `node::turn::next` meets its contract: it computes what `by_bits` says. Assumes nothing.
use Prim.Native.Nat.{ℕ}
use mathlib.Core.Path.{sym, ap}
use Rattle.rules.specs.Turns.{by_bits}
use Rattle.node.proofs.turn.MailLaws.{bits-some}
use Rattle.node.proofs.turn.next.Goals as goal

pub returns-then-set-eq0 : goal.returns-then-set-eq0
unfolding by_bits
returns-then-set-eq0 c = sym (ap (λ (s : ℕ). by_bits s c.args.running) c.if-set-eq0.true)

pub returns : goal.returns
returns c = sym (bits-some c.args.set c.args.running c.if-set-eq0.false)
