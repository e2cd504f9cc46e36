-- `node::network::queued_of` meets its contract: after i places, k is how many of the queue's first i messages are of group g. Assumes
-- nothing.
use native.Mathlib.Omega.{arith}
use mathlib.Core.Path.{sym, ap, ◌∙◌}
use Rattle.rules.specs.Memory.{word}
use Rattle.node.proofs.network.PledgeReads.{places, among-hit, among-miss, among-all}
use Rattle.node.proofs.network.queued_of.Goals as goal
use Rattle.node.proofs.network.queued_of.Goals.{else-m-queue_at, then-m-queue_at}

pub bounds-m-2 : goal.bounds-m-2
bounds-m-2 c = omega (arith, places c.requires.holds)

pub queue_at-requires : goal.queue_at-requires
unfolding word
queue_at-requires c = omega (arith, places c.requires.holds)

pub bounds-m-queue_at : goal.bounds-m-queue_at
unfolding word
bounds-m-queue_at c = omega (arith, places c.requires.holds, c.queue_at.ensures)

pub loop-i-preserved : goal.loop-i-preserved
unfolding word
loop-i-preserved c =
    let s = c.args in
    let i = c.loop-i.i in
    let v = c.loop-i.invariant in
    let t = c.loop-i-test.true in
    let at = c.queue_at.ensures in (
      elim c.if-m-queue_at.branch [ then-m-queue_at w ↦ omega arith | else-m-queue_at w ↦ omega arith ],
      λ n r h.
          elim c.if-m-queue_at.branch [
            | then-m-queue_at w ↦ omega (arith, v.1 n r h, among-hit h s.g i t (ap (word s.m.now) (sym at) ∙ w.if-m-queue_at.true))
            | else-m-queue_at w ↦ omega (arith, v.1 n r h, among-miss h s.g i t (λ e. w.if-m-queue_at.false (ap (word s.m.now) at ∙ e)))
          ],
    )

pub returns : goal.returns
unfolding word
returns c n r h = c.loop-i.invariant.1 n r h ∙ among-all h c.args.g c.loop-i.i (omega (arith, c.loop-i-test.false))
