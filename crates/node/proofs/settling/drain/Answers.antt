-- `node::settling::drain` meets its contract: at each turn the drain goes on at the node that the memory holds, with as many messages left as
-- turns. Assumes nothing.
use Prim.Native.Nat.{◌<◌}
use native.Mathlib.Omega.{arith}
use mathlib.Core.Path.{◌∙◌, refl}
use Rattle.rules.specs.Memory.{queued_at, word}
use Rattle.memory.proofs.PieceLaws.{holds-pieces}
use Rattle.node.proofs.settling.PassLaws.{Draining, draining-ends, draining-headed, draining-on, moved-count}
use Rattle.node.proofs.settling.drain.Goals as goal
use Rattle.node.proofs.settling.drain.Lts as lts
use Rattle.node.proofs.settling.drain.Tie as tie
use Rattle.node.proofs.settling.drain.Reads as past

-- The places of the code that lemmas speak of.

abbrev At-loop : Type 0
At-loop = lts.At-loop tie.the-claims past.Pre past.Post goal.the-invariant-loop goal.the-decreases-loop

-- the drain of the node that the memory held at first
draining : (c : At-loop) → Draining c.loop.m c.requires.node c.requires.rest
draining c = let p = c.requires in c.loop.invariant.1.1 p.node p.rest p.holds p.fact

pub bounds-m-2 : goal.bounds-m-2
bounds-m-2 c = let l = (holds-pieces c.requires.holds).long in omega arith

pub loop-init : goal.loop-init
unfolding word
loop-init c = (refl, (omega arith, λ n r h s. record { node = n; holds = h; sound = s; drained = refl }))

pub move_head-requires : goal.move_head-requires
unfolding word
move_head-requires c =
    let d = draining c.before.before in
    record { node = d.node; rest = c.requires.rest; holds = d.holds; fact = draining-headed d (omega (arith, c.loop.invariant.1.0, c.loop-test.true)) }

pub loop-preserved : goal.loop-preserved
unfolding word
loop-preserved c =
    let d = draining c.before.before.before.before.before.before in
    let some : 0 < word c.loop.m queued_at = omega (arith, c.loop.invariant.1.0, c.loop-test.true) in
    let e = moved-count d.holds (draining-headed d some) c.move_head.ensures in
    (c.move_head.auto.m ∙ c.loop.invariant.0, (omega (arith, c.loop.invariant.1.0, e), λ n r h s. draining-on (c.loop.invariant.1.1 n r h s) some c.move_head.ensures))

pub returns : goal.returns
unfolding word
returns c n r h s =
    draining-ends (c.loop.invariant.1.1 n r h s) (omega (arith, c.loop.invariant.1.0, c.loop-test.false)) (holds-pieces h).queued
