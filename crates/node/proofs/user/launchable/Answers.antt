-- `node::user::launchable` meets its contract. The running group's descriptor is read; without words it is empty, and a node above 63 is none;
-- else it is to be sent, and nothing is changed yet. Assumes nothing.
use native.Mathlib.Omega.{arith}
use mathlib.Core.Path.{refl}
use Rattle.rules.specs.Memory.{word}
use Rattle.memory.proofs.PieceLaws.{holds-pieces}
use Rattle.node.proofs.user.SendLaws.{launch-empty, launch-far, launch-ready, runner-there}
use Rattle.node.proofs.user.launchable.Goals as goal

pub bounds-m-0 : goal.bounds-m-0
bounds-m-0 c = omega (arith, (holds-pieces c.requires.holds).long)

pub read-d-requires : goal.read-d-requires
unfolding word
read-d-requires c = let p = c.requires in let both = runner-there p.holds p.fact in record { le_g = both.0; size_in_bounds = both.1 }

pub returns-then-d-eq0 : goal.returns-then-d-eq0
unfolding word
returns-then-d-eq0 c n r h runs =
    let e = c.read-d.ensures n r h in
    launch-empty h runs e c.args.to c.if-d-eq0.true

pub returns-then-to-gt-LAST_NODE : goal.returns-then-to-gt-LAST_NODE
unfolding word
returns-then-to-gt-LAST_NODE c n r h runs =
    let e = c.read-d.ensures n r h in
    let some = c.if-d-eq0.false in
    launch-far h runs e c.args.to (omega arith) c.if-to-gt-LAST_NODE.true

pub returns : goal.returns
unfolding word
returns c n r h runs =
    let some = c.if-d-eq0.false in
    let near = c.if-to-gt-LAST_NODE.false in
    record { asked = refl; ready = launch-ready h runs (c.read-d.ensures n r h) c.args.to (omega arith) (omega arith); holds = h }
