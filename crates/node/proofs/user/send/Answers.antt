-- `node::user::send` meets its contract. The running group's descriptor is read, the empty one is written in its place, and its words are
-- reported. Assumes nothing.
use native.Mathlib.Omega.{arith}
use mathlib.Core.List.{[]}
use Rattle.rules.specs.Memory.{running_at, word}
use Rattle.rules.specs.Node.{group_of}
use Rattle.memory.proofs.PieceLaws.{holds-pieces}
use Rattle.node.proofs.user.SendLaws.{launch-serves, runner-there}
use Rattle.node.proofs.user.send.Goals as goal

pub bounds-m-0 : goal.bounds-m-0
bounds-m-0 c = omega (arith, (holds-pieces c.requires.holds).long)

pub read-d-requires : goal.read-d-requires
unfolding word
read-d-requires c = let p = c.requires in let both = runner-there p.holds p.fact.running in record { le_g = both.0; size_in_bounds = both.1 }

pub write-requires : goal.write-requires
unfolding word
write-requires c = let p = c.requires in let both = runner-there p.holds p.fact.running in record { le_g = both.0; size_in_bounds = both.1 }

pub returns : goal.returns
unfolding word
returns c n r h ready =
    let e = c.read-d.ensures n r h in
    let held = c.write.ensures [] (omega arith) c.launched.ensures n r h tt in
    launch-serves h c.args.to ready held (c.sent.ensures (group_of n (word c.args.m.now running_at)).descriptor e)
