-- `node::user::describe` meets its contract. The running group's descriptor is read; with eight words it is full, and else the one with the
-- word more is written in its place. Assumes nothing.
use Prim.Native.Nat.{◌≤◌}
use native.Mathlib.Omega.{arith}
use mathlib.Core.List.{[], ◌++◌, ◌∷◌}
use mathlib.Core.Path.{ap}
use lib.ListN.{length, length-append}
use Rattle.rules.specs.Build.{word_limit}
use Rattle.rules.specs.Memory.{running_at, word}
use Rattle.rules.specs.Node.{group_of}
use Rattle.memory.specs.declared.descriptor.Descriptor.{Descriptor as Descriptor·rt}
use Rattle.memory.proofs.PieceLaws.{holds-pieces}
use Rattle.node.proofs.user.SendLaws.{describe-full, describe-serves, runner-there}
use Rattle.node.proofs.user.describe.Goals as goal

pub bounds-m-0 : goal.bounds-m-0
bounds-m-0 c = omega (arith, (holds-pieces c.requires.holds).long)

pub read-d-requires : goal.read-d-requires
unfolding word
read-d-requires c = let p = c.requires in let both = runner-there p.holds p.fact in record { le_g = both.0; size_in_bounds = both.1 }

pub returns-then-d-ge-WORDS : goal.returns-then-d-ge-WORDS
unfolding word
returns-then-d-ge-WORDS c n r h runs =
    let e = c.read-d.ensures n r h in
    describe-full h runs e c.args.w c.if-d-ge-WORDS.true

pub write-requires : goal.write-requires
unfolding word
write-requires c = let p = c.requires in let both = runner-there p.holds p.fact in record { le_g = both.0; size_in_bounds = both.1 }

pub returns : goal.returns
unfolding word
returns c n r h runs =
    let d = (group_of n (word c.args.m.now running_at)).descriptor in
    let e = c.read-d.ensures n r h in
    let len = ap (λ (x : Descriptor·rt). x.len) e in
    let room = c.if-d-ge-WORDS.false in
    let few : length (d ++ (c.args.w ∷ [])) ≤ word_limit = omega (arith, length-append d (c.args.w ∷ [])) in
    let next = c.described-next.ensures d e in
    let held = c.write.ensures (d ++ (c.args.w ∷ [])) few next n r h tt in
    describe-serves h runs e c.args.w (omega arith) held (ap (λ (x : Descriptor·rt). x.len) next)
