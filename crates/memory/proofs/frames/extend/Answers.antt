-- `memory::frames::extend` meets its contract: the frame in front is granted, and enters. Assumes nothing.
use native.Mathlib.Omega.{arith}
use mathlib.Core.Path.{subst}
use Rattle.rules.specs.Memory.{word}
use Rattle.rules.specs.Node.{Node}
use Rattle.memory.specs.Holds.{Holds, granting}
use Rattle.memory.proofs.PieceLaws.{holds-pieces}
use Rattle.memory.proofs.buffer.TakeLaws.{granting-entered, granting-room}
use Rattle.memory.proofs.frames.extend.Goals as goal

pub bounds-m-164 : goal.bounds-m-164
bounds-m-164 c = omega (arith, (holds-pieces c.requires.some.holds).long)

pub enter-requires : goal.enter-requires
enter-requires c =
    let p = c.requires.some in
    record {
      node = granting c.args.g p.node;
      rest = p.rest;
      holds = c.grant.ensures p.node p.rest p.holds p.fact;
      fact = granting-room p.holds c.args.g p.fact;
    }

pub returns : goal.returns
unfolding word
returns c n r h left =
    let g = c.args.g in
    subst (λ (k : Node). Holds c.enter.new.m k r) (granting-entered h g left)
    (c.enter.ensures (granting g n) r (c.grant.ensures n r h left) (granting-room h g left))
