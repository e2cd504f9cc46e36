-- `memory::buffer::store` meets its contract: what the message needs first leaves a node in which it can be put. Assumes nothing.
use mathlib.Core.Path.{subst}
use Rattle.rules.specs.Build.{paper01}
use Rattle.rules.specs.Node.{Node}
use Rattle.rules.specs.Paging.{prepared}
use Rattle.memory.specs.Holds.{Holds}
use Rattle.memory.proofs.paging.PrepareLaws.{prepared-put, prepared-storable}
use Rattle.memory.proofs.buffer.store.Goals as goal

pub append-requires : goal.append-requires
append-requires c =
    let p = c.requires.some in record {
      le_g = c.requires.le_g;
      some = record {
        node = prepared paper01 c.args.g p.node;
        rest = p.rest;
        holds = c.prepare.ensures p.node p.rest p.holds p.fact;
        fact = prepared-storable c.requires.le_g.0 c.requires.le_g.1 p.fact;
      };
    }

pub returns : goal.returns
returns c x kept n r h wanting =
    let g = c.args.g in
    subst (λ (k : Node). Holds c.append.new.m k r) (prepared-put x g n kept.group)
    (c.append.ensures x kept (prepared paper01 g n) r
    (c.prepare.ensures n r h wanting) (prepared-storable c.requires.le_g.0 c.requires.le_g.1 wanting))
