-- `memory::buffer::free_first` meets its contract: the frame is released, and leaves the order of entry. Assumes nothing.
use native.Mathlib.Omega.{arith}
use mathlib.Core.Path.{subst}
use Rattle.rules.specs.Node.{Node}
use Rattle.memory.specs.Holds.{Holds, releasing}
use Rattle.memory.proofs.PieceLaws.{holds-pieces}
use Rattle.memory.proofs.buffer.FreeLaws.{releasing-departed, releasing-order}
use Rattle.memory.proofs.buffer.free_first.Goals as goal

pub group_word-f-requires : goal.group_word-f-requires
group_word-f-requires c =
    record { long = (holds-pieces c.requires.some.holds).long; low = c.requires.le_g.0; high = c.requires.le_g.1; inside = omega arith }

pub depart-requires : goal.depart-requires
depart-requires c =
    let g = c.args.g in
    let p = c.requires.some in
    record {
      node = releasing g p.node;
      rest = p.rest;
      holds = c.release.ensures p.node p.rest p.holds p.fact;
      fact = rw c.group_word-f.ensures (releasing-order p.holds g c.requires.le_g.0 c.requires.le_g.1 p.fact.waits);
    }

pub returns : goal.returns
returns c n r h emptied =
    let g = c.args.g in
    let low = c.requires.le_g.0 in
    let high = c.requires.le_g.1 in
    let f = c.group_word-f.ensures in
    subst (λ (k : Node). Holds c.depart.new.m k r) (rw f (releasing-departed h g low high emptied.waits))
    (c.depart.ensures (releasing g n) r (c.release.ensures n r h emptied) (rw f (releasing-order h g low high emptied.waits)))
