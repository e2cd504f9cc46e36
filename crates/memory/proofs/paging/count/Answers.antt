-- `memory::paging::count` meets its contract. Assumes nothing.
use Rattle.rules.specs.Memory.{word}
use Rattle.rules.specs.Paging.{more}
use Rattle.memory.proofs.WriteLaws.{wrote-set}
use Rattle.memory.proofs.paging.count.Goals as goal

pub returns : goal.returns
unfolding word
returns c =
    let a = c.args in
    rw c.more.ensures (wrote-set a.m.now a.at (more (word a.m.now a.at)) c.requires)
