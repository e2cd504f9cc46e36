-- `memory::frames::grant` meets its contract: a number leaves the free line and joins the list. Assumes nothing.
use Rattle.memory.proofs.buffer.TakeLaws.{free-within, granting-held, list-room}
use Rattle.memory.proofs.frames.grant.Goals as goal

pub leave-f-requires : goal.leave-f-requires
leave-f-requires c = let both = free-within c.requires.some.holds c.args.g c.requires.some.fact in record { in_line = both.0; i_bound = both.1 }

pub join-requires : goal.join-requires
join-requires c =
    let room = list-room c.requires.some.holds c.args.g c.requires.some.fact c.requires.le_g.0 c.requires.le_g.1 c.leave-f.ensures in
    record { in_line = rw c.list_of.ensures room.0; count_bound = rw c.list_of.ensures room.1 }

pub returns : goal.returns
returns c n r h left =
    granting-held h c.args.g left c.requires.le_g.0 c.requires.le_g.1 _ c.leave-f.ensures (rw c.list_of.ensures at c.join.ensures)
