-- `memory::frames::enter` meets its contract. Assumes nothing.
use Rattle.memory.proofs.buffer.TakeLaws.{entering-held, order-room}
use Rattle.memory.proofs.frames.enter.Goals as goal

pub join-requires : goal.join-requires
join-requires c = let p = c.requires in let both = order-room p.holds p.fact in record { in_line = both.0; count_bound = both.1 }

pub returns : goal.returns
returns c n r h room = entering-held h room _ c.join.ensures
