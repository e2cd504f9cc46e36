-- `memory::frames::depart` meets its contract: the frame leaves where it stands. Assumes nothing.
use Rattle.memory.proofs.lines.IndexLaws.{some-index, some_there}
use Rattle.memory.proofs.buffer.TakeLaws.{departing-held, order-index, order-within}
use Rattle.memory.proofs.frames.depart.Goals as goal
use Rattle.memory.proofs.frames.depart.Goals.{After-unwrap-i}

pub position-requires : goal.position-requires
position-requires c = (order-within c.requires.holds c.args.f c.requires.fact).0

pub unwrap-i-requires : goal.unwrap-i-requires
unwrap-i-requires c =
    let p = c.requires in
    some_there _ c.position.result (rw (order-index p.holds c.args.f) (order-within p.holds c.args.f p.fact).1) c.position.ensures

pub leave-requires : goal.leave-requires
leave-requires c =
    let p = c.requires in
    let within = order-within p.holds c.args.f p.fact in
    let at = rw (order-index p.holds c.args.f) at c.position.ensures in
    record { in_line = within.0; i_bound = rw (some-index _ c.position.result c.unwrap-i.result within.1 at c.unwrap-i.ensures) within.1 }

pub returns : goal.returns
returns c n r h once =
    let within = order-within h c.args.f once in
    let at = rw (order-index h c.args.f) at c.position.ensures in
    departing-held h c.args.f once (rw (some-index _ c.position.result c.unwrap-i.result within.1 at c.unwrap-i.ensures) at c.leave.ensures)
