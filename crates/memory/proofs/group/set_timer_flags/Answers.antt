-- `memory::group::set_timer_flags` meets its contract: the record is read, changed and written. Assumes nothing.
use Rattle.memory.proofs.group.GroupLaws.{timer-flags-held}
use Rattle.memory.proofs.group.set_timer_flags.Goals as goal

pub returns : goal.returns
returns c a p ea ep n r h any =
    timer-flags-held h c.args.g c.requires.low c.requires.high a p (rw (c.set_timer_flags.ensures, c.read-x.ensures, ea, ep) at c.write.ensures)
