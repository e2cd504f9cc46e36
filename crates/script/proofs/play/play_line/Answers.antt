-- `script::play::play_line` meets its contract: the line is read, stepped and listed with the next number. Assumes nothing.
use Rattle.script.proofs.play.PlayLaws.{answered-few, line-played}
use Rattle.script.proofs.play.play_line.Goals as goal

pub put_line-end-requires : goal.put_line-end-requires
put_line-end-requires c = record { room = c.requires.room; counting = record { number = _; counts = c.next.ensures _ c.requires.countable.counts }; words = answered-few _ _ c.step_known-r.ensures }

pub returns : goal.returns
returns c = line-played c.read_at-l.ensures (rw c.words_of.ensures at c.step_known-r.ensures) c.next.ensures c.put_line-end.ensures.0 c.put_line-end.ensures.1
