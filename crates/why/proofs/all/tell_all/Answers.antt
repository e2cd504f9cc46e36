-- `why::all::tell_all` meets its contract: power-on, a new state, a run to the end of its input, and the script's end. Assumes nothing.
use Rattle.why.proofs.AllLaws.{tells_all}
use Rattle.why.proofs.all.tell_all.Goals as goal

pub returns : goal.returns
returns g c = tells_all _ c.play_script.new.memory c.new.result _ c.requires.0 c.start.ensures c.new.ensures c.play_script.ensures
