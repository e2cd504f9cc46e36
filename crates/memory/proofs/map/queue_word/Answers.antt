-- `memory::map::queue_word` meets its contract: the map's sum. Assumes nothing.
use mathlib.Core.Path.{refl}
use Rattle.rules.specs.Memory.{word}
use Rattle.memory.proofs.map.queue_word.Goals as goal

pub returns : goal.returns
unfolding word
returns c = refl
