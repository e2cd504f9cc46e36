-- `memory::map::frames_for` meets its contract: the definition's own sum. Assumes nothing.
use mathlib.Core.Path.{refl}
use Rattle.rules.specs.Frames.{ceil_div}
use Rattle.memory.proofs.map.frames_for.Goals as goal

pub returns : goal.returns
unfolding ceil_div
returns c = refl
