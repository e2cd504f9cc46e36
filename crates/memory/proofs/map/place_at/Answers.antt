-- `memory::map::place_at` meets its contract. Assumes nothing.
use mathlib.Core.Path.{refl}
use Rattle.rules.specs.Memory.{frame_address}
use Rattle.memory.proofs.map.place_at.Goals as goal

pub returns : goal.returns
unfolding frame_address
returns c = refl
