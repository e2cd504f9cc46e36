-- `memory::map::group_at` meets its contract: the map's address. Assumes nothing.
use mathlib.Core.Path.{refl}
use Rattle.rules.specs.Memory.{group_address}
use Rattle.memory.proofs.map.group_at.Goals as goal

pub returns : goal.returns
unfolding group_address
returns c = refl
