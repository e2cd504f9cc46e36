-- `memory::words::message` meets its contract. Assumes nothing.
use mathlib.Core.Path.{refl}
use Rattle.rules.specs.Memory.{word}
use Rattle.memory.proofs.words.message.Goals as goal

pub returns : goal.returns
unfolding word
returns c = rw c.eight.ensures refl
