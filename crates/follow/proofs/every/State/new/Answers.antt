-- `follow::every::State::new` meets its contract: of no lines none waits. Assumes nothing.
use mathlib.Core.Path.{refl}
use Rattle.follow.specs.Every.{waiting_of}
use Rattle.follow.proofs.every.State.new.Goals as goal

pub returns : goal.returns
unfolding waiting_of
returns c = (c.new-script.ensures.0, (c.new-script.ensures.1, refl))
