-- `script::feed::State::new` meets its contract: nothing is kept. Assumes nothing.
use mathlib.Core.Path.{refl}
use Rattle.script.specs.Feed.{kept_line}
use Rattle.script.specs.Read.{line_of}
use Rattle.script.proofs.feed.State.new.Goals as goal

pub returns : goal.returns
unfolding kept_line line_of
returns c = (refl, refl)
