-- `why::one::Following::play` meets its contract: one call of `follow`, with line numbers enough. Assumes nothing.
use native.Mathlib.Omega.{arith}
use Rattle.why.proofs.ReachLaws.{plays-whole}
use Rattle.why.proofs.one.FollowingPlayer.play.Goals as goal

pub returns : goal.returns
returns g c = plays-whole c.follow.ensures (let t = c.if-script-input.false in omega arith) c.requires.some
