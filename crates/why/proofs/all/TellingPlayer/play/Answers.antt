-- `why::all::Telling::play` meets its contract: one call of `tell` on the portion, of which it uses some. Assumes nothing.
use borrow.Author.Rules.{rules}
use Rattle.why.proofs.AllLaws.{plays-some}
use Rattle.why.proofs.all.TellingPlayer.play.Goals as goal

pub returns : goal.returns
returns g c = plays-some c.tell-t.ensures (search rules) c.requires.some c.requires.room
