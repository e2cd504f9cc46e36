-- `listing::Listing::play` meets its contract: one call of `feed` on the portion, of which it uses some. Assumes nothing.
use borrow.Author.Rules.{rules}
use Rattle.listing.proofs.RunLaws.{plays-some}
use Rattle.listing.proofs.ListingPlayer.play.Goals as goal

pub returns : goal.returns
returns g c = plays-some c.feed-f.ensures (search rules) c.requires.some c.requires.room
