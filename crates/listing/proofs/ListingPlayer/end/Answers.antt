-- `listing::Listing::end` meets its contract. Assumes nothing.
use mathlib.Core.Path.{◌∙◌, sym}
use borrow.Author.Tests.{not-false, not-true}
use Rattle.listing.proofs.RunLaws.{finished-begun, finished-none}
use Rattle.listing.proofs.ListingPlayer.end.Goals as goal

pub returns-in_ok-play : goal.returns-in_ok-play
returns-in_ok-play g c = finished-begun (not-true _ (sym c.begun.ensures ∙ c.if-begun.true)) c.in_ok-play.ensures

pub returns-else-begun : goal.returns-else-begun
returns-else-begun g c = finished-none _ _ (not-false _ (sym c.begun.ensures ∙ c.if-begun.false))
