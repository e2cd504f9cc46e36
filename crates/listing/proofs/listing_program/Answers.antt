-- `listing::listing_program` meets its contract. Assumes nothing.
use native.Mathlib.Omega.{arith}
use borrow.Author.Rules.{rules}
use Rattle.listing.proofs.RunLaws.{exits, exits-badly}
use Rattle.listing.proofs.listing_program.Goals as goal

pub returns-in-Ok-clause-listed : goal.returns-in-Ok-clause-listed
returns-in-Ok-clause-listed g c = exits (search rules) (λ _. c.in-Ok.ensures)

pub returns-in-Err-clause-listed : goal.returns-in-Err-clause-listed
returns-in-Err-clause-listed g c = exits-badly (omega arith)
