-- `listing::list` meets its contract: power-on, the header, and a run up to the end of its input. Assumes nothing.
use native.Mathlib.Omega.{arith}
use Rattle.script.proofs.write.ListingLaws.{header-length}
use Rattle.listing.proofs.RunLaws.{played}
use Rattle.listing.proofs.list.Goals as goal

pub put_header-header-requires : goal.put_header-header-requires
put_header-header-requires g c = let h = header-length in omega arith

pub returns : goal.returns
returns g c = played _ c.play_script.new.memory c.new.result _ c.requires c.start.ensures c.new.ensures c.play_script.ensures
