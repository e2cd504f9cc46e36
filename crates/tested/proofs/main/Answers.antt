-- `tested::main` is safe and ends: at each turn of the loop the line number is at most what the times so far can have counted. Assumes nothing.
use native.Mathlib.Omega.{arith}
use Rattle.script.proofs.write.ListingLaws.{header-length}
use Rattle.tested.proofs.main.Goals as goal

pub put_header-at-requires : goal.put_header-at-requires
put_header-at-requires c = let h = header-length in omega arith
