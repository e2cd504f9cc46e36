-- `capi::feed::fugu_header` meets its contract: the header is 36 bytes. Assumes nothing.
use native.Mathlib.Omega.{arith}
use Rattle.script.proofs.write.ListingLaws.{header-length}
use Rattle.capi.proofs.FeedLaws.{header-nothing, header-written}
use Rattle.capi.proofs.feed.fugu_header.Goals as goal

pub returns-then-out : goal.returns-then-out
returns-then-out c = let h = header-length in header-nothing c.args.out.now (omega arith)

pub put_header-requires : goal.put_header-requires
put_header-requires c = let h = header-length in omega arith

pub returns : goal.returns
returns c = let h = header-length in header-written (omega arith) c.put_header.ensures (omega arith)
