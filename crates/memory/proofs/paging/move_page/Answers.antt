-- `memory::paging::move_page` meets its contract. Assumes nothing.
use native.Mathlib.Omega.{arith}
use Prim.Native.Nat.{ℕ}
use mathlib.Core.Path.{◌≡◌, ap}
use lib.ListN.{replicate}
use Rattle.rules.specs.Memory.{frame_address, frame_stride, words_at}
use Rattle.memory.specs.Writes.{Wrote}
use Rattle.memory.proofs.WriteLaws.{wrote_as, wrote_at}
use Rattle.memory.proofs.paging.TradeLaws.{copied-listing}
use Rattle.memory.proofs.paging.move_page.Goals as goal
use Rattle.memory.proofs.paging.move_page.Lts as lts
use Rattle.memory.proofs.paging.move_page.Tie as tie
use Rattle.memory.proofs.paging.move_page.Reads as past

-- The places of the code that lemmas speak of.

abbrev After-clear : Type 0
After-clear = lts.After-clear tie.the-claims past.Pre past.Post tie.handed_clauses

abbrev After-copy : Type 0
After-copy = lts.After-copy tie.the-claims past.Pre past.Post tie.handed_clauses

abbrev Start : Type 0
Start = lts.Start tie.the-claims past.Pre past.Post tie.handed_clauses

-- The places, from each call to the one before it.

abbrev start : After-copy → Start
start c = c.before.before.before.before.before

abbrev at_copy : After-clear → After-copy
at_copy c = c.before.before.before.before

-- the two addresses
from : (c : After-copy) → c.page_at-from.result ≡ frame_address (start c).args.p
from c = c.page_at-from.ensures

to : (c : After-copy) → c.page_at-to.result ≡ frame_address (start c).args.q
to c = c.page_at-to.ensures

-- the page is copied
copied : (c : After-copy)
    → Wrote (start c).args.m.now c.copy.new.m (frame_address (start c).args.q) (words_at (start c).args.m.now (frame_address (start c).args.p) frame_stride)
copied c = wrote_at (wrote_as c.copy.ensures (ap (λ (a : ℕ). words_at (start c).args.m.now a frame_stride) (from c))) (to c)

-- and what it leaves is wiped
wiped : (c : After-clear) → Wrote (at_copy c).copy.new.m c.clear.new.m (frame_address (start (at_copy c)).args.p) (replicate frame_stride 0)
wiped c = wrote_at c.clear.ensures (from (at_copy c))

pub copy-requires : goal.copy-requires
unfolding frame_address
copy-requires c = record { n_in_bounds = (omega arith, omega arith); n_bound = λ l. omega arith }

pub clear-requires : goal.clear-requires
unfolding frame_address
clear-requires c =
    let s = start c.before.before.before in
    omega (arith, from c.before.before.before, s.requires.p_bound.0, s.requires.listing.long, c.copy.ensures.same_length)

pub trade-requires : goal.trade-requires
trade-requires c =
    let s = start (at_copy c.before.before.before) in
    copied-listing s.args.p (copied-listing s.args.q s.requires.listing (copied (at_copy c.before.before.before))) (wiped c.before.before.before)

pub returns : goal.returns
returns c =
    record {
      twice = (at_copy c.before.before.before.before.before.before.before).copy.new.m;
      copied = copied (at_copy c.before.before.before.before.before.before.before);
      once = c.clear.new.m;
      wiped = wiped c.before.before.before.before.before.before.before;
      lists = c.trade.ensures;
    }
