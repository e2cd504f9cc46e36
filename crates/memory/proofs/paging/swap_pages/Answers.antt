-- `memory::paging::swap_pages` meets its contract. Assumes nothing.
use Rattle.memory.proofs.paging.TradeLaws.{swapped-listing}
use Rattle.memory.proofs.paging.swap_pages.Goals as goal

pub trade-requires : goal.trade-requires
trade-requires c =
    let first = c.page_at-a.ensures in
    let second = c.page_at-b.ensures in
    swapped-listing c.args.f c.args.p 72 c.requires.listing (rw (first, second) at c.swap.ensures)

pub returns : goal.returns
returns c =
    let first = c.page_at-a.ensures in
    let second = c.page_at-b.ensures in
    record {
      between = c.swap.new.m;
      swapped = rw (first, second) at c.swap.ensures;
      lists = c.trade.ensures;
    }
