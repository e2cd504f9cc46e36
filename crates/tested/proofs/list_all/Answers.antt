-- `tested::list_all` meets its contract: a line has a byte at least, so there are no more of them than a script has bytes. Assumes nothing.
use native.Mathlib.Omega.{arith}
use Rattle.tested.proofs.CountedLaws.{counts-countable}
use Rattle.tested.proofs.list_all.Goals as goal

pub list-at-requires-clause-countable : goal.list-at-requires-clause-countable
list-at-requires-clause-countable c =
    let i = c.loop-text.invariant in
    let lines = i.1.1.0 in
    let few = c.requires.few in
    counts-countable (i.1.1.1 4200000 c.requires.counts) (omega arith)
