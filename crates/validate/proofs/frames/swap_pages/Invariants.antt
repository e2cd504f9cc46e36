-- `validate::frames::swap_pages` meets its contract: the least of the numbers before i is a swap page's where all of them are. Assumes nothing.
use mathlib.Core.Path.{◌≡◌}
use lib.Dec.{leb}
use Rattle.rules.specs.Lists.{all, up_from}
use Rattle.validate.specs.Clauses.{swap_page}
use Rattle.validate.proofs.frames.swap_pages.Given as goal

abbrev pub invariant-loop-i : goal.invariant-loop-i
invariant-loop-i l = all (swap_page l.m) (up_from 0 l.i) ≡ leb 32 l.least
