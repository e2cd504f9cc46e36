-- `validate::frames::swap_pages` meets its contract: the least of the numbers before i is a swap page's where all of them are. Assumes nothing.
use mathlib.Core.Path.{refl}
use Rattle.rules.specs.Memory.{word}
use Rattle.validate.proofs.frames.SwapLaws.{least-more}
use Rattle.validate.proofs.frames.swap_pages.Goals as goal

pub loop-i-preserved : goal.loop-i-preserved
unfolding word
loop-i-preserved c = rw c.min-least.ensures (least-more c.args.m.now c.loop-i.i c.loop-i.least _ c.loop-i.invariant refl)
