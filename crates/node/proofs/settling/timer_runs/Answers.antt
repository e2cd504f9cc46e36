-- `node::settling::timer_runs` meets its contract: the two causes in turn. Assumes nothing.
use native.Mathlib.Omega.{arith}
use mathlib.Core.Path.{◌∙◌}
use borrow.Author.Tests.{ne_eqb}
use Rattle.rules.specs.Memory.{queued_at, word}
use Rattle.memory.proofs.PieceLaws.{holds-pieces}
use Rattle.node.proofs.settling.TimerLaws.{runs-idle, runs-read}
use Rattle.node.proofs.settling.timer_runs.Goals as goal

pub bounds-m-2 : goal.bounds-m-2
bounds-m-2 c = omega (arith, (holds-pieces c.requires.holds).long)

pub returns-then-m-ne0 : goal.returns-then-m-ne0
unfolding word
returns-then-m-ne0 c n r h s = rw (ne_eqb (word c.args.m.now queued_at) 0 c.if-m-ne0.true) (runs-read h c.if-m-ne0.true)

pub returns-else-m-ne0 : goal.returns-else-m-ne0
unfolding word
returns-else-m-ne0 c n r h s = runs-idle h c.if-m-ne0.false ∙ c.forced.ensures n r h s
