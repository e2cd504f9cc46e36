-- `node::settling::forced` meets its contract: force stands only with atomic, so one word tells. Assumes nothing.
use native.Mathlib.Omega.{arith}
use borrow.Author.Tests.{eq-eqb}
use Rattle.rules.specs.Memory.{running_at, word}
use Rattle.memory.proofs.PieceLaws.{holds-pieces}
use Rattle.node.proofs.settling.TimerLaws.{force-in, forced-nobody, forced-read}
use Rattle.node.proofs.settling.forced.Goals as goal

pub bounds-m-0 : goal.bounds-m-0
bounds-m-0 c = omega (arith, (holds-pieces c.requires.holds).long)

pub group_word-requires : goal.group_word-requires
unfolding word
group_word-requires c = let p = c.requires in force-in p.holds p.fact c.if-g-ne0.true

pub returns-then-g-ne0 : goal.returns-then-g-ne0
unfolding word
returns-then-g-ne0 c n r h s = forced-read h s c.if-g-ne0.true _ c.group_word.ensures

pub returns-else-g-ne0 : goal.returns-else-g-ne0
unfolding word
returns-else-g-ne0 c n r h s = rw (eq-eqb (word c.args.m.now running_at) 0 c.if-g-ne0.false) (forced-nobody h c.if-g-ne0.false)
