-- `node::kernel::revoke` meets its contract: force is written as it is read. Assumes nothing.
use native.Mathlib.Omega.{arith}
use mathlib.Core.Bool.{true}
use mathlib.Core.Path.{◌∙◌, ap, refl}
use Rattle.rules.specs.Memory.{flag_word, word}
use Rattle.rules.specs.Node.{group_of}
use Rattle.rules.specs.Step.{revoke}
use Rattle.memory.specs.declared.group.Group.{Group as Group·rt}
use Rattle.memory.proofs.PieceLaws.{holds-pieces}
use Rattle.node.proofs.RunnerLaws.{runner-force, runner-in, runner-timer-flagged}
use Rattle.node.proofs.kernel.revoke.Goals as goal

pub bounds-m-0 : goal.bounds-m-0
bounds-m-0 c = omega (arith, (holds-pieces c.requires.holds).long)

pub read-x-requires : goal.read-x-requires
unfolding word
read-x-requires c = let p = c.requires in runner-in p.holds p.fact.some p.fact.sound.running-bound _ refl

pub set_timer_flags-requires : goal.set_timer_flags-requires
unfolding word
set_timer_flags-requires c = let p = c.requires in runner-in p.holds p.fact.some p.fact.sound.running-bound _ refl

pub returns : goal.returns
unfolding word flag_word revoke
returns c n r h t =
    let f = (group_of n n.running).force in
    let e = ap (λ (x : Group·rt). x.force) c.read-x.ensures ∙ runner-force h t.some t.sound.running-bound in
    runner-timer-flagged h f true (c.set_timer_flags.ensures f true e refl n r h tt)
