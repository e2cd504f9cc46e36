-- `memory::paging::victim` meets its contract: the running group's first page decides, as the laws of the victim say. Assumes nothing.
use native.Mathlib.Omega.{arith}
use Rattle.rules.specs.Memory.{word}
use Rattle.memory.proofs.PieceLaws.{holds-pieces}
use Rattle.memory.proofs.paging.RunnerLaws.{pageless, runner-high}
use Rattle.memory.proofs.paging.VictimLaws.{empty-chosen, nobody-chosen, other-chosen, second-chosen}
use Rattle.memory.proofs.paging.victim.Goals as goal

pub bounds-m-8072 : goal.bounds-m-8072
bounds-m-8072 c = omega (arith, (holds-pieces c.requires.holds).long)

pub bounds-m : goal.bounds-m
bounds-m c = omega (arith, (holds-pieces c.requires.holds).long)

pub group_word-requires : goal.group_word-requires
unfolding word
group_word-requires c =
    let p = c.in-Some.ensures in
    record {
      long = (holds-pieces c.requires.holds).long;
      low = omega (arith, p.0.0, p.1);
      high = omega (arith, runner-high c.requires.holds c.requires.fact.sound p.0.0, p.1);
      inside = omega arith;
    }

pub returns-in-Some : goal.returns-in-Some
unfolding word
returns-in-Some c n r h crowded =
    let p = c.in-Some.ensures in
    second-chosen h crowded p.0.0 (λ e. omega (arith, p.0.1, e)) (cc (p.1, c.group_word.ensures, c.if-group_word-first.true))

pub returns-in_default : goal.returns-in_default
unfolding word
returns-in_default c n r h crowded =
    let p = c.in-Some.ensures in
    other-chosen h crowded p.0.0 (λ e. omega (arith, p.0.1, e)) (λ e. c.if-group_word-first.false (cc (p.1, c.group_word.ensures, e)))

pub returns-in_default-2 : goal.returns-in_default-2
unfolding word
returns-in_default-2 c n r h crowded = pageless c.args.m.now c.in_default.ensures (nobody-chosen h crowded) (empty-chosen h crowded)
