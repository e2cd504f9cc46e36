-- `node::settling::settle` meets its contract: at each turn the pass of the rules goes on at the node that the memory holds. The measure is the queue's count. Assumes nothing.
use Prim.Native.Nat.{◌≤◌}
use native.Mathlib.Omega.{arith}
use mathlib.Core.Path.{◌∙◌}
use lib.ListN.{length}
use Rattle.rules.specs.Memory.{size, word}
use Rattle.memory.proofs.PieceLaws.{holds-pieces}
use Rattle.node.proofs.settling.PassLaws.{Passing, moved-count, passed-settled, passing-group, passing-headed, passing-on, passing-ends, passing-stays}
use Rattle.node.proofs.settling.settle.Goals as goal
use Rattle.node.proofs.settling.settle.Goals.{else-loop-m-test, then-loop-m-test+then-stays}
use Rattle.node.proofs.settling.settle.Lts as lts
use Rattle.node.proofs.settling.settle.Tie as tie
use Rattle.node.proofs.settling.settle.Reads as past

-- The places of the code that lemmas speak of.

abbrev At-loop : Type 0
At-loop = lts.At-loop tie.the-claims past.Pre past.Post goal.the-invariant-loop-m goal.the-decreases-loop-m tie.handed_clauses

-- the pass over the node that the memory held at first
passing : (c : At-loop) → Passing c.loop-m.m c.requires.node c.requires.rest c.loop-m.moved
passing c = let p = c.requires in c.loop-m.invariant.1 p.node p.rest p.holds p.fact

long : (c : At-loop) → size ≤ length c.loop-m.m
long c = (holds-pieces (passing c).holds).long

pub bounds-m-2 : goal.bounds-m-2
bounds-m-2 c = let l = long c.before.before in omega arith

pub slice_reshared_read-stays : goal.slice_reshared_read-stays
slice_reshared_read-stays c = let l = long c.before.before in omega arith

pub stays-requires : goal.stays-requires
unfolding word
stays-requires c = record { le_g = passing-group (passing c.before.before) c.loop-m-test.true; size_in_bounds = long c.before.before }

pub move_head-requires : goal.move_head-requires
unfolding word
move_head-requires c = let p = passing c.before.before.before.before.before in record { node = p.node; rest = c.requires.rest; holds = p.holds; fact = passing-headed p c.loop-m-test.true }

pub loop-m-smaller : goal.loop-m-smaller
unfolding word
loop-m-smaller c = let p = passing c.before.before.before.before.before.before.before.before.before in let e = moved-count p.holds (passing-headed p c.loop-m-test.true) c.move_head.ensures in omega arith

pub loop-m-preserved : goal.loop-m-preserved
unfolding word
loop-m-preserved c = (
  c.move_head.auto.m ∙ c.loop-m.invariant.0,
  λ n r h s.
      passing-on (c.loop-m.invariant.1 n r h s) c.loop-m-test.true
      (λ k t held x e. c.stays.ensures k t held x e ∙ c.if-stays.false) c.move_head.ensures,
)

pub returns : goal.returns
unfolding word
returns c n r h s =
    let p = c.loop-m.invariant.1 n r h s in
    passed-settled
    (elim c.loop-m-test.branch [
      | else-loop-m-test w ↦ passing-ends p w.loop-m-test.false
      | then-loop-m-test+then-stays w ↦ passing-stays p w.loop-m-test.true (λ k t held x e. w.stays.ensures k t held x e ∙ w.if-stays.true)
    ])
    c.rest_timer.ensures
