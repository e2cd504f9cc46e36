-- `memory::Node::start` meets its contract. Assumes nothing.
use native.Mathlib.Omega.{arith}
use mathlib.Core.Path.{◌∙◌}
use lib.ListN.{length-set}
use Rattle.rules.specs.Memory.{free_count_at, swap_count_at}
use Rattle.memory.proofs.WriteLaws.{wrote-set}
use Rattle.memory.proofs.PowerOnLaws.{powered}
use Rattle.memory.proofs.Node.start.Goals as goal

pub count_up-requires : goal.count_up-requires
count_up-requires c = (omega arith, simp length-set (omega (arith, c.clear.ensures.same_length, c.requires)))

pub bounds-memory-8004 : goal.bounds-memory-8004
bounds-memory-8004 c = let l = c.count_up.ensures.same_length in let k = simp length-set at l in omega (arith, c.clear.ensures.same_length, c.requires)

pub count_up-requires-2 : goal.count_up-requires-2
count_up-requires-2 c = let l = c.count_up.ensures.same_length in let k = simp length-set at l in (omega arith, simp length-set (omega (arith, c.clear.ensures.same_length, c.requires)))

pub shape_of-memory : goal.shape_of-memory
shape_of-memory c = simp length-set at c.count_up-2.ensures.same_length ∙ simp length-set at c.count_up.ensures.same_length ∙ c.clear.ensures.same_length

pub returns : goal.returns
returns c =
    let long = c.requires in
    let w₁ = c.clear.ensures in
    let w₃ = c.count_up.ensures in
    let l = simp length-set at w₃.same_length in
    powered long w₁ (wrote-set _ free_count_at 32 (omega (arith, w₁.same_length))) w₃ (wrote-set _ swap_count_at 64 (omega (arith, w₁.same_length))) c.count_up-2.ensures
