-- `node::message::head_of_node` meets its contract. The part that `first` names is within the memory, and what is lent is that part.
-- Assumes nothing.
use Rattle.node.specs.declared.message.Part.{Part as Part·rt}
use Prim.Native.Nat.{◌+◌, ◌-◌, ◌≤◌}
use native.Mathlib.Omega.{arith}
use mathlib.Core.Path.{◌≡◌, ap}
use lib.ListN.{drop, length, take}
use Rattle.rules.specs.Build.{word_limit}
use Rattle.node.proofs.message.HeadLaws.{part-inside}
use Rattle.node.proofs.message.head_of_node.Goals as goal
use Rattle.node.proofs.message.head_of_node.Lts as lts
use Rattle.node.proofs.message.head_of_node.Tie as tie
use Rattle.node.proofs.message.head_of_node.Reads as past

-- The places of the code that lemmas speak of.

abbrev After-first : Type 0
After-first = lts.After-first tie.the-claims past.Pre past.Post

-- the part lies within the memory
inside : (c : After-first) → (c.first-p.result.start + c.first-p.result.len ≤ length c.args.m.now) × (c.first-p.result.len ≤ word_limit)
inside c =
    let p = c.requires in
    rw (c.first-p.ensures p.node p.rest p.holds p.fact) (part-inside p.holds p.fact)

pub overflow_add-end : goal.overflow_add-end
overflow_add-end c = let i = inside c.before.before in omega arith

pub offset_bounds-m-start : goal.offset_bounds-m-start
offset_bounds-m-start c = let i = inside c.before.before in omega arith

pub slice_bounds-result-end : goal.slice_bounds-result-end
slice_bounds-result-end c = let i = inside c.before.before in omega arith

pub returns : goal.returns
returns c n r h v =
    let p = c.first-p.result in
    let e : p.start + p.len - p.start ≡ p.len = omega arith in
    rw e (ap (λ (q : Part·rt). take q.len (drop q.start c.args.m.now)) (c.first-p.ensures n r h v))
