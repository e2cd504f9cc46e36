-- `node::user::peek` meets its contract. The part of the running group's first message is empty where its line is, and else as long as the
-- message, whose word i is read i words behind the part's start. Assumes nothing.
use Prim.Native.Nat.{◌+◌, ◌≤◌}
use native.Mathlib.Omega.{arith}
use lib.ListN.{length}
use Rattle.rules.specs.Memory.{word}
use Rattle.node.proofs.user.PeekLaws.{first-inside, peek-none, peek-past, peek-there}
use Rattle.node.proofs.user.peek.Goals as goal
use Rattle.node.proofs.user.peek.Lts as lts
use Rattle.node.proofs.user.peek.Tie as tie
use Rattle.node.proofs.user.peek.Reads as past

-- The places of the code that lemmas speak of.

abbrev After-first : Type 0
After-first = lts.After-first tie.the-claims past.Pre past.Post

-- the part lies within the memory
inside : (c : After-first) → c.first-p.result.start + c.first-p.result.len ≤ length c.args.m.now
inside c =
    let p = c.requires in
    (first-inside p.holds p.fact (c.first-p.ensures p.node p.rest p.holds p.fact.valid)).0

pub returns-then-p-eq0 : goal.returns-then-p-eq0
returns-then-p-eq0 c n r h runs =
    let e = c.first-p.ensures n r h runs.valid in
    peek-none h runs e c.args.i c.if-p-eq0.true

pub returns-then-p-at : goal.returns-then-p-at
returns-then-p-at c n r h runs =
    let e = c.first-p.ensures n r h runs.valid in
    let some = c.if-p-eq0.false in
    let past = c.if-p-at.true in
    peek-past h runs e c.args.i (omega arith) (omega arith)

pub overflow_add-result : goal.overflow_add-result
overflow_add-result c = let i = inside c.before.before.before.before.before in omega (arith, c.if-p-at.false)

pub offset_bounds-m-start : goal.offset_bounds-m-start
offset_bounds-m-start c = let i = inside c.before.before.before.before.before in omega (arith, c.if-p-at.false)

pub bounds-m-start : goal.bounds-m-start
bounds-m-start c = let i = inside c.before.before.before.before.before.before in omega (arith, c.if-p-at.false)

pub returns : goal.returns
unfolding word
returns c n r h runs =
    let e = c.first-p.ensures n r h runs.valid in
    let below = c.if-p-at.false in
    peek-there h runs e c.args.i (omega arith)
