-- `node::page_counts` meets its contract: memory that fails the test has counts of 0; else they are two of its words. Assumes nothing.
use native.Mathlib.Omega.{arith}
use Prim.Native.Nat.{◌≤◌}
use mathlib.Core.Bool.{true}
use mathlib.Core.Path.{◌∙◌, ◌≡◌, ap, sym}
use lib.ListN.{length}
use Rattle.rules.specs.Memory.{size, word}
use Rattle.rules.specs.MemoryTest.{is_memory}
use Rattle.rules.proofs.Map.MapLaws.{counts-none, test-size}
use Rattle.node.specs.Counts.{counts_of}
use Rattle.node.proofs.TestedLaws.{tested-counts}
use Rattle.node.proofs.page_counts.Goals as goal
use Rattle.node.proofs.page_counts.Lts as lts
use Rattle.node.proofs.page_counts.Tie as tie
use Rattle.node.proofs.page_counts.Reads as past

-- The places of the code that lemmas speak of.

abbrev Else1 : Type 0
Else1 = lts.Else1 tie.the-claims past.Pre past.Post

pub returns-then-not-is_node : goal.returns-then-not-is_node
returns-then-not-is_node c = ap counts_of (sym (counts-none _ (sym c.is_node.ensures ∙ c.if-not-is_node.true)))

-- memory that passes the test is a node's
tested : (c : Else1) → is_memory c.args.memory.now ≡ true
tested c = sym c.is_node.ensures ∙ c.if-not-is_node.false

long : (c : Else1) → size ≤ length c.args.memory.now
long c = test-size _ (tested c)

pub bounds-memory-8006 : goal.bounds-memory-8006
bounds-memory-8006 c = omega (arith, long c.before.before)

pub bounds-memory-8007 : goal.bounds-memory-8007
bounds-memory-8007 c = omega (arith, long c.before.before.before)

pub returns : goal.returns
unfolding word
returns c = ap counts_of (sym (tested-counts _ (tested c.before.before.before)))
