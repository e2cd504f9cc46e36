-- `node::head` meets its contract: memory that fails the test has no head; else it is the part of the node. Assumes nothing.
use mathlib.Core.Path.{◌∙◌, sym}
use Rattle.rules.proofs.Map.MapHead.{head-none}
use Rattle.node.proofs.message.HeadLaws.{tested-words}
use Rattle.node.proofs.TestedLaws.{tested-node}
use Rattle.node.proofs.head.Goals as goal

pub returns-then-not-is_node : goal.returns-then-not-is_node
returns-then-not-is_node c = sym (head-none _ (sym c.is_node.ensures ∙ c.if-not-is_node.true))

pub head_of_node-requires : goal.head_of_node-requires
head_of_node-requires c = tested-node _ (sym c.is_node.ensures ∙ c.if-not-is_node.false)

pub returns : goal.returns
returns c = tested-words _ _ (sym c.is_node.ensures ∙ c.if-not-is_node.false) c.head_of_node.ensures
