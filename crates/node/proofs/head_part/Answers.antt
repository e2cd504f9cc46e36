-- `node::head_part` meets its contract: as of the head's words. Assumes nothing.
use mathlib.Core.Path.{◌∙◌, ap, sym}
use Rattle.node.specs.Parts.{part_of}
use Rattle.rules.proofs.Map.MapHead.{untested-part}
use Rattle.node.proofs.TestedLaws.{tested-node, tested-part}
use Rattle.node.proofs.head_part.Goals as goal

pub returns-then-not-is_node : goal.returns-then-not-is_node
returns-then-not-is_node c = ap part_of (sym (untested-part _ (sym c.is_node.ensures ∙ c.if-not-is_node.true)))

pub first-requires : goal.first-requires
first-requires c = tested-node _ (sym c.is_node.ensures ∙ c.if-not-is_node.false)

pub returns : goal.returns
returns c = tested-part _ (sym c.is_node.ensures ∙ c.if-not-is_node.false) c.first.ensures
