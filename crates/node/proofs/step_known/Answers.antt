-- `node::step_known` meets its contract: what is known of the memory decides between the refusal and the untested step. Assumes nothing.
use mathlib.Core.Path.{◌∙◌}
use Rattle.node.proofs.TestedLaws.{untested-answers, tested-node, tested-answers}
use Rattle.node.proofs.step_known.Goals as goal

pub returns-then-not-good : goal.returns-then-not-good
returns-then-not-good c = untested-answers _ _ (c.requires ∙ c.if-not-good.true) c.into.ensures

pub step_node-requires : goal.step_node-requires
step_node-requires c = tested-node _ (c.requires ∙ c.if-not-good.false)

pub returns : goal.returns
returns c = tested-answers c.args.memory.now _ (c.requires ∙ c.if-not-good.false) c.step_node.ensures
