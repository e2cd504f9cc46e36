-- `script::line` meets its contract: the words that are read are those of the operation. Assumes nothing.
use mathlib.Core.Path.{◌∙◌, ap}
use Rattle.rules.specs.Types.{operation_of}
use Rattle.script.proofs.play.PlayLaws.{as_read}
use Rattle.script.proofs.line.Goals as goal

pub returns : goal.returns
returns c = as_read _ (ap (operation_of c.read-l.result.op) c.words_of.ensures ∙ c.read-l.ensures.operation) c.step.ensures
