-- `capi::steps::step_by_letter` meets its contract: the operation and the words handed on are those of the letter and its numbers. Assumes nothing.
use Rattle.script.proofs.play.PlayLaws.{as_read}
use Rattle.capi.proofs.NumberLaws.{lettered-whole}
use Rattle.capi.proofs.steps.step_by_letter.Goals as goal

pub returns : goal.returns
returns c =
    as_read
    _
    (lettered-whole c.args.letter c.args.arguments.now c.operation-op.result c.first_of.ensures c.words_of.ensures c.operation-op.ensures)
    c.step.ensures
