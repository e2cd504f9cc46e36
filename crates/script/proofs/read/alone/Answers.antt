-- `script::read::alone` meets its contract: each letter of the table that stands without numbers reads to its own operation, and for every
-- other the table gives none. Assumes nothing.
use mathlib.Core.Bool.{false}
use mathlib.Core.Path.{refl}
use Rattle.rules.specs.Script.{letters, lettered, no_field, force_field}
use Rattle.rules.specs.Script as script
use Rattle.rules.specs.Types.{operation_of}
use Rattle.rules.specs.declared.Operation.TheVariants.{Preempt, Turn, Poll, Dispose, BeginAtomic, EndAtomic}
use Rattle.script.proofs.read.LetterLaws.{reads-alone, reads-not-alone}
use Rattle.script.proofs.read.alone.Goals as goal

pub returns-in-79 : goal.returns-in-79
unfolding operation_of script.operation_of letters lettered no_field
returns-in-79 c = reads-alone c.args.letter Preempt 79 c.in-79.is refl

pub returns-in-67 : goal.returns-in-67
unfolding operation_of script.operation_of letters lettered no_field
returns-in-67 c = reads-alone c.args.letter Turn 67 c.in-67.is refl

pub returns-in-77 : goal.returns-in-77
unfolding operation_of script.operation_of letters lettered no_field
returns-in-77 c = reads-alone c.args.letter Poll 77 c.in-77.is refl

pub returns-in-68 : goal.returns-in-68
unfolding operation_of script.operation_of letters lettered no_field
returns-in-68 c = reads-alone c.args.letter Dispose 68 c.in-68.is refl

pub returns-in-66 : goal.returns-in-66
unfolding operation_of script.operation_of letters lettered force_field
returns-in-66 c = reads-alone c.args.letter (BeginAtomic false) 66 c.in-66.is refl

pub returns-in-78 : goal.returns-in-78
unfolding operation_of script.operation_of letters lettered no_field
returns-in-78 c = reads-alone c.args.letter EndAtomic 78 c.in-78.is refl

pub returns-in_default : goal.returns-in_default
returns-in_default c =
    let r = c.in_default.in_default-own.rest in
    reads-not-alone c.args.letter
    record { no-preempt = r.0.0.0.0.0.1; no-turn = r.0.0.0.0.1; no-poll = r.0.0.0.1; no-dispose = r.0.0.1; no-begin = r.0.1; no_end = r.1 }
