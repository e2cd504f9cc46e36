-- `script::read::begin` meets its contract. Assumes nothing.
use mathlib.Core.Path.{ap, sym}
use Rattle.rules.specs.Operation.{begin_atomic, user}
use Rattle.rules.specs.Script.{yes_or_no}
use Rattle.rules.specs.Types.{operation_of}
use Rattle.script.specs.Read.{BeginRead}
use Rattle.script.proofs.read.LetterLaws.{begins-not}
use Rattle.script.proofs.read.begin.Goals as goal

pub returns-in-0 : goal.returns-in-0
unfolding BeginRead operation_of yes_or_no
returns-in-0 c = sym (ap (yes_or_no (λ f. user (begin_atomic f))) c.in-0.is)

pub returns-in-1 : goal.returns-in-1
unfolding BeginRead operation_of yes_or_no
returns-in-1 c = sym (ap (yes_or_no (λ f. user (begin_atomic f))) c.in-1.is)

pub returns-in_default : goal.returns-in_default
returns-in_default c = let r = c.in_default.in_default-own.rest in begins-not c.args.force r.0.1 r.1
