-- `script::read::with_number` meets its contract: each letter of the table that takes one number reads to its own operation, and for every
-- other the table gives none. Assumes nothing.
use mathlib.Core.Path.{refl}
use Rattle.rules.specs.Script.{letters, lettered, one_field, force_field}
use Rattle.rules.specs.Script as script
use Rattle.rules.specs.Types.{operation_of}
use Rattle.rules.specs.declared.Operation.TheVariants.{Schedule, Dispatch, Tick, Peek, Describe, Launch}
use Rattle.script.specs.Read.{BeginRead}
use Rattle.script.proofs.read.LetterLaws.{reads-number, reads-not-one}
use Rattle.script.proofs.read.with_number.Goals as goal

pub returns-in-83 : goal.returns-in-83
unfolding operation_of script.operation_of letters lettered one_field
returns-in-83 c =
    let a = c.args in
    reads-number a.letter (Schedule a.number) a.number 83 c.in-83.is refl

pub returns-in-73 : goal.returns-in-73
unfolding operation_of script.operation_of letters lettered one_field
returns-in-73 c =
    let a = c.args in
    reads-number a.letter (Dispatch a.number) a.number 73 c.in-73.is refl

pub returns-in-84 : goal.returns-in-84
unfolding operation_of script.operation_of letters lettered one_field
returns-in-84 c =
    let a = c.args in
    reads-number a.letter (Tick a.number) a.number 84 c.in-84.is refl

pub returns-in-69 : goal.returns-in-69
unfolding operation_of script.operation_of letters lettered one_field
returns-in-69 c =
    let a = c.args in
    reads-number a.letter (Peek a.number) a.number 69 c.in-69.is refl

pub returns-in-66 : goal.returns-in-66
unfolding script.operation_of letters lettered force_field one_field BeginRead
returns-in-66 c =
    let a = c.args in
    reads-number a.letter c.begin.result a.number 66 c.in-66.is c.begin.ensures

pub returns-in-80 : goal.returns-in-80
unfolding operation_of script.operation_of letters lettered one_field
returns-in-80 c =
    let a = c.args in
    reads-number a.letter (Describe a.number) a.number 80 c.in-80.is refl

pub returns-in-76 : goal.returns-in-76
unfolding operation_of script.operation_of letters lettered one_field
returns-in-76 c =
    let a = c.args in
    reads-number a.letter (Launch a.number) a.number 76 c.in-76.is refl

pub returns-in_default : goal.returns-in_default
returns-in_default c =
    let a = c.args in
    let r = c.in_default.in_default-own.rest in
    reads-not-one a.letter a.number
    (λ other.
    record {
      no-arrive = other;
      no-schedule = r.0.0.0.0.0.0.1;
      no-dispatch = r.0.0.0.0.0.1;
      no-tick = r.0.0.0.0.1;
      no-peek = r.0.0.0.1;
      no-begin = r.0.0.1;
      no-describe = r.0.1;
      no-launch = r.1;
    })
