-- `script::read::read_at` meets its contract: a newline is an empty line; else the byte is the letter, the fields behind it are read, and where they
-- cannot be, the end of the line is looked for. Assumes nothing.
use native.Mathlib.Omega.{arith}
use mathlib.Core.Path.{refl}
use Rattle.script.proofs.read.LineEndLaws.{end-inside}
use Rattle.script.proofs.read.ReadLaws.{line-is-empty, line-unread, line-is-read}
use Rattle.script.proofs.read.read_at.Goals as goal

pub returns-then-letter-eq-NEWLINE : goal.returns-then-letter-eq-NEWLINE
returns-then-letter-eq-NEWLINE c = rw c.unreadable.ensures (line-is-empty c.requires.0 c.if-letter-eq-NEWLINE.true)

pub overflow_add-end_of_line : goal.overflow_add-end_of_line
overflow_add-end_of_line c =
    let long = c.well_formed.0 in
    omega (arith, c.end_of_line.ensures, end-inside c.args.s.now c.in-Err.stop c.in-Err.ensures.inside)

pub returns-in-Ok : goal.returns-in-Ok
returns-in-Ok c =
    let room = c.requires.1 in
    line-is-read c.requires.0 c.if-letter-eq-NEWLINE.false c.in-Ok.ensures refl (omega (arith, c.read_fields.auto.fields)) c.operation.ensures

pub returns-in-Err : goal.returns-in-Err
returns-in-Err c = rw c.unreadable-in-Err.ensures (line-unread c.requires.0 c.if-letter-eq-NEWLINE.false c.in-Err.ensures refl c.end_of_line.ensures)
