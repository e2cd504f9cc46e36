-- `why::asked::asked_of` meets its contract: all of the text is a number, or it asks for nothing. Assumes nothing.
use mathlib.Core.Path.{◌∙◌}
use Rattle.why.proofs.AskedLaws.{asked-line, asked-more, asked-none, asks-other}
use Rattle.why.proofs.asked.asked_of.Goals as goal

pub returns-in_err-line : goal.returns-in_err-line
returns-in_err-line c = asks-other c.eq.ensures c.as_slice.ensures c.if-eq.false (c.from_residual.ensures ∙ asked-none c.number-d.ensures c.in_err-line.was)

pub returns-then-d-text : goal.returns-then-d-text
returns-then-d-text c = asks-other c.eq.ensures c.as_slice.ensures c.if-eq.false (asked-more c.number-d.ensures c.in_ok-line.was c.if-d-text.true)

pub returns : goal.returns
returns c = asks-other c.eq.ensures c.as_slice.ensures c.if-eq.false (asked-line c.number-d.ensures c.in_ok-line.was c.if-d-text.false)
