-- `script::read::operation` meets its contract: the count of numbers decides which letters are looked for, and A takes any but none. Assumes
-- nothing.
use native.Mathlib.Omega.{arith}
use Rattle.script.proofs.read.LetterLaws.{reads_none, reads-one, reads-arrival, reads-many}
use Rattle.script.proofs.read.operation.Goals as goal

pub returns-then-count-eq0 : goal.returns-then-count-eq0
returns-then-count-eq0 c = let a = c.args in reads_none a.letter a.count a.first c.alone.result c.if-count-eq0.true c.alone.ensures

pub returns-then-letter-eq65 : goal.returns-then-letter-eq65
returns-then-letter-eq65 c =
    let a = c.args in
    let Some-number = c.if-count-eq0.false in
    reads-arrival a.letter a.count a.first c.if-letter-eq65.true (omega arith)

pub returns-then-count-gt1 : goal.returns-then-count-gt1
returns-then-count-gt1 c = let a = c.args in reads-many a.letter a.count a.first c.if-count-gt1.true c.if-letter-eq65.false

pub returns : goal.returns
returns c =
    let a = c.args in
    reads-one a.letter a.count a.first c.with_number.result (omega arith) c.if-letter-eq65.false c.with_number.ensures
