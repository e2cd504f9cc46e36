-- `script::read::read_fields` meets its contract: before each comma the numbers up to it are read, and those behind it decide the rest; a bad
-- number, a byte that is none, or a comma past the line's room ends the reading. Assumes nothing.
use native.Mathlib.Omega.{arith}
use mathlib.Core.Path.{◌≡◌, refl}
use lib.ListN.{length-set}
use borrow.Author.Rules.{rules}
use Rattle.std.specs.Prelude.{Some, None, Err}
use Rattle.script.proofs.read.LineEndLaws.{line-at-end}
use Rattle.script.proofs.read.FieldLaws.{fielding-none, fielding-long, fielding-same, fielding-bad, fielding-more, fields-unread, fields-ended, fields-byte}
use Rattle.script.proofs.read.read_fields.Goals as goal

pub loop-i-init : goal.loop-i-init
loop-i-init c = let a = c.args in (fielding-none a.s.now a.at a.fields.now c.requires.0 c.requires.1, refl)

pub returns-then-b-ne44 : goal.returns-then-b-ne44
returns-then-b-ne44 c = fields-byte c.loop-i.invariant.0 c.loop-i-test.true c.if-b-ne44.true c.ended.ensures

pub returns-then-i-at : goal.returns-then-i-at
returns-then-i-at c =
    let r = c.loop-i.invariant.0 in
    let long = c.if-i-at.true in
    fields-unread (fielding-long r c.loop-i-test.true c.if-b-ne44.false (omega arith)) r.inside r.same_line

pub returns-in_err-fields : goal.returns-in_err-fields
returns-in_err-fields c =
    let r = c.loop-i.invariant.0 in
    let h = c.loop-i-test.true in
    let n = c.number-n.ensures in
    let comma = c.if-b-ne44.false in
    let bad : c.number-n.result.value ≡ None = search rules in
    let stop : c.from_residual.result ≡ Err c.number-n.result.next = search rules in
    rw stop (fields-unread (fielding-bad r h comma n bad) n.inside (fielding-same r h comma n))

pub loop-i-preserved : goal.loop-i-preserved
loop-i-preserved c =
    let r = c.loop-i.invariant in
    let room = r.0.room in
    let short = c.if-i-at.false in
    let good : c.number-n.result.value ≡ Some c.in_ok-fields.field-0 = search rules in
    (fielding-more r.0 c.loop-i-test.true c.if-b-ne44.false c.number-n.ensures good (omega arith), simp length-set r.1)

pub returns : goal.returns
returns c = fields-ended c.loop-i.invariant.0 (line-at-end c.args.s.now c.loop-i.i c.loop-i-test.false) c.ended-2.ensures
