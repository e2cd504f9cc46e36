-- `script::write::put_fields` meets its contract. The loop's invariant: so many of the numbers are written as fields, each of at most eleven bytes.
-- Assumes nothing.
use native.Mathlib.Omega.{arith}
use mathlib.Core.Path.{sym}
use Rattle.script.proofs.write.AppendedLaws.{appended-none, appended-as, appended_then}
use Rattle.script.proofs.write.ListingLaws.{fields-none, fields-more}
use Rattle.script.proofs.write.put_fields.Goals as goal

pub loop-i-init : goal.loop-i-init
loop-i-init c = (appended-as (appended-none c.args.out.now c.args.at) (sym fields-none), omega arith)

pub loop-i-preserved : goal.loop-i-preserved
loop-i-preserved c =
    let v = c.loop-i.invariant in
    let w = c.put_field-end.ensures in
    (appended-as (appended_then v.0 w.0) (sym (fields-more c.args.numbers.now c.loop-i.i c.loop-i-test.true)), omega (arith, w.1))
