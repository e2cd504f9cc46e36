-- `script::write::put_report` meets its contract: five fields, what was sent, and the newline, one behind the other. Assumes nothing.
use native.Mathlib.Omega.{arith}
use Rattle.script.proofs.write.AppendedLaws.{appended-as, appended-next, appended_then}
use Rattle.script.proofs.write.ListingLaws.{behind-fields}
use Rattle.script.proofs.write.put_report.Goals as goal

pub returns : goal.returns
returns c =
    let fields = c.put_fields-fields.ensures in
    let sent = c.put_sent-end.ensures in
    let room = c.requires.1 in
    (appended-as (appended-next (appended_then fields.0 sent.0) 10 (omega arith)) (behind-fields c.args.r), omega arith)
