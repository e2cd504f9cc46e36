-- `capi::lines::fugu_line` meets its contract: what the call under it answers is told, where the part has room. Assumes nothing.
use Rattle.capi.proofs.ToldLaws.{reports-told, reports-nothing}
use Rattle.capi.proofs.lines.fugu_line.Goals as goal

pub returns-then-report : goal.returns-then-report
returns-then-report c = reports-nothing _ _ _ c.if-report.true

pub returns : goal.returns
returns c =
    reports-told c.if-report.false c.line-played.ensures c.put_report.ensures
