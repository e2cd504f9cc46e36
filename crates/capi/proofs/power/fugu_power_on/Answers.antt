-- `capi::power::fugu_power_on` meets its contract: what the call under it answers is told, where the part has room. Assumes nothing.
use Rattle.capi.proofs.ToldLaws.{reports-told, reports-nothing}
use Rattle.capi.proofs.power.fugu_power_on.Goals as goal

pub returns-then-report : goal.returns-then-report
returns-then-report c = reports-nothing _ _ _ c.if-report.true

pub returns : goal.returns
returns c =
    reports-told c.if-report.false c.power_on-started.ensures c.put_report.ensures
