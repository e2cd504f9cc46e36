-- `script::write::put_line` meets its contract: the digits of the number, of which there are at most twenty, and behind them the report. Assumes
-- nothing.
use native.Mathlib.Omega.{arith}
use mathlib.Core.List.{◌++◌}
use mathlib.Core.Path.{ap, ◌∙◌}
use Rattle.rules.specs.Text.{decimal}
use Rattle.script.specs.Written.{behind_number}
use Rattle.script.proofs.write.AppendedLaws.{appended-as, appended_then}
use Rattle.script.proofs.write.CounterLaws.{counts-length}
use Rattle.script.proofs.write.ListingLaws.{line-behind}
use Rattle.script.proofs.write.put_line.Goals as goal

pub put_report-requires : goal.put_report-requires
put_report-requires c =
    let k = c.requires.counting in
    let w = c.put-number.ensures k.number k.counts in
    (c.requires.words, omega (arith, c.requires.room, w.same_length, w.end, counts-length k.counts))

pub returns : goal.returns
returns c =
    let k = c.requires.counting in
    let number = c.put-number.ensures in
    let w = number k.number k.counts in
    let report = c.put_report.ensures in (
      λ i q h e l. appended-as (appended_then (number i h) report.0) (ap (λ r. decimal i ++ behind_number r) e ∙ line-behind l i),
      omega (arith, w.end, counts-length k.counts, report.1),
    )
