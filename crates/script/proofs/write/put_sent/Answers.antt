-- `script::write::put_sent` meets its contract: without words nothing is written, and else node, group and words, each as a field. Assumes nothing.
use native.Mathlib.Omega.{arith}
use mathlib.Core.Path.{sym, ap, ◌∙◌}
use Rattle.script.specs.Written.{fields}
use Rattle.script.proofs.write.AppendedLaws.{appended-none, appended-as, appended_then}
use Rattle.script.proofs.write.ListingLaws.{fields-none, sent-none, sent-fields}
use Rattle.script.proofs.write.put_sent.Goals as goal

pub returns-then-s-eq0 : goal.returns-then-s-eq0
returns-then-s-eq0 c =
    let a = c.args in
    (appended-as (appended-none a.out.now a.at) (sym (ap fields (sent-none a.s c.if-s-eq0.true) ∙ fields-none)), omega arith)

pub returns : goal.returns
returns c =
    let words = c.put_fields.ensures in
    let group = c.put_field-group.ensures in
    let node = c.put_field-node.ensures in (
      appended-as (appended_then (appended_then node.0 group.0) words.0) (sent-fields c.args.s c.if-s-eq0.false),
      omega (arith, node.1, group.1, words.1),
    )
