-- `why::one::put_refusal` meets its contract: its parts stand one behind the other. Assumes nothing.
use native.Mathlib.Omega.{arith}
use Rattle.script.proofs.write.AppendedLaws.{appended-as, appended_then}
use Rattle.why.proofs.TextLaws.{refusal-row, words-else, words-unread}
use Rattle.why.proofs.one.put_refusal.Goals as goal

pub returns-then-answer : goal.returns-then-answer
returns-then-answer c = (
  appended-as (appended_then c.put_named-a.ensures.0 (appended_then c.put_named-b.ensures.0 c.put_text.ensures)) (refusal-row c.args.wanted c.args.answer (words-unread c.args.answer c.if-answer.true)),
  let e0 = c.put_named-a.ensures.1 in let e1 = c.put_named-b.ensures.1 in let e2 = c.put_text.ensures.end in omega arith,
)

pub returns : goal.returns
returns c = (
  appended-as (appended_then c.put_named-a.ensures.0 (appended_then c.put_named-b.ensures.0 c.put_text-2.ensures)) (refusal-row c.args.wanted c.args.answer (words-else c.args.answer c.if-answer.false)),
  let e0 = c.put_named-a.ensures.1 in let e1 = c.put_named-b.ensures.1 in let e2 = c.put_text-2.ensures.end in omega arith,
)
