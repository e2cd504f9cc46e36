-- `follow::text::put_why` meets its contract: its parts stand one behind the other. Assumes nothing.
use native.Mathlib.Omega.{arith}
use Rattle.script.proofs.write.AppendedLaws.{appended-as, appended_then}
use Rattle.follow.proofs.text.WhyLaws.{why-row}
use Rattle.follow.proofs.text.put_why.Goals as goal

pub put_named-a-requires : goal.put_named-a-requires
put_named-a-requires c = let p = c.requires in omega arith

pub put_named-b-requires : goal.put_named-b-requires
put_named-b-requires c = let e0 = c.put_named-a.ensures.1 in let l0 = c.put_named-a.auto.out in let p = c.requires in omega arith

pub put_named-c-requires : goal.put_named-c-requires
put_named-c-requires c = let e0 = c.put_named-a.ensures.1 in let e1 = c.put_named-b.ensures.1 in let l0 = c.put_named-a.auto.out in let l1 = c.put_named-b.auto.out in let p = c.requires in omega arith

pub put_text-d-requires : goal.put_text-d-requires
put_text-d-requires c = let e0 = c.put_named-a.ensures.1 in let e1 = c.put_named-b.ensures.1 in let e2 = c.put_named-c.ensures.1 in let l0 = c.put_named-a.auto.out in let l1 = c.put_named-b.auto.out in let l2 = c.put_named-c.auto.out in let p = c.requires in omega arith

pub put_reason-e-requires : goal.put_reason-e-requires
put_reason-e-requires c = let e0 = c.put_named-a.ensures.1 in let e1 = c.put_named-b.ensures.1 in let e2 = c.put_named-c.ensures.1 in let e3 = c.put_text-d.ensures.end in let l0 = c.put_named-a.auto.out in let l1 = c.put_named-b.auto.out in let l2 = c.put_named-c.auto.out in let l3 = c.put_text-d.auto.out in let p = c.requires in omega arith

pub put_text-requires : goal.put_text-requires
put_text-requires c = let e0 = c.put_named-a.ensures.1 in let e1 = c.put_named-b.ensures.1 in let e2 = c.put_named-c.ensures.1 in let e3 = c.put_text-d.ensures.end in let e4 = c.put_reason-e.ensures.1 in let l0 = c.put_named-a.auto.out in let l1 = c.put_named-b.auto.out in let l2 = c.put_named-c.auto.out in let l3 = c.put_text-d.auto.out in let l4 = c.put_reason-e.auto.out in let p = c.requires in omega arith

pub returns : goal.returns
returns c = (appended-as (appended_then c.put_named-a.ensures.0 (appended_then c.put_named-b.ensures.0 (appended_then c.put_named-c.ensures.0 (appended_then c.put_text-d.ensures (appended_then c.put_reason-e.ensures.0 c.put_text.ensures))))) (why-row c.args.arrival c.args.reason c.args.line), let z = c.put_text.ensures.end in let e0 = c.put_named-a.ensures.1 in let e1 = c.put_named-b.ensures.1 in let e2 = c.put_named-c.ensures.1 in let e3 = c.put_text-d.ensures.end in let e4 = c.put_reason-e.ensures.1 in let p = c.requires in omega arith)
