-- `follow::text::put_named` meets its contract: a number of 64 bits has at most twenty digits. Assumes nothing.
use native.Mathlib.Omega.{arith}
use Rattle.script.proofs.write.AppendedLaws.{appended_then}
use Rattle.script.proofs.write.DecimalLaws.{decimal-length}
use Rattle.follow.proofs.text.put_named.Goals as goal

pub put_number-requires : goal.put_number-requires
put_number-requires c = let d = decimal-length 19 c.args.n (omega arith) in let e = c.put_text-number.ensures.end in let l = c.put_text-number.auto.out in let p = c.requires in omega arith

pub returns : goal.returns
returns c = (appended_then c.put_text-number.ensures c.put_number.ensures, let d = decimal-length 19 c.args.n (omega arith) in let e = c.put_text-number.ensures.end in let g = c.put_number.ensures.end in omega arith)
