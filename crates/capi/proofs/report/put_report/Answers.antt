-- `capi::report::put_report` meets its contract: sixteen words, one behind the other. Assumes nothing.
use native.Mathlib.Omega.{arith}
use lib.ListN.{length-set}
use Rattle.capi.proofs.ToldLaws.{report-written}
use Rattle.capi.proofs.report.put_report.Goals as goal

pub bounds-part-1 : goal.bounds-part-1
bounds-part-1 c = simp length-set (omega arith)

pub bounds-part-2 : goal.bounds-part-2
bounds-part-2 c = simp length-set (omega arith)

pub bounds-part-3 : goal.bounds-part-3
bounds-part-3 c = simp length-set (omega arith)

pub bounds-part-4 : goal.bounds-part-4
bounds-part-4 c = simp length-set (omega arith)

pub bounds-part-5 : goal.bounds-part-5
bounds-part-5 c = simp length-set (omega arith)

pub bounds-part-6 : goal.bounds-part-6
bounds-part-6 c = simp length-set (omega arith)

pub bounds-part-7 : goal.bounds-part-7
bounds-part-7 c = simp length-set (omega arith)

pub shape_of-part : goal.shape_of-part
shape_of-part c = simp length-set at c.put_words.ensures.0.same_length

pub returns : goal.returns
returns c =
    report-written c.args.part.now c.args.r c.requires c.put_words.ensures.1 c.put_words.ensures.0
