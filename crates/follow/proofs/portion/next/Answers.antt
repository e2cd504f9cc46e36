-- `follow::portion::next` meets its contract: what has begun goes on up to the newline, and is read from what is kept as the line is. Assumes nothing.
use native.Mathlib.Omega.{arith}
use lib.ListN.{length-set}
use Rattle.rules.specs.Script.{newline}
use Rattle.follow.proofs.portion.NextLaws.{end-behind, ends-inside, next-begun, next-first}
use Rattle.follow.proofs.portion.next.Goals as goal

pub returns-then-count-eq0 : goal.returns-then-count-eq0
returns-then-count-eq0 c = next-first c.requires c.if-count-eq0.true c.step_line.ensures

pub slice_bounds-keep-count : goal.slice_bounds-keep-count
slice_bounds-keep-count c = let e = c.end_of_line-end.ensures in let b = end-behind c.requires in omega arith

pub slice_bounds-keep-start : goal.slice_bounds-keep-start
slice_bounds-keep-start c = let e = c.end_of_line-end.ensures in let b = end-behind c.requires in let i = ends-inside c.requires in omega arith

pub slice_bounds-keep-end : goal.slice_bounds-keep-end
slice_bounds-keep-end c = let e = c.end_of_line-end.ensures in let b = end-behind c.requires in let i = ends-inside c.requires in omega arith

pub step_line-l-requires : goal.step_line-l-requires
step_line-l-requires c = record { known = c.requires.known; inside = let l = length-set c.keep-grown.new.kept c.keep-grown.result newline in let r = c.requires.room in let k = c.keep-grown.auto.kept in omega arith; many = c.requires.many }

pub overflow_add-l : goal.overflow_add-l
overflow_add-l c = let e = c.end_of_line-end.ensures in let i = ends-inside c.requires in let k = c.shared_slice_known-1.given in omega arith

pub returns : goal.returns
returns c = next-begun c.requires c.end_of_line-end.result c.keep-grown.result c.keep-grown.new.kept c.end_of_line-end.ensures c.keep-grown.ensures.0 (let r = c.requires.room in let k = c.keep-grown.auto.kept in let f = c.keep-grown.ensures.1 in omega arith) c.step_line-l.ensures
