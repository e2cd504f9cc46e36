-- `script::write::Counter::next` meets its contract. The loop's invariant: from place i on nines have become zeros. A digit that is no nine is one
-- more. Where no place is left all were nines, and there is room for a digit more, for the number is not the largest. Assumes nothing.
use native.Mathlib.Omega.{arith}
use mathlib.Core.Path.{refl}
use Rattle.script.proofs.write.CarryLaws.{at-end, at-place, carry-all, carry-digit, carry-more, carry-none, carried, carried-all}
use Rattle.script.proofs.write.CounterLaws.{counts_some, countable-short}
use Rattle.script.proofs.write.Counter.next.Goals as goal

pub loop-i-init : goal.loop-i-init
loop-i-init c = (refl, carry-none c.requires.counts)

pub overflow_add-self : goal.overflow_add-self
overflow_add-self c = let d = carry-digit (at-place c.loop-i.invariant.1 c.loop-i-test.true) c.requires.counts in omega arith

pub returns-then-self-i-ne57 : goal.returns-then-self-i-ne57
returns-then-self-i-ne57 c n h =
    let v = c.loop-i.invariant in
    rw v.0 (carried (at-place v.1 c.loop-i-test.true) h c.if-self-i-ne57.true)

pub loop-i-preserved : goal.loop-i-preserved
loop-i-preserved c =
    let v = c.loop-i.invariant in
    (v.0, carry-more (at-place v.1 c.loop-i-test.true) c.if-self-i-ne57.false)

pub bounds-self-self : goal.bounds-self-self
bounds-self-self c =
    let v = c.loop-i.invariant in
    let short = countable-short c.requires (carry-all (at-end v.1 c.loop-i-test.false) c.requires.counts) in
    let same = v.0 in
    omega arith

pub returns : goal.returns
returns c n h =
    let v = c.loop-i.invariant in
    let all = at-end v.1 c.loop-i-test.false in
    rw v.0 (carried-all all h (counts_some h) (countable-short c.requires (carry-all all c.requires.counts)))
