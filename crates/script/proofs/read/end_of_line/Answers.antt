-- `script::read::end_of_line` meets its contract: no newline is passed, so the line that goes on here ends where the first does. Assumes nothing.
use native.Mathlib.Omega.{arith}
use mathlib.Core.Path.{◌≡◌, refl, sym, ◌∙◌}
use lib.ListN.{length}
use Rattle.script.proofs.read.LineEndLaws.{line-at-end, line-newline, end_empty, end_more}
use Rattle.script.proofs.read.end_of_line.Goals as goal

pub loop-i-init : goal.loop-i-init
loop-i-init c = (c.requires, refl)

pub returns-then-s-i-eq-NEWLINE : goal.returns-then-s-i-eq-NEWLINE
returns-then-s-i-eq-NEWLINE c =
    let s = c.args.s.now in
    let i = c.loop-i.i in
    sym (end_empty s i (line-newline s i c.loop-i-test.true c.if-s-i-eq-NEWLINE.true)) ∙ c.loop-i.invariant.1

pub loop-i-preserved : goal.loop-i-preserved
loop-i-preserved c =
    let s = c.args.s.now in
    let i = c.loop-i.i in
    (omega arith, end_more s i c.loop-i-test.true c.if-s-i-eq-NEWLINE.false ∙ c.loop-i.invariant.1)

pub returns : goal.returns
returns c =
    let s = c.args.s.now in
    let i = c.loop-i.i in
    let past = c.loop-i-test.false in
    let inside = c.loop-i.invariant.0 in
    let e : length s ≡ i = omega arith in
    e ∙ sym (end_empty s i (line-at-end s i past)) ∙ c.loop-i.invariant.1
