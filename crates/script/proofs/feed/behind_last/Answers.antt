-- `script::feed::behind_last` meets its contract: no newline stands behind the position that the loop has reached. Assumes nothing.
use Prim.Native.Nat.{◌+◌, ◌-◌}
use native.Mathlib.Omega.{arith}
use mathlib.Core.Path.{◌≡◌, subst}
use Rattle.script.specs.Feed.{Cut}
use Rattle.script.proofs.feed.FeedLaws.{behind-none, behind-other, cut-newline, cut-none}
use Rattle.script.proofs.feed.behind_last.Goals as goal

pub loop-i-init : goal.loop-i-init
loop-i-init c = (c.requires, (omega arith, behind-none c.args.s.now))

pub returns-then-s-i-eq-NEWLINE : goal.returns-then-s-i-eq-NEWLINE
returns-then-s-i-eq-NEWLINE c =
    let l = c.loop-i in
    let some = c.loop-i-test.true in
    let e : l.i ≡ l.i - 1 + 1 = omega arith in
    subst (Cut c.args.s.now c.args.from) e (cut-newline c.args.s.now c.args.from l.i some l.invariant.1.0 l.invariant.1.1 c.if-s-i-eq-NEWLINE.true)

pub loop-i-preserved : goal.loop-i-preserved
loop-i-preserved c =
    let l = c.loop-i in
    let some = c.loop-i-test.true in
    let inside = l.invariant.1.0 in
    (omega arith, (omega arith, behind-other c.args.s.now l.i (omega arith) inside l.invariant.1.1 c.if-s-i-eq-NEWLINE.false))

pub returns : goal.returns
returns c =
    let l = c.loop-i in
    cut-none c.args.s.now c.args.from l.i c.requires (let f = l.invariant.0 in let t = c.loop-i-test.false in omega arith) l.invariant.1.1
