-- `follow::waiting::leave` meets its contract: at each turn so many of those that stay are moved to the front. Assumes nothing.
use Prim.Native.Nat.{◌-◌}
use native.Mathlib.Omega.{arith}
use mathlib.Core.Path.{◌≡◌, sym}
use lib.Seq.{length-take-le}
use Rattle.follow.proofs.waiting.ShiftLaws.{drop-short, shifted_end, shifted-more, shifted_start}
use Rattle.follow.proofs.waiting.leave.Goals as goal

pub returns-then-left-count : goal.returns-then-left-count
returns-then-left-count c = (sym (drop-short c.args.left _ (let l = length-take-le c.args.count c.args.waiting.now c.requires.0 in let t = c.if-left-count.true in omega arith)), omega arith)

pub loop-k-init : goal.loop-k-init
loop-k-init c = shifted_start c.args.waiting.now c.args.count c.args.left (let t = c.if-left-count.false in omega arith)

pub loop-k-preserved : goal.loop-k-preserved
loop-k-preserved c = shifted-more c.args.waiting.now c.args.count c.args.left c.requires.0 c.loop-k.invariant (let t = c.loop-k-test.true in omega arith)

pub returns : goal.returns
returns c =
    let e : c.loop-k.k ≡ c.args.count - c.args.left = omega arith in
    (rw e at (shifted_end c.args.waiting.now c.args.count c.args.left c.requires.0 c.loop-k.invariant (omega arith)), omega arith)
