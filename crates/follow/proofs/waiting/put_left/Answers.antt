-- `follow::waiting::put_left` meets its contract: at each turn the lines of so many are written. Assumes nothing.
use native.Mathlib.Omega.{arith}
use mathlib.Core.Path.{◌≡◌, refl, subst}
use lib.ListN.{length}
use Rattle.follow.proofs.waiting.TellLaws.{Fewer, fewer-said, putting-end, putting-more, putting-start}
use Rattle.follow.proofs.waiting.put_left.Goals as goal

pub loop-k-init : goal.loop-k-init
loop-k-init c = putting-start c.args.out.now c.args.at c.args.waiting.now c.args.i c.args.gone

pub loop-k-preserved : goal.loop-k-preserved
loop-k-preserved c = let f = fewer-said (length c.args.waiting.now) c.args.gone.count c.fewer-n.ensures in let fw = f.waiting in let fl = f.leaving in let t = c.loop-k-test.true in
    putting-more c.args.out.now c.args.at c.args.waiting.now c.args.i c.args.gone c.loop-k.invariant (omega arith) (omega arith) _ _ refl c.reason_at.ensures c.put_why-end.ensures.0 c.put_why-end.ensures.1

pub returns : goal.returns
returns c = let f = fewer-said (length c.args.waiting.now) c.args.gone.count c.fewer-n.ensures in let fw = f.waiting in let p = c.requires in let t = c.loop-k-test.false in let v = c.loop-k.invariant in
    let e : c.fewer-n.result ≡ c.loop-k.k = omega arith in
    (putting-end c.args.out.now c.args.at c.args.waiting.now c.args.i c.args.gone v (subst (λ x. Fewer (length c.args.waiting.now) c.args.gone.count x) e f), let m = v.at_most in omega arith)
