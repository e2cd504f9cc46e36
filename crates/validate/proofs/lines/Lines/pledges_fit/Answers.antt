-- `validate::lines::Lines::pledges_fit` meets its contract: the sum is that of the pledges of the groups below g, none above 98. Assumes nothing.
use native.Mathlib.Omega.{arith}
use Rattle.validate.proofs.lines.CountLaws.{pledged-none, pledged-more, pledged-all}
use Rattle.validate.proofs.lines.Lines.pledges_fit.Goals as goal

pub loop-g-init : goal.loop-g-init
loop-g-init c = (pledged-none c.args.self.now.m.now, omega arith)

pub loop-g-preserved : goal.loop-g-preserved
loop-g-preserved c =
    let l = c.loop-g in
    let more = pledged-more c.args.self.now.m.now l.g c.pledge-sum.result (omega arith) c.pledge-sum.ensures.0 in
    (omega arith, omega arith)

pub returns : goal.returns
returns c =
    let l = c.loop-g in
    let all = pledged-all c.args.self.now.m.now l.g (omega arith) in
    rw (all, ← l.invariant.0)
