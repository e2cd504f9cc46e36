-- `node::network::pledges` meets its contract: before group i the sum is that of the pledges of groups 1 to i - 1. Assumes nothing.
use Prim.Native.Nat.{ℕ, ◌+◌, ◌-◌, ◌≤◌}
use native.Mathlib.Omega.{arith}
use mathlib.Core.List.{[]}
use mathlib.Core.Path.{◌≡◌, refl, ◌∙◌}
use Rattle.rules.specs.Build.{paper01}
use Rattle.rules.specs.Frames.{pledge}
use Rattle.rules.specs.Node.{Message}
use Rattle.rules.specs.Refusal.{queued}
use Rattle.node.proofs.network.PledgeReads.{pledge-few, sum-all, sum_more}
use Rattle.node.proofs.network.pledges.Goals as goal
use Rattle.node.proofs.network.pledges.Goals.{After-pledge_of-sum}

-- a pledge is small
few : (c : After-pledge_of-sum) → c.pledge_of-sum.result ≤ 113
few c =
    let p = c.requires in
    let x : Message = record { group = c.args.g; words = [] } in
    omega (arith, c.pledge_of-sum.ensures p.node p.rest p.holds x refl, pledge-few p.holds c.loop-i.i (omega arith) (omega arith) x p.fact)

pub overflow_add-sum : goal.overflow_add-sum
overflow_add-sum c = let f = few c in omega (arith, c.loop-i.invariant.0)

pub loop-i-preserved : goal.loop-i-preserved
loop-i-preserved c =
    let i = c.loop-i.i in
    let v = c.loop-i.invariant in
    let f = few c in
    let next : i + 1 - 1 ≡ i = omega arith in
    let last : i - 1 + 1 ≡ i = omega arith in (
      omega (arith, v.0),
      λ n r h x e.
          let w : ℕ → ℕ = pledge paper01 (queued x n) in
          let more = rw last at (sum_more w (i - 1)) in
          rw next (omega (arith, v.1 n r h x e, c.pledge_of-sum.ensures n r h x e, more)),
    )

pub returns : goal.returns
returns c n r h x e = c.loop-i.invariant.1 n r h x e ∙ sum-all paper01 (queued x n) (c.loop-i.i - 1) (omega (arith, c.loop-i-test.false))
