-- `node::settling::finish` meets its contract: settled, the running group's first page brought in, and then called up. Assumes nothing.
use Rattle.node.proofs.settling.CallLaws.{settled-settles}
use Rattle.node.proofs.settling.FinishLaws.{finished, resident-some, settled-resident, settled-some}
use Rattle.node.proofs.settling.finish.Goals as goal

pub runner_resident-requires : goal.runner_resident-requires
runner_resident-requires c = let p = c.requires.some in settled-some p.fact (c.settle-settled.ensures p.node p.rest p.holds p.fact)

pub upcall-up-requires : goal.upcall-up-requires
upcall-up-requires c =
    let p = c.requires.some in
    resident-some p.fact (c.settle-settled.ensures p.node p.rest p.holds p.fact) c.runner_resident.ensures

pub returns : goal.returns
returns c n r h s =
    let a = c.args in
    let d = c.settle-settled.ensures n r h s in
    let k = settled-resident s d c.runner_resident.ensures in
    finished a.trap a.moved _ _ d (c.upcall-up.ensures _ r k (settled-settles s)) c.accepted.ensures
