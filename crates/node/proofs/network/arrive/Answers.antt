-- `node::network::arrive` meets its contract: a refused arrival leaves the memory; an accepted one is good and has a place in the queue, and
-- the node with it is sound, so it joins and the step is finished. Assumes nothing.
use mathlib.Core.Path.{sym}
use Rattle.rules.specs.Operation.{arrive}
use Rattle.node.proofs.StepMap.{handed-on}
use Rattle.node.proofs.network.ArriveLaws.{arrived, arriving, refusing}
use Rattle.node.proofs.network.arrive.Goals as goal

pub returns-in_err-refusal : goal.returns-in_err-refusal
returns-in_err-refusal c n r h v =
    let s = c.args in
    let e = c.in_err-refusal.ensures n r h v in
    rw (handed-on c.from_residual.result c.from_residual.ensures.1) (refusing h (arrive s.g s.words.now) _ e)

pub join-requires : goal.join-requires
join-requires c =
    let p = c.requires in
    let s = c.args in
    let a = arriving p.fact s.g s.words.now (sym (c.in_ok-refusal.ensures p.node p.rest p.holds p.fact)) in
    let x = a.good in
    record { le_g = (x.group-low, x.group-high); in_bounds = (x.some_words, x.few_words); some = record { node = p.node; rest = p.rest; holds = p.holds; fact = a.room } }

pub returns : goal.returns
returns c n r h v =
    let s = c.args in
    let accepts = sym (c.in_ok-refusal.ensures n r h v) in
    let a = arriving v s.g s.words.now accepts in
    arrived s.g s.words.now accepts a.sound (c.join.ensures n r h a.room)
