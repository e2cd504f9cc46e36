-- `capi::tell::fugu_tell` meets its contract: the state that is found is told on, and the one behind the portion is put in its place. Assumes nothing.
use Rattle.capi.proofs.TellLaws.{portion-nothing, portion-told}
use Rattle.capi.proofs.tell.fugu_tell.Goals as goal

pub returns-then-not-lent : goal.returns-then-not-lent
returns-then-not-lent c =
    portion-nothing c.args.memory.now c.args.state.now c.args.kept.now c.args.input.now c.args.out.now
    c.args.part.now
    (c.lent.ensures.1 c.if-not-lent.true)

pub load-requires : goal.load-requires
load-requires c = let l = c.lent.ensures.0 c.if-not-lent.false in (l.state, l.line)

pub save-requires : goal.save-requires
save-requires c = let l = c.lent.ensures.0 c.if-not-lent.false in (l.state, l.line)

pub put_portion-requires : goal.put_portion-requires
put_portion-requires c = (c.lent.ensures.0 c.if-not-lent.false).room

pub returns : goal.returns
returns c = portion-told (c.lent.ensures.0 c.if-not-lent.false) c.load.ensures c.tell-t.ensures c.save.ensures c.put_portion.ensures
