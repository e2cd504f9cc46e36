-- `capi::tell::fugu_tell_end` meets its contract: the state that is found is ended. Assumes nothing.
use Rattle.capi.proofs.TellLaws.{end-nothing, end-told}
use Rattle.capi.proofs.tell.fugu_tell_end.Goals as goal

pub returns-then-not-lent : goal.returns-then-not-lent
returns-then-not-lent c =
    end-nothing c.args.memory.now c.args.state.now c.args.kept.now c.args.out.now c.args.part.now
    (c.lent.ensures.1 c.if-not-lent.true)

pub load-requires : goal.load-requires
load-requires c = let l = c.lent.ensures.0 c.if-not-lent.false in (l.state, l.line)

pub put_end-requires : goal.put_end-requires
put_end-requires c = (c.lent.ensures.0 c.if-not-lent.false).room

pub returns : goal.returns
returns c = end-told (c.lent.ensures.0 c.if-not-lent.false) c.load.ensures c.finish-e.ensures c.put_end.ensures
