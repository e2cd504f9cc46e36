-- `capi::feed::fugu_feed` meets its contract: the script is fed on from where it is found, and where it is behind the portion is put in its place. Assumes nothing.
use Rattle.capi.proofs.FeedLaws.{portion-fed, portion-unfed}
use Rattle.capi.proofs.feed.fugu_feed.Goals as goal

pub returns-then-not-lent : goal.returns-then-not-lent
returns-then-not-lent c =
    portion-unfed c.args.memory.now c.args.state.now c.args.kept.now c.args.input.now c.args.out.now
    c.args.part.now
    (c.lent.ensures.1 c.if-not-lent.true)

pub load_script-requires : goal.load_script-requires
load_script-requires c = let l = c.lent.ensures.0 c.if-not-lent.false in (l.state, l.line)

pub save_script-requires : goal.save_script-requires
save_script-requires c = let l = c.lent.ensures.0 c.if-not-lent.false in (l.state, l.line)

pub put_portion-requires : goal.put_portion-requires
put_portion-requires c = (c.lent.ensures.0 c.if-not-lent.false).room

pub returns : goal.returns
returns c = portion-fed (c.lent.ensures.0 c.if-not-lent.false) c.load_script.ensures c.feed-f.ensures c.save_script.ensures c.put_portion.ensures
