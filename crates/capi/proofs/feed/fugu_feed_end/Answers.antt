-- `capi::feed::fugu_feed_end` meets its contract: the script is ended from where it is found. Assumes nothing.
use Rattle.capi.proofs.FeedLaws.{end-fed, end-unfed}
use Rattle.capi.proofs.feed.fugu_feed_end.Goals as goal

pub returns-then-not-lent : goal.returns-then-not-lent
returns-then-not-lent c =
    end-unfed c.args.memory.now c.args.state.now c.args.kept.now c.args.out.now c.args.part.now
    (c.lent.ensures.1 c.if-not-lent.true)

pub load_script-requires : goal.load_script-requires
load_script-requires c = let l = c.lent.ensures.0 c.if-not-lent.false in (l.state, l.line)

pub put_end-requires : goal.put_end-requires
put_end-requires c = (c.lent.ensures.0 c.if-not-lent.false).room

pub returns : goal.returns
returns c = end-fed (c.lent.ensures.0 c.if-not-lent.false) c.load_script.ensures c.feed_end-e.ensures c.put_end.ensures
