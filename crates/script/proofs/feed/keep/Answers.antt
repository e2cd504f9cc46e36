-- `script::feed::keep` meets its contract: what does not fit is left out. Assumes nothing.
use borrow.Author.Rules.{rules}
use Rattle.script.proofs.feed.FeedLaws.{appended-kept}
use Rattle.script.proofs.feed.keep.Goals as goal

pub returns : goal.returns
returns c = appended-kept c.args.text.now c.put_text.ensures (search rules) c.requires.0 c.requires.1
