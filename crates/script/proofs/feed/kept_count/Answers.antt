-- `script::feed::kept_count` meets its contract: more than all bytes are all, and the line ends at a newline among them. Assumes nothing.
use borrow.Author.Rules.{rules}
use Rattle.script.proofs.feed.FeedLaws.{kept-counted}
use Rattle.script.proofs.feed.kept_count.Goals as goal

pub returns : goal.returns
returns c = kept-counted c.args.kept.now c.args.count c.requires (search rules) c.end_of_line.ensures
