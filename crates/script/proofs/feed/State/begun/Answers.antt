-- `script::feed::State::begun` meets its contract: what is kept of a line is as long as `kept_count` says. Assumes nothing.
use native.Mathlib.Omega.{arith}
use mathlib.Core.Path.{◌≡◌}
use lib.ListN.{length}
use borrow.Author.Rules.{rules}
use Rattle.script.specs.Feed.{kept_line}
use Rattle.script.proofs.feed.FedLaws.{begun-counted}
use Rattle.script.proofs.feed.State.begun.Goals as goal

pub kept_count-requires : goal.kept_count-requires
kept_count-requires c = let l : 130 ≡ length c.args.self.kept = search rules in omega arith

pub returns : goal.returns
unfolding kept_line
returns c =
    let kept = c.args.self.kept in
    let l : 130 ≡ length kept = search rules in
    let r = c.kept_count.ensures.0 in
    begun-counted c.kept_count.result kept (omega arith) c.kept_count.ensures.1
