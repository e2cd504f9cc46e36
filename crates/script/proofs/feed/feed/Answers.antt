-- `script::feed::feed` meets its contract: the memory is tested once, and the counter is made once. Assumes nothing.
use native.Mathlib.Omega.{arith}
use mathlib.Core.Path.{◌≡◌, refl}
use lib.ListN.{length}
use Rattle.script.specs.Feed.{kept_line}
use Rattle.script.proofs.feed.FedLaws.{fed-enough, fed-feedable, fed-first, kept-empty, kept-one}
use borrow.Author.Rules.{rules}
use Rattle.script.proofs.feed.feed.Goals as goal

pub returns-then-lines-input : goal.returns-then-lines-input
returns-then-lines-input c = record { enough = λ h. absurd (let t = c.if-lines-input.true in omega arith); last-number = λ h. (refl, (refl, refl)) }

pub feed_lines-requires : goal.feed_lines-requires
feed_lines-requires c = fed-feedable c.is_node-good.ensures c.new-counter.ensures (let t = c.if-lines-input.false in omega arith)

pub returns-then-state-eq0 : goal.returns-then-state-eq0
returns-then-state-eq0 c = fed-enough (let t = c.if-lines-input.false in omega arith) (kept-empty c.args.state c.if-state-eq0.true) (fed-first c.feed_lines.ensures)

pub kept_count-count-requires : goal.kept_count-count-requires
kept_count-count-requires c = let l : 130 ≡ length c.args.state.kept = search rules in omega arith

pub feed_begun-requires : goal.feed_begun-requires
feed_begun-requires c =
    let few = c.if-lines-input.false in
    let k = c.kept_count-count.ensures in
    record {
      room = (k.0, search rules);
      one_line = kept-one _ k.1;
      lines_feedable = fed-feedable c.is_node-good.ensures c.new-counter.ensures (omega arith);
    }

pub returns : goal.returns
unfolding kept_line
returns c = fed-enough (let t = c.if-lines-input.false in omega arith) c.kept_count-count.ensures.1 c.feed_begun.ensures
