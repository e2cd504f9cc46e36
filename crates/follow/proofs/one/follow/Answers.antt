-- `follow::one::follow` meets its contract: the portion is cut behind its last newline, its whole lines are followed, and what stands behind the cut is kept. Assumes
-- nothing.
use Prim.Native.Nat.{◌-◌}
use native.Mathlib.Omega.{arith}
use mathlib.Core.Path.{◌≡◌, refl}
use lib.ListN.{length}
use Rattle.script.specs.Feed.{kept_line}
use Rattle.script.proofs.feed.FeedLaws.{drop_all}
use Rattle.follow.proofs.one.FollowLaws.{portion-followed}
use Rattle.follow.proofs.portion.PassedLaws.{portion-ahead}
use borrow.Author.Rules.{rules}
use Rattle.follow.proofs.one.follow.Goals as goal

pub returns-then-lines-input : goal.returns-then-lines-input
returns-then-lines-input c = record { enough = λ h. absurd (let t = c.if-lines-input.true in omega arith); last-number = λ h. (refl, refl) }

pub follow_lines-r-requires : goal.follow_lines-r-requires
unfolding kept_line
follow_lines-r-requires c = let z : c.behind_last-last.result - 0 ≡ c.behind_last-last.result = omega arith in rw z (portion-ahead c.args.memory.now c.args.state.script c.kept_count-begun.result (let t = c.if-lines-input.false in omega arith) c.behind_last-last.ensures c.kept_count-begun.ensures.1 c.is_node-good.ensures (let l : 130 ≡ length c.args.state.script.kept = search rules in omega arith) c.kept_count-begun.ensures.0)

pub returns : goal.returns
unfolding kept_line
returns c = let z : c.behind_last-last.result - 0 ≡ c.behind_last-last.result = omega arith in
    portion-followed c.args.memory.now c.args.state c.kept_count-begun.result (let t = c.if-lines-input.false in omega arith) c.behind_last-last.ensures c.kept_count-begun.ensures.1 (rw z at c.follow_lines-r.ensures) c.keep-count.new.kept c.keep-count.result
    (rw (drop_all c.args.input.now c.behind_last-last.result) at c.keep-count.ensures.0)
