-- `follow::every::tell` meets its contract: the portion is cut behind its last newline, its whole lines are told while there is room, and what stands behind the
-- cut is kept. Assumes nothing.
use Prim.Native.Nat.{◌-◌}
use native.Mathlib.Omega.{arith}
use mathlib.Core.Path.{◌≡◌, refl}
use lib.ListN.{length}
use Rattle.rules.specs.Build.{paper01}
use Rattle.script.specs.Feed.{kept_line}
use Rattle.script.proofs.feed.FeedLaws.{drop_all}
use Rattle.follow.proofs.every.EveryLaws.{portion-tellable, told-stopped, told-used, waiting_few}
use Rattle.follow.proofs.waiting.TellLaws.{fewer-said}
use borrow.Author.Rules.{rules}
use Rattle.follow.proofs.every.tell.Goals as goal

pub returns-then-lines-input : goal.returns-then-lines-input
returns-then-lines-input c = record { enough = λ h. absurd (let t = c.if-lines-input.true in omega arith); last-number = λ h. (refl, (refl, refl)) }

pub tell_lines-r-requires : goal.tell_lines-r-requires
unfolding kept_line
tell_lines-r-requires c = let z : c.behind_last-last.result - 0 ≡ c.behind_last-last.result = omega arith in rw z (portion-tellable c.args.memory.now c.args.state c.kept_count-begun.result (let t = c.if-lines-input.false in omega arith) c.behind_last-last.ensures c.kept_count-begun.ensures.1 c.is_node-good.ensures (let l : 130 ≡ length c.args.state.script.kept = search rules in omega arith) c.kept_count-begun.ensures.0 c.fewer-count.result (let l : 16 ≡ length c.args.state.waiting = search rules in omega arith) (waiting_few c.args.state c.fewer-count.result (let l : 16 ≡ length c.args.state.waiting = search rules in omega arith) (fewer-said c.args.state.count paper01.places c.fewer-count.ensures)).1)

pub returns-then-ne : goal.returns-then-ne
unfolding kept_line
returns-then-ne c = let z : c.behind_last-last.result - 0 ≡ c.behind_last-last.result = omega arith in
    rw c.portion_told.ensures (told-stopped c.args.memory.now c.args.state c.kept_count-begun.result (let t = c.if-lines-input.false in omega arith) c.behind_last-last.ensures c.kept_count-begun.ensures.1 c.fewer-count.result (waiting_few c.args.state c.fewer-count.result (let l : 16 ≡ length c.args.state.waiting = search rules in omega arith) (fewer-said c.args.state.count paper01.places c.fewer-count.ensures)).0 (rw z at c.tell_lines-r.ensures) (search rules))

pub returns : goal.returns
unfolding kept_line
returns c = let z : c.behind_last-last.result - 0 ≡ c.behind_last-last.result = omega arith in
    rw c.portion_told-2.ensures (told-used c.args.memory.now c.args.state c.kept_count-begun.result (let t = c.if-lines-input.false in omega arith) c.behind_last-last.ensures c.kept_count-begun.ensures.1 c.fewer-count.result (waiting_few c.args.state c.fewer-count.result (let l : 16 ≡ length c.args.state.waiting = search rules in omega arith) (fewer-said c.args.state.count paper01.places c.fewer-count.ensures)).0 (rw z at c.tell_lines-r.ensures) (search rules) c.keep-grown.new.kept c.keep-grown.result (rw (drop_all c.args.input.now c.behind_last-last.result) at c.keep-grown.ensures.0))
