-- `follow::one::follow_lines` meets its contract: at each turn the lines so far are stepped and followed, and the memory is still known to be a node or none. The
-- measure is what is left of the lines. Assumes nothing.
use native.Mathlib.Omega.{arith}
use mathlib.Core.Path.{◌∙◌, refl}
use Rattle.follow.proofs.one.FollowLaws.{going_end, going_more, going_start}
use Rattle.follow.proofs.portion.PassedLaws.{passed-next}
use Rattle.follow.proofs.portion.NextLaws.{next-forward}
use Rattle.follow.proofs.one.follow_lines.Goals as goal

pub loop-at-init : goal.loop-at-init
loop-at-init c = (refl, (refl, (refl, going_start c.args.wanted c.args.followed c.requires)))

pub next-l-requires : goal.next-l-requires
next-l-requires c = let v = c.loop-at.invariant in passed-next v.1.1.1.passed c.requires.known (let l = v.1.0 in let r = c.requires.room in omega arith) c.loop-at-test.true (let f = v.1.1.0 in omega arith)

pub loop-at-smaller : goal.loop-at-smaller
loop-at-smaller c = let f = next-forward c.args.whole.now c.loop-at.at c.next-l.ensures in let t = c.loop-at-test.true in omega arith

pub loop-at-preserved : goal.loop-at-preserved
loop-at-preserved c = let v = c.loop-at.invariant in (c.next-l.auto.memory ∙ v.0, (c.next-l.auto.kept ∙ v.1.0, (c.next-l.auto.fields ∙ v.1.1.0, going_more v.1.1.1 c.loop-at-test.true c.next-l.ensures c.follow_line.ensures)))

pub returns : goal.returns
returns c = going_end c.loop-at.invariant.1.1.1 c.loop-at-test.false
