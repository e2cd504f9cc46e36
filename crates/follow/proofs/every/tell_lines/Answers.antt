-- `follow::every::tell_lines` meets its contract: at each turn the lines so far are stepped and told, and the memory is still known to be a node or none. The
-- measure is what is left of the lines. Assumes nothing.
use native.Mathlib.Omega.{arith}
use mathlib.Core.Path.{◌∙◌, sym, refl}
use Rattle.script.specs.declared.play.Stop.TheVariants.{NoRoom}
use Rattle.script.proofs.play.StopLaws.{all-or-number, all-or-room, room-or-number}
use Rattle.follow.proofs.every.EveryLaws.{telling-end, telling-more, telling-start}
use Rattle.follow.proofs.portion.NextLaws.{next-forward}
use Rattle.follow.proofs.portion.PassedLaws.{passed-next}
use Rattle.follow.proofs.every.tell_lines.Goals as goal

pub loop-r-init : goal.loop-r-init
loop-r-init c = (refl, (refl, (refl, (refl, (refl, (refl, telling-start c.args.out.now c.requires))))))

pub next-l-requires : goal.next-l-requires
next-l-requires c = let v = c.loop-r.invariant in let g = v.1.1.1.1.1.1 in passed-next g.passed c.requires.ahead.known (let l = v.1.0 in let r = c.requires.ahead.room in omega arith) c.loop-r-test.true (let f = v.1.1.1.1.0 in omega arith)

pub tell_line-w-requires : goal.tell_line-w-requires
tell_line-w-requires c = let v = c.loop-r.invariant in let g = v.1.1.1.1.1.1 in record { all = v.1.1.0 ∙ c.requires.all; few = g.few; room = let w = g.within in let r = c.if-out-r-lt-LINES_ROOM.false in omega arith }

pub loop-r-smaller : goal.loop-r-smaller
loop-r-smaller c = let f = next-forward c.args.whole.now c.loop-r.r.used c.next-l.ensures in let t = c.loop-r-test.true in omega arith

pub loop-r-preserved : goal.loop-r-preserved
loop-r-preserved c = let v = c.loop-r.invariant in let g = v.1.1.1.1.1.1 in (c.next-l.auto.memory ∙ v.0, (c.next-l.auto.kept ∙ v.1.0, (c.tell_line-w.auto.waiting ∙ v.1.1.0, (c.tell_line-w.auto.out ∙ v.1.1.1.0, (c.next-l.auto.fields ∙ v.1.1.1.1.0, (refl, telling-more g c.loop-r-test.true c.next-l.ensures c.tell_line-w.ensures (let w = g.within in let r = c.if-out-r-lt-LINES_ROOM.false in omega arith) c.tell_line-w.auto.out))))))

pub returns-after-loop-r : goal.returns-after-loop-r
returns-after-loop-r c = let v = c.loop-r.invariant in let g = v.1.1.1.1.1.1 in let z = v.1.1.1.1.1.0 in telling-end g c.loop-r.r.stop v.1.1.1.0 (λ e. let i = g.passed.inside in let f = c.loop-r-test.false in omega arith) (λ e. absurd (all-or-room (sym z ∙ e))) (λ e. absurd (all-or-room (sym z ∙ e))) (λ e. absurd (all-or-number (sym z ∙ e)))

pub returns-then-out-r-lt-LINES_ROOM : goal.returns-then-out-r-lt-LINES_ROOM
returns-then-out-r-lt-LINES_ROOM c = let v = c.loop-r.invariant in let g = v.1.1.1.1.1.1 in telling-end g NoRoom v.1.1.1.0 (λ e. absurd (all-or-room (sym e))) (λ e. let w = g.within in let t = c.if-out-r-lt-LINES_ROOM.true in omega arith) (λ e. c.loop-r-test.true) room-or-number
