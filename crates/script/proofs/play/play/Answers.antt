-- `script::play::play` meets its contract: at each turn the lines so far are played, and the memory is still known to be a node or none. The
-- measure is what is left of the script. Assumes nothing.
use native.Mathlib.Omega.{arith}
use mathlib.Core.Path.{◌∙◌, sym, refl}
use Rattle.script.proofs.play.StopLaws.{all-or-number, all-or-room, room-or-number}
use Rattle.script.proofs.play.PlayLaws.{playing-start, playing-more, played-forward, played-to}
use Rattle.script.proofs.play.play.Goals as goal

pub loop-p-init : goal.loop-p-init
loop-p-init c = (refl, (refl, (refl, playing-start c.requires)))

pub overflow_sub-out : goal.overflow_sub-out
overflow_sub-out c = c.loop-p.invariant.1.1.1.within

pub overflow_add-lines : goal.overflow_add-lines
overflow_add-lines c = let q = c.loop-p.invariant.1.1.1 in let f = q.few in let i = c.loop-p-test.true in let k = c.shared_slice_known-1.given in omega arith

pub play_line-p-requires : goal.play_line-p-requires
play_line-p-requires c =
    let q = c.loop-p.invariant.1.1.1 in
    record {
      known = q.known ∙ c.requires.known;
      inside = c.loop-p-test.true;
      many = c.loop-p.invariant.1.0;
      room = let w = q.within in let r = c.if-out-p-lt-LINE_ROOM.false in omega arith;
      countable = record {
        number = _;
        counts = q.counted _ c.requires.counting.counts;
        below = let f = c.requires.few in let n = q.many in let l = q.few in let i = c.loop-p-test.true in omega arith;
      };
    }

pub loop-p-smaller : goal.loop-p-smaller
loop-p-smaller c = let f = played-forward c.play_line-p.ensures in let i = c.loop-p-test.true in omega arith

pub loop-p-preserved : goal.loop-p-preserved
loop-p-preserved c =
    let q = c.loop-p.invariant.1.1.1 in
    let e = c.play_line-p.ensures in
    (c.play_line-p.auto.memory ∙ c.loop-p.invariant.0, (c.play_line-p.auto.fields ∙ c.loop-p.invariant.1.0, (e.going, playing-more q c.loop-p-test.true (let w = q.within in let r = c.if-out-p-lt-LINE_ROOM.false in omega arith) c.play_line-p.auto.out e)))

pub shape_of-memory-after-loop-p : goal.shape_of-memory-after-loop-p
shape_of-memory-after-loop-p c = c.loop-p.invariant.0

pub shape_of-out-after-loop-p : goal.shape_of-out-after-loop-p
shape_of-out-after-loop-p c = c.loop-p.invariant.1.1.1.same_length

pub returns-after-loop-p : goal.returns-after-loop-p
returns-after-loop-p c =
    let l = c.loop-p in
    let q = l.invariant.1.1.1 in
    played-to l.p q (λ e. let i = q.inside in let f = c.loop-p-test.false in omega arith) (λ e. absurd (all-or-room (sym l.invariant.1.1.0 ∙ e)))
    (λ e. absurd (all-or-number (sym l.invariant.1.1.0 ∙ e)))

pub shape_of-memory-then-out-p-lt-LINE_ROOM : goal.shape_of-memory-then-out-p-lt-LINE_ROOM
shape_of-memory-then-out-p-lt-LINE_ROOM c = c.loop-p.invariant.0

pub shape_of-out-then-out-p-lt-LINE_ROOM : goal.shape_of-out-then-out-p-lt-LINE_ROOM
shape_of-out-then-out-p-lt-LINE_ROOM c = c.loop-p.invariant.1.1.1.same_length

pub returns-then-out-p-lt-LINE_ROOM : goal.returns-then-out-p-lt-LINE_ROOM
returns-then-out-p-lt-LINE_ROOM c =
    let q = c.loop-p.invariant.1.1.1 in
    played-to _ q (λ e. absurd (all-or-room (sym e))) (λ e. let w = q.within in let t = c.if-out-p-lt-LINE_ROOM.true in omega arith) (λ e. room-or-number e)
