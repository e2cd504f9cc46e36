-- `script::feed::feed_begun` meets its contract: the line goes on, or it ends and is played, and the lines behind it after it. Assumes nothing.
use Prim.Native.Nat.{◌-◌}
use native.Mathlib.Omega.{arith}
use mathlib.Core.Path.{◌≡◌, ◌∙◌, sym, refl}
use Rattle.script.proofs.feed.BegunLaws.{fed-ended, fed-none, fed-open, grown-one, lines-behind}
use Rattle.script.proofs.read.LineEndLaws.{end-inside}
use Rattle.script.proofs.OneLineLaws.{end-first}
use Rattle.script.proofs.feed.feed_begun.Goals as goal

pub slice_bounds-keep-end-2 : goal.slice_bounds-keep-end-2
slice_bounds-keep-end-2 c = let e = c.end_of_line-end.ensures in let i = end-inside c.args.input.now 0 (omega arith) in omega arith

pub returns-then-end-input : goal.returns-then-end-input
returns-then-end-input c =
    let z : c.end_of_line-end.result - 0 ≡ c.end_of_line-end.result = omega arith in
    let e = c.end_of_line-end.ensures ∙ end-first c.args.input.now in
    let t = c.if-end-input.true in
    fed-open c.requires.one_line (sym e ∙ t) t (rw z at c.keep-grown.ensures.0)

pub returns-then-out-lt-LINE_ROOM : goal.returns-then-out-lt-LINE_ROOM
returns-then-out-lt-LINE_ROOM c = fed-none c.requires.one_line refl c.if-out-lt-LINE_ROOM.true

pub play_text-p-requires : goal.play_text-p-requires
play_text-p-requires c =
    let h = c.requires.lines_feedable in
    let e = c.end_of_line-end.ensures ∙ end-first c.args.input.now in
    let z : c.end_of_line-end.result - 0 ≡ c.end_of_line-end.result = omega arith in
    let k = c.keep-grown.ensures in
    record {
      known = h.known;
      inside = let g = k.1 in omega arith;
      one = grown-one c.args.input.now c.requires.one_line e (rw z at k.0);
      room = let r = c.if-out-lt-LINE_ROOM.false in omega arith;
      counting = record { number = c.args.state.lines; counts = h.counts };
      few = let g = k.1 in let f = h.few in omega arith;
    }

pub overflow_add-end : goal.overflow_add-end
overflow_add-end c =
    let e = c.end_of_line-end.ensures in
    let i = end-inside c.args.input.now 0 (omega arith) in
    let n = c.if-end-input.false in
    let k = c.shared_slice_known-1.given in
    omega arith

pub feed_lines-requires : goal.feed_lines-requires
feed_lines-requires c =
    let e = c.end_of_line-end.ensures in
    let i = end-inside c.args.input.now 0 (omega arith) in
    let n = c.if-end-input.false in
    lines-behind c.requires.lines_feedable c.play_text-p.ensures (omega arith) c.play_text-p.auto.out

pub returns : goal.returns
returns c =
    let z : c.end_of_line-end.result - 0 ≡ c.end_of_line-end.result = omega arith in
    let first = c.end_of_line-end.ensures ∙ end-first c.args.input.now in
    let i = end-inside c.args.input.now 0 (omega arith) in
    let e = c.end_of_line-end.ensures in
    let n = c.if-end-input.false in
    fed-ended c.requires.lines_feedable (omega arith) (rw z at c.keep-grown.ensures.0) c.play_text-p.ensures first c.play_text-p.auto.out c.feed_lines.ensures
