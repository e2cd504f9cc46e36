-- `script::read::number` meets its contract: before each digit at most ten are read, and write the value; where they stop they are judged, and
-- an eleventh is refused. Assumes nothing.
use native.Mathlib.Omega.{arith}
use mathlib.Core.Path.{◌≡◌, sym, ◌∙◌}
use lib.ListN.{get_or, length}
use Rattle.script.proofs.read.NumberLaws.{digit-range, digit-same, digits-at-end, digits-stop, no-number, reading-none, reading-fits, reading-more, reading-long, read-stops}
use Rattle.script.proofs.read.number.Goals as goal

pub loop-i-init : goal.loop-i-init
loop-i-init c = reading-none c.args.s.now c.args.at c.requires

pub returns-then-not-is_ascii_digit : goal.returns-then-not-is_ascii_digit
returns-then-not-is_ascii_digit c =
    let i = c.loop-i.i in
    read-stops c.loop-i.invariant (digits-stop c.args.s.now i c.loop-i-test.true (digit-same _ ∙ sym c.is_ascii_digit.ensures.value ∙ c.if-not-is_ascii_digit.true)) c.judged.ensures

pub returns-then-i-at-ge-DIGIT_LIMIT : goal.returns-then-i-at-ge-DIGIT_LIMIT
returns-then-i-at-ge-DIGIT_LIMIT c =
    let r = c.loop-i.invariant in
    let long = c.if-i-at-ge-DIGIT_LIMIT.true in
    rw c.no_number.ensures
    record {
      found = sym (reading-long r c.loop-i-test.true (omega arith) (digit-same _ ∙ sym c.is_ascii_digit.ensures.value ∙ c.if-not-is_ascii_digit.false));
      behind = λ n e. absurd (no-number e);
      inside = r.inside;
      same_line = r.same_line;
    }

pub overflow_mul-value : goal.overflow_mul-value
overflow_mul-value c = let short = c.if-i-at-ge-DIGIT_LIMIT.false in let fits = reading-fits c.loop-i.invariant (let r = c.loop-i.invariant in omega arith) in omega arith

pub overflow_add-value : goal.overflow_add-value
overflow_add-value c =
    let short = c.if-i-at-ge-DIGIT_LIMIT.false in
    let fits = reading-fits c.loop-i.invariant (let r = c.loop-i.invariant in omega arith) in
    let range = digit-range (get_or c.args.s.now c.loop-i.i 0) (digit-same _ ∙ sym c.is_ascii_digit.ensures.value ∙ c.if-not-is_ascii_digit.false) in
    omega arith

pub loop-i-preserved : goal.loop-i-preserved
loop-i-preserved c =
    let r = c.loop-i.invariant in
    let short = c.if-i-at-ge-DIGIT_LIMIT.false in
    reading-more r c.loop-i-test.true (omega arith) (digit-same _ ∙ sym c.is_ascii_digit.ensures.value ∙ c.if-not-is_ascii_digit.false)

pub returns : goal.returns
returns c =
    let s = c.args.s.now in
    let at = c.requires in
    let past = c.loop-i-test.false in
    let inside = c.loop-i.invariant.inside in
    let e : c.loop-i.i ≡ length s = omega arith in
    read-stops (rw e at c.loop-i.invariant) (digits-at-end s (length s) (omega arith)) c.judged-2.ensures
