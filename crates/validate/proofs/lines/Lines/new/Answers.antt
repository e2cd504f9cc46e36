-- `validate::lines::Lines::new` meets its contract: each message is of a group, whose count fits. Assumes nothing.
use native.Mathlib.Omega.{arith}
use Rattle.rules.specs.Memory.{word}
use Rattle.validate.proofs.lines.CountLaws.{queued-few, counts-none, counts-more, known-group}
use Rattle.validate.proofs.lines.Lines.new.Goals as goal

pub loop-i-init : goal.loop-i-init
loop-i-init c = counts-none c.args.m.now

pub bounds-queued-queue_word : goal.bounds-queued-queue_word
unfolding word
bounds-queued-queue_word c = known-group c.args.m.now c.requires c.loop-i.i c.queue_word.result (omega arith) c.queue_word.ensures

pub overflow_add-queued : goal.overflow_add-queued
unfolding word
overflow_add-queued c =
    let g = c.queue_word.result in
    let group = known-group c.args.m.now c.requires c.loop-i.i g (omega arith) c.queue_word.ensures in
    omega (arith, c.loop-i.invariant.each g group, queued-few c.args.m.now c.loop-i.i g)

pub bounds-queued-queue_word-in-loop-i : goal.bounds-queued-queue_word-in-loop-i
unfolding word
bounds-queued-queue_word-in-loop-i c = known-group c.args.m.now c.requires c.loop-i.i c.queue_word.result (omega arith) c.queue_word.ensures

pub loop-i-preserved : goal.loop-i-preserved
unfolding word
loop-i-preserved c =
    let l = c.loop-i in
    let g = c.queue_word.result in
    let group = known-group c.args.m.now c.requires l.i g (omega arith) c.queue_word.ensures in
    counts-more c.args.m.now l.i g l.queued l.invariant c.queue_word.ensures group
