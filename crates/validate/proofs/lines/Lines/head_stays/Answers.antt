-- `validate::lines::Lines::head_stays` meets its contract: the timer where the queue is empty, else the head's group, which the queue's clause has found
-- to be one of the eight: it runs, its buffer holds no message, and it is not revoked. Assumes nothing.
use mathlib.Core.Path.{sym, ◌∙◌}
use native.Mathlib.Omega.{arith}
use borrow.Author.Tests.{eqb-true, eqb-false, ne_eqb}
use Rattle.rules.specs.Memory.{word}
use Rattle.validate.proofs.lines.LineLaws.{head-none, head-framed, head-other, head-held, head-direct}
use Rattle.validate.proofs.lines.Lines.head_stays.Goals as goal
use Rattle.validate.proofs.lines.Lines.head_stays.Goals.{then-g-self, else-g-self}

pub returns-then-self-eq0 : goal.returns-then-self-eq0
unfolding word
returns-then-self-eq0 c =
    head-none c.args.self.now.m.now c.if-self-eq0.true ∙ c.timer_idle.ensures

pub group_word-requires : goal.group_word-requires
unfolding word
group_word-requires c =
    let f = head-framed c.args.self.now.m.now c.args.self.now.lined c.if-self-eq0.false in
    record { long = f.long; low = f.low; high = f.high; inside = omega arith }

pub group_word-requires-then-group_word-eq0 : goal.group_word-requires-then-group_word-eq0
unfolding word
group_word-requires-then-group_word-eq0 c =
    let f = head-framed c.args.self.now.m.now c.args.self.now.lined c.if-self-eq0.false in
    record { long = f.long; low = f.low; high = f.high; inside = omega arith }

pub returns-then-group_word-eq0 : goal.returns-then-group_word-eq0
unfolding word
returns-then-group_word-eq0 c =
    let m = c.args.self.now.m.now in
    elim c.if-g-self.branch [
      | then-g-self w ↦
          let none = eqb-true _ 0 (sym w.value-is ∙ c.if-group_word-eq0.true) in
          head-direct m c.args.self.now.lined c.if-self-eq0.false w.if-g-self.true _ _ w.group_word.ensures (omega arith) c.group_word-then-group_word-eq0.ensures
      | else-g-self w ↦ let other = ne_eqb _ _ w.if-g-self.false in cc
    ]

pub returns-else-group_word-eq0 : goal.returns-else-group_word-eq0
unfolding word
returns-else-group_word-eq0 c =
    let m = c.args.self.now.m.now in
    elim c.if-g-self.branch [
      | then-g-self w ↦
          let some = eqb-false _ 0 (sym w.value-is ∙ c.if-group_word-eq0.false) in
          head-held m c.args.self.now.lined c.if-self-eq0.false w.if-g-self.true _ w.group_word.ensures (omega arith) ∙ sym c.if-group_word-eq0.false
      | else-g-self w ↦ head-other m c.if-self-eq0.false w.if-g-self.false ∙ sym c.if-group_word-eq0.false
    ]
