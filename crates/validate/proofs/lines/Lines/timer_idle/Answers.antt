-- `validate::lines::Lines::timer_idle` meets its contract: the timer is at rest, nobody runs, or the running group's force decides, which stands only with
-- atomic. Assumes nothing.
use mathlib.Core.Path.{refl, sym, ap, ◌∙◌}
use mathlib.Core.Bool.{not}
use borrow.Author.Tests.{eq-eqb}
use Rattle.rules.specs.Memory.{word}
use Rattle.validate.proofs.lines.LineLaws.{timer-rests, timer-nobody, timer-forced}
use Rattle.validate.proofs.lines.Lines.timer_idle.Goals as goal

pub returns-then-self-eq0 : goal.returns-then-self-eq0
unfolding word
returns-then-self-eq0 c = timer-rests c.args.self.now.m.now _ refl c.if-self-eq0.true ∙ sym (eq-eqb _ 0 c.if-self-eq0.true)

pub returns-then-runner-ne0 : goal.returns-then-runner-ne0
unfolding word
returns-then-runner-ne0 c =
    timer-forced c.args.self.now.m.now _ refl c.if-self-eq0.false c.args.self.now.lined c.if-runner-ne0.true _ c.group_word.ensures

pub returns-else-runner-ne0 : goal.returns-else-runner-ne0
unfolding word
returns-else-runner-ne0 c =
    timer-nobody c.args.self.now.m.now _ refl c.if-self-eq0.false c.if-runner-ne0.false ∙ sym (ap not (eq-eqb _ 0 c.if-runner-ne0.false))
