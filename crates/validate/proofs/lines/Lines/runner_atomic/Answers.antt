-- `validate::lines::Lines::runner_atomic` meets its contract: nobody, an empty line, or the flag. Assumes nothing.
use mathlib.Core.Path.{refl, sym, ◌∙◌}
use borrow.Author.Tests.{eq-eqb}
use Rattle.rules.specs.Memory.{word}
use Rattle.validate.proofs.lines.LineLaws.{runner-framed, runner-none, runner-idle, runner-busy, empty-line, some-line}
use Rattle.validate.proofs.lines.Lines.runner_atomic.Goals as goal
use Rattle.validate.proofs.lines.Lines.runner_atomic.Goals.{then-runner-eq0, else-runner-eq0}

pub returns-then-not-has_line : goal.returns-then-not-has_line
unfolding word
returns-then-not-has_line c =
    let m = c.args.self.now.m.now in
    elim c.if-runner-eq0.branch [
      | then-runner-eq0 w ↦ runner-none m _ refl w.if-runner-eq0.true ∙ sym c.if-not-has_line.true
      | else-runner-eq0 w ↦ runner-idle m _ refl (empty-line w.has_line.ensures w.value-is c.if-not-has_line.true) ∙ sym c.if-not-has_line.true
    ]

pub returns-else-not-has_line : goal.returns-else-not-has_line
unfolding word
returns-else-not-has_line c =
    let m = c.args.self.now.m.now in
    elim c.if-runner-eq0.branch [
      | then-runner-eq0 w ↦ let none = eq-eqb _ 0 w.if-runner-eq0.true in cc
      | else-runner-eq0 w ↦
          let f = runner-framed m _ refl c.args.self.now.lined w.if-runner-eq0.false in
          runner-busy m _ refl f w.if-runner-eq0.false (some-line w.has_line.ensures w.value-is c.if-not-has_line.false) _ c.group_word.ensures
    ]
