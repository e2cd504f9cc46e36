-- `validate::lines::Lines::runner_in_frame` meets its contract: nobody, no page, or the number of the first. Assumes nothing.
use mathlib.Core.Path.{refl, sym, ◌∙◌}
use borrow.Author.Tests.{eq-eqb, eqb-true, eqb-false}
use Rattle.rules.specs.Memory.{word}
use Rattle.validate.proofs.lines.LineLaws.{runner-framed, first-nobody, first-none, first-page}
use Rattle.validate.proofs.lines.Lines.runner_in_frame.Goals as goal
use Rattle.validate.proofs.lines.Lines.runner_in_frame.Goals.{then-runner-eq0, else-runner-eq0}

pub returns-then-group_word-eq0 : goal.returns-then-group_word-eq0
unfolding word
returns-then-group_word-eq0 c =
    let m = c.args.self.now.m.now in
    elim c.if-runner-eq0.branch [
      | then-runner-eq0 w ↦ first-nobody m _ refl w.if-runner-eq0.true ∙ sym c.if-group_word-eq0.true
      | else-runner-eq0 w ↦
          let f = runner-framed m _ refl c.args.self.now.lined w.if-runner-eq0.false in
          let none = eqb-true _ 0 (sym w.value-is ∙ c.if-group_word-eq0.true) in
          first-none m _ refl f w.if-runner-eq0.false (sym w.group_word.ensures ∙ none) ∙ sym c.if-group_word-eq0.true
    ]

pub returns-else-group_word-eq0 : goal.returns-else-group_word-eq0
unfolding word
returns-else-group_word-eq0 c =
    let m = c.args.self.now.m.now in
    elim c.if-runner-eq0.branch [
      | then-runner-eq0 w ↦ let nobody = eq-eqb _ 0 w.if-runner-eq0.true in cc
      | else-runner-eq0 w ↦
          let f = runner-framed m _ refl c.args.self.now.lined w.if-runner-eq0.false in
          let some = eqb-false _ 0 (sym w.value-is ∙ c.if-group_word-eq0.false) in
          first-page m _ refl f w.if-runner-eq0.false _ _ w.group_word.ensures some c.group_word-else-group_word-eq0.ensures
    ]
