-- `node::turn::mail_set` meets its contract: with group g still to come, the set is that of the groups above it. Assumes nothing.
use Prim.Native.Nat.{ℕ, suc, ◌-◌, ◌≤◌, ◌<◌}
use native.Mathlib.Omega.{arith}
use mathlib.Core.Bool.{true, false}
use mathlib.Core.Path.{◌≡◌, refl, sym, ap, ◌∙◌}
use Rattle.rules.specs.Build.{group_count}
use Rattle.rules.specs.Node.{Node}
use Rattle.rules.specs.Turn.{has_mail}
use Rattle.rules.specs.Turns.{set_from, mail_set}
use Rattle.node.proofs.turn.MailLaws.{set_more, set-within}
use Rattle.node.proofs.turn.mail_set.Goals as goal
use Rattle.node.proofs.turn.mail_set.Goals.{else-mail, then-mail}

-- while a group is still to come the set has at most seven bits
seven : (n : Node) (set g : ℕ) → 1 ≤ g → set ≡ set_from (has_mail n) (suc g) (group_count - g) → set < 128
seven n set g some e = omega (arith, set-within (has_mail n) (suc g) (group_count - g) 7 (omega arith))

pub loop-g-init : goal.loop-g-init
unfolding set_from
loop-g-init c = λ n r h v. refl

pub overflow_mul-set : goal.overflow_mul-set
overflow_mul-set c = let p = c.requires in let l = c.loop-g in let few = seven p.node l.set l.g (omega arith) (l.invariant p.node p.rest p.holds p.fact) in omega arith

pub overflow_add-set : goal.overflow_add-set
overflow_add-set c = let p = c.requires in let l = c.loop-g in let few = seven p.node l.set l.g (omega arith) (l.invariant p.node p.rest p.holds p.fact) in omega arith

pub loop-g-preserved : goal.loop-g-preserved
loop-g-preserved c n r h v =
    let l = c.loop-g in
    let before = l.invariant n r h v in
    let asked = sym (c.mail.ensures n r h v) in
    elim c.if-mail.branch [
      | then-mail w ↦ set_more (has_mail n) l.g (omega arith) (omega arith) true (asked ∙ w.if-mail.true) l.set c.if-mail.set before (omega (arith, w.set-is))
      | else-mail w ↦ set_more (has_mail n) l.g (omega arith) (omega arith) false (asked ∙ w.if-mail.false) l.set c.if-mail.set before (omega (arith, w.set-is))
    ]

pub returns : goal.returns
unfolding mail_set
returns c n r h v =
    let l = c.loop-g in
    let end : l.g ≡ 0 = omega (arith, c.loop-g-test.false) in
    l.invariant n r h v ∙ ap (λ (g : ℕ). set_from (has_mail n) (suc g) (group_count - g)) end
