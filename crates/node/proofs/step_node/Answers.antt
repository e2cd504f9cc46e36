-- `node::step_node` meets its contract: what has acted is finished. Where it is done, sent or refused, the check
-- finds the answer alone. Assumes nothing.
use Prim.Native.Nat.{ℕ}
use borrow.Author.Rules.{rules}
use mathlib.Core.Path.{◌≡◌, sym}
use Rattle.std.specs.Prelude.{Option, Some, None, MatchOption}
use Rattle.rules.specs.declared.Trap.{Trap as Trap·rt}
use Rattle.rules.specs.Numbers.{trap_number}
use Rattle.node.proofs.StepMap.{stepping-acted}
use Rattle.node.proofs.step_node.Goals as goal

-- the number of a trap, as it is read from its name
numbered : (t : Option Trap·rt) {k : ℕ} {P : Trap·rt → Type 0} → ((x : Trap·rt) → P x → k ≡ trap_number (Some x)) → MatchOption t (k ≡ 0) P → trap_number t ≡ k
numbered None read e = sym e
numbered (Some x) read e = sym (read x e)

pub returns-in-Ok-Settles : goal.returns-in-Ok-Settles
returns-in-Ok-Settles c n r h v =
    let a = rw c.in-Ok-Settles.field-0-is at (c.in-Ok-Settles.ensures n r h v) in
    let told : trap_number c.in-Ok-Settles.trap ≡ c.map_or.result = numbered c.in-Ok-Settles.trap (λ x p. search rules) c.map_or.ensures in
    stepping-acted _ a (rw told (c.finish.ensures a.node r a.holds a.sound))
