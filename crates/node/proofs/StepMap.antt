-- A step on the memory of a node: refused, finished, or quiet; and one that is to settle. Assumes nothing.
use Prim.Native.Nat.{suc, ◌≤◌, ℕ}
use mathlib.Core.List.{List}
use mathlib.Core.Path.{◌∙◌, ◌≡◌, ap, refl, subst, sym}
use Rattle.rules.specs.Build.{paper01}
use Rattle.rules.specs.Node.{Node}
use Rattle.rules.specs.Operation.{Operation, accepted, accepted_with, all_zero, refused}
use Rattle.rules.specs.Refusal.{refusal}
use Rattle.rules.specs.Step.{act, finish, step, Effect, Stepped}
use Rattle.rules.specs.Types.{report_of}
use Rattle.std.specs.Prelude.{Result, Ok, Err, IsErrAnd}
use Rattle.rules.specs.declared.Refusal.{Refusal as Refusal·rt}
use Rattle.rules.specs.declared.Report.{Report as Report·rt}
use Rattle.rules.proofs.Steps.StepLaws.{OneAct, step-accepted, step-refused}
use Rattle.memory.specs.Holds.{Holds}
use Rattle.rules.specs.Sound.{Sound}
use Rattle.node.specs.Steps.{Acting, Finished, Stepping, effect}
use Rattle.rules.proofs.Steps.QuietLaws.{Quiet, quiet-finish}

-- a refusal that is handed on is the same
pub handed-on : {A : Type 0} (a : Result A Refusal·rt) {x : Refusal·rt} → IsErrAnd a (λ y. y ≡ x) → a ≡ Err x
handed-on (Ok a) k = absurd k
handed-on (Err y) k = ap Err k

-- an accepted operation of one act is finished
pub one-act : (n : Node) (op : Operation) {e : Effect} → OneAct op → refusal paper01 n op ≡ accepted → act paper01 n op ≡ e
    → step paper01 n op ≡ finish paper01 e
one-act n op one in_order same = step-accepted paper01 n op one in_order ∙ ap (finish paper01) same

module _ {m : List ℕ} {n : Node} {r : List ℕ} (op : Operation) {rep : Report·rt} where
  -- a step by what it is
  stepping-as : {s : Stepped} → step paper01 n op ≡ s → rep ≡ report_of s.report → Holds m s.node r → Stepping m n r op rep
  stepping-as same e h =
      record {
        report = e ∙ ap (λ (t : Stepped). report_of t.report) (sym same);
        holds = subst (λ (t : Stepped). Holds m t.node r) (sym same) h;
      }

  -- what has acted and is then finished
  pub stepping-acted : {m₀ : List ℕ} {trap moved : ℕ} → (a : Acting m₀ n r op trap moved) → Finished m (effect a.node trap moved) r rep
      → Stepping m n r op rep
  stepping-acted a f = stepping-as a.same f.report f.holds

  -- and where nothing settles and no upcall is due, it is what the operation did
  pub stepping-quiet : (e : Effect) → step paper01 n op ≡ finish paper01 e → Quiet paper01 e.node → Holds m e.node r
      → rep ≡ report_of (record { answer = accepted; value = e.value; trap = e.trap; upcall = 0; moved = e.moved; sent = e.sent }) → Stepping m n r op rep
  stepping-quiet e same q h report = stepping-as (same ∙ quiet-finish e q) report h

module _ {m : List ℕ} {n : Node} {r : List ℕ} (op : Operation) where
  -- a refused step leaves the memory as it was
  pub stepping-refused : (k : ℕ) → refusal paper01 n op ≡ suc k → Holds m n r → Stepping m n r op (report_of (refused (suc k)))
  stepping-refused k out h = stepping-as op (step-refused paper01 n op k out) refl h

  -- one that does nothing
  pub stepping-still : step paper01 n op ≡ record { report = all_zero; node = n } → Holds m n r → Stepping m n r op (report_of (accepted_with 0 0 0 0))
  stepping-still same h = stepping-as op same refl h

  -- one that is to settle
  pub acting-unsettled : (k : Node) (trap moved : ℕ) → step paper01 n op ≡ finish paper01 (effect k trap moved) → Sound paper01 k → moved ≤ paper01.places
      → Holds m k r → Acting m n r op trap moved
  acting-unsettled k trap moved same s few h = record { node = k; same = same; sound = s; holds = h; few = few }
