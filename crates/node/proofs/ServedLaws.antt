-- A request of the running group, as a step: refused it leaves the memory, and accepted it does what the table says. Where that leaves
-- nothing to settle and no upcall due, report and node are the request's own. Assumes nothing.
use Prim.Native.Nat.{ℕ, suc, ◌≤◌}
use native.Mathlib.Omega.{arith}
use mathlib.Core.List.{List}
use mathlib.Core.Path.{◌≡◌, ◌∙◌, refl}
use lib.ListN.{get_or}
use borrow.Author.Tests.{ne_eqb}
use Rattle.rules.specs.Build.{paper01}
use Rattle.rules.specs.Memory.{word}
use Rattle.rules.specs.Node.{Node}
use Rattle.rules.specs.Operation.{Report, Request, accepted, refused, user}
use Rattle.rules.specs.Refusal.{refusal, refuse_request}
use Rattle.rules.specs.Step.{Effect, act, serve}
use Rattle.rules.specs.Types.{report_of}
use Rattle.rules.specs.declared.Report.{Report as Report·rt}
use Rattle.rules.specs.Sound.{Sound}
use Rattle.rules.proofs.Steps.StepLaws.{act-sound}
use Rattle.memory.specs.Holds.{Holds}
use Rattle.memory.proofs.PieceLaws.{holds-pieces}
use Rattle.node.specs.Steps.{Acting, Running, Stepping, effect}
use Rattle.rules.proofs.Steps.QuietLaws.{Quiet}
use Rattle.node.proofs.StepMap.{acting-unsettled, one-act, stepping-quiet, stepping-refused}

-- the running group is the first number of the memory
pub runner : {m : List ℕ} {n : Node} {r : List ℕ} → Holds m n r → get_or m 0 0 ≡ n.running
unfolding word
runner h = (holds-pieces h).running

-- the request's own report: no upcall
unfoldable pub own_report : Effect → Report
own_report e = record { answer = accepted; value = e.value; trap = e.trap; upcall = 0; moved = e.moved; sent = e.sent }

module _ {n : Node} (runs : Running n) (q : Request) where
  -- a request is refused for its own reasons alone where a group runs
  pub request-refusal : refusal paper01 n (user q) ≡ refuse_request n q
  unfolding refusal
  request-refusal = rw (ne_eqb n.running 0 (λ e. omega (arith, runs.some)))

  -- an accepted one leaves a sound node
  pub request-sound : refuse_request n q ≡ accepted → Sound paper01 (serve paper01 n q).node
  unfolding act
  request-sound e = act-sound runs.valid (user q) (request-refusal ∙ e)

  module _ {m : List ℕ} {r : List ℕ} where
    -- refused
    pub request-refused : Holds m n r → (k : ℕ) → refuse_request n q ≡ suc k → Stepping m n r (user q) (report_of (refused (suc k)))
    request-refused h k e = stepping-refused (user q) k (request-refusal ∙ e) h

    -- accepted, with nothing to settle and no upcall due
    pub request-quiet : {rep : Report·rt} → refuse_request n q ≡ accepted → Quiet paper01 (serve paper01 n q).node
        → rep ≡ report_of (own_report (serve paper01 n q)) → Holds m (serve paper01 n q).node r → Stepping m n r (user q) rep
    unfolding act own_report
    request-quiet e quiet report h = stepping-quiet (user q) (serve paper01 n q) (one-act n (user q) tt (request-refusal ∙ e) refl) quiet h report

    -- accepted, and to settle
    pub request-unsettled : (k : Node) (trap moved : ℕ) → refuse_request n q ≡ accepted → serve paper01 n q ≡ effect k trap moved → Sound paper01 k
        → moved ≤ paper01.places → Holds m k r → Acting m n r (user q) trap moved
    unfolding act
    request-unsettled k trap moved fine same s few h =
        acting-unsettled (user q) k trap moved (one-act n (user q) tt (request-refusal ∙ fine) same) s few h
