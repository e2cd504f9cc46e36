-- The tested calls: memory that fails the test is refused and left, and memory that passes it holds the node that is read from it.
-- Assumes nothing.
use Rattle.node.specs.declared.message.Part.{Part as Part·rt}
use Rattle.rules.specs.MemoryTest.{step_memory, head_part, MemoryStep, is_memory, page_counts, replaced}
use Prim.Native.Nat.{ℕ}
use mathlib.Core.Bool.{false, true}
use mathlib.Core.List.{List}
use mathlib.Core.Path.{◌∙◌, ◌≡◌, ap, refl, sym}
use lib.ListN.{drop}
use Rattle.rules.specs.Build.{paper01}
use Rattle.rules.specs.Memory.{brought_at, node_at, out_at, size, word}
use Rattle.rules.specs.Node.{power_on}
use Rattle.rules.specs.Operation.{Operation, not_node, refused}
use Rattle.rules.specs.Types.{report_of}
use Rattle.rules.specs.declared.Report.{Report as Report·rt}
use Rattle.rules.proofs.Map.MapLaws.{test-valid}
use Rattle.rules.proofs.Map.RunMemory.{paper-sensible, step-tested}
use Rattle.rules.proofs.Steps.SoundLaws.{valid-mapped}
use Rattle.rules.proofs.Steps.StepLaws.{power-on-valid, step-valid}
use Rattle.memory.specs.Answers.{Answers}
use Rattle.node.specs.Parts.{FirstPart, part_of}
use Rattle.node.specs.Steps.{IsNode, Steps}
use Rattle.node.proofs.message.HeadLaws.{head-tested, tested-holds}

-- memory that passes the test holds a node
pub tested-node : (m : List ℕ) → is_memory m ≡ true → IsNode m
tested-node m t = record { node = node_at m; rest = drop size m; holds = tested-holds m t; fact = test-valid m t }

-- a step on memory that fails it
pub untested-answers : (m : List ℕ) (op : Operation) {rep : Report·rt} → is_memory m ≡ false → rep ≡ report_of (refused not_node) → Answers m rep (step_memory m op)
unfolding step_memory
untested-answers m op e r = rw (e, step_memory) (record { reported = r; left = refl })

-- and on memory that passes it
pub tested-answers : (m : List ℕ) {m' : List ℕ} (op : Operation) {rep : Report·rt} → is_memory m ≡ true → Steps m m' op rep → Answers m' rep (step_memory m op)
unfolding replaced
tested-answers m op e s =
    let t = step-tested m op e in
    let k = s (node_at m) (drop size m) (tested-holds m e) (test-valid m e) in
    record {
      reported = k.report ∙ ap (λ (u : MemoryStep). report_of u.report) (sym t);
      left = k.holds.map ∙ ap (λ (u : MemoryStep). u.memory) (sym t);
    }

-- a step leaves a node: whoever keeps the memory need not test it again
pub steps-node : {m m' : List ℕ} {op : Operation} {rep : Report·rt} → IsNode m → Steps m m' op rep → IsNode m'
steps-node {op = op} p s =
    let k = s p.node p.rest p.holds p.fact in
    record { node = _; rest = p.rest; holds = k.holds; fact = step-valid p.fact op }

-- power-on leaves one
pub started-node : (m m' : List ℕ) → m' ≡ replaced (power_on paper01) m → IsNode m'
unfolding replaced
started-node m m' e =
    let v = power-on-valid paper01 paper-sensible in
    record { node = power_on paper01; rest = drop size m; holds = record { mapped = valid-mapped v; map = e }; fact = v }

-- The head.

pub tested-part : (m : List ℕ) {p : Part·rt} → is_memory m ≡ true → FirstPart m p → p ≡ part_of (head_part m)
tested-part m e f = f (node_at m) (drop size m) (tested-holds m e) (test-valid m e) ∙ ap part_of (sym (head-tested (tested-holds m e) (test-valid m e)))

-- The counts of pages.

pub tested-counts : (m : List ℕ) → is_memory m ≡ true → page_counts m ≡ record { out = word m out_at; brought = word m brought_at }
unfolding page_counts
tested-counts m e = rw (e, page_counts)
