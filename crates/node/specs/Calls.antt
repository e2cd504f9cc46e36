-- Runs of the public calls: any list of calls that step a node, each handed the words that the last one left, from a call of
-- `Node::power_on` on. What a call is, is what its contract promises, and nothing else. `step` is one of them; any other that promises the step
-- of an `Input` is too, as that of a script line. Assumes nothing.
use Rattle.std.specs.Prelude.{ℕ, ◌≤◌, List, [], ◌∷◌, map, true, ◌≢◌, ◌≡◌, length, drop}
use Rattle.rules.specs.Memory.{size, node_at}
use Rattle.rules.specs.MemoryTest.{is_memory, power_on_memory, step_memory, head_part, head_words}
use Rattle.rules.specs.Operation.{turn, user, peek, accepted_with, no_trap}
use Rattle.rules.specs.Run.{Input, operation, asked, Event, run_memory}
use Rattle.rules.specs.Turn.{whose_turn}
use Rattle.rules.specs.Types.{operation_of, report_of}
use Rattle.rules.specs.Conditions.{FirstDue}
use Rattle.rules.specs.DemandOne.{only_number}
use Rattle.rules.specs.DemandThree.{OverMemory}
use Rattle.rules.specs.Dumps.{Clean}
use Rattle.rules.specs.Reading.{Reads}
use Rattle.rules.specs.declared.Operation.{Operation as Operation·rt}
use Rattle.rules.specs.declared.Report.{Report as Report·rt}
use Rattle.memory.specs.Answers.{Answers}
use Rattle.node.specs.declared.message.Part.{Part as Part·rt}
use Rattle.node.specs.Parts.{part_of, shown_by}

-- a call: what it asks, as a step of a run, and what it reports
pub record Call : Type 0 where
  pub input : Input
  pub report : Report·rt

-- a call of `step`, which is handed an operation and an arrival's words beside the memory
abbrev pub step_call : Operation·rt → List ℕ → Report·rt → Call
step_call op words rep = record { input = operation (operation_of op words); report = rep }

-- a call is promised by its contract: handed m, it leaves m'
abbrev pub Promised : List ℕ → Call → List ℕ → Type 0
Promised m c m' = Answers m' c.report (step_memory m (asked c.input))

-- calls, each handed what the last one left
pub data Calls : List ℕ → List Call → List ℕ → Type 0 where
  none : {m : List ℕ} → Calls m [] m
  next : {m m₁ m₂ : List ℕ} {c : Call} {cs : List Call} → Promised m c m₁ → Calls m₁ cs m₂ → Calls m (c ∷ cs) m₂

-- what calls ask, in order
abbrev pub inputs_of : List Call → List Input
inputs_of cs = map (λ (c : Call). c.input) cs

-- what is seen of a run's reports
abbrev pub reports_of : List Event → List Report·rt
reports_of es = map (λ e. report_of e.report) es

-- what holds of calls behind a power-on on memory m, which they left as m'
pub record CallsHold (m : List ℕ) (cs : List Call) (m' : List ℕ) : Type 0 where
  -- they are a run of the rules: the same memory, and the same reports
  pub memory : m' ≡ (run_memory m (inputs_of cs)).memory
  pub reports : map (λ (c : Call). c.report) cs ≡ reports_of (run_memory m (inputs_of cs)).events
  -- so demand 3 is theirs
  pub demand-three : OverMemory m (inputs_of cs)

-- what holds of one call on any memory: demand 1, of its report and of the words it left, and order 3
pub record CallHolds (m : List ℕ) (c : Call) (m' : List ℕ) : Type 0 where
  -- "each refusal has its number"
  pub answered : FirstDue m (node_at m) (asked c.input) c.report.answer
  -- "a report otherwise of zeros, and memory exactly as it was"
  pub refused-unchanged : c.report.answer ≢ 0 → (c.report ≡ report_of (only_number c.report.answer)) × (m' ≡ m)
  -- "Memory past the node's size is never touched."
  pub length-kept : length m' ≡ length m
  pub rest-kept : drop 8104 m' ≡ drop 8104 m
  -- a node stays a node
  pub stays-node : is_memory m ≡ true → is_memory m' ≡ true
  -- and has no old words: what a message or a page leaves is wiped
  pub clean : is_memory m ≡ true → Clean m'

-- the demands, and orders 3, 4 and 7, of the calls themselves
pub record CallsDemanded : Type 0 where
  pub any-call : (m : List ℕ) (c : Call) (m' : List ℕ) → Promised m c m' → CallHolds m c m'
  -- a call that asks E, as `step` with `Peek i`, and the head calls on the same memory: `head` hands back ws, and `head_part` says where they
  -- stand
  pub any-peek : (m : List ℕ) (c : Call) (m' : List ℕ) (i : ℕ) (p : Part·rt) (ws : List ℕ)
      → asked c.input ≡ user (peek i)
      → Promised m c m'
      → p ≡ part_of (head_part m)
      → ws ≡ head_words m
      → Reads m i c.report.answer c.report.value (shown_by p) ws
  -- a call that asks C, on memory that is a node, names whose turn it is, and leaves every word
  pub any-turn : (m : List ℕ) (c : Call) (m' : List ℕ)
      → asked c.input ≡ turn
      → Promised m c m'
      → is_memory m ≡ true
      → (c.report ≡ report_of (accepted_with (whose_turn (node_at m)) no_trap 0 0)) × (m' ≡ m)
  -- any list of calls behind a power-on on memory that is long enough
  pub any-calls : (m m₀ m' : List ℕ) (rep : Report·rt) (cs : List Call)
      → size ≤ length m
      → Answers m₀ rep (power_on_memory m)
      → Calls m₀ cs m'
      → CallsHold m cs m'
