-- Runs of the public calls that step a node, `node::step` and `line`, in any order: demand 3 counts script lines among the steps of a run.
-- Assumes nothing.
use Rattle.std.specs.Prelude.{ℕ, ◌≤◌, List, map, length}
use Rattle.rules.specs.Memory.{size}
use Rattle.rules.specs.MemoryTest.{power_on_memory, step_memory}
use Rattle.rules.specs.Run.{script_line}
use Rattle.rules.specs.Script.{read_line}
use Rattle.rules.specs.Types.{operation_of}
use Rattle.rules.specs.declared.Operation.{Operation as Operation·rt}
use Rattle.rules.specs.declared.Report.{Report as Report·rt}
use Rattle.memory.specs.Answers.{Answers}
use Rattle.node.specs.Calls.{Call, CallHolds, Calls, CallsHold, Promised, step_call}

-- a call of `line`, which is handed a text beside the memory
abbrev pub line_call : List ℕ → Report·rt → Call
line_call text rep = record { input = script_line text; report = rep }

-- either call, with what it is handed beside the memory, and what it reports
pub data PublicCall : Type 0 where
  of_step : Operation·rt → List ℕ → Report·rt → PublicCall
  of_line : List ℕ → Report·rt → PublicCall

-- as a call of a run
unfoldable pub call_of : PublicCall → Call
call_of (of_step op words rep) = step_call op words rep
call_of (of_line text rep) = line_call text rep

-- the demands of both calls; lists of lines alone are among those of `any-calls`
pub record LinesDemanded : Type 0 where
  -- the contract of `node::step`, and that of `line`, are what a run asks of a call
  pub step-promised : (m m' words : List ℕ) (op : Operation·rt) (rep : Report·rt)
      → Answers m' rep (step_memory m (operation_of op words))
      → Promised m (call_of (of_step op words rep)) m'
  pub line-promised : (m m' text : List ℕ) (rep : Report·rt)
      → Answers m' rep (step_memory m (read_line text))
      → Promised m (call_of (of_line text rep)) m'
  -- one call on any memory
  pub any-call : (m : List ℕ) (c : PublicCall) (m' : List ℕ) → Promised m (call_of c) m' → CallHolds m (call_of c) m'
  -- any list of calls behind a power-on on memory that is long enough
  pub any-calls : (m m₀ m' : List ℕ) (rep : Report·rt) (cs : List PublicCall)
      → size ≤ length m
      → Answers m₀ rep (power_on_memory m)
      → Calls m₀ (map call_of cs) m'
      → CallsHold m (map call_of cs) m'
