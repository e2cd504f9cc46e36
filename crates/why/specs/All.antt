-- What the answers for every accepted arrival promise where all goes well: what a read brings is told of whole, by calls of `tell` that `PortionsAllTold`
-- speaks of, each with line numbers enough; and to the end of its input a run writes the answer for every accepted arrival of its script.
-- Assumes nothing.
use Rattle.std.specs.Prelude.{ℕ, ◌+◌, ◌*◌, ◌≤◌, ◌<◌, List, [], ◌++◌, ◌≡◌, length, take}
use Rattle.rules.specs.Memory.{size}
use Rattle.rules.specs.MemoryTest.{power_on_memory}
use Rattle.reasons.specs.Why.{why_all}
use Rattle.script.specs.Feed.{kept_line, last_number}
use Rattle.follow.specs.Every.{FinishedTo, waiting_of}
use Rattle.follow.specs.EveryPortions.{Portion, last_memory, last_state, used_bytes, written_bytes}
use Rattle.follow.specs.EveryPortions as every
use Rattle.follow.specs.Waiting.{lines_room}
use Rattle.follow.specs.declared.every.End.{End as End·rt}
use Rattle.follow.specs.declared.every.State.{State as State·rt}

-- calls lead from a memory and a state to others, and have used these bytes
pub record Reaches (m : List ℕ) (st : State·rt) (bs m' : List ℕ) (st' : State·rt) : Type 0 where
  pub calls : List Portion
  pub tells : every.Tells m st calls
  pub used : used_bytes calls ≡ bs
  pub memory : last_memory m calls ≡ m'
  pub state : last_state st calls ≡ st'

-- a run: what its reads brought is used
pub record Runs (m : List ℕ) (st : State·rt) (m' : List ℕ) (st' : State·rt) : Type 0 where
  pub script : List ℕ
  pub reaches : Reaches m st script m' st'

-- the script's end, with a number for a line that has begun
pub record Ends (m : List ℕ) (st : State·rt) (out m' out' : List ℕ) : Type 0 where
  pub end : End·rt
  pub room : 2 * lines_room ≤ length out
  pub number : st.script.lines + 1 < last_number
  pub finished : FinishedTo m st out m' out' end

-- what the program has done: from power-on and a new state a run to the end of its input, and the script's end
pub record Tells (m : List ℕ) : Type 0 where
  pub state : State·rt
  pub none : state.script.lines ≡ 0
  pub empty : kept_line state.script ≡ []
  pub nobody : waiting_of state ≡ []
  pub memory : List ℕ
  pub last : State·rt
  pub runs : Runs (power_on_memory m).memory state memory last
  pub out : List ℕ
  pub memory' : List ℕ
  pub out' : List ℕ
  pub ends : Ends memory last out memory' out'

-- what its calls have written
unfoldable pub written_by : {m : List ℕ} → Tells m → List ℕ
written_by a = written_bytes a.runs.reaches.calls ++ take a.ends.end.written a.out'

-- they have written the answer for every accepted arrival of the script that the reads brought
pub record RunAllTold : Type 0 where
  pub written : (m : List ℕ) → size ≤ length m → (a : Tells m) → written_by a ≡ why_all a.runs.script
