-- What the program promises where all goes well: what a read brings is fed whole, by calls of `feed` that `PortionsListed` speaks of, each with
-- line numbers enough; and to the end of its input a run lists its script. Assumes nothing.
use Rattle.std.specs.Prelude.{ℕ, ◌≤◌, true, List, [], ◌++◌, ◌≡◌, length}
use Rattle.rules.specs.Lists.{is_empty}
use Rattle.rules.specs.Memory.{size}
use Rattle.rules.specs.MemoryTest.{power_on_memory}
use Rattle.rules.specs.Script.{header, listing}
use Rattle.script.specs.Feed.{kept_line}
use Rattle.script.specs.Portions.{Portion, Feeds, used_bytes, listed_bytes, last_memory, last_newline, last_state}
use Rattle.script.specs.declared.feed.State.{State as State·rt}

-- calls lead from a memory and a state to others, and have used these bytes
pub record Reaches (m : List ℕ) (st : State·rt) (bytes m' : List ℕ) (st' : State·rt) : Type 0 where
  pub calls : List Portion
  pub fed : Feeds m st calls
  pub used : used_bytes calls ≡ bytes
  pub memory : last_memory m calls ≡ m'
  pub state : last_state st calls ≡ st'

-- "A last line may lack its newline.": it is fed at the end of the input; where no line has begun nothing changes
pub record Finishes (m : List ℕ) (st : State·rt) (m' : List ℕ) (st' : State·rt) : Type 0 where
  pub reaches : Reaches m st (last_newline st) m' st'
  pub unchanged : is_empty (kept_line st) ≡ true → (m' ≡ m) × (st' ≡ st)

-- whatever state is left
pub record Finished (m : List ℕ) (st : State·rt) (m' : List ℕ) : Type 0 where
  pub state : State·rt
  pub finishes : Finishes m st m' state

-- a run up to the end of its input: what its reads brought is used
pub record Ends (m : List ℕ) (st : State·rt) (m' : List ℕ) (st' : State·rt) : Type 0 where
  pub script : List ℕ
  pub memory : List ℕ
  pub state : State·rt
  pub reaches : Reaches m st script memory state
  pub finishes : Finishes memory state m' st'

-- what the calls of a run up to the end of its input have listed
unfoldable pub listed_by : {m : List ℕ} {st : State·rt} {m' : List ℕ} {st' : State·rt} → Ends m st m' st' → List ℕ
listed_by e = listed_bytes e.reaches.calls ++ listed_bytes e.finishes.reaches.calls

-- from power-on and a new state, a run up to the end of its input
pub record Played (m : List ℕ) : Type 0 where
  pub state : State·rt
  pub no_lines : state.lines ≡ 0
  pub no_line : kept_line state ≡ []
  pub memory : List ℕ
  pub last : State·rt
  pub ends : Ends (power_on_memory m).memory state memory last

-- what the program has done where its exit status is 0
pub record Exits (status : ℕ) : Type 0 where
  pub memory : List ℕ
  pub long : size ≤ length memory
  pub played : status ≡ 0 → Played memory

-- "every script has its one listing": its calls have listed, behind the header, what the rules list of the script that the reads brought
pub record RunListed : Type 0 where
  pub listed : (m : List ℕ) → size ≤ length m → (p : Played m) → header ++ listed_by p.ends ≡ listing p.ends.script
