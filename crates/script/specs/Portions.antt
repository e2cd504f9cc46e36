-- "every script has its one listing", however it is cut into portions: calls of `feed`, each handed the memory and the state that the last one
-- left. Assumes nothing.
use Rattle.std.specs.Prelude.{ℕ, ◌+◌, ◌≤◌, ◌<◌, cond, List, [], ◌∷◌, ◌++◌, ◌≡◌, length, take}
use Rattle.rules.specs.Lists.{is_empty}
use Rattle.rules.specs.Memory.{size}
use Rattle.rules.specs.MemoryTest.{power_on_memory}
use Rattle.rules.specs.Script.{header, listing, newline}
use Rattle.script.specs.Feeding.{begun}
use Rattle.script.specs.Feed.{kept_line, last_number, FedTo}
use Rattle.script.specs.declared.feed.Fed.{Fed as Fed·rt}
use Rattle.script.specs.declared.feed.State.{State as State·rt}

-- one call: what it was handed beside memory and state, and what it left
pub record Portion : Type 0 where
  pub input : List ℕ
  pub output : List ℕ
  pub memory-after : List ℕ
  pub output-after : List ℕ
  pub fed : Fed·rt

-- the bytes that it used, and those that it listed
unfoldable pub used_of : Portion → List ℕ
used_of p = take p.fed.used p.input

unfoldable pub listed_of : Portion → List ℕ
listed_of p = take p.fed.written p.output-after

-- those of all calls, joined
unfoldable pub used_bytes : List Portion → List ℕ
used_bytes [] = []
used_bytes (p ∷ ps) = used_of p ++ used_bytes ps

unfoldable pub listed_bytes : List Portion → List ℕ
listed_bytes [] = []
listed_bytes (p ∷ ps) = listed_of p ++ listed_bytes ps

-- the memory and the state that calls leave
unfoldable pub last_memory : List ℕ → List Portion → List ℕ
last_memory m [] = m
last_memory m (p ∷ ps) = last_memory p.memory-after ps

unfoldable pub last_state : State·rt → List Portion → State·rt
last_state st [] = st
last_state st (p ∷ ps) = last_state p.fed.state ps

-- calls that keep what `feed` promises, each with line numbers enough
unfoldable pub Feeds : List ℕ → State·rt → List Portion → Type 0
Feeds m st [] = Unit
Feeds m st (p ∷ ps) =
    FedTo m st p.input p.output p.memory-after p.output-after p.fed
    × ((st.lines + length p.input < last_number) × Feeds p.memory-after p.fed.state ps)

-- a script whose last line has its newline: at the end of the input one is fed where a line has begun
unfoldable pub ended_script : List ℕ → List ℕ
ended_script s = cond (is_empty (begun s)) s (s ++ (newline ∷ []))

-- what is fed for that behind a state
unfoldable pub last_newline : State·rt → List ℕ
last_newline st = cond (is_empty (kept_line st)) [] (newline ∷ [])

-- whatever the portions, the header and what was listed are the listing
pub record PortionsListed : Type 1 where
  pub listed : (m s : List ℕ) (st : State·rt) (ps : List Portion) → size ≤ length m → st.lines ≡ 0 → kept_line st ≡ []
      → Feeds (power_on_memory m).memory st ps → used_bytes ps ≡ ended_script s → header ++ listed_bytes ps ≡ listing s
