-- The answers for every message of a script, however it is cut into portions: calls of `tell`, each handed the memory and the state that the last one
-- left, and one of `finish`. Assumes nothing.
use Rattle.std.specs.Prelude.{ℕ, ◌+◌, ◌*◌, ◌≤◌, ◌<◌, List, [], ◌∷◌, ◌++◌, ◌≡◌, length, take}
use Rattle.rules.specs.Memory.{size}
use Rattle.rules.specs.MemoryTest.{power_on_memory}
use Rattle.reasons.specs.Why.{why_all}
use Rattle.script.specs.Feed.{kept_line, last_number}
use Rattle.follow.specs.Every.{FinishedTo, ToldTo, waiting_of}
use Rattle.follow.specs.Waiting.{lines_room}
use Rattle.follow.specs.declared.every.End.{End as End·rt}
use Rattle.follow.specs.declared.every.State.{State as State·rt}
use Rattle.follow.specs.declared.every.Told.{Told as Told·rt}

-- one call of `tell`: what it was handed beside memory and state, and what it left
pub record Portion : Type 0 where
  pub input : List ℕ
  pub output : List ℕ
  pub memory-after : List ℕ
  pub output-after : List ℕ
  pub told : Told·rt

-- the bytes that all calls used, and those that they wrote
unfoldable pub used_bytes : List Portion → List ℕ
used_bytes [] = []
used_bytes (p ∷ ps) = take p.told.used p.input ++ used_bytes ps

unfoldable pub written_bytes : List Portion → List ℕ
written_bytes [] = []
written_bytes (p ∷ ps) = take p.told.written p.output-after ++ written_bytes ps

-- the memory and the state that calls leave
unfoldable pub last_memory : List ℕ → List Portion → List ℕ
last_memory m [] = m
last_memory m (p ∷ ps) = last_memory p.memory-after ps

unfoldable pub last_state : State·rt → List Portion → State·rt
last_state st [] = st
last_state st (p ∷ ps) = last_state p.told.state ps

-- calls that keep what `tell` promises, each with line numbers enough
unfoldable pub Tells : List ℕ → State·rt → List Portion → Type 0
Tells m st [] = Unit
Tells m st (p ∷ ps) =
    ToldTo m st p.input p.output p.memory-after p.output-after p.told
    × ((st.script.lines + length p.input < last_number) × Tells p.memory-after p.told.state ps)

-- from power-on on and a new state, calls over a script, and its end, with room and a line number for a line that has begun
pub record TellsScript (m : List ℕ) (st : State·rt) (ps : List Portion) (s out m' out' : List ℕ) (e : End·rt) : Type 0 where
  pub long : size ≤ length m
  pub none : st.script.lines ≡ 0
  pub empty : kept_line st.script ≡ []
  pub nobody : waiting_of st ≡ []
  pub tells : Tells (power_on_memory m).memory st ps
  pub read : used_bytes ps ≡ s
  pub room : 2 * lines_room ≤ length out
  pub number : (last_state st ps).script.lines + 1 < last_number
  pub finishes : FinishedTo (last_memory (power_on_memory m).memory ps) (last_state st ps) out m' out' e

-- whatever the portions, what is written is the answer for every accepted arrival
pub record PortionsAllTold : Type 0 where
  pub told : (m s : List ℕ) (st : State·rt) (ps : List Portion) (out m' out' : List ℕ) (e : End·rt)
      → TellsScript m st ps s out m' out' e → written_bytes ps ++ take e.written out' ≡ why_all s
