-- However a script is cut into portions, what is told of a line is what is told of the whole script. Calls
-- of `follow`, each handed the memory and the state that the last one left, and one of `finish`. Assumes nothing.
use Rattle.std.specs.Prelude.{ℕ, ◌+◌, ◌≤◌, ◌<◌, List, [], ◌∷◌, ◌++◌, ◌≡◌, length}
use Rattle.rules.specs.Memory.{size}
use Rattle.rules.specs.MemoryTest.{power_on_memory}
use Rattle.reasons.specs.Follow.{unfollowed}
use Rattle.reasons.specs.Why.{why}
use Rattle.script.specs.Feed.{kept_line, last_number}
use Rattle.follow.specs.One.{Finished, FollowedTo, followed_of, place_of, told_of}
use Rattle.follow.specs.declared.one.State.{State as State·rt}
use Rattle.follow.specs.declared.one.Told.{Told as Told·rt}

-- one call of `follow`: what it was handed beside memory and state, and what it left
pub record Portion : Type 0 where
  pub input : List ℕ
  pub memory-after : List ℕ
  pub state-after : State·rt

-- the bytes of all calls, joined
unfoldable pub bytes_of : List Portion → List ℕ
bytes_of [] = []
bytes_of (p ∷ ps) = p.input ++ bytes_of ps

-- the memory and the state that calls leave
unfoldable pub last_memory : List ℕ → List Portion → List ℕ
last_memory m [] = m
last_memory m (p ∷ ps) = last_memory p.memory-after ps

unfoldable pub last_state : State·rt → List Portion → State·rt
last_state st [] = st
last_state st (p ∷ ps) = last_state p.state-after ps

-- calls that keep what `follow` promises, each with line numbers enough
unfoldable pub Follows : List ℕ → State·rt → List Portion → Type 0
Follows m st [] = Unit
Follows m st (p ∷ ps) =
    FollowedTo m st p.input p.memory-after p.state-after
    × ((st.script.lines + length p.input < last_number) × Follows p.memory-after p.state-after ps)

-- a new state, as `State::new` makes it
pub record New (st : State·rt) (w : ℕ) : Type 0 where
  pub none : st.script.lines ≡ 0
  pub empty : kept_line st.script ≡ []
  pub wanted : st.wanted ≡ w
  pub nothing : followed_of st.followed ≡ unfollowed

-- from power-on on, calls over a script of which these bytes are the first
pub record FollowsScript (m : List ℕ) (w : ℕ) (st : State·rt) (ps : List Portion) (bytes : List ℕ) : Type 0 where
  pub long : size ≤ length m
  pub new : New st w
  pub follows : Follows (power_on_memory m).memory st ps
  pub read : bytes_of ps ≡ bytes

-- the script's end, with a line number for a line that has begun
pub record FinishesScript (m : List ℕ) (st : State·rt) (ps : List Portion) (m' : List ℕ) (t : Told·rt) : Type 0 where
  pub number : (last_state st ps).script.lines + 1 < last_number
  pub finishes : Finished (last_memory (power_on_memory m).memory ps) (last_state st ps) m' t

-- the message has left, or the line wanted was no accepted arrival
pub record Settled (st : State·rt) : Type 0 where
  pub passed : st.wanted ≤ st.script.lines
  pub nowhere : place_of st.followed.ahead ≡ 0

-- what is told is why the message was buffered
pub record PortionsTold : Type 0 where
  -- whatever the portions
  pub told : (m s : List ℕ) (w : ℕ) (st : State·rt) (ps : List Portion) (m' : List ℕ) (t : Told·rt)
      → FollowsScript m w st ps s → FinishesScript m st ps m' t → told_of t ≡ why s w
  -- and whatever follows once it is settled, so that the rest need not be read
  pub settled : (m s rest : List ℕ) (w : ℕ) (st : State·rt) (ps : List Portion)
      → FollowsScript m w st ps s → Settled (last_state st ps) → told_of (last_state st ps).followed.told ≡ why (s ++ rest) w
