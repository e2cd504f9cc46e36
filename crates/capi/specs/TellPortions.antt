-- The answers for every message of a script, by calls from other languages: `fugu_tell` over its portions, each handed the memory, the state and the kept line
-- that the last one left, and `fugu_tell_end`. Assumes nothing.
use Rattle.std.specs.Prelude.{ℕ, ◌+◌, ◌≤◌, ◌<◌, List, [], ◌∷◌, ◌++◌, ◌≡◌, length, get_or, take}
use Rattle.rules.specs.Memory.{size}
use Rattle.rules.specs.MemoryTest.{power_on_memory}
use Rattle.reasons.specs.Why.{why_all}
use Rattle.script.specs.Feed.{last_number}
use Rattle.follow.specs.EveryPortions.{Portion, last_memory, used_bytes, written_bytes}
use Rattle.capi.specs.Calls.{Call, last_bytes, last_words}
use Rattle.capi.specs.Carried.{Lent, end_room, portion_room, state_room}
use Rattle.capi.specs.Tell.{TellsEnd, TellsPortion, portion_of}

-- the portions that calls were handed, and what these came to
unfoldable pub portions : List Call → List Portion
portions [] = []
portions (c ∷ cs) =
    record {
      input = c.input;
      output = c.output;
      memory-after = c.memory-after;
      output-after = c.output-after;
      told = portion_of c.state-after c.kept-after c.part-after;
    }
    ∷ portions cs

-- calls that keep what `fugu_tell` promises, each lent enough, and none of which ran out of line numbers
unfoldable pub Calls : List ℕ → List ℕ → List ℕ → List Call → Type 0
Calls m w b [] = Unit
Calls m w b (c ∷ cs) =
    TellsPortion m w b c.input c.output c.part c.memory-after c.state-after c.kept-after c.output-after c.part-after c.count
    × (Lent state_room (length w) (length b) (length c.part) portion_room
    × ((get_or c.part-after 0 0 ≤ 1) × Calls c.memory-after c.state-after c.kept-after cs))

-- from power-on on and a state that begins with three zeros, calls over a script, and its end, which didn't stop for want of room
pub record CallsScript (m w b : List ℕ) (cs : List Call) (s out p m' out' p' : List ℕ) (count : ℕ) : Type 0 where
  pub long : size ≤ length m
  pub no_lines : get_or w 0 0 ≡ 0
  pub no-line-begun : get_or w 1 0 ≡ 0
  pub nobody : get_or w 2 0 ≡ 0
  pub calls : Calls (power_on_memory m).memory w b cs
  pub read : used_bytes (portions cs) ≡ s
  pub number : get_or (last_words w cs) 0 0 + 1 < last_number
  pub lent : Lent state_room (length (last_words w cs)) (length (last_bytes b cs)) (length p) end_room
  pub ends : TellsEnd (last_memory (power_on_memory m).memory (portions cs)) (last_words w cs) (last_bytes b cs) out p m' out' p' count
  pub stopped : get_or p' 0 0 ≡ 0

-- whatever the portions, what was written is the answer for every accepted arrival of the script
pub record CallsTold : Type 0 where
  pub told : (m w b : List ℕ) (cs : List Call) (s out p m' out' p' : List ℕ) (count : ℕ) → CallsScript m w b cs s out p m' out' p' count
      → written_bytes (portions cs) ++ take (get_or p' 1 0) out' ≡ why_all s
