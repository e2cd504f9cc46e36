-- "every script has its one listing", by calls from other languages: `fugu_header`, then `fugu_feed` over the script's portions, each handed the memory, the
-- state and the kept line that the last one left, and `fugu_feed_end`. Assumes nothing.
use Rattle.std.specs.Prelude.{ℕ, ◌≤◌, List, [], ◌∷◌, ◌++◌, ◌≡◌, length, get_or, take}
use Rattle.rules.specs.Memory.{size}
use Rattle.rules.specs.MemoryTest.{power_on_memory}
use Rattle.rules.specs.Script.{header, listing}
use Rattle.script.specs.Portions.{Portion, last_memory, listed_bytes, used_bytes}
use Rattle.capi.specs.Carried.{Lent, end_room, portion_room, script_room}
use Rattle.capi.specs.Feed.{FeedsEnd, FeedsPortion, WritesHeader, fed_of}
use Rattle.capi.specs.Calls.{Call, last_bytes, last_words}

-- the portions that calls were handed, and what these came to
unfoldable pub portions : List Call → List Portion
portions [] = []
portions (c ∷ cs) =
    record {
      input = c.input;
      output = c.output;
      memory-after = c.memory-after;
      output-after = c.output-after;
      fed = fed_of c.state-after c.kept-after c.part-after;
    }
    ∷ portions cs

-- calls that keep what `fugu_feed` promises, each lent enough, and none of which ran out of line numbers
unfoldable pub Feedings : List ℕ → List ℕ → List ℕ → List Call → Type 0
Feedings m w b [] = Unit
Feedings m w b (c ∷ cs) =
    FeedsPortion m w b c.input c.output c.part c.memory-after c.state-after c.kept-after c.output-after c.part-after c.count
    × (Lent script_room (length w) (length b) (length c.part) portion_room
    × ((get_or c.part-after 0 0 ≤ 1) × Feedings c.memory-after c.state-after c.kept-after cs))

-- from power-on on and a state that begins with two zeros, the header, calls over a script, and its end, which stopped for no want
pub record ScriptFed (m w b : List ℕ) (cs : List Call) (s head head' : List ℕ) (at : ℕ) (out p m' out' p' : List ℕ) (count : ℕ) : Type 0 where
  pub long : size ≤ length m
  pub no_lines : get_or w 0 0 ≡ 0
  pub no-line-begun : get_or w 1 0 ≡ 0
  pub room : length header ≤ length head
  pub begins : WritesHeader head head' at
  pub calls : Feedings (power_on_memory m).memory w b cs
  pub read : used_bytes (portions cs) ≡ s
  pub lent : Lent script_room (length (last_words w cs)) (length (last_bytes b cs)) (length p) end_room
  pub ends : FeedsEnd (last_memory (power_on_memory m).memory (portions cs)) (last_words w cs) (last_bytes b cs) out p m' out' p' count
  pub stopped : get_or p' 0 0 ≡ 0

-- whatever the portions, what was written is the listing of the script
pub record CallsListed : Type 0 where
  pub listed : (m w b : List ℕ) (cs : List Call) (s head head' : List ℕ) (at : ℕ) (out p m' out' p' : List ℕ) (count : ℕ)
      → ScriptFed m w b cs s head head' at out p m' out' p' count
      → take at head' ++ (listed_bytes (portions cs) ++ take (get_or p' 1 0) out') ≡ listing s
