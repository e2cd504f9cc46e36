-- What the lines of a portion ask for: all of them, and stepping the next. Assumes nothing.
use Rattle.std.specs.Prelude.{ℕ, ◌+◌, ◌≤◌, ◌<◌, Bool, List, [], ◌≡◌, length, take, drop}
use Rattle.rules.specs.MemoryTest.{is_memory}
use Rattle.script.specs.Feed.{kept_room, last_number}
use Rattle.script.specs.Feeding.{begun}
use Rattle.script.specs.Read.{OneLine, field_limit}

-- memory of which it is known whether it is a node, what is kept of a line that has begun, and whole lines, for which there are line numbers enough
pub record LinesAhead (m : List ℕ) (good : Bool) (kept : List ℕ) (count : ℕ) (u : List ℕ) (lines : ℕ) : Type 0 where
  pub known : is_memory m ≡ good
  pub room : kept_room < length kept
  pub few : count ≤ kept_room
  pub one : OneLine (take count kept)
  pub cut : begun u ≡ []
  pub numbers : lines + length u < last_number

-- memory of which it is known whether it is a node, what is kept of a line that has begun, with a place for its newline, and whole lines at a position
pub record Goes (m : List ℕ) (good : Bool) (kept : List ℕ) (count : ℕ) (whole : List ℕ) (at : ℕ) (fields : List ℕ) : Type 0 where
  pub known : is_memory m ≡ good
  pub room : kept_room < length kept
  pub few : count ≤ kept_room
  pub one : OneLine (take count kept)
  pub inside : at < length whole
  pub lines : begun (drop at whole) ≡ []
  pub many : field_limit ≤ length fields
