-- What playing lines promises. Assumes nothing.
use Rattle.std.specs.Prelude.{ℕ, ◌+◌, ◌-◌, ◌≤◌, ◌<◌, Bool, List, [], ◌≡◌, length, take, drop}
use Rattle.rules.specs.MemoryTest.{is_memory, step_memory}
use Rattle.rules.specs.Script.{read_line, report_line}
use Rattle.script.specs.Feeding.{whole, begun, list_memory, after_lines}
use Rattle.script.specs.Written.{Appended, Counts, Counting, Countable, last_count, line_room}
use Rattle.script.specs.Read.{OneLine, field_limit, line_of, line_end}
use Rattle.script.specs.declared.write.Counter.{Counter as Counter·rt}
use Rattle.script.specs.declared.play.Played.{Played as Played·rt}
use Rattle.script.specs.declared.play.Stop.{Stop as Stop·rt}
use Rattle.script.specs.declared.play.Stop.TheVariants.{AllUsed, NoRoom, LastNumber}

-- the number by which C is told why playing stopped
abbrev pub stop_number : Stop·rt → ℕ
stop_number AllUsed = 0
stop_number NoRoom = 1
stop_number LastNumber = 2

-- memory of which it is known whether it is a node, whole lines from a position on, an output written up to a place, and a line
-- number behind which there are enough for a line a byte
pub record Playable (m : List ℕ) (good : Bool) (s : List ℕ) (from : ℕ) (out : List ℕ) (at : ℕ) (counter : Counter·rt) : Type 0 where
  pub known : is_memory m ≡ good
  pub inside : from ≤ length s
  pub lines : begun (drop from s) ≡ []
  pub within : at ≤ length out
  pub counting : Counting counter
  pub few : counting.number + length s ≤ last_count + from

-- the same for one line: there is one, the output has room for it, and its number can be written
pub record LinePlayable (m : List ℕ) (good : Bool) (s : List ℕ) (from : ℕ) (fields out : List ℕ) (at : ℕ) (counter : Counter·rt) : Type 0 where
  pub known : is_memory m ≡ good
  pub inside : from < length s
  pub many : length fields ≡ field_limit
  pub room : at + line_room ≤ length out
  pub countable : Countable counter

-- a line played: the step is that of the line at the position, and it is listed with the next number
pub record LinePlayed (m s : List ℕ) (from : ℕ) (out : List ℕ) (at : ℕ) (counter : Counter·rt) (m' out' : List ℕ) (counter' : Counter·rt) (p : Played·rt) : Type 0 where
  pub used : p.used ≡ line_end s from + 1
  pub memory : m' ≡ (step_memory m (read_line (line_of (drop from s)))).memory
  pub listed : (i : ℕ) → Counts counter i → Appended out at out' p.at (report_line (i + 1) (step_memory m (read_line (line_of (drop from s)))).report)
  pub counted : (i : ℕ) → Counts counter i → Counts counter' (i + 1)
  pub at_most : p.at ≤ at + line_room
  pub going : p.stop ≡ AllUsed

-- the same for a line kept apart, which fills the first `count` places of a text with a place for its newline; it is listed at the beginning
-- of the output
pub record TextPlayable (m : List ℕ) (good : Bool) (text : List ℕ) (count : ℕ) (out : List ℕ) (counter : Counter·rt) : Type 0 where
  pub known : is_memory m ≡ good
  pub inside : count < length text
  pub one : OneLine (take count text)
  pub room : line_room ≤ length out
  pub counting : Counting counter
  pub few : counting.number + count < last_count

-- such a line played
pub record TextPlayed (m line out : List ℕ) (counter : Counter·rt) (m' out' : List ℕ) (counter' : Counter·rt) (p : Played·rt) : Type 0 where
  pub memory : m' ≡ (step_memory m (read_line line)).memory
  pub listed : (i : ℕ) → Counts counter i → Appended out 0 out' p.at (report_line (i + 1) (step_memory m (read_line line)).report)
  pub counted : (i : ℕ) → Counts counter i → Counts counter' (i + 1)
  pub within : p.at ≤ length out

-- the bytes from one position to another
unfoldable pub part : List ℕ → ℕ → ℕ → List ℕ
part s from to = take (to - from) (drop from s)

-- how far a play came, and why it stopped: the lines of the part that was used are played, listed and counted, and nothing else
pub record PlayedTo (m s : List ℕ) (from : ℕ) (out : List ℕ) (at : ℕ) (counter : Counter·rt) (m' out' : List ℕ) (counter' : Counter·rt) (p : Played·rt) : Type 0 where
  pub forward : from ≤ p.used
  pub inside : p.used ≤ length s
  pub cut : begun (part s from p.used) ≡ []
  pub memory : m' ≡ after_lines m (whole (part s from p.used))
  pub listed : (i : ℕ) → Counts counter i → Appended out at out' p.at (list_memory (i + 1) m (whole (part s from p.used)))
  pub counted : (i : ℕ) → Counts counter i → Counts counter' (i + length (whole (part s from p.used)))
  pub lines : p.lines ≡ length (whole (part s from p.used))
  pub few : p.lines + from ≤ length s
  pub all-used : p.stop ≡ AllUsed → p.used ≡ length s
  pub no_room : p.stop ≡ NoRoom → length out < p.at + line_room
  pub stops : p.stop ≡ LastNumber → ⊥
