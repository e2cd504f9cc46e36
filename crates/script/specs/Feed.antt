-- What feeding a script in portions promises. Assumes nothing.
use Rattle.std.specs.Prelude.{ℕ, ◌+◌, ◌-◌, ◌≤◌, ◌<◌, Bool, List, [], ◌≡◌, length, take, drop}
use Rattle.rules.specs.MemoryTest.{is_memory}
use Rattle.script.specs.Feeding.{whole, begun, lines_behind, rest_behind, list_memory, after_lines}
use Rattle.script.specs.Play.{part}
use Rattle.script.specs.Read.{line_of}
use Rattle.script.specs.Written.{Appended, Counts, line_room}
use Rattle.script.specs.declared.write.Counter.{Counter as Counter·rt}
use Rattle.script.specs.declared.feed.State.{State as State·rt}
use Rattle.script.specs.declared.feed.Fed.{Fed as Fed·rt}
use Rattle.script.specs.declared.play.Stop.TheVariants.{AllUsed, NoRoom, LastNumber}

-- how many bytes of a line that has begun are kept
abbrev pub kept_room : ℕ
kept_room = 129

-- the line that a state keeps: what has begun has no newline, and what stands behind one in a state made by hand is not looked at
unfoldable pub kept_line : State·rt → List ℕ
kept_line st = line_of (take kept_room (take st.count st.kept))

-- the largest line number that is counted to
abbrev pub last_number : ℕ
last_number = 18_446_744_073_709_551_615

-- a script cut behind its last newline from a position on: up to the cut all lines are whole, and behind it there is no newline
pub record Cut (s : List ℕ) (from to : ℕ) : Type 0 where
  pub forward : from ≤ to
  pub inside : to ≤ length s
  pub lines : begun (part s from to) ≡ []
  pub rest : whole (drop to s) ≡ []

-- memory of which it is known whether it is a node, a portion from a position on, an output written up to a place, and a counter at a
-- line number behind which there are enough for a line a byte
pub record LinesFeedable (m : List ℕ) (good : Bool) (input : List ℕ) (start : ℕ) (out : List ℕ) (at : ℕ) (counter : Counter·rt) (lines : ℕ) : Type 0 where
  pub known : is_memory m ≡ good
  pub inside : start ≤ length input
  pub within : at ≤ length out
  pub counts : Counts counter lines
  pub few : lines + (length input - start) < last_number

-- the lines of the part that was used are played, listed and counted, and of the line that has begun behind them the first bytes are kept
pub record LinesFed (m input : List ℕ) (start : ℕ) (out : List ℕ) (at lines : ℕ) (m' out' : List ℕ) (f : Fed·rt) : Type 0 where
  pub forward : start ≤ f.used
  pub inside : f.used ≤ length input
  pub memory : m' ≡ after_lines m (whole (part input start f.used))
  pub listed : Appended out at out' f.written (list_memory (lines + 1) m (whole (part input start f.used)))
  pub counted : f.state.lines ≡ lines + length (whole (part input start f.used))
  pub kept : kept_line f.state ≡ take kept_room (begun (part input start f.used))
  pub all-used : f.stop ≡ AllUsed → f.used ≡ length input
  pub no_room : f.stop ≡ NoRoom → length out < f.written + line_room
  pub stops : f.stop ≡ LastNumber → ⊥

-- what a portion behind a line b that has begun came to
pub record BegunFed (m b : List ℕ) (lines : ℕ) (input out m' out' : List ℕ) (f : Fed·rt) : Type 0 where
  pub inside : f.used ≤ length input
  pub memory : m' ≡ after_lines m (lines_behind b (take f.used input))
  pub listed : Appended out 0 out' f.written (list_memory (lines + 1) m (lines_behind b (take f.used input)))
  pub counted : f.state.lines ≡ lines + length (lines_behind b (take f.used input))
  pub kept : kept_line f.state ≡ take kept_room (rest_behind b (take f.used input))
  pub all-used : f.stop ≡ AllUsed → f.used ≡ length input
  pub no_room : f.stop ≡ NoRoom → length out < f.written + line_room
  pub stops : f.stop ≡ LastNumber → ⊥

-- the same for any state and memory; where fewer line numbers are left than the portion has bytes, nothing of it is used
pub record FedTo (m : List ℕ) (st : State·rt) (input out m' out' : List ℕ) (f : Fed·rt) : Type 0 where
  pub enough : st.lines + length input < last_number → BegunFed m (kept_line st) st.lines input out m' out' f
  pub last-number : last_number ≤ st.lines + length input
      → (m' ≡ m) × ((out' ≡ out) × (f ≡ record { state = st; used = 0; written = 0; stop = LastNumber }))
