-- What the calls promise by which a script is fed in portions and listed. Assumes nothing.
use Rattle.std.specs.Prelude.{ℕ, ◌≤◌, ◌<◌, List, ◌≡◌, length, drop, get_or}
use Rattle.rules.specs.Script.{header}
use Rattle.script.specs.Feed.{FedTo}
use Rattle.script.specs.Play.{stop_number}
use Rattle.script.specs.Portions.{last_newline}
use Rattle.script.specs.Written.{Appended}
use Rattle.script.specs.declared.feed.Fed.{Fed as Fed·rt}
use Rattle.capi.specs.Carried.{Lent, Unchanged, end_room, line_room, portion_room, script_of, script_room, stop_of}

-- a call that writes the header at the beginning of an output, and how many bytes that are; nothing where it is too short
pub record WritesHeader (out out' : List ℕ) (count : ℕ) : Type 0 where
  pub written : length header ≤ length out → Appended out 0 out' count header
  pub output-kept : length out < length header → out' ≡ out
  pub nothing : length out < length header → count ≡ 0

-- what a portion came to, by the words and bytes of the script behind it and by the part: why it stopped, how many bytes were written, and how many used
unfoldable pub fed_of : List ℕ → List ℕ → List ℕ → Fed·rt
fed_of w b p = record { state = script_of w b; used = get_or p 2 0; written = get_or p 1 0; stop = stop_of (get_or p 0 0) }

-- a call that feeds the next portion behind what words w and bytes b say of the script: at exit they say it of the script behind it, and what stood behind
-- all that is written stays
pub record PortionFed (m w b input out p m' w' b' out' p' : List ℕ) (count : ℕ) : Type 0 where
  pub fed : FedTo m (script_of w b) input out m' out' (fed_of w' b' p')
  pub stopped : get_or p' 0 0 ≡ stop_number (fed_of w' b' p').stop
  pub words-behind : drop script_room w' ≡ drop script_room w
  pub bytes-behind : drop line_room b' ≡ drop line_room b
  pub part-behind : drop portion_room p' ≡ drop portion_room p
  pub counted : count ≡ portion_room

-- it is fed where all are long enough
pub record FeedsPortion (m w b input out p m' w' b' out' p' : List ℕ) (count : ℕ) : Type 0 where
  pub room : Lent script_room (length w) (length b) (length p) portion_room → PortionFed m w b input out p m' w' b' out' p' count
  pub short : (Lent script_room (length w) (length b) (length p) portion_room → ⊥) → Unchanged m w b out p m' w' b' out' p' count

-- a call that ends the script: a newline is fed where a line has begun, and the part says what that came to
pub record EndFed (m w b out p m' out' p' : List ℕ) (count : ℕ) : Type 0 where
  pub fed : Fed·rt
  pub ends : FedTo m (script_of w b) (last_newline (script_of w b)) out m' out' fed
  pub stopped : get_or p' 0 0 ≡ stop_number fed.stop
  pub written : get_or p' 1 0 ≡ fed.written
  pub part-behind : drop end_room p' ≡ drop end_room p
  pub counted : count ≡ end_room

-- it ends where all are long enough
pub record FeedsEnd (m w b out p m' out' p' : List ℕ) (count : ℕ) : Type 0 where
  pub room : Lent script_room (length w) (length b) (length p) end_room → EndFed m w b out p m' out' p' count
  pub short : (Lent script_room (length w) (length b) (length p) end_room → ⊥) → Unchanged m w b out p m' w b out' p' count
