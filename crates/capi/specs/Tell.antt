-- What the calls promise by which every message is told of, over a script that is fed in portions. Assumes nothing.
use Rattle.std.specs.Prelude.{ℕ, List, ◌≡◌, length, drop, get_or}
use Rattle.follow.specs.Every.{ToldTo, FinishedTo}
use Rattle.follow.specs.declared.every.End.{End as End·rt}
use Rattle.follow.specs.declared.every.Told.{Told as Told·rt}
use Rattle.script.specs.Play.{stop_number}
use Rattle.capi.specs.Carried.{Lent, Unchanged, end_room, line_room, portion_room, state_of, state_room, stop_of}

-- what a portion came to, by the words and bytes of the state behind it and by the part: why it stopped, how many bytes were written, and how many used
unfoldable pub portion_of : List ℕ → List ℕ → List ℕ → Told·rt
portion_of w b p = record { state = state_of w b; used = get_or p 2 0; written = get_or p 1 0; stop = stop_of (get_or p 0 0) }

-- the same of the script's end
unfoldable pub end_of : List ℕ → End·rt
end_of p = record { written = get_or p 1 0; stop = stop_of (get_or p 0 0) }

-- a call that feeds the next portion behind the state of words w and bytes b: at exit they stand for the state behind it, and what stood behind all
-- that is written stays
pub record PortionIn (m w b input out p m' w' b' out' p' : List ℕ) (count : ℕ) : Type 0 where
  pub told : ToldTo m (state_of w b) input out m' out' (portion_of w' b' p')
  pub stopped : get_or p' 0 0 ≡ stop_number (portion_of w' b' p').stop
  pub words-behind : drop state_room w' ≡ drop state_room w
  pub bytes-behind : drop line_room b' ≡ drop line_room b
  pub part-behind : drop portion_room p' ≡ drop portion_room p
  pub counted : count ≡ portion_room

-- it is fed where all are long enough
pub record TellsPortion (m w b input out p m' w' b' out' p' : List ℕ) (count : ℕ) : Type 0 where
  pub room : Lent state_room (length w) (length b) (length p) portion_room → PortionIn m w b input out p m' w' b' out' p' count
  pub short : (Lent state_room (length w) (length b) (length p) portion_room → ⊥) → Unchanged m w b out p m' w' b' out' p' count

-- a call that ends the script behind the state of words w and bytes b
pub record EndIn (m w b out p m' out' p' : List ℕ) (count : ℕ) : Type 0 where
  pub told : FinishedTo m (state_of w b) out m' out' (end_of p')
  pub stopped : get_or p' 0 0 ≡ stop_number (end_of p').stop
  pub part-behind : drop end_room p' ≡ drop end_room p
  pub counted : count ≡ end_room

-- it ends where all are long enough
pub record TellsEnd (m w b out p m' out' p' : List ℕ) (count : ℕ) : Type 0 where
  pub room : Lent state_room (length w) (length b) (length p) end_room → EndIn m w b out p m' out' p' count
  pub short : (Lent state_room (length w) (length b) (length p) end_room → ⊥) → Unchanged m w b out p m' w b out' p' count
