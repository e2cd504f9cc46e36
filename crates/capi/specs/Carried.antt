-- What is carried from portion to portion in lent words and bytes, of a script and of the messages that are followed in it, and what is lent beside them.
-- Assumes nothing.
use Rattle.std.specs.Prelude.{ℕ, ◌==◌, ◌≤◌, if◌then◌else◌, List, ◌∷◌, ◌++◌, ◌≡◌, drop, get_or, length, take}
use Rattle.rules.specs.Build.{paper01}
use Rattle.follow.specs.declared.every.State.{State as State·rt}
use Rattle.script.specs.declared.feed.State.{State as Script·rt}
use Rattle.script.specs.declared.play.Stop.{Stop as Stop·rt}
use Rattle.script.specs.declared.play.Stop.TheVariants.{AllUsed, NoRoom, LastNumber}

-- the words of a script: how many lines there were, and how long the line is that has begun
abbrev pub script_room : ℕ
script_room = 2

-- the bytes: a line that has begun, and its newline
abbrev pub line_room : ℕ
line_room = 130

-- where the lines of the messages that wait begin in the words, behind those of the script and how many wait
abbrev pub waiting_at : ℕ
waiting_at = 3

-- the words with these
abbrev pub state_room : ℕ
state_room = 19

-- what words w and bytes b say of a script
unfoldable pub script_of : List ℕ → List ℕ → Script·rt
script_of w b = record { lines = get_or w 0 0; kept = take line_room b; count = get_or w 1 0 }

-- the state that they stand for
unfoldable pub state_of : List ℕ → List ℕ → State·rt
state_of w b =
    record {
      script = script_of w b;
      waiting = take paper01.places (drop waiting_at w);
      count = get_or w 2 0;
    }

-- words w and bytes b now say this of a script, and what stood behind it stays
pub record ScriptCarried (w b : List ℕ) (st : Script·rt) (w' b' : List ℕ) : Type 0 where
  pub words : w' ≡ st.lines ∷ st.count ∷ drop script_room w
  pub bytes : b' ≡ st.kept ++ drop line_room b
  pub whole : length st.kept ≡ line_room

-- words w and bytes b now stand for a state, and what stood behind them stays
pub record Carried (w b : List ℕ) (st : State·rt) (w' b' : List ℕ) : Type 0 where
  pub state : state_of w' b' ≡ st
  pub words-behind : drop state_room w' ≡ drop state_room w
  pub bytes-behind : drop line_room b' ≡ drop line_room b

-- the words that say what a portion came to, and those of the script's end
abbrev pub portion_room : ℕ
portion_room = 3

abbrev pub end_room : ℕ
end_room = 2

-- why playing stopped, by the word that says so
abbrev pub stop_of : ℕ → Stop·rt
stop_of n = if n == 0 then AllUsed else (if n == 1 then NoRoom else LastNumber)

-- so many words and bytes hold a state of this many words and its line, and so many a part of this count
pub record Lent (words-needed words bytes part count : ℕ) : Type 0 where
  pub state : words-needed ≤ words
  pub line : line_room ≤ bytes
  pub room : count ≤ part

-- nothing has changed of these
pub record Unchanged (m w b out p m' w' b' out' p' : List ℕ) (count : ℕ) : Type 0 where
  pub memory : m' ≡ m
  pub words : w' ≡ w
  pub bytes : b' ≡ b
  pub output : out' ≡ out
  pub part : p' ≡ p
  pub nothing : count ≡ 0
