-- What the answer for one line promises where all goes well: what the reads brought is followed, by calls of `follow` that `PortionsTold` speaks of, each
-- with line numbers enough; and what is told is why the message of the line was buffered. Assumes nothing.
use Rattle.std.specs.Prelude.{ℕ, ◌+◌, ◌≤◌, ◌<◌, Bool, true, false, not, cond, ◌&&◌, ◌||◌, List, ◌++◌, ◌≡◌, eqb, leb, length, take}
use Rattle.rules.specs.Memory.{size}
use Rattle.rules.specs.MemoryTest.{power_on_memory}
use Rattle.rules.specs.Operation.{unreadable}
use Rattle.rules.specs.Text.{bytes, decimal}
use Rattle.reasons.specs.Why.{Told, why, why_line}
use Rattle.script.specs.Feed.{last_number}
use Rattle.follow.specs.One.{Finished, place_of, told_of}
use Rattle.follow.specs.Portions.{Follows, New, Portion, bytes_of, last_memory, last_state}
use Rattle.follow.specs.declared.one.State.{State as State·rt}
use Rattle.follow.specs.declared.one.Told.{Told as Told·rt}
use Rattle.why.specs.declared.one.Text.{Text as Text·rt}
use Rattle.why.specs.declared.one.Text.TheVariants.{Answer, Refusal}

-- calls lead from a memory and a state to others, and were handed these bytes
pub record Reaches (m : List ℕ) (st : State·rt) (bs m' : List ℕ) (st' : State·rt) : Type 0 where
  pub calls : List Portion
  pub follows : Follows m st calls
  pub handed : bytes_of calls ≡ bs
  pub memory : last_memory m calls ≡ m'
  pub state : last_state st calls ≡ st'

-- a run: what its reads brought is followed
pub record Runs (m : List ℕ) (st : State·rt) (m' : List ℕ) (st' : State·rt) : Type 0 where
  pub script : List ℕ
  pub reaches : Reaches m st script m' st'

-- `Settled` computed: the message has left, or the line wanted was no accepted arrival
unfoldable pub settled : State·rt → Bool
settled st = leb st.wanted st.script.lines && eqb (place_of st.followed.ahead) 0

-- what is told at the end of the input, with a number for a line that has begun
pub record TellsEnd (m : List ℕ) (st : State·rt) (m' : List ℕ) (t : Told·rt) : Type 0 where
  pub number : st.script.lines + 1 < last_number
  pub finished : Finished m st m' t

-- and what is told after a run, which has come to the end of its input or not: before it only what is settled
pub record Tells (m : List ℕ) (st : State·rt) (ended : Bool) (m' : List ℕ) (t : Told·rt) : Type 0 where
  pub at-end : ended ≡ true → TellsEnd m st m' t
  pub before : ended ≡ false → (settled st ≡ true) × (t ≡ st.followed.told)

-- The answer as text.

-- "It refuses with 2 a line that the listing answers with 2, then with 17 one that isn't an accepted arrival or isn't in the script"
unfoldable pub refusal_words : ℕ → List ℕ
refusal_words a = cond (eqb a unreadable) (bytes ": it can't be read\n") (bytes ": it is no accepted arrival of this script\n")

unfoldable pub refusal_line : ℕ → ℕ → List ℕ
refusal_line w a = bytes "why: line " ++ (decimal w ++ (bytes ": refused with " ++ (decimal a ++ refusal_words a)))

-- what is told of line w as a line of text
unfoldable pub answer_line : ℕ → Told → List ℕ
answer_line w t = cond (eqb t.answer 0) (why_line w t.reason t.line) (refusal_line w t.answer)

-- a refusal
abbrev pub is_refusal : Told → Bool
is_refusal t = not (eqb t.answer 0)

-- where a text ends, and whether it is a refusal
abbrev pub end_of : Text·rt → ℕ
end_of (Answer end) = end
end_of (Refusal end) = end

abbrev pub refused : Text·rt → Bool
refused (Answer end) = false
refused (Refusal end) = true

-- the text of what is told stands first in the output
pub record Written (w : ℕ) (t : Told) (out' : List ℕ) (r : Text·rt) : Type 0 where
  pub within : end_of r ≤ length out'
  pub text : take (end_of r) out' ≡ answer_line w t
  pub refused : refused r ≡ is_refusal t

-- what the program has done up to its answer
pub record Answers (m : List ℕ) (w : ℕ) (out' : List ℕ) (r : Text·rt) : Type 0 where
  pub state : State·rt
  pub new : New state w
  pub memory : List ℕ
  pub last : State·rt
  pub runs : Runs (power_on_memory m).memory state memory last
  pub ended : Bool
  pub memory' : List ℕ
  pub told : Told·rt
  pub tells : Tells memory last ended memory' told
  pub written : Written w (told_of told) out' r

-- from power-on, what is written is the line of what `why` tells of the script that the reads brought, and it
-- is a refusal exactly where that is 2 or 17
pub record AnswerTold (s : List ℕ) (w : ℕ) (out' : List ℕ) (r : Text·rt) : Type 0 where
  pub text : take (end_of r) out' ≡ answer_line w (why s w)
  pub refused : refused r ≡ is_refusal (why s w)

pub record RunTold : Type 0 where
  -- to the end of the input
  pub at-end : (m : List ℕ) (w : ℕ) (out' : List ℕ) (r : Text·rt)
      → size ≤ length m
      → (a : Answers m w out' r)
      → a.ended ≡ true
      → AnswerTold a.runs.script w out' r
  -- or before it, whatever follows
  pub before : (m : List ℕ) (w : ℕ) (out' : List ℕ) (r : Text·rt)
      → size ≤ length m
      → (a : Answers m w out' r)
      → a.ended ≡ false
      → (rest : List ℕ) → AnswerTold (a.runs.script ++ rest) w out' r
  pub refusals : (s : List ℕ) (w : ℕ) → is_refusal (why s w) ≡ eqb (why s w).answer 2 || eqb (why s w).answer 17
