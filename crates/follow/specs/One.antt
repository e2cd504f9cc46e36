-- What following one message promises. Assumes nothing.
use Rattle.std.specs.Prelude.{ℕ, suc, ◌+◌, ◌≤◌, ◌<◌, List, [], ◌++◌, ◌≡◌, length, take, Option, None, Some}
use Rattle.reasons.specs.Follow.{Followed, follow_lines, told_at}
use Rattle.reasons.specs.Why.{Told}
use Rattle.script.specs.Feed.{kept_line, kept_room, last_number}
use Rattle.script.specs.Feeding.{after_lines, begun, last_line, lines_behind, rest_behind, whole}
use Rattle.follow.specs.Seen.{seen_memory}
use Rattle.follow.specs.declared.one.Followed.{Followed as Followed·rt}
use Rattle.follow.specs.declared.one.Lines.{Lines as Lines·rt}
use Rattle.follow.specs.declared.one.State.{State as State·rt}
use Rattle.follow.specs.declared.one.Told.{Told as Told·rt}

-- what is told, and the message followed, of which the code's values stand for
abbrev pub told_of : Told·rt → Told
told_of t = record { answer = t.answer; reason = t.reason; line = t.line }

-- the place is one more than how many are queued ahead, and 0 where there is none to follow
abbrev pub place_of : Option ℕ → ℕ
place_of None = 0
place_of (Some ahead) = suc ahead

abbrev pub followed_of : Followed·rt → Followed
followed_of f = record { place = place_of f.ahead; told = told_of f.told }

-- a message that left in line i
abbrev pub left_in : ℕ → ℕ → Followed·rt
left_in i reason = record { ahead = None; told = record { answer = 0; reason = reason; line = i } }

-- the lines of u, where b has begun, are stepped, counted and followed, and nothing has begun behind them where there are some
pub record LinesFollowed (m b u : List ℕ) (lines w : ℕ) (f : Followed·rt) (m' kept' : List ℕ) (r : Lines·rt) : Type 0 where
  pub memory : m' ≡ after_lines m (whole (b ++ u))
  pub counted : r.lines ≡ lines + length (whole (b ++ u))
  pub followed : followed_of r.followed ≡ follow_lines w (lines + 1) (followed_of f) (seen_memory m (whole (b ++ u)))
  pub kept : take r.count kept' ≡ begun (b ++ u)
  pub few : r.count ≤ kept_room

-- a portion behind a line b that has begun: its lines are stepped, counted and followed, and the line that has begun at its end is kept
pub record PortionFollowed (m : List ℕ) (st : State·rt) (input m' : List ℕ) (st' : State·rt) : Type 0 where
  pub memory : m' ≡ after_lines m (lines_behind (kept_line st.script) input)
  pub counted : st'.script.lines ≡ st.script.lines + length (lines_behind (kept_line st.script) input)
  pub kept : kept_line st'.script ≡ take kept_room (rest_behind (kept_line st.script) input)
  pub wanted : st'.wanted ≡ st.wanted
  pub followed : followed_of st'.followed
      ≡ follow_lines st.wanted (st.script.lines + 1) (followed_of st.followed) (seen_memory m (lines_behind (kept_line st.script) input))

-- for any state and memory; where fewer line numbers are left than the portion has bytes, nothing of it is used
pub record FollowedTo (m : List ℕ) (st : State·rt) (input m' : List ℕ) (st' : State·rt) : Type 0 where
  pub enough : st.script.lines + length input < last_number → PortionFollowed m st input m' st'
  pub last-number : last_number ≤ st.script.lines + length input → (m' ≡ m) × (st' ≡ st)

-- the script's end: a line that has begun is its last; where no line number is left for it, it is not used
pub record Ended (m : List ℕ) (st : State·rt) (ls : List (List ℕ)) (m' : List ℕ) (t : Told·rt) : Type 0 where
  pub memory : m' ≡ after_lines m ls
  pub told : told_of t
      ≡ told_at (st.script.lines + length ls)
      (follow_lines st.wanted (st.script.lines + 1) (followed_of st.followed) (seen_memory m ls))

pub record Finished (m : List ℕ) (st : State·rt) (m' : List ℕ) (t : Told·rt) : Type 0 where
  pub enough : st.script.lines + 1 < last_number → Ended m st (last_line (kept_line st.script)) m' t
  pub last-number : last_number ≤ st.script.lines + 1 → Ended m st [] m' t
