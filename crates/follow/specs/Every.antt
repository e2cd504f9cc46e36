-- What following every message promises. Assumes nothing.
use Rattle.std.specs.Prelude.{ℕ, ◌+◌, ◌*◌, ◌≤◌, ◌<◌, Bool, List, [], ◌++◌, ◌≡◌, length, take}
use Rattle.rules.specs.Build.{paper01}
use Rattle.reasons.specs.Follow.{still_waiting, tell_lines, tell_queued, telling_lines}
use Rattle.script.specs.Feed.{kept_line, kept_room, last_number}
use Rattle.script.specs.Feeding.{after_lines, begun, last_line, lines_behind, rest_behind, whole}
use Rattle.script.specs.Written.{Appended}
use Rattle.script.specs.declared.play.Stop.TheVariants.{AllUsed, NoRoom, LastNumber}
use Rattle.follow.specs.Portion.{LinesAhead}
use Rattle.follow.specs.Seen.{seen_memory}
use Rattle.follow.specs.Waiting.{lines_room}
use Rattle.follow.specs.declared.every.End.{End as End·rt}
use Rattle.follow.specs.declared.every.Lines.{Lines as Lines·rt}
use Rattle.follow.specs.declared.every.State.{State as State·rt}
use Rattle.follow.specs.declared.every.Told.{Told as Told·rt}

-- the lines whose messages wait, from the head on
unfoldable pub waiting_of : State·rt → List ℕ
waiting_of st = take st.count st.waiting

-- what a portion came to whose lines were told
abbrev pub portion_told : Lines·rt → List ℕ → ℕ → List ℕ → ℕ → Told·rt
portion_told r kept count waiting used =
    record {
      state = record { script = record { lines = r.lines; kept = kept; count = count }; waiting = waiting; count = r.count };
      used = used;
      written = r.end;
      stop = r.stop;
    }

-- lines ahead, and the lines whose messages wait
pub record Tellable (m : List ℕ) (good : Bool) (kept : List ℕ) (begins : ℕ) (u : List ℕ) (lines : ℕ) (waiting : List ℕ) (count : ℕ) : Type 0 where
  pub ahead : LinesAhead m good kept begins u lines
  pub all : length waiting ≡ paper01.places
  pub few : count ≤ paper01.places

-- the lines of the part that was used, where b has begun, are stepped and counted, and of those that leave it is told why
pub record LinesTold (m b u : List ℕ) (lines : ℕ) (ws out m' kept' waiting' out' : List ℕ) (r : Lines·rt) : Type 0 where
  pub inside : r.used ≤ length u
  pub memory : m' ≡ after_lines m (whole (b ++ take r.used u))
  pub counted : r.lines ≡ lines + length (whole (b ++ take r.used u))
  pub kept : take r.kept kept' ≡ begun (b ++ take r.used u)
  pub short : r.kept ≤ kept_room
  pub waits : take r.count waiting' ≡ still_waiting (lines + 1) ws (seen_memory m (whole (b ++ take r.used u)))
  pub told : Appended out 0 out' r.end (telling_lines (tell_lines (lines + 1) ws (seen_memory m (whole (b ++ take r.used u)))))
  pub at_most : r.end ≤ lines_room * length (whole (b ++ take r.used u))
  pub stopped : r.stop ≡ NoRoom → r.used < length u
  pub all-used : r.stop ≡ AllUsed → r.used ≡ length u
  pub no_room : r.stop ≡ NoRoom → length out < r.end + lines_room
  pub stops : r.stop ≡ LastNumber → ⊥

-- a portion behind a line b that has begun
pub record PortionTold (m : List ℕ) (st : State·rt) (input out m' out' : List ℕ) (t : Told·rt) : Type 0 where
  pub inside : t.used ≤ length input
  pub memory : m' ≡ after_lines m (lines_behind (kept_line st.script) (take t.used input))
  pub counted : t.state.script.lines ≡ st.script.lines + length (lines_behind (kept_line st.script) (take t.used input))
  pub kept : kept_line t.state.script ≡ take kept_room (rest_behind (kept_line st.script) (take t.used input))
  pub waits : waiting_of t.state
      ≡ still_waiting (st.script.lines + 1) (waiting_of st) (seen_memory m (lines_behind (kept_line st.script) (take t.used input)))
  pub told : Appended out 0 out' t.written
      (telling_lines (tell_lines (st.script.lines + 1) (waiting_of st) (seen_memory m (lines_behind (kept_line st.script) (take t.used input)))))
  pub at_most : t.written ≤ lines_room * length (lines_behind (kept_line st.script) (take t.used input))
  pub stopped : t.stop ≡ NoRoom → t.used < length input
  pub all-used : t.stop ≡ AllUsed → t.used ≡ length input
  pub no_room : t.stop ≡ NoRoom → length out < t.written + lines_room
  pub stops : t.stop ≡ LastNumber → ⊥

-- for any state and memory; where fewer line numbers are left than the portion has bytes, nothing of it is used
pub record ToldTo (m : List ℕ) (st : State·rt) (input out m' out' : List ℕ) (t : Told·rt) : Type 0 where
  pub enough : st.script.lines + length input < last_number → PortionTold m st input out m' out' t
  pub last-number : last_number ≤ st.script.lines + length input
      → (m' ≡ m) × ((out' ≡ out) × (t ≡ record { state = st; used = 0; written = 0; stop = LastNumber }))

-- the script's end, with these last lines: they are stepped and told, and of those that still wait it is told so
pub record EndTold (m : List ℕ) (st : State·rt) (ls : List (List ℕ)) (out m' out' : List ℕ) (e : End·rt) : Type 0 where
  pub memory : m' ≡ after_lines m ls
  pub told : Appended out 0 out' e.written
      (telling_lines
      (tell_lines (st.script.lines + 1) (waiting_of st) (seen_memory m ls)
      ++ tell_queued (st.script.lines + length ls) (still_waiting (st.script.lines + 1) (waiting_of st) (seen_memory m ls))))
  pub stop : e.stop ≡ AllUsed

-- for any state and memory: a line that has begun is the last. Where the output has no room for twice as many messages as the queue has places, nothing
-- is done; and where no line number is left for a line that has begun
pub record FinishedTo (m : List ℕ) (st : State·rt) (out m' out' : List ℕ) (e : End·rt) : Type 0 where
  pub enough : 2 * lines_room ≤ length out → st.script.lines + 1 < last_number → EndTold m st (last_line (kept_line st.script)) out m' out' e
  pub none-begun : 2 * lines_room ≤ length out → kept_line st.script ≡ [] → EndTold m st [] out m' out' e
  pub last-number : 2 * lines_room ≤ length out → (kept_line st.script ≡ [] → ⊥) → last_number ≤ st.script.lines + 1
      → (m' ≡ m) × ((out' ≡ out) × (e ≡ record { written = 0; stop = LastNumber }))
  pub no_room : length out < 2 * lines_room → (m' ≡ m) × ((out' ≡ out) × (e ≡ record { written = 0; stop = NoRoom }))
