-- What is carried from portion to portion, in lent words and bytes: numbers and bytes copied, and a state that is put there is the one that is found.
-- Assumes nothing.
use Prim.Native.Nat.{ℕ, ◌≤◌}
use native.Mathlib.Omega.{arith}
use mathlib.Core.List.{List, [], ◌∷◌, ◌++◌}
use mathlib.Core.Path.{◌≡◌, ◌∙◌, ap, refl}
use lib.ListN.{length, drop, get_or, set, take}
use lib.Seq.{drop_at, take_at}
use Rattle.rules.specs.Build.{paper01}
use Rattle.memory.proofs.WriteLaws.{wrote-next, wrote-set}
use denote.Enum.Declared.{tag_of}
use Rattle.script.specs.Play.{stop_number}
use Rattle.script.specs.contracts.play.Stop.{the_type}
use Rattle.script.specs.declared.play.Stop.{Stop as Stop·rt}
use Rattle.script.specs.declared.play.Stop.TheVariants.{AllUsed, NoRoom, LastNumber}
use Rattle.follow.specs.declared.every.State.{State as State·rt}
use Rattle.script.specs.declared.feed.State.{State as Script·rt}
use Rattle.capi.specs.Carried.{Carried, ScriptCarried, Unchanged, end_room, line_room, portion_room, script_of, script_room, state_of, state_room, stop_of, waiting_at}
use Rattle.capi.proofs.ToldLaws.{front-written}

-- The words and bytes that are read make the state.

pub script-loaded : (w b : List ℕ) {kept : List ℕ} → kept ≡ take line_room b
    → ◌≡◌ {A = Script·rt} (record { lines = get_or w 0 0; kept = kept; count = get_or w 1 0 }) (script_of w b)
unfolding script_of
script-loaded w b k = rw k

pub loaded : (w b : List ℕ) {script : Script·rt} {waiting : List ℕ} → script ≡ script_of w b → waiting ≡ take paper01.places (drop waiting_at w)
    → ◌≡◌ {A = State·rt} (record { script = script; waiting = waiting; count = get_or w 2 0 }) (state_of w b)
unfolding state_of
loaded w b s n = rw (s, n)

-- A script that is put there is the one that is found, and what stood behind it stays.

pub script-saved : (w b : List ℕ) (st : Script·rt) {b' : List ℕ} → script_room ≤ length w → b' ≡ st.kept ++ drop line_room b → length st.kept ≡ line_room
    → ScriptCarried w b st (set (set w 0 st.lines) 1 st.count) b'
script-saved w b st long e whole =
    let w0 = wrote-set w 0 st.lines (omega arith) in
    let w1 = wrote-next w0 1 st.count refl (omega arith) in
    record { words = front-written script_room refl long w1; bytes = e; whole = whole }

module _ {w b : List ℕ} {st : Script·rt} {w' b' : List ℕ} (c : ScriptCarried w b st w' b') where
  pub script-found : script_of w' b' ≡ st
  unfolding script_of
  script-found = rw (c.words, c.bytes, take_at st.kept (drop line_room b) line_room c.whole)

  pub script-words-behind : drop script_room w' ≡ drop script_room w
  script-words-behind = ap (drop script_room) c.words

  pub script-bytes-behind : drop line_room b' ≡ drop line_room b
  script-bytes-behind = ap (drop line_room) c.bytes ∙ drop_at st.kept (drop line_room b) line_room c.whole

-- The same of a state: behind the script's words how many wait, and their lines.

pub saved : (w b : List ℕ) (st : State·rt) {w₁ b' w' : List ℕ} → state_room ≤ length w → ScriptCarried w b st.script w₁ b'
    → w' ≡ take waiting_at (set w₁ 2 st.count) ++ (st.waiting ++ drop state_room (set w₁ 2 st.count))
    → length st.waiting ≡ paper01.places
    → Carried w b st w' b'
unfolding state_of script_of
saved [] b st long c e all = absurd (omega arith)
saved (x ∷ []) b st long c e all = absurd (omega arith)
saved (x ∷ y ∷ []) b st long c e all = absurd (omega arith)
saved (x ∷ y ∷ z ∷ w) b st {w₁} {b'} {w'} long c e all =
    let g : w' ≡ st.script.lines ∷ st.script.count ∷ st.count ∷ (st.waiting ++ drop paper01.places w) =
    e ∙ ap (λ (v : List ℕ). take waiting_at (set v 2 st.count) ++ (st.waiting ++ drop state_room (set v 2 st.count))) c.words in
    record {
      state =
          ap (λ (v : List ℕ). state_of v b') g
          ∙ ap (state_of (st.script.lines ∷ st.script.count ∷ st.count ∷ (st.waiting ++ drop paper01.places w))) c.bytes
          ∙ rw (take_at st.waiting (drop paper01.places w) 16 all, take_at st.script.kept (drop line_room b) line_room c.whole);
      words-behind = ap (drop state_room) g ∙ drop_at st.waiting (drop paper01.places w) 16 all;
      bytes-behind = script-bytes-behind c;
    }

-- The numbers of a part, one behind the other.

pub end-words : (p : List ℕ) (stop written : ℕ) → end_room ≤ length p → set (set p 0 stop) 1 written ≡ stop ∷ written ∷ drop end_room p
end-words p stop written room =
    let w0 = wrote-set p 0 stop (omega arith) in
    let w1 = wrote-next w0 1 written refl (omega arith) in
    front-written end_room refl room w1

pub portion-words : (p : List ℕ) (stop written used : ℕ) → portion_room ≤ length p
    → set (stop ∷ written ∷ drop end_room p) 2 used ≡ stop ∷ written ∷ used ∷ drop portion_room p
portion-words [] stop written used room = absurd (omega arith)
portion-words (x ∷ []) stop written used room = absurd (omega arith)
portion-words (x ∷ y ∷ []) stop written used room = absurd (omega arith)
portion-words (x ∷ y ∷ z ∷ p) stop written used room = refl

-- why playing stopped is found again from its number
pub stop-found : (s : Stop·rt) → stop_of (stop_number s) ≡ s
stop-found AllUsed = refl
stop-found NoRoom = refl
stop-found LastNumber = refl

-- which is the one that the enum has
pub stop-told : (s : Stop·rt) → tag_of the_type s ≡ stop_number s
stop-told AllUsed = refl
stop-told NoRoom = refl
stop-told LastNumber = refl

-- Where something is too short, nothing has changed.
pub unchanged : (m w b out p : List ℕ) → Unchanged m w b out p m w b out p 0
unchanged m w b out p = record { memory = refl; words = refl; bytes = refl; output = refl; part = refl; nothing = refl }
