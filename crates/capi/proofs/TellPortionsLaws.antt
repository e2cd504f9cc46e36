-- Calls over a script's portions are calls of `tell`, and what is carried between them is its state: so all that is proved of those holds of these.
-- Assumes nothing.
use Prim.Native.Nat.{ℕ, ◌+◌, ◌*◌, ◌≤◌, ◌<◌}
use native.Mathlib.Omega.{arith}
use mathlib.Core.Bool.{Bool, true, false}
use mathlib.Core.List.{List, [], ◌∷◌}
use mathlib.Core.Path.{◌≡◌, ◌∙◌, ap, refl, subst, sym}
use lib.Dec.{ltb}
use lib.ListN.{length, get_or}
use borrow.Author.Tests.{ltb-false, ltb-true}
use Rattle.rules.specs.MemoryTest.{power_on_memory}
use Rattle.script.specs.Feed.{kept_line, last_number}
use Rattle.script.specs.Play.{stop_number}
use Rattle.script.specs.declared.play.Stop.TheVariants.{AllUsed, LastNumber}
use Rattle.script.proofs.play.StopLaws.{all-or-room}
use Rattle.follow.specs.Every.{FinishedTo, ToldTo, waiting_of}
use Rattle.follow.specs.EveryPortions.{Tells, last_memory, last_state}
use Rattle.follow.specs.Waiting.{lines_room}
use Rattle.follow.specs.declared.every.End.{End as End·rt}
use Rattle.follow.specs.declared.every.State.{State as State·rt}
use Rattle.follow.specs.declared.every.Told.{Told as Told·rt}
use Rattle.follow.proofs.EveryPortionsLaws.{portions-all-told}
use Rattle.capi.specs.Calls.{Call, last_bytes, last_words}
use Rattle.capi.specs.Carried.{state_of, stop_of}
use Rattle.capi.specs.Tell.{end_of, portion_of}
use Rattle.capi.specs.TellPortions.{Calls, CallsTold, portions}
use Rattle.capi.proofs.FeedPortionsLaws.{new_line, new-lines}

-- a portion that did not run out of line numbers had enough
enough : {m input out m' out' : List ℕ} {st : State·rt} {t : Told·rt} → ToldTo m st input out m' out' t → (t.stop ≡ LastNumber → ⊥)
    → st.script.lines + length input < last_number
enough {input = input} {st = st} {t} h few = go (ltb (st.script.lines + length input) last_number) refl
  where
    go : (x : Bool) → ltb (st.script.lines + length input) last_number ≡ x → st.script.lines + length input < last_number
    go true e = ltb-true (st.script.lines + length input) last_number e
    go false e =
        let last = h.last-number (ltb-false (st.script.lines + length input) last_number e) in
        absurd (few (ap (λ (x : Told·rt). x.stop) last.1.1))

calls-tell : (m w b : List ℕ) (cs : List Call) → Calls m w b cs → Tells m (state_of w b) (portions cs)
unfolding Calls portions Tells portion_of
calls-tell m w b [] h = tt
calls-tell m w b (c ∷ cs) h =
    let here = h.0.room h.1.0 in
    let few = h.1.1.0 in
    (here.told, (enough here.told (λ e. let n = here.stopped ∙ ap stop_number e in omega arith), calls-tell c.memory-after c.state-after c.kept-after cs h.1.1.1))

calls-state : (w b : List ℕ) (cs : List Call) → last_state (state_of w b) (portions cs) ≡ state_of (last_words w cs) (last_bytes b cs)
unfolding portions last_state last_words last_bytes portion_of
calls-state w b [] = refl
calls-state w b (c ∷ cs) = calls-state c.state-after c.kept-after cs

-- a state that begins with three zeros is one of which nothing has been read
module _ (w b : List ℕ) where
  no_line : get_or w 1 0 ≡ 0 → kept_line (state_of w b).script ≡ []
  unfolding state_of
  no_line = new_line w b

  new-waiting : get_or w 2 0 ≡ 0 → waiting_of (state_of w b) ≡ []
  unfolding state_of waiting_of
  new-waiting e = rw e

  no_lines : (state_of w b).script.lines ≡ get_or w 0 0
  unfolding state_of
  no_lines = new-lines w b

-- an end that didn't stop for want of room had enough
roomy : {m out m' out' : List ℕ} {st : State·rt} {e : End·rt} → FinishedTo m st out m' out' e → e.stop ≡ AllUsed → 2 * lines_room ≤ length out
roomy {out = out} {e = e} h z = go (ltb (length out) (2 * lines_room)) refl
  where
    go : (x : Bool) → ltb (length out) (2 * lines_room) ≡ x → 2 * lines_room ≤ length out
    go true l =
        absurd (all-or-room (sym z ∙ ap (λ (x : End·rt). x.stop) (h.no_room (ltb-true (length out) (2 * lines_room) l)).1.1))
    go false l = ltb-false (length out) (2 * lines_room) l

pub calls-told : CallsTold
unfolding end_of
calls-told =
    record {
      told = λ m w b cs s out p m' out' p' count q.
          let m₀ = (power_on_memory m).memory in
          let last = calls-state w b cs in
          let ends = (q.ends.room q.lent).told in
          portions-all-told.told m s (state_of w b) (portions cs) out m' out' (end_of p')
          (record {
            long = q.long;
            none = no_lines w b ∙ q.no_lines;
            empty = no_line w b q.no-line-begun;
            nobody = new-waiting w b q.nobody;
            tells = calls-tell m₀ w b cs q.calls;
            read = q.read;
            room = roomy ends (ap stop_of q.stopped);
            number = rw (last, no_lines) q.number;
            finishes = subst (λ (x : State·rt). FinishedTo (last_memory m₀ (portions cs)) x out m' out' (end_of p')) (sym last) ends;
          });
    }
