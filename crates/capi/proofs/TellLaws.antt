-- What the calls tell by which every message is told of: the state behind a portion in the words and bytes, the numbers in the part; or nothing, where one of
-- them is too short. Assumes nothing.
use Prim.Native.Nat.{ℕ}
use mathlib.Core.List.{List, ◌∷◌}
use mathlib.Core.Path.{◌≡◌, ◌∙◌, ap, refl, subst, sym}
use lib.ListN.{length, drop, get_or}
use Rattle.follow.specs.Every.{FinishedTo, ToldTo}
use Rattle.follow.specs.declared.every.End.{End as End·rt}
use Rattle.follow.specs.declared.every.State.{State as State·rt}
use Rattle.follow.specs.declared.every.Told.{Told as Told·rt}
use Rattle.script.specs.Play.{stop_number}
use Rattle.script.specs.declared.play.Stop.{Stop as Stop·rt}
use Rattle.capi.specs.Carried.{Carried, Lent, end_room, portion_room, state_of, state_room, stop_of}
use Rattle.capi.specs.Tell.{TellsEnd, TellsPortion, end_of, portion_of}
use Rattle.capi.proofs.CarriedLaws.{stop-found, unchanged}

-- A portion's numbers.

-- another state, and stopped for another reason
abbrev told_at : Told·rt → State·rt → Stop·rt → Told·rt
told_at t st s = record { state = st; used = t.used; written = t.written; stop = s }

-- with the state in the words and bytes they are what the portion came to
told-found : (w b : List ℕ) {behind p' : List ℕ} (t : Told·rt) → p' ≡ stop_number t.stop ∷ t.written ∷ t.used ∷ behind → state_of w b ≡ t.state → t ≡ portion_of w b p'
unfolding portion_of
told-found w b t words e =
    sym (ap (portion_of w b) words ∙ ap (λ (x : State·rt). told_at t x (stop_of (stop_number t.stop))) e ∙ ap (told_at t t.state) (stop-found t.stop))

pub portion-told : {m w b input out p m' w' b' out' p' : List ℕ} {st : State·rt} {t : Told·rt} → Lent state_room (length w) (length b) (length p) portion_room
    → st ≡ state_of w b
    → ToldTo m st input out m' out' t
    → Carried w b t.state w' b'
    → p' ≡ stop_number t.stop ∷ t.written ∷ t.used ∷ drop portion_room p
    → TellsPortion m w b input out p m' w' b' out' p' portion_room
portion-told {m} {w} {b} {input} {out} {p} {m'} {w'} {b'} {out'} {p'} {st} {t} l e h c words =
    let h₁ = subst (λ (x : State·rt). ToldTo m x input out m' out' t) e h in
    let found = told-found w' b' t words c.state in
    record {
      room = λ _.
          record {
            told = subst (λ (x : Told·rt). ToldTo m (state_of w b) input out m' out' x) found h₁;
            stopped = ap (λ (x : List ℕ). get_or x 0 0) words ∙ ap (λ (x : Told·rt). stop_number x.stop) found;
            words-behind = c.words-behind;
            bytes-behind = c.bytes-behind;
            part-behind = ap (drop portion_room) words;
            counted = refl;
          };
      short = λ fewer. absurd (fewer l);
    }

-- The end's.

ended-found : {behind p' : List ℕ} (e : End·rt) → p' ≡ stop_number e.stop ∷ e.written ∷ behind → e ≡ end_of p'
unfolding end_of
ended-found e words = sym (ap end_of words ∙ ap (λ (s : Stop·rt). record { written = e.written; stop = s }) (stop-found e.stop))

pub end-told : {m w b out p m' out' p' : List ℕ} {st : State·rt} {e : End·rt} → Lent state_room (length w) (length b) (length p) end_room
    → st ≡ state_of w b
    → FinishedTo m st out m' out' e
    → p' ≡ stop_number e.stop ∷ e.written ∷ drop end_room p
    → TellsEnd m w b out p m' out' p' end_room
end-told {m} {w} {b} {out} {p} {m'} {out'} {st = st} {e} l s h words =
    let h₁ = subst (λ (x : State·rt). FinishedTo m x out m' out' e) s h in
    record {
      room = λ _.
          record {
            told = subst (λ (x : End·rt). FinishedTo m (state_of w b) out m' out' x) (ended-found e words) h₁;
            stopped = ap (λ (x : List ℕ). get_or x 0 0) words ∙ ap (λ (x : End·rt). stop_number x.stop) (ended-found e words);
            part-behind = ap (drop end_room) words;
            counted = refl;
          };
      short = λ fewer. absurd (fewer l);
    }

-- Too short.

pub portion-nothing : (m w b input out p : List ℕ) → (Lent state_room (length w) (length b) (length p) portion_room → ⊥)
    → TellsPortion m w b input out p m w b out p 0
portion-nothing m w b input out p fewer = record { room = λ l. absurd (fewer l); short = λ _. unchanged m w b out p }

pub end-nothing : (m w b out p : List ℕ) → (Lent state_room (length w) (length b) (length p) end_room → ⊥) → TellsEnd m w b out p m out p 0
end-nothing m w b out p fewer = record { room = λ l. absurd (fewer l); short = λ _. unchanged m w b out p }
