-- What the calls tell by which a script is fed in portions: the script behind a portion in the words and bytes, the numbers in the part; or nothing, where one
-- of them is too short. Assumes nothing.
use Prim.Native.Nat.{ℕ, ◌≤◌, ◌<◌}
use native.Mathlib.Omega.{arith}
use mathlib.Core.List.{List, ◌∷◌}
use mathlib.Core.Path.{◌≡◌, ◌∙◌, ap, refl, subst, sym}
use lib.ListN.{length, drop, get_or}
use Rattle.rules.specs.Script.{header}
use Rattle.script.specs.Feed.{FedTo}
use Rattle.script.specs.Play.{stop_number}
use Rattle.script.specs.Portions.{last_newline}
use Rattle.script.specs.Written.{Appended}
use Rattle.script.specs.declared.feed.Fed.{Fed as Fed·rt}
use Rattle.script.specs.declared.feed.State.{State as State·rt}
use Rattle.script.specs.declared.play.Stop.{Stop as Stop·rt}
use Rattle.capi.specs.Carried.{Lent, ScriptCarried, end_room, portion_room, script_of, script_room, stop_of}
use Rattle.capi.specs.Feed.{FeedsEnd, FeedsPortion, WritesHeader, fed_of}
use Rattle.capi.proofs.CarriedLaws.{script-bytes-behind, script-found, script-words-behind, stop-found, unchanged}

-- The header.

pub header-written : {out out' : List ℕ} {end count : ℕ} → length header ≤ length out → Appended out 0 out' end header → count ≡ length header
    → WritesHeader out out' count
header-written {out} {out'} long a e =
    record {
      written = λ _. subst (λ (n : ℕ). Appended out 0 out' n header) (let l = a.end in omega arith) a;
      output-kept = λ short. absurd (omega arith);
      nothing = λ short. absurd (omega arith);
    }

pub header-nothing : (out : List ℕ) → length out < length header → WritesHeader out out 0
header-nothing out short = record { written = λ long. absurd (omega arith); output-kept = λ _. refl; nothing = λ _. refl }

-- A portion's numbers.

-- another state, and stopped for another reason
abbrev fed_at : Fed·rt → State·rt → Stop·rt → Fed·rt
fed_at f st s = record { state = st; used = f.used; written = f.written; stop = s }

-- with the state in the words and bytes they are what the portion came to
fed-found : (w b : List ℕ) {behind p' : List ℕ} (f : Fed·rt) → p' ≡ stop_number f.stop ∷ f.written ∷ f.used ∷ behind → script_of w b ≡ f.state → f ≡ fed_of w b p'
unfolding fed_of
fed-found w b f words e =
    sym (ap (fed_of w b) words ∙ ap (λ (x : State·rt). fed_at f x (stop_of (stop_number f.stop))) e
    ∙ ap (fed_at f f.state) (stop-found f.stop))

pub portion-fed : {m w b input out p m' w' b' out' p' : List ℕ} {st : State·rt} {f : Fed·rt} → Lent script_room (length w) (length b) (length p) portion_room
    → st ≡ script_of w b
    → FedTo m st input out m' out' f
    → ScriptCarried w b f.state w' b'
    → p' ≡ stop_number f.stop ∷ f.written ∷ f.used ∷ drop portion_room p
    → FeedsPortion m w b input out p m' w' b' out' p' portion_room
portion-fed {m} {w} {b} {input} {out} {p} {m'} {w'} {b'} {out'} {p'} {st} {f} l e h c words =
    let h₁ = subst (λ (x : State·rt). FedTo m x input out m' out' f) e h in
    let found = fed-found w' b' f words (script-found c) in
    record {
      room = λ _.
          record {
            fed = subst (λ (x : Fed·rt). FedTo m (script_of w b) input out m' out' x) found h₁;
            stopped = ap (λ (x : List ℕ). get_or x 0 0) words ∙ ap (λ (x : Fed·rt). stop_number x.stop) found;
            words-behind = script-words-behind c;
            bytes-behind = script-bytes-behind c;
            part-behind = ap (drop portion_room) words;
            counted = refl;
          };
      short = λ fewer. absurd (fewer l);
    }

pub portion-unfed : (m w b input out p : List ℕ) → (Lent script_room (length w) (length b) (length p) portion_room → ⊥)
    → FeedsPortion m w b input out p m w b out p 0
portion-unfed m w b input out p fewer = record { room = λ l. absurd (fewer l); short = λ _. unchanged m w b out p }

-- The end's.

pub end-fed : {m w b out p m' out' p' : List ℕ} {st : State·rt} {f : Fed·rt} → Lent script_room (length w) (length b) (length p) end_room
    → st ≡ script_of w b
    → FedTo m st (last_newline st) out m' out' f
    → p' ≡ stop_number f.stop ∷ f.written ∷ drop end_room p
    → FeedsEnd m w b out p m' out' p' end_room
end-fed {m} {w} {b} {out} {p} {m'} {out'} {st = st} {f} l e h words =
    record {
      room = λ _.
          record {
            fed = f;
            ends = subst (λ (x : State·rt). FedTo m x (last_newline x) out m' out' f) e h;
            stopped = ap (λ (x : List ℕ). get_or x 0 0) words;
            written = ap (λ (x : List ℕ). get_or x 1 0) words;
            part-behind = ap (drop end_room) words;
            counted = refl;
          };
      short = λ fewer. absurd (fewer l);
    }

pub end-unfed : (m w b out p : List ℕ) → (Lent script_room (length w) (length b) (length p) end_room → ⊥) → FeedsEnd m w b out p m out p 0
end-unfed m w b out p fewer = record { room = λ l. absurd (fewer l); short = λ _. unchanged m w b out p }
