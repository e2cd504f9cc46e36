-- Calls of `tell` one after the other, and that they write the answer for every accepted arrival. Assumes nothing.
use Prim.Native.Nat.{ℕ, ◌+◌, ◌*◌, ◌≤◌, ◌<◌}
use native.Mathlib.Decide.{dec_lt}
use native.Mathlib.Omega.{arith}
use mathlib.Core.List.{List, [], ◌∷◌, append-nil}
use Rattle.std.proofs.Common.{◌⊎◌, Err, IfOk, Ok, OnOk, Result, inl, inr}
use mathlib.Core.Path.{◌≡◌, ◌∙◌, refl, sym, ap, subst}
use lib.ListN.{length, take}
use borrow.Author.Tests.{le-leb}
use Rattle.rules.specs.Build.{paper01}
use Rattle.rules.specs.Memory.{size}
use Rattle.rules.specs.MemoryTest.{power_on_memory, replaced}
use Rattle.rules.specs.Node.{power_on}
use Rattle.rules.proofs.Map.RunMemory.{power-on-tested}
use Rattle.script.specs.Feed.{kept_line, last_number}
use Rattle.script.specs.Feeding.{lines_behind}
use Rattle.script.specs.Read.{line_of}
use Rattle.script.proofs.feed.BegunLaws.{behind-open}
use Rattle.follow.specs.Every.{FinishedTo, ToldTo, waiting_of}
use Rattle.follow.specs.EveryPortions.{Portion, last_memory, last_state, used_bytes}
use Rattle.follow.specs.EveryPortions as every
use Rattle.follow.specs.Waiting.{lines_room}
use Rattle.follow.specs.declared.every.State.{State as State·rt}
use Rattle.follow.specs.declared.every.Told.{Told as Told·rt}
use Rattle.follow.proofs.EveryPortionsLaws.{portions-all-told}
use Rattle.script.specs.declared.play.Stop.TheVariants.{LastNumber}
use Rattle.script.proofs.play.StopLaws.{stop-cases}
use Rattle.streams.specs.Turns.{Plays}
use Rattle.streams.specs.Turns as streams
use Rattle.streams.specs.declared.Failed.{Failed}
use Rattle.why.specs.All.{Ends, Reaches, RunAllTold, Runs, Tells, written_by}
use Rattle.why.specs.declared.all.Telling.{Telling as Telling·rt}

-- What a call needs of `tell`: where it did not run out of line numbers there were enough, what was used lies inside, and where the output has room
-- something is used.
module _ {m : List ℕ} {st : State·rt} {input out m' out' : List ℕ} {t : Told·rt} (g : ToldTo m st input out m' out' t) (stop : t.stop ≡ LastNumber → ⊥) where
  told-numbers : st.script.lines + length input < last_number
  told-numbers =
      elim (dec_lt (st.script.lines + length input) last_number) [
        | yes h ↦ h
        | no h ↦ absurd (stop (ap (λ (x : Told·rt). x.stop) (g.last-number (omega arith)).1.1))
      ]

  told-inside : t.used ≤ length input
  told-inside = (g.enough told-numbers).inside

  told-forward : 1 ≤ length input → lines_room ≤ length out → 1 ≤ t.used
  unfolding line_of
  told-forward some room =
      elim (dec_lt 0 t.used) [
        | yes h ↦ omega arith
        | no h ↦
            let p = g.enough told-numbers in
            let z : t.used ≡ 0 = omega arith in
            let none : length (lines_behind (kept_line st.script) (take t.used input)) ≡ 0 =
            ap (λ (k : ℕ). length (lines_behind (kept_line st.script) (take k input))) z ∙ ap length (behind-open (kept_line st.script) [] refl).0 in
            let w = p.at_most in
            absurd
            (stop-cases t.stop (λ s. let a = p.all-used s in omega arith) (λ s. let r = p.no_room s in omega arith) p.stops)
      ]

-- one call
reach-one : {m : List ℕ} {st : State·rt} {input out m' out' : List ℕ} {t : Told·rt} → ToldTo m st input out m' out' t → (t.stop ≡ LastNumber → ⊥)
    → Reaches m st (take t.used input) m' t.state
unfolding every.Tells used_bytes last_memory last_state
reach-one {input = input} {out} {m'} {out'} {t} g stop =
    record {
      calls = record { input = input; output = out; memory-after = m'; output-after = out'; told = t } ∷ [];
      tells = (g, (told-numbers g stop, tt));
      used = append-nil (take t.used input);
      memory = refl;
      state = refl;
    }

-- Within a portion a call uses some of it.
pub plays-some : {m : List ℕ} {st : State·rt} {input out m' out' : List ℕ} {t : Told·rt} → ToldTo m st input out m' out' t → (t.stop ≡ LastNumber → ⊥)
    → 0 < length input → 2 * lines_room ≤ length out
    → Plays {P = Telling·rt} (λ m p bytes m' p'. Reaches m p.state bytes m' p'.state) m (record { state = st }) input m' (record { state = t.state }) t.used
plays-some g stop more room =
    record {
      reached = reach-one g stop;
      some = let s = told-forward g stop (omega arith) (omega arith) in omega arith;
      inside = told-inside g stop;
    }

-- power-on, a new state, a run to the end of its input, and the script's end
pub tells_all : (m : List ℕ) {m₀ : List ℕ} (m' : List ℕ) (st : State·rt) (result : Result (Unit {0}) Failed) → size ≤ length m
    → m₀ ≡ replaced (power_on paper01) m
    → (st.script.lines ≡ 0) × ((kept_line st.script ≡ []) × (waiting_of st ≡ []))
    → IfOk result (λ a. streams.Runs {P = Telling·rt} {A = Unit {0}} (λ m p bytes m' p'. Reaches m p.state bytes m' p'.state)
    (λ m p out m' out' a. Ends m p.state out m' out') (λ p a. ⊥) m₀ (record { state = st }) m' a)
    → OnOk result (Tells m)
tells_all m m' st (Err e) long start new r = tt
tells_all m {m₀} m' st (Ok a) long start new r = go r.stops
  where
    go : ((out : List ℕ) × ((out' : List ℕ) × Ends r.memory r.player.state out m' out')) ⊎ ((m' ≡ r.memory) × ⊥) → Tells m
    go (inr s) = absurd s.1
    go (inl e) =
        record {
          state = st;
          none = new.0;
          empty = new.1.0;
          nobody = new.1.1;
          memory = r.memory;
          last = r.player.state;
          runs =
              subst (λ (x : List ℕ). Runs x st r.memory r.player.state) (start ∙ sym (power-on-tested m (le-leb size (length m) long)))
              (record { script = r.goes_on.script; reaches = r.goes_on.reached });
          out = e.0;
          memory' = m';
          out' = e.1.0;
          ends = e.1.1;
        }

pub run-all-told : RunAllTold
unfolding written_by
run-all-told =
    record {
      written = λ m long a.
          let q = a.runs.reaches in
          let e = a.ends in
          portions-all-told.told m a.runs.script a.state q.calls a.out a.memory' a.out' e.end
          (record {
            long = long;
            none = a.none;
            empty = a.empty;
            nobody = a.nobody;
            tells = q.tells;
            read = q.used;
            room = e.room;
            number = subst (λ (x : State·rt). x.script.lines + 1 < last_number) (sym q.state) e.number;
            finishes =
                subst (λ (x : State·rt). FinishedTo (last_memory (power_on_memory m).memory q.calls) x a.out a.memory' a.out' e.end) (sym q.state)
                (subst (λ (x : List ℕ). FinishedTo x a.last a.out a.memory' a.out' e.end) (sym q.memory) e.finished);
          });
    }
