-- Calls of `feed` one after the other. Assumes nothing.
use Prim.Native.Nat.{ℕ, ◌≤◌, ◌<◌}
use native.Mathlib.Omega.{arith}
use mathlib.Core.Bool.{true, false, true≢false}
use mathlib.Core.List.{List, [], ◌∷◌, ◌++◌, append-nil}
use Rattle.std.proofs.Common.{◌⊎◌, Err, IfOk, Ok, OnOk, Result, inl, inr}
use mathlib.Core.Path.{◌≡◌, ◌∙◌, refl, sym, ap, subst}
use lib.ListN.{length, replicate, take, length-replicate}
use borrow.Author.Tests.{le-leb}
use Rattle.rules.specs.Build.{paper01}
use Rattle.rules.specs.Lists.{is_empty}
use Rattle.rules.specs.Memory.{size}
use Rattle.rules.specs.MemoryTest.{power_on_memory, replaced}
use Rattle.rules.specs.Node.{power_on}
use Rattle.rules.specs.Script.{header, newline}
use Rattle.rules.proofs.Map.RunMemory.{power-on-tested}
use Rattle.script.specs.Feed.{FedTo, kept_line, kept_room}
use Rattle.script.specs.Feeding.{begun}
use Rattle.script.specs.Portions.{Feeds, last_memory, last_newline, last_state, used_bytes, used_of}
use Rattle.script.specs.Written.{line_room}
use Rattle.script.specs.declared.play.Stop.TheVariants.{LastNumber}
use Rattle.script.specs.declared.feed.Fed.{Fed as Fed·rt}
use Rattle.script.specs.declared.feed.State.{State as State·rt}
use Rattle.script.proofs.PortionLaws.{whole-nil}
use Rattle.script.proofs.PortionsLaws.{ended_by, kept-begun, listed-append, portions-listed}
use Rattle.script.proofs.feed.FedLaws.{fed-forward, fed-inside, fed-numbers}
use Rattle.streams.specs.Turns.{Plays, Runs}
use Rattle.streams.specs.declared.Failed.{Failed}
use Rattle.listing.specs.Run.{Ends, Exits, Finished, Played, Reaches, RunListed, listed_by}
use Rattle.listing.specs.Leads.{reach-more, reach-none}
use Rattle.listing.specs.declared.Listing.{Listing as Listing·rt}

-- one call
reach-one : {m : List ℕ} {st : State·rt} {input out m' out' : List ℕ} {f : Fed·rt} → FedTo m st input out m' out' f → (f.stop ≡ LastNumber → ⊥)
    → Reaches m st (take f.used input) m' f.state
unfolding Feeds used_bytes used_of last_memory last_state
reach-one {input = input} {out} {m'} {out'} {f} g stop =
    record {
      calls = record { input = input; output = out; memory-after = m'; output-after = out'; fed = f } ∷ [];
      fed = (g, (fed-numbers g stop, tt));
      used = append-nil (take f.used input);
      memory = refl;
      state = refl;
    }

-- Within a portion a call uses some of it.
pub plays-some : {m : List ℕ} {st : State·rt} {input out m' out' : List ℕ} {f : Fed·rt} → FedTo m st input out m' out' f → (f.stop ≡ LastNumber → ⊥)
    → 0 < length input → line_room ≤ length out
    → Plays {P = Listing·rt} (λ m p bytes m' p'. Reaches m p.state bytes m' p'.state) m (record { state = st }) input m' (record { state = f.state }) f.used
plays-some g stop more room =
    record { reached = reach-one g stop; some = let s = fed-forward g stop more room in omega arith; inside = fed-inside g stop }

-- At the end of the input.

-- no line has begun
pub finished-none : (m : List ℕ) (st : State·rt) → is_empty (kept_line st) ≡ true → Finished m st m
unfolding last_newline
finished-none m st none = record { state = st; finishes = record { reaches = rw none (reach-none m st); unchanged = λ e. (refl, refl) } }

-- one has, and a newline is played
pub finished-begun : {m : List ℕ} {st : State·rt} {m' : List ℕ} {p' : Listing·rt} {used : ℕ} → is_empty (kept_line st) ≡ false
    → Plays {P = Listing·rt} (λ m p bytes m' p'. Reaches m p.state bytes m' p'.state) m (record { state = st }) (newline ∷ []) m' p' used → Finished m st m'
unfolding last_newline
finished-begun {m} {st} {m'} {p'} {used} some p =
    let whole : used ≡ 1 = let a = p.some in let b = p.inside in omega arith in
    record {
      state = p'.state;
      finishes =
          record {
            reaches = rw some (rw whole at p.reached);
            unchanged = λ none. absurd (true≢false (sym none ∙ some));
          };
    }

-- The listing.

pub run-listed : RunListed
unfolding listed_by reach-more
run-listed =
    record {
      listed = λ m long p.
          let e = p.ends in
          let r = e.reaches in
          let all = reach-more r e.finishes.reaches in
          let kept : kept_line e.state ≡ take kept_room (begun e.script) =
          ap kept_line (sym r.state) ∙ kept-begun r.calls (power_on_memory m).memory [] p.state whole-nil p.no_line r.fed
          ∙ ap (λ (x : List ℕ). take kept_room (begun x)) r.used in
          ap (λ (x : List ℕ). header ++ x) (sym (listed-append r.calls e.finishes.reaches.calls))
          ∙ portions-listed.listed m e.script p.state all.calls long p.no_lines p.no_line all.fed
          (all.used ∙ ended_by e.script e.state kept);
    }

-- What the program has done.

-- where nothing failed: from power-on a run up to the end of its input
pub played : (m : List ℕ) {m₀ : List ℕ} (m' : List ℕ) (st : State·rt) (result : Result (Unit {0}) Failed) → size ≤ length m → m₀ ≡ replaced (power_on paper01) m
    → (st.lines ≡ 0) × (kept_line st ≡ [])
    → IfOk result (λ a. Runs {P = Listing·rt} {A = Unit {0}} (λ m p bytes m' p'. Reaches m p.state bytes m' p'.state) (λ m p out m' out' a. Finished m p.state m')
    (λ p a. ⊥) m₀ (record { state = st }) m' a)
    → OnOk result (Played m)
played m m' st (Err e) long started new r = tt
played m {m₀} m' st (Ok a) long started new r = go r.stops
  where
    go : ((out : List ℕ) × ((out' : List ℕ) × Finished r.memory r.player.state m')) ⊎ ((m' ≡ r.memory) × ⊥) → Played m
    go (inr s) = absurd s.1
    go (inl e) =
        record {
          state = st;
          no_lines = new.0;
          no_line = new.1;
          memory = m';
          last = e.1.1.state;
          ends =
              subst (λ (x : List ℕ). Ends x st m' e.1.1.state) (started ∙ sym (power-on-tested m (le-leb size (length m) long)))
              (record { script = r.goes_on.script; memory = r.memory; state = r.player.state; reaches = r.goes_on.reached; finishes = e.1.1.finishes });
        }

-- its exit status says so where it is 0
pub exits : {m : List ℕ} {status : ℕ} → size ≤ length m → (status ≡ 0 → Played m) → Exits status
exits {m} long played = record { memory = m; long = long; played = played }

-- and nothing where it is not
pub exits-badly : {status : ℕ} → 0 < status → Exits status
exits-badly bad = let l = length-replicate {A = ℕ} size 0 in exits {m = replicate size 0} (omega arith) (λ e. absurd (omega arith))
