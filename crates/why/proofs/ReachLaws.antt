-- Calls of `follow` one after the other. Assumes nothing.
use Prim.Native.Nat.{ℕ, suc, ◌+◌, ◌≤◌, ◌<◌}
use native.Mathlib.Omega.{arith}
use mathlib.Core.Bool.{false}
use mathlib.Core.List.{List, [], ◌∷◌, append-nil}
use mathlib.Core.Path.{◌≡◌, refl}
use lib.Dec.{eqb}
use lib.ListN.{length}
use lib.Seq.{take-length}
use borrow.Author.Tests.{le-leb, lt-leb, ne_eqb}
use Rattle.script.specs.Feed.{last_number}
use Rattle.std.specs.Prelude.{Option, None, Some, is_none}
use Rattle.follow.specs.One.{FollowedTo, place_of}
use Rattle.follow.specs.Portions.{Follows, bytes_of, last_memory, last_state}
use Rattle.follow.specs.declared.one.State.{State as State·rt}
use Rattle.streams.specs.Turns.{Plays}
use Rattle.why.specs.One.{Reaches, settled}
use Rattle.why.specs.declared.one.Following.{Following as Following·rt}

-- one call
reach-one : {m : List ℕ} {st : State·rt} {input m' : List ℕ} {st' : State·rt} → FollowedTo m st input m' st' → st.script.lines + length input < last_number
    → Reaches m st input m' st'
unfolding Follows bytes_of last_memory last_state
reach-one {input = input} {m'} {st'} f enough =
    record {
      calls = record { input = input; memory-after = m'; state-after = st' } ∷ [];
      follows = (f, (enough, tt));
      handed = append-nil input;
      memory = refl;
      state = refl;
    }

-- A portion is followed, all of it.
pub plays-whole : {m : List ℕ} {st : State·rt} {input m' : List ℕ} {st' : State·rt} → FollowedTo m st input m' st' → st.script.lines + length input < last_number
    → 0 < length input
    → Plays {P = Following·rt} (λ m p bytes m' p'. Reaches m p.state bytes m' p'.state) m (record { state = st }) input m' (record { state = st' }) (length input)
plays-whole {input = input} f enough some = record { reached = rw (take-length input) (reach-one f enough); some = some; inside = omega arith }

-- The tests.

pub settled-not : (st : State·rt) → st.script.lines < st.wanted → false ≡ settled st
unfolding settled
settled-not st h = rw (lt-leb st.wanted st.script.lines h)

pub settled-past : (st : State·rt) → st.wanted ≤ st.script.lines → is_none st.followed.ahead ≡ settled st
unfolding settled
settled-past st h = rw (le-leb st.wanted st.script.lines h) (nowhere st.followed.ahead)
  where
    nowhere : (o : Option ℕ) → is_none o ≡ eqb (place_of o) 0
    nowhere None = refl
    nowhere (Some ahead) = rw (ne_eqb (suc ahead) 0 (λ e. omega arith))
