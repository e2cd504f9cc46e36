-- Why messages leave, by the operation: which arm of a match stands for which operations. Assumes nothing.
use Prim.Native.Nat.{ℕ, zero, suc, ◌+◌, ◌≤◌, ◌<◌}
use native.Mathlib.Omega.{arith}
use native.Mathlib.Nat.{add-zero}
use mathlib.Core.Bool.{Bool, false, true, cond, not}
use mathlib.Core.List.{List, [], ◌∷◌}
use mathlib.Core.Logic.{◌≢◌}
use mathlib.Core.Path.{◌≡◌, refl, sym, ap, subst, ◌∙◌}
use denote.Enum.Declared.{tag_of}
use types.Run.{OneOf, miss}
use Rattle.rules.specs.contracts.Operation.{the_type}
use Rattle.rules.specs.Lists.{is_empty}
use Rattle.rules.specs.Memory.{node_at}
use Rattle.rules.specs.Run.{arrived_by, disposed_by}
use Rattle.rules.specs.Types.{operation_of}
use Rattle.rules.specs.declared.Operation.{Operation as Operation·rt}
use Rattle.rules.specs.declared.Operation.TheVariants.{Arrive, Schedule, Preempt, Dispatch, Tick, Turn, Poll, Peek, Dispose, BeginAtomic, EndAtomic, Describe, Launch, Unknown}
use Rattle.reasons.specs.ByPlace.{first_reason, later_reason, leaving}
use Rattle.reasons.specs.Numbers.{reason_number}
use Rattle.reasons.specs.declared.Reason.{Reason as Reason·rt}
use Rattle.reasons.specs.declared.Reason.TheVariants.{NotRunning, Timeout}
use Rattle.std.specs.Prelude.{Option, None, Some}
use Rattle.follow.specs.Seen.{Leaves, Arrival, ArrivalKnown, First, Later, Gone}

-- all operations but A, but D and but T, and those at which none leaves
abbrev pub not_arrive : List ℕ
not_arrive = 1 ∷ 2 ∷ 3 ∷ 4 ∷ 5 ∷ 6 ∷ 7 ∷ 8 ∷ 9 ∷ 10 ∷ 11 ∷ 12 ∷ 13 ∷ []

abbrev pub not_dispose : List ℕ
not_dispose = 0 ∷ 1 ∷ 2 ∷ 3 ∷ 4 ∷ 5 ∷ 6 ∷ 7 ∷ 9 ∷ 10 ∷ 11 ∷ 12 ∷ 13 ∷ []

abbrev pub not_tick : List ℕ
not_tick = 0 ∷ 1 ∷ 2 ∷ 3 ∷ 5 ∷ 6 ∷ 7 ∷ 8 ∷ 9 ∷ 10 ∷ 11 ∷ 12 ∷ 13 ∷ []

abbrev pub quiet : List ℕ
quiet = 3 ∷ 5 ∷ 6 ∷ 7 ∷ 9 ∷ 10 ∷ 11 ∷ 12 ∷ 13 ∷ []

-- none but A brings a message
pub no-arrival : (op : Operation·rt) → OneOf not_arrive (tag_of the_type op) → (ok : Bool) (ws : List ℕ) → false ≡ not (is_empty (arrived_by (operation_of op ws) ok))
unfolding operation_of arrived_by
no-arrival (Arrive g) k ok ws = absurd (miss not_arrive 0 tt k)
no-arrival (Schedule g) k ok ws = refl
no-arrival Preempt k ok ws = refl
no-arrival (Dispatch g) k ok ws = refl
no-arrival (Tick n) k ok ws = refl
no-arrival Turn k ok ws = refl
no-arrival Poll k ok ws = refl
no-arrival (Peek i) k ok ws = refl
no-arrival Dispose k ok ws = refl
no-arrival (BeginAtomic f) k ok ws = refl
no-arrival EndAtomic k ok ws = refl
no-arrival (Describe w) k ok ws = refl
no-arrival (Launch n) k ok ws = refl
no-arrival Unknown k ok ws = refl

-- and A one where it is accepted
pub an-arrival : (op : Operation·rt) {g : ℕ} → op ≡ Arrive g → (ok : Bool) (ws : List ℕ) → ok ≡ not (is_empty (arrived_by (operation_of op ws) ok))
unfolding operation_of arrived_by
an-arrival op {g} e ok ws = rw e (go ok)
  where
    go : (t : Bool) → t ≡ not (is_empty (arrived_by (operation_of (Arrive g) ws) t))
    go true = refl
    go false = refl

-- none but D disposes
pub none-disposed : (op : Operation·rt) → OneOf not_dispose (tag_of the_type op) → (ok : Bool) (moved : ℕ) → Leaves op ok moved moved
unfolding Leaves operation_of disposed_by
none-disposed (Arrive g) k ok moved ws = sym (add-zero moved)
none-disposed (Schedule g) k ok moved ws = sym (add-zero moved)
none-disposed Preempt k ok moved ws = sym (add-zero moved)
none-disposed (Dispatch g) k ok moved ws = sym (add-zero moved)
none-disposed (Tick n) k ok moved ws = sym (add-zero moved)
none-disposed Turn k ok moved ws = sym (add-zero moved)
none-disposed Poll k ok moved ws = sym (add-zero moved)
none-disposed (Peek i) k ok moved ws = sym (add-zero moved)
none-disposed Dispose k ok moved ws = absurd (miss not_dispose 8 tt k)
none-disposed (BeginAtomic f) k ok moved ws = sym (add-zero moved)
none-disposed EndAtomic k ok moved ws = sym (add-zero moved)
none-disposed (Describe w) k ok moved ws = sym (add-zero moved)
none-disposed (Launch n) k ok moved ws = sym (add-zero moved)
none-disposed Unknown k ok moved ws = sym (add-zero moved)

-- at most one
pub few-disposed : (ok : Bool) {n : ℕ} → n ≡ cond ok 1 0 → n ≤ 1
few-disposed true e = omega arith
few-disposed false e = omega arith

pub one-disposed : (op : Operation·rt) → op ≡ Dispose → (ok : Bool) (moved : ℕ) {n : ℕ} → n ≡ cond ok 1 0 → Leaves op ok moved (moved + n)
unfolding Leaves operation_of disposed_by
one-disposed op e ok moved c ws = rw e (ap (λ (k : ℕ). moved + k) c)

-- behind the first: a timeout, or its group didn't run
pub later-tick : (op : Operation·rt) {k : ℕ} → op ≡ Tick k → Later op Timeout
unfolding Later operation_of later_reason
later-tick op e ws = rw e

pub later-other : (op : Operation·rt) → OneOf not_tick (tag_of the_type op) → Later op NotRunning
unfolding Later operation_of later_reason
later-other (Arrive g) k ws = refl
later-other (Schedule g) k ws = refl
later-other Preempt k ws = refl
later-other (Dispatch g) k ws = refl
later-other (Tick n) k ws = absurd (miss not_tick 4 tt k)
later-other Turn k ws = refl
later-other Poll k ws = refl
later-other (Peek i) k ws = refl
later-other Dispose k ws = refl
later-other (BeginAtomic f) k ws = refl
later-other EndAtomic k ws = refl
later-other (Describe w) k ws = refl
later-other (Launch n) k ws = refl
later-other Unknown k ws = refl

-- The first.

-- why it leaves is asked only where one does
leaving-as : (k : ℕ) {a a' : ℕ} (b : ℕ) → (0 < k → a ≡ a') → leaving k a b ≡ leaving k a' b
unfolding leaving
leaving-as zero b h = refl
leaving-as (suc k) b h = rw (h (omega arith))

pub arrival-known : {m : List ℕ} {op : Operation·rt} {g left : ℕ} → op ≡ Arrive g → ArrivalKnown m op left → 0 < left → Arrival m g
unfolding ArrivalKnown
arrival-known {m} {left = left} e k some = subst (λ (o : Operation·rt). ArrivalKnown m o left) e k some

pub first-none : (m : List ℕ) (op : Operation·rt) {left : ℕ} → left ≡ 0 → (r : Option Reason·rt) → First m op left r
unfolding First
first-none m op e r ws some = absurd (omega arith)

-- the reason of the operation by its name
pub first-named : (m : List ℕ) (op : Operation·rt) {op' : Operation·rt} → op ≡ op' → (left : ℕ) (r : Reason·rt)
    → ((ws : List ℕ) → reason_number r ≡ first_reason (operation_of op' ws) (node_at m)) → First m op left (Some r)
unfolding First
first-named m op e left r h ws some = rw e (h ws)

pub first-quiet : (m : List ℕ) (op : Operation·rt) → OneOf quiet (tag_of the_type op) → (left : ℕ) → First m op left None
unfolding First operation_of first_reason
first-quiet m (Arrive g) k left ws some = absurd (miss quiet 0 tt k)
first-quiet m (Schedule g) k left ws some = absurd (miss quiet 1 tt k)
first-quiet m Preempt k left ws some = absurd (miss quiet 2 tt k)
first-quiet m (Dispatch g) k left ws some = refl
first-quiet m (Tick n) k left ws some = absurd (miss quiet 4 tt k)
first-quiet m Turn k left ws some = refl
first-quiet m Poll k left ws some = refl
first-quiet m (Peek i) k left ws some = refl
first-quiet m Dispose k left ws some = absurd (miss quiet 8 tt k)
first-quiet m (BeginAtomic f) k left ws some = refl
first-quiet m EndAtomic k left ws some = refl
first-quiet m (Describe w) k left ws some = refl
first-quiet m (Launch n) k left ws some = refl
first-quiet m Unknown k left ws some = refl

-- Those that leave.

-- none does where there is no reason
pub gone-none : (m : List ℕ) (op : Operation·rt) (left : ℕ) → First m op left None → Gone m op left None
unfolding First Gone leaving
gone-none m op left f ws some = go left (f ws) some
  where
    go : (k : ℕ) → (0 < k → 0 ≡ first_reason (operation_of op ws) (node_at m)) → (0 < k → first_reason (operation_of op ws) (node_at m) ≢ 0)
        → [] ≡ leaving k (first_reason (operation_of op ws) (node_at m)) (later_reason (operation_of op ws))
    go zero none some = refl
    go (suc k) none some = absurd (some (omega arith) (sym (none (omega arith))))

pub gone-some : (m : List ℕ) (op : Operation·rt) (left : ℕ) (first later : Reason·rt) → First m op left (Some first) → Later op later
    → Gone m op left (Some (record { count = left; first = reason_number first; later = reason_number later }))
unfolding First Later Gone
gone-some m op left first later f l ws some =
    leaving-as left _ (f ws) ∙ ap (leaving left (first_reason (operation_of op ws) (node_at m))) (l ws)
