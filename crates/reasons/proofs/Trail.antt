-- A stretch of moments, read with what became head before it: each message becomes head before it leaves, and one at a time. Whatever is told of a run is
-- told along its trail: the reasons, how many became head and left, and that what a rule names holds. Assumes nothing.
use Prim.Native.Nat.{ℕ, ◌+◌}
use mathlib.Core.Path.{◌≡◌, ap}
use mathlib.Core.Bool.{true}
use mathlib.Core.List.{List, [], ◌∷◌, ◌++◌}
use lib.Dec.{eqb}
use Rattle.rules.specs.Node.{Message}
use Rattle.reasons.specs.Moments.{Facts, Moment, joined, headed, disposed, moved, next_headed}
use Rattle.reasons.specs.Why.{Heading, moved_for}

-- a heading of group g while r ran
abbrev pub heading : ℕ → ℕ → Heading
heading g r = record { group = g; runner = r }

-- with p of the heads before them, these moments have messages leave for these reasons, and p' is the head after them. A 7 is told only where the processor
-- was taken
pub data Trail : List Heading → List Moment → List ℕ → List Heading → Type 0 where
  ends : {p : List Heading} → Trail p [] [] p
  joins : {p p' : List Heading} {ms : List Moment} {rs : List ℕ} → Trail p ms rs p' → Trail p (joined ∷ ms) rs p'
  heads : {g r : ℕ} {p' : List Heading} {ms : List Moment} {rs : List ℕ} → Trail (heading g r ∷ []) ms rs p' → Trail [] (headed g r ∷ ms) rs p'
  disposes : {h : Heading} {p' : List Heading} {ms : List Moment} {rs : List ℕ} → Trail [] ms rs p' → Trail (h ∷ []) (disposed ∷ ms) (1 ∷ rs) p'
  moves : {h : Heading} {p' : List Heading} {ms : List Moment} {rs : List ℕ} (f : Facts) (k : ℕ)
      → moved_for f (eqb h.group h.runner) ≡ k
      → (k ≡ 7 → f.taken ≡ true)
      → Trail [] ms rs p'
      → Trail (h ∷ []) (moved f ∷ ms) (k ∷ rs) p'

-- one after the other
pub trail-then : {p q r : List Heading} {ms ns : List Moment} {js ks : List ℕ} → Trail p ms js q → Trail q ns ks r → Trail p (ms ++ ns) (js ++ ks) r
trail-then ends u = u
trail-then (joins t) u = joins (trail-then t u)
trail-then (heads t) u = heads (trail-then t u)
trail-then (disposes t) u = disposes (trail-then t u)
trail-then (moves f k e s t) u = moves f k e s (trail-then t u)

-- the head of a queue, where r ran as it became that
unfoldable pub headed_by : ℕ → List Message → List Heading
headed_by r [] = []
headed_by r (m ∷ q) = heading m.group r ∷ []

-- the next becomes head
pub trail-next : (r : ℕ) (q : List Message) {p : List Heading} {ms : List Moment} {ks : List ℕ} → Trail (headed_by r q) ms ks p → Trail [] (next_headed r q ++ ms) ks p
unfolding headed_by next_headed
trail-next r [] t = t
trail-next r (m ∷ q) t = heads t

-- the head of a node's queue became head while its own group ran
unfoldable pub pending : List Message → List Heading
pending [] = []
pending (m ∷ q) = heading m.group m.group ∷ []

-- it did, where it was its own group that ran
pub pending-headed : (r : ℕ) (m : Message) (q : List Message) → m.group ≡ r → pending (m ∷ q) ≡ headed_by r (m ∷ q)
unfolding headed_by pending
pending-headed r m q same = ap (λ (k : ℕ). heading m.group k ∷ []) same
