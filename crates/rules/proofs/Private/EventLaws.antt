-- The event of a step, and that nothing is counted of a refused one. Assumes nothing.
use Prim.Native.Nat.{ℕ, suc}
use native.Mathlib.Omega.{arith}
use mathlib.Core.Path.{◌≡◌, refl}
use mathlib.Core.Bool.{false}
use mathlib.Core.List.{[]}
use borrow.Author.Tests.{ne_eqb}
use lib.Dec.{eqb}
use Rattle.rules.specs.Operation.{poll, peek, dispose, begin_atomic, end_atomic, describe, launch}
use Rattle.rules.specs.Operation.{Operation, arrive, schedule, preempt, dispatch, tick, turn, user, unknown, accepted}
use Rattle.rules.specs.Node.{Node}
use Rattle.rules.specs.Step.{Stepped}
use Rattle.rules.specs.Run.{Event, arrived_by, disposed_by, ticked_by}

-- what is seen of a step on a node
abbrev pub event_of : Node → Operation → Stepped → Event
event_of n op s = record { runner = n.running; operation = op; report = s.report }

-- a refusal's number is not that of an accepted step
pub refusal-answer : (r : ℕ) → eqb (suc r) accepted ≡ false
refusal-answer r = ne_eqb (suc r) 0 (λ h. omega arith)

-- an operation that is not an accepted D disposes of nothing
pub disposed-none : (op : Operation) → disposed_by op false ≡ 0
unfolding disposed_by
disposed-none (arrive g ws) = refl
disposed-none preempt = refl
disposed-none (dispatch g) = refl
disposed-none (schedule g) = refl
disposed-none (tick k) = refl
disposed-none turn = refl
disposed-none (user poll) = refl
disposed-none (user (peek i)) = refl
disposed-none (user dispose) = refl
disposed-none (user (begin_atomic force)) = refl
disposed-none (user end_atomic) = refl
disposed-none (user (describe w)) = refl
disposed-none (user (launch k)) = refl
disposed-none unknown = refl

-- and one that is not an accepted A brings nothing
pub arrived-none : (op : Operation) → arrived_by op false ≡ []
unfolding arrived_by
arrived-none (arrive g ws) = refl
arrived-none preempt = refl
arrived-none (dispatch g) = refl
arrived-none (schedule g) = refl
arrived-none (tick k) = refl
arrived-none turn = refl
arrived-none (user q) = refl
arrived-none unknown = refl

-- an operation that is not an accepted T has no ticks
pub ticked-none : (op : Operation) → ticked_by op false ≡ 0
unfolding ticked_by
ticked-none (arrive g ws) = refl
ticked-none preempt = refl
ticked-none (dispatch g) = refl
ticked-none (schedule g) = refl
ticked-none (tick k) = refl
ticked-none turn = refl
ticked-none (user q) = refl
ticked-none unknown = refl
