-- Why a message leaves the queue, by its place: what a reader can check by hand in a listing, and what the tool is built with. At an accepted step as
-- many leave the queue as `left_by` counts, from the head on; why the first of them leaves, and why those behind it do, follows from the operation,
-- and for an arrival that moves at its own line from two numbers of the node after it. Assumes nothing.
use Rattle.std.specs.Prelude.{ℕ, zero, suc, cond, List, [], ◌∷◌, ◌++◌, map, eqb, ltb, replicate}
use Rattle.rules.specs.Build.{Build}
use Rattle.rules.specs.Node.{Node, group_of}
use Rattle.rules.specs.Operation.{poll, peek, dispose, begin_atomic, end_atomic, describe, launch}
use Rattle.rules.specs.Operation.{Operation, arrive, schedule, preempt, dispatch, tick, turn, user, unknown}
use Rattle.rules.specs.Step.{step}
use Rattle.rules.specs.Run.{Input, asked, Event, left_by}
use Rattle.reasons.specs.Why.{Departure}

-- a message of group g that moved at its own line, where n is the node after it: 3 where its group doesn't run; else 4 where it is not alone in its
-- buffer; else 5
unfoldable pub own_reason : Node → ℕ → ℕ
own_reason n g = cond (eqb g n.running) (cond (ltb 1 (group_of n g).buffer.count) 4 5) 3

-- the first that leaves, and 0 where none does
unfoldable pub first_reason : Operation → Node → ℕ
first_reason (arrive g ws) n = own_reason n g
first_reason preempt n = 7
first_reason (dispatch g) n = 0
first_reason (schedule g) n = 7
first_reason (tick k) n = 6
first_reason turn n = 0
first_reason (user poll) n = 0
first_reason (user (peek i)) n = 0
first_reason (user dispose) n = 1
first_reason (user (begin_atomic force)) n = 0
first_reason (user end_atomic) n = 0
first_reason (user (describe w)) n = 0
first_reason (user (launch k)) n = 0
first_reason unknown n = 0

-- those behind it: a timeout moves them as it does the first; else each became head as the one before it left, and its group didn't run then.
-- It counts only where two or more leave; at M, E and C none does
unfoldable pub later_reason : Operation → ℕ
later_reason (arrive g ws) = 3
later_reason preempt = 3
later_reason (dispatch g) = 3
later_reason (schedule g) = 3
later_reason (tick k) = 6
later_reason turn = 3
later_reason (user r) = 3
later_reason unknown = 3

-- k that leave
unfoldable pub leaving : ℕ → ℕ → ℕ → List ℕ
leaving zero first later = []
leaving (suc k) first later = first ∷ replicate k later

-- those that leave at a step of which e was seen, where n is the node after it
unfoldable pub event_reasons : Event → Node → List ℕ
event_reasons e n = leaving (left_by e) (first_reason e.operation n) (later_reason e.operation)

-- in line i
unfoldable pub dated : ℕ → List ℕ → List Departure
dated i rs = map (λ (r : ℕ). record { reason = r; line = i }) rs

-- over a run, whose first step has number i
unfoldable pub place_departures : Build → ℕ → Node → List Input → List Departure
place_departures b i n [] = []
place_departures b i n (x ∷ is) =
    let s = step b n (asked x) in
    dated i (event_reasons (record { runner = n.running; operation = asked x; report = s.report }) s.node)
    ++ place_departures b (suc i) s.node is
