-- What comes after an accepted operation: settling and the upcall; and the drain at a timeout. Assumes nothing.
use Rattle.std.specs.Prelude.{ℕ, suc, Bool, true, false, cond, not, ◌&&◌, List, [], ◌∷◌, eqb}
use Rattle.rules.specs.Lists.{is_empty}
use Rattle.rules.specs.Build.{Build}
use Rattle.rules.specs.Node.{Message, Node, group_of, with_timer, with_queue, with_group, with_flags, buffered, timer_runs, line}
use Rattle.rules.specs.Paging.{store}

-- a node, and how many messages were taken from the hardware queue to buffers on the way to it
pub record Moved : Type 0 where
  pub node : Node
  pub moved : ℕ

-- the same, with one message more
unfoldable pub one_more : Moved → Moved
one_more s = record { node = s.node; moved = suc s.moved }

-- a head may stay unless it "is not the running group's, or [its] group is buffered"
unfoldable pub may_stay : Node → Message → Bool
may_stay n m = eqb m.group n.running && not (buffered n m.group)

-- "that head moves to the end of its group's buffer. The pass ends at the first head that may stay."
unfoldable pub pass : Build → List Message → Node → Moved
pass b [] n = record { node = with_queue [] n; moved = 0 }
pass b (m ∷ q) n =
    elim (may_stay n m) [
      | true ↦ record { node = with_queue (m ∷ q) n; moved = 0 }
      | false ↦ one_more (pass b q (store b m n))
    ]

-- "If the queue is then empty, the timer is 0."; with the timer forced "settling leaves the timer"
unfoldable pub rest_timer : Node → Node
rest_timer n = cond (timer_runs n) n (with_timer 0 n)

-- "while the hardware queue has a head that is not the running group's, or whose group is buffered"
unfoldable pub settle : Build → Node → Moved
settle b n =
    let s = pass b n.queue n in
    record { node = rest_timer s.node; moved = s.moved }

-- "the whole hardware queue moves to the buffers"
unfoldable pub drain : Build → List Message → Node → Node
drain b [] n = with_queue [] n
drain b (m ∷ q) n = drain b q (store b m n)

-- "if the running group isn't atomic and its line isn't empty"
unfoldable pub calls : Node → Bool
calls n = not (eqb n.running 0) && (not (group_of n n.running).atomic && not (is_empty (line n n.running)))

-- "it becomes atomic and pending"
unfoldable pub upcall : Node → Node
upcall n = cond (calls n) (with_group n.running (with_flags true true (group_of n n.running)) n) n

-- "and the report names it"
unfoldable pub upcall_group : Node → ℕ
upcall_group n = cond (calls n) n.running 0
