-- Demand 3, the statement: after every run from power-on each group, whatever the others and the timer did, has had the answers and upcalls of its
-- private line; its line in memory is its accepted messages without those that it disposed of; and a message accepted at place p of the hardware
-- queue has left it once p timeouts' ticks have followed. Assumes nothing.
use Rattle.std.specs.Prelude.{ℕ, ◌+◌, ◌*◌, ◌≤◌, ◌≡◌, true, List, [], ◌∷◌, ◌++◌, length, drop}
use Rattle.rules.specs.Lists.{filter}
use Rattle.rules.specs.Build.{Build, Sensible, paper01, group_count}
use Rattle.rules.specs.Node.{Message, is_of, line}
use Rattle.rules.specs.Valid.{Valid}
use Rattle.rules.specs.Memory.{size, node_at}
use Rattle.rules.specs.MemoryTest.{is_memory}
use Rattle.rules.specs.Run.{Input, Event, run, run_memory, arrived, arrivals, answers_of, upcalls_of, disposals, left, ticked, listen}

-- what holds of group g after a run of which es was seen, where own is its line, queue the hardware queue, and timeout a timeout's ticks
pub record Delivered (timeout : ℕ) (g : ℕ) (es : List Event) (own queue : List Message) : Type 0 where
  -- "its answers, in order, equal the private line's"
  pub answers : answers_of g es ≡ (listen g es).answers
  -- "a report names it for an upcall exactly at the steps where the private line has one"
  pub upcalls : upcalls_of g es ≡ (listen g es).upcalls
  -- "its line in memory equals the private line's list, groups, words and order"
  pub line-private : own ≡ (listen g es).line.messages
  -- "and that is its accepted messages without as many from the front as it had accepted D"
  pub line-accepted : own ≡ drop (disposals g es) (filter (is_of g) (arrivals es))
  -- "The hardware queue in memory is the accepted messages of all groups, in order, without the first left."
  pub queue-accepted : queue ≡ drop (left es) (arrivals es)
  -- "The message accepted as the i-th of the run joins at place p, which is i minus left as it was just before its step, and has left the
  -- queue once left is i or more.": it has, once p × timeout ticks have followed it
  pub waits : (before after : List Event) (e : Event) (m : Message) (p : ℕ)
      → es ≡ before ++ (e ∷ after)
      → arrived e ≡ m ∷ []
      → left before + p ≡ length (arrivals before) + 1
      → p * timeout ≤ ticked after
      → length (arrivals before) + 1 ≤ left es

-- over nodes, for every build that makes sense, every run and each of the eight groups
pub record OverNodes (b : Build) (is : List Input) : Type 0 where
  pub stays-node : Valid b (run b is).node
  pub delivered : (g : ℕ)
      → 1 ≤ g
      → g ≤ group_count
      → Delivered b.timeout g (run b is).events (line (run b is).node g) (run b is).node.queue

-- over memory at paper 01's sizes: the memory stays a node, nothing past its size is touched, and each group has the same
pub record OverMemory (m : List ℕ) (is : List Input) : Type 0 where
  pub stays-node : is_memory (run_memory m is).memory ≡ true
  pub rest-kept : drop size (run_memory m is).memory ≡ drop size m
  pub delivered : (g : ℕ)
      → 1 ≤ g
      → g ≤ group_count
      → Delivered paper01.timeout g (run_memory m is).events (line (node_at (run_memory m is).memory) g) (node_at (run_memory m is).memory).queue

-- the whole of demand 3: over nodes, for every build that makes sense; over memory, from any lent words long enough
pub record DemandThree : Type 0 where
  pub over-nodes : (b : Build) → Sensible b → (is : List Input) → OverNodes b is
  pub over-memory : (m : List ℕ) → size ≤ length m → (is : List Input) → OverMemory m is
