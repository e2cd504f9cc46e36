-- "A run is any list of steps, the empty list too": how one is played, and what is counted of it. Assumes nothing.
use Rattle.std.specs.Prelude.{ℕ, ◌+◌, Bool, cond, ◌&&◌, List, [], ◌∷◌, ◌++◌, map, eqb}
use Rattle.rules.specs.Lists.{concat_map, sum}
use Rattle.rules.specs.Build.{Build}
use Rattle.rules.specs.Node.{Message, Node, power_on}
use Rattle.rules.specs.Operation.{poll, peek, dispose, begin_atomic, end_atomic, describe, launch}
use Rattle.rules.specs.Operation.{Operation, arrive, schedule, preempt, dispatch, tick, turn, user, unknown, Report, accepted, no_trap}
use Rattle.rules.specs.Step.{step}
use Rattle.rules.specs.Memory.{word, running_at}
use Rattle.rules.specs.MemoryTest.{step_memory, power_on_memory}
use Rattle.rules.specs.Script.{read_line}
use Rattle.rules.specs.Private.{PrivateLine, at_first, Answer, told, hear}

-- a step of a run: "an operation of the table .. , an unknown one or a script line"
pub data Input : Type 0 where
  operation : Operation → Input
  script_line : List ℕ → Input

-- what a step asks
unfoldable pub asked : Input → Operation
asked (operation op) = op
asked (script_line l) = read_line l

-- what is seen of a step: who had the processor as it began, what was asked, and the report
pub record Event : Type 0 where
  pub runner : ℕ
  pub operation : Operation
  pub report : Report

-- a run over nodes: what was seen of its steps, and the node after it
pub record Played : Type 0 where
  pub events : List Event
  pub node : Node

-- "each step gets the memory as the last left it"
unfoldable pub play : Build → Node → List Input → Played
play b n [] = record { events = []; node = n }
play b n (i ∷ is) =
    let s = step b n (asked i) in
    let rest = play b s.node is in
    record { events = record { runner = n.running; operation = asked i; report = s.report } ∷ rest.events; node = rest.node }

-- "It begins just after an accepted power-on"
unfoldable pub run : Build → List Input → Played
run b is = play b (power_on b) is

-- the same over memory
pub record PlayedMemory : Type 0 where
  pub events : List Event
  pub memory : List ℕ

-- a run over memory, from a memory on
unfoldable pub play_memory : List ℕ → List Input → PlayedMemory
play_memory m [] = record { events = []; memory = m }
play_memory m (i ∷ is) =
    let s = step_memory m (asked i) in
    let rest = play_memory s.memory is in
    record {
      events = record { runner = word m running_at; operation = asked i; report = s.report } ∷ rest.events;
      memory = rest.memory;
    }

-- from power-on on lent memory
unfoldable pub run_memory : List ℕ → List Input → PlayedMemory
run_memory m is = play_memory (power_on_memory m).memory is

-- "accepted (answered 0)"
unfoldable pub was_accepted : Event → Bool
was_accepted e = eqb e.report.answer accepted

-- the message that an accepted A brings
unfoldable pub arrived_by : Operation → Bool → List Message
arrived_by (arrive g ws) ok = cond ok (record { group = g; words = ws } ∷ []) []
arrived_by preempt ok = []
arrived_by (dispatch g) ok = []
arrived_by (schedule g) ok = []
arrived_by (tick k) ok = []
arrived_by turn ok = []
arrived_by (user r) ok = []
arrived_by unknown ok = []

-- the message accepted by a step, none or one
unfoldable pub arrived : Event → List Message
arrived e = arrived_by e.operation (was_accepted e)

-- "the accepted messages of all groups, in order"
unfoldable pub arrivals : List Event → List Message
arrivals es = concat_map arrived es

-- "A group's answers are, for each M to L while it runs, the answer number, the value and .. the node, group and words sent."
unfoldable pub answer_of : Report → Answer
answer_of r = record { number = r.answer; value = r.value; sent = r.sent }

-- the answer that a step gives a group, "for each M to L while it runs"
unfoldable pub answer_to : Operation → Bool → Report → List Answer
answer_to (arrive g ws) runs r = []
answer_to preempt runs r = []
answer_to (dispatch g) runs r = []
answer_to (schedule g) runs r = []
answer_to (tick k) runs r = []
answer_to turn runs r = []
answer_to (user q) runs r = cond runs (answer_of r ∷ []) []
answer_to unknown runs r = []

-- "its answers, in order"
unfoldable pub answers_of : ℕ → List Event → List Answer
answers_of g es = concat_map (λ e. answer_to e.operation (eqb e.runner g) e.report) es

-- at each step, whether the report names group g for an upcall
unfoldable pub upcalls_of : ℕ → List Event → List Bool
upcalls_of g es = map (λ e. eqb e.report.upcall g) es

-- 1 for an accepted D, else 0
unfoldable pub disposed_by : Operation → Bool → ℕ
disposed_by (arrive g ws) ok = 0
disposed_by preempt ok = 0
disposed_by (dispatch g) ok = 0
disposed_by (schedule g) ok = 0
disposed_by (tick k) ok = 0
disposed_by turn ok = 0
disposed_by (user poll) ok = 0
disposed_by (user (peek i)) ok = 0
disposed_by (user dispose) ok = cond ok 1 0
disposed_by (user (begin_atomic force)) ok = 0
disposed_by (user end_atomic) ok = 0
disposed_by (user (describe w)) ok = 0
disposed_by (user (launch k)) ok = 0
disposed_by unknown ok = 0

-- "as many .. as it had accepted D"
unfoldable pub disposals : ℕ → List Event → ℕ
disposals g es = sum (map (λ e. disposed_by e.operation (was_accepted e && eqb e.runner g)) es)

-- what a step adds to left: its moved, and 1 for an "accepted D with trap 0"
unfoldable pub left_by : Event → ℕ
left_by e = e.report.moved + disposed_by e.operation (was_accepted e && eqb e.report.trap no_trap)

-- "Let left be the sum of moved in the run's reports so far, plus the count of its accepted D with trap 0."
unfoldable pub left : List Event → ℕ
left es = sum (map left_by es)

-- "the n of [an] accepted T"
unfoldable pub ticked_by : Operation → Bool → ℕ
ticked_by (arrive g ws) ok = 0
ticked_by preempt ok = 0
ticked_by (dispatch g) ok = 0
ticked_by (schedule g) ok = 0
ticked_by (tick k) ok = cond ok k 0
ticked_by turn ok = 0
ticked_by (user r) ok = 0
ticked_by unknown ok = 0

-- "the n of accepted T .. , summed"
unfoldable pub ticked : List Event → ℕ
ticked es = sum (map (λ e. ticked_by e.operation (was_accepted e)) es)

-- the private line of group g over the same steps: it hears of each what it may be told
pub record Listened : Type 0 where
  pub answers : List Answer
  pub upcalls : List Bool
  pub line : PrivateLine

-- a private line told of one step after the other
unfoldable pub listen_from : ℕ → PrivateLine → List Event → Listened
listen_from g p [] = record { answers = []; upcalls = []; line = p }
listen_from g p (e ∷ es) =
    let h = hear g p (told g e.operation (was_accepted e)) in
    let rest = listen_from g h.line es in
    record { answers = h.answers ++ rest.answers; upcalls = h.upcall ∷ rest.upcalls; line = rest.line }

-- "at first all off or empty"
unfoldable pub listen : ℕ → List Event → Listened
listen g es = listen_from g at_first es
