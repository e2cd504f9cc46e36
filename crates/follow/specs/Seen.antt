-- What is seen of a script's lines on lent memory, and what the function that steps a line tells of it. Assumes nothing.
use Rattle.std.specs.Prelude.{ℕ, ◌+◌, ◌≤◌, ◌<◌, Bool, true, List, [], ◌∷◌, map, ◌≡◌, ◌≢◌, length, Option, None, Some, is_some}
use Rattle.rules.specs.Build.{paper01, group_count}
use Rattle.rules.specs.Memory.{node_at, running_at, size, word}
use Rattle.rules.specs.MemoryTest.{is_memory, power_on_memory, step_memory}
use Rattle.rules.specs.Node.{power_on}
use Rattle.rules.specs.Operation.{Operation}
use Rattle.rules.specs.Run.{Event, disposed_by, script_line}
use Rattle.rules.specs.Script.{read_line}
use Rattle.rules.specs.Types.{operation_of}
use Rattle.rules.specs.declared.Operation.{Operation as Operation·rt}
use Rattle.rules.specs.declared.Operation.TheVariants.{Arrive, Schedule, Preempt, Dispatch, Tick, Turn, Poll, Peek, Dispose, BeginAtomic, EndAtomic, Describe, Launch, Unknown}
use Rattle.reasons.specs.ByPlace.{first_reason, later_reason, leaving}
use Rattle.reasons.specs.Follow.{Seen, seen_of, seen_run}
use Rattle.reasons.specs.Numbers.{reason_number}
use Rattle.reasons.specs.declared.Reason.{Reason as Reason·rt}
use Rattle.script.specs.Read.{field_limit}
use Rattle.follow.specs.declared.seen.Leaving.{Leaving as Leaving·rt}
use Rattle.follow.specs.declared.seen.Line.{Line as Line·rt}

-- what is seen of a step on memory
unfoldable pub event_on : List ℕ → Operation → Event
event_on m op = record { runner = word m running_at; operation = op; report = (step_memory m op).report }

unfoldable pub seen_step : List ℕ → Operation → Seen
seen_step m op = seen_of (event_on m op) (node_at (step_memory m op).memory)

-- of a line
unfoldable pub seen_on : List ℕ → List ℕ → Seen
seen_on m l = seen_step m (read_line l)

-- of lines, each on the memory as the last left it
unfoldable pub seen_memory : List ℕ → List (List ℕ) → List Seen
seen_memory m [] = []
seen_memory m (l ∷ ls) = seen_on m l ∷ seen_memory (step_memory m (read_line l)).memory ls

-- from power-on on, it is what is seen of the run
pub record SeenRuns : Type 0 where
  pub seen : (m : List ℕ) (ls : List (List ℕ)) → size ≤ length m
      → seen_memory (power_on_memory m).memory ls ≡ seen_run paper01 (power_on paper01) (map script_line ls)

-- Of an operation of Rattle, whatever words are lent beside it.

-- one more leaves where a D is accepted and no trap is reported
unfoldable pub Leaves : Operation·rt → Bool → ℕ → ℕ → Type 0
Leaves op direct moved left = (ws : List ℕ) → left ≡ moved + disposed_by (operation_of op ws) direct

-- an arrival of a group, at the memory of a node after it
pub record Arrival (m : List ℕ) (g : ℕ) : Type 0 where
  pub node : is_memory m ≡ true
  pub low : 1 ≤ g
  pub high : g ≤ group_count

-- where messages leave at an arrival, the memory after it is a node's and its group is one
unfoldable pub ArrivalKnown : List ℕ → Operation·rt → ℕ → Type 0
ArrivalKnown m (Arrive g) left = 0 < left → Arrival m g
ArrivalKnown m (Schedule g) left = Unit
ArrivalKnown m Preempt left = Unit
ArrivalKnown m (Dispatch g) left = Unit
ArrivalKnown m (Tick k) left = Unit
ArrivalKnown m Turn left = Unit
ArrivalKnown m Poll left = Unit
ArrivalKnown m (Peek i) left = Unit
ArrivalKnown m Dispose left = Unit
ArrivalKnown m (BeginAtomic force) left = Unit
ArrivalKnown m EndAtomic left = Unit
ArrivalKnown m (Describe w) left = Unit
ArrivalKnown m (Launch k) left = Unit
ArrivalKnown m Unknown left = Unit

-- a reason's number, 0 where there is none
abbrev pub number_or_none : Option Reason·rt → ℕ
number_or_none None = 0
number_or_none (Some r) = reason_number r

-- why the first leaves, where one does
unfoldable pub First : List ℕ → Operation·rt → ℕ → Option Reason·rt → Type 0
First m op left reason = (ws : List ℕ) → 0 < left → number_or_none reason ≡ first_reason (operation_of op ws) (node_at m)

-- why those behind it leave
unfoldable pub Later : Operation·rt → Reason·rt → Type 0
Later op reason = (ws : List ℕ) → reason_number reason ≡ later_reason (operation_of op ws)

-- how many leave, and for which reasons
abbrev pub left_of : Option Leaving·rt → ℕ
left_of None = 0
left_of (Some l) = l.count

abbrev pub reasons_of : Option Leaving·rt → List ℕ
reasons_of None = []
reasons_of (Some l) = leaving l.count l.first l.later

-- those that leave are told where the operation has a reason for the first, as it has wherever one leaves
unfoldable pub Gone : List ℕ → Operation·rt → ℕ → Option Leaving·rt → Type 0
Gone m op left gone =
    (ws : List ℕ)
    → (0 < left → first_reason (operation_of op ws) (node_at m) ≢ 0)
    → reasons_of gone ≡ leaving left (first_reason (operation_of op ws) (node_at m)) (later_reason (operation_of op ws))

-- more than a step's count of messages
abbrev pub left_limit : ℕ
left_limit = 4_294_967_296

-- what is told of a line is what is seen of it; how many are queued is told of an accepted arrival alone
pub record Sees (l : Line·rt) (s : Seen) : Type 0 where
  pub answer : l.answer ≡ s.answer
  pub arrival : is_some l.queued ≡ s.arrival
  pub queued : s.arrival ≡ true → l.queued ≡ Some s.queued
  pub reasons : s.reasons ≡ reasons_of l.leaving
  pub few : left_of l.leaving ≤ left_limit

-- memory of which it is known whether it is a node, and a line at a position
pub record Steppable (m : List ℕ) (good : Bool) (s : List ℕ) (from : ℕ) (fields : List ℕ) : Type 0 where
  pub known : is_memory m ≡ good
  pub inside : from < length s
  pub many : field_limit ≤ length fields

-- a line l stepped, up to a position
pub record LineStepped (m l : List ℕ) (behind : ℕ) (m' : List ℕ) (t : Line·rt) : Type 0 where
  pub next : t.next ≡ behind
  pub memory : m' ≡ (step_memory m (read_line l)).memory
  pub sees : Sees t (seen_on m l)
