-- What the functions over the memory of a node promise: settling, the upcall, and each step. Assumes nothing.
use Rattle.std.specs.Prelude.{ℕ, ◌+◌, ◌%◌, ◌≤◌, true, cond, false, List, [], ◌∷◌, ◌≡◌, length, get_or, Option, Some as Present, Result, Ok, Err}
use Rattle.rules.specs.Build.{paper01}
use Rattle.rules.specs.Lists.{is_empty}
use Rattle.rules.specs.Node.{Message, Node, group_of, with_timer, buffered, forced, line}
use Rattle.rules.specs.Numbers.{refusal_number, trap_number}
use Rattle.rules.specs.Operation.{Request, Operation, user, accepted, accepted_with, refused, launch, dispose_extend, no_trap, timeout_trap}
use Rattle.rules.specs.Paging.{store}
use Rattle.rules.specs.Refusal.{refuse_request}
use Rattle.rules.specs.Settling.{may_stay, settle, drain, upcall, upcall_group}
use Rattle.rules.specs.Step.{Effect, finish, revoke, step, removed}
use Rattle.rules.specs.Types.{operation_of, report_of}
use Rattle.rules.specs.declared.Operation.{Operation as Operation·rt}
use Rattle.rules.specs.Valid.{Valid}
use Rattle.rules.specs.declared.Refusal.{Refusal as Refusal·rt}
use Rattle.rules.specs.declared.Report.{Report as Report·rt}
use Rattle.rules.specs.declared.Trap.{Trap as Trap·rt}
use Rattle.rules.specs.declared.Trap.TheVariants.{TimedOut as TrapTimedOut}
use Rattle.rules.specs.Sound.{Sound}
use Rattle.memory.specs.Holds.{Holds, Some, blank, dropping}
use Rattle.node.specs.declared.acted.Act.{Act as Act·rt}
use Rattle.node.specs.declared.acted.Act.TheVariants.{Done, Sends, Settles as Unsettled}

-- the memory holds a node
abbrev pub IsNode : List ℕ → Type 0
IsNode m = Some m (Valid paper01)

-- a node on which a group runs
pub record Running (n : Node) : Type 0 where
  pub valid : Valid paper01 n
  pub some : 1 ≤ n.running

-- the memory holds one
abbrev pub IsRunning : List ℕ → Type 0
IsRunning m = Some m Running

-- what a step does
pub record Stepping (m' : List ℕ) (n : Node) (rest : List ℕ) (op : Operation) (rep : Report·rt) : Type 0 where
  pub report : rep ≡ report_of (step paper01 n op).report
  pub holds : Holds m' (step paper01 n op).node rest

-- whatever node m held, the report and the node that m' holds are those of this operation's step
abbrev pub Steps : List ℕ → List ℕ → Operation → Report·rt → Type 0
Steps m m' op rep = (n : Node) (r : List ℕ) → Holds m n r → Valid paper01 n → Stepping m' n r op rep

-- the step is done, with this value to report
abbrev pub done : ℕ → Act·rt
done value = Done value

-- it is accepted, with this trap and so many messages moved, and settling is to come
abbrev pub unsettled : Option Trap·rt → ℕ → Act·rt
unsettled trap moved = Unsettled trap moved

-- the report of a step that is done, with this value
abbrev pub report_done : ℕ → Report·rt
report_done value = report_of (accepted_with value no_trap 0 0)

-- that of a step that is refused
abbrev pub report_refused : Refusal·rt → Report·rt
report_refused x = report_of (refused (refusal_number x))

-- the number of the refusal, 0 where there is none
abbrev pub answer_of : {A : Type 0} → Result A Refusal·rt → ℕ
answer_of (Ok a) = accepted
answer_of (Err x) = refusal_number x

-- an operation without a value, that sends nothing
abbrev pub effect : Node → ℕ → ℕ → Effect
effect n trap moved = record { node = n; value = 0; trap = trap; moved = moved; sent = [] }

-- what an accepted operation has done before settling, with this trap and so many messages moved: finished, it is the step
pub record Acting (m' : List ℕ) (n : Node) (rest : List ℕ) (op : Operation) (trap moved : ℕ) : Type 0 where
  pub node : Node
  pub same : step paper01 n op ≡ finish paper01 (effect node trap moved)
  pub sound : Sound paper01 node
  pub holds : Holds m' node rest
  pub few : moved ≤ paper01.places

-- a node whose running group's descriptor may be sent to node k
pub record Launches (k : ℕ) (n : Node) : Type 0 where
  pub running : Running n
  pub fine : refuse_request n (launch k) ≡ accepted

-- an L that is accepted, and has changed nothing yet: sent, the descriptor of the node that the memory still holds is the step
pub record Launching (m' : List ℕ) (n : Node) (rest : List ℕ) (op : Operation) (k : ℕ) : Type 0 where
  pub asked : op ≡ user (launch k)
  pub ready : Launches k n
  pub holds : Holds m' n rest

-- whatever such node m held, this is the step of L to node k
abbrev pub Launched : List ℕ → List ℕ → ℕ → Report·rt → Type 0
Launched m m' k rep = (n : Node) (r : List ℕ) → Holds m n r → Launches k n → Stepping m' n r (user (launch k)) rep

-- what an operation has done of its step: it is refused, or has done all, or what comes before settling, or before what is sent
abbrev pub Acted : List ℕ → Node → List ℕ → Operation → Result Act·rt Refusal·rt → Type 0
Acted m' n rest op (Err x) = Stepping m' n rest op (report_refused x)
Acted m' n rest op (Ok (Done value)) = Stepping m' n rest op (report_done value)
Acted m' n rest op (Ok (Unsettled trap moved)) = Acting m' n rest op (trap_number trap) moved
Acted m' n rest op (Ok (Sends k)) = Launching m' n rest op k

-- whatever node m held, this is what the operation has done
abbrev pub Acts : List ℕ → List ℕ → Operation → Result Act·rt Refusal·rt → Type 0
Acts m m' op a = (n : Node) (r : List ℕ) → Holds m n r → Valid paper01 n → Acted m' n r op a

-- the same of a request of the group that runs
abbrev pub ActsFor : List ℕ → List ℕ → Request → Result Act·rt Refusal·rt → Type 0
ActsFor m m' q a = (n : Node) (r : List ℕ) → Holds m n r → Running n → Acted m' n r (user q) a

-- what one that is done at once reports: its value, or that it is refused
abbrev pub reported_as : Result ℕ Refusal·rt → Report·rt
reported_as (Ok value) = report_done value
reported_as (Err x) = report_refused x

-- one that is done at once
abbrev pub Serves : List ℕ → List ℕ → Request → Result ℕ Refusal·rt → Type 0
Serves m m' q a = (n : Node) (r : List ℕ) → Holds m n r → Running n → Stepping m' n r (user q) (reported_as a)

-- a request by its Rattle name, whoever runs
abbrev pub Requests : List ℕ → List ℕ → Operation·rt → Result Act·rt Refusal·rt → Type 0
Requests m m' op a = (q : Request) → operation_of op [] ≡ user q → Acts m m' (user q) a

-- a node in the middle of a step, with a message in its queue
pub record Headed (n : Node) : Type 0 where
  pub sound : Sound paper01 n
  pub some : 1 ≤ length n.queue

-- the head of the queue
unfoldable pub head_of : Node → Message
head_of n = get_or n.queue 0 blank

-- it moves to the end of its group's buffer
unfoldable pub moving_head : Node → Node
moving_head n = dropping 1 (store paper01 (head_of n) n)

-- what settling does: "how many heads it moved, equal to the definition's count and the queue's loss"
pub record Settled (m' : List ℕ) (n : Node) (rest : List ℕ) (moved : ℕ) : Type 0 where
  pub count : moved ≡ (settle paper01 n).moved
  pub loss : moved + length (settle paper01 n).node.queue ≡ length n.queue
  pub holds : Holds m' (settle paper01 n).node rest

-- what a drain does: it moves the whole queue, and leaves it empty
pub record Drained (m' : List ℕ) (n : Node) (rest : List ℕ) (moved : ℕ) : Type 0 where
  pub count : moved ≡ length n.queue
  pub loss : moved + length (drain paper01 n.queue n).queue ≡ length n.queue
  pub holds : Holds m' (drain paper01 n.queue n) rest

-- settled: the queue's head may stay
pub record Settles (n : Node) : Type 0 where
  pub sound : Sound paper01 n
  pub head : (x : Message) (q : List Message) → n.queue ≡ x ∷ q → may_stay n x ≡ true

-- what an upcall does
pub record Called (m' : List ℕ) (n : Node) (rest : List ℕ) (g : ℕ) : Type 0 where
  pub group : g ≡ upcall_group n
  pub holds : Holds m' (upcall n) rest

-- a node in the middle of a step whose timer runs: a group runs, and it is atomic
pub record Ticking (n : Node) : Type 0 where
  pub sound : Sound paper01 n
  pub some : 1 ≤ n.running
  pub atomic : (group_of n n.running).atomic ≡ true

-- what is left over of t ticks once the timeout has come: nothing where the timer is not forced
unfoldable pub rest : ℕ → Node → ℕ
rest t n = cond (forced n) (t % paper01.timeout) 0

-- whatever node in the middle of a step m holds, x is what is left over
abbrev pub LeftOver : List ℕ → ℕ → ℕ → Type 0
LeftOver m t x = (n : Node) (r : List ℕ) → Holds m n r → Sound paper01 n → x ≡ rest t n

-- t ticks on the timer reach the timeout
abbrev pub late : ℕ → Node → Effect
late t n = effect (with_timer (rest t n) (revoke (drain paper01 n.queue n))) timeout_trap (length n.queue)

-- what comes after an operation with this effect
pub record Finished (m' : List ℕ) (e : Effect) (rest : List ℕ) (rep : Report·rt) : Type 0 where
  pub report : rep ≡ report_of (finish paper01 e).report
  pub holds : Holds m' (finish paper01 e).node rest

-- what t ticks that reach the timeout have done
pub record TimedOut (m' : List ℕ) (n : Node) (rest : List ℕ) (t : ℕ) (a : Act·rt) : Type 0 where
  pub told : a ≡ unsettled (Present TrapTimedOut) (length n.queue)
  pub holds : Holds m' (late t n).node rest

-- whatever node with its timer running m held, this is what they have done
abbrev pub TimesOut : List ℕ → List ℕ → ℕ → Act·rt → Type 0
TimesOut m m' t a = (n : Node) (r : List ℕ) → Holds m n r → Ticking n → TimedOut m' n r t a

-- whatever node in the middle of a step m held, what comes after is that of this effect on it
abbrev pub Finishes : List ℕ → List ℕ → (Node → Effect) → Report·rt → Type 0
Finishes m m' e rep = (n : Node) (r : List ℕ) → Holds m n r → Sound paper01 n → Finished m' (e n) r rep

-- group g runs, and has a message
pub record WithLine (g : ℕ) (n : Node) : Type 0 where
  pub running : Running n
  pub own : g ≡ n.running
  pub some : is_empty (line n n.running) ≡ false

-- the first message of the running group's line is gone, with the trap that this brings
pub record TookFirst (m' : List ℕ) (n : Node) (rest : List ℕ) (trap : Option Trap·rt) : Type 0 where
  pub extended : trap_number trap ≡ cond (buffered n n.running) dispose_extend no_trap
  pub holds : Holds m' (removed paper01 n) rest
