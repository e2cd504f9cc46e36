-- What happens to the hardware queue in a step, moment by moment: a message joins it, becomes its head, is disposed of, or moves to its buffer.
-- The queue is first in, first out, so the i-th to join is the i-th to become head and the i-th to leave. Assumes nothing.
use Rattle.std.specs.Prelude.{ℕ, zero, suc, ◌+◌, Bool, true, false, cond, not, List, [], ◌∷◌, ◌++◌, map, eqb}
use Rattle.rules.specs.Lists.{is_empty}
use Rattle.rules.specs.Build.{Build}
use Rattle.rules.specs.Node.{Message, Node, group_of, buffer_holds, timer_runs}
use Rattle.rules.specs.Operation.{poll, peek, dispose, begin_atomic, end_atomic, describe, launch}
use Rattle.rules.specs.Operation.{Operation, arrive, schedule, preempt, dispatch, tick, turn, user, unknown}
use Rattle.rules.specs.Paging.{store}
use Rattle.rules.specs.Refusal.{refusal}
use Rattle.rules.specs.Settling.{may_stay}
use Rattle.rules.specs.Step.{Effect, valued, one_tick, without_first, act, finish, step}
use Rattle.rules.specs.Run.{Input, asked}

-- what holds of a head just before it moves to its buffer
pub record Facts : Type 0 where
  -- a timeout moves it
  pub timeout : Bool
  -- "older ones of its group [are] waiting in the buffer"
  pub older : Bool
  -- "the group [is] revoked"
  pub revoked : Bool
  -- this act takes the processor from a group
  pub taken : Bool

pub data Moment : Type 0 where
  joined : Moment
  -- a message of this group becomes head while that one runs
  headed : ℕ → ℕ → Moment
  disposed : Moment
  moved : Facts → Moment

-- the next in the queue becomes head, if there is one
unfoldable pub next_headed : ℕ → List Message → List Moment
next_headed r [] = []
next_headed r (m ∷ q) = headed m.group r ∷ []

-- as a head of node n is about to move
unfoldable pub facts : Bool → Bool → Node → Message → Facts
facts timeout taken n m =
    record { timeout = timeout; older = buffer_holds n m.group; revoked = (group_of n m.group).revoked; taken = taken }

-- as `pass` goes
unfoldable pub pass_moments : Build → Bool → List Message → Node → List Moment
pass_moments b taken [] n = []
pass_moments b taken (m ∷ q) n =
    elim (may_stay n m) [
      | true ↦ []
      | false ↦ moved (facts false taken n m) ∷ next_headed n.running q ++ pass_moments b taken q (store b m n)
    ]

-- as `drain` goes
unfoldable pub drain_moments : Build → List Message → Node → List Moment
drain_moments b [] n = []
drain_moments b (m ∷ q) n = moved (facts true false n m) ∷ next_headed n.running q ++ drain_moments b q (store b m n)

-- as `one_tick` and `ticks` go
unfoldable pub tick_moments : Build → Effect → List Moment
tick_moments b e =
    cond (timer_runs e.node) (cond (eqb (e.node.timer + 1) b.timeout) (drain_moments b e.node.queue e.node) []) []

unfoldable pub ticks_moments : Build → ℕ → Effect → List Moment
ticks_moments b zero e = []
ticks_moments b (suc k) e = tick_moments b e ++ ticks_moments b k (one_tick b e)

-- what D does to the queue: nothing where it takes the message from the buffer
unfoldable pub dispose_moments : Node → List Moment
dispose_moments n =
    cond (buffer_holds n n.running) [] (disposed ∷ next_headed n.running (without_first n.running n.queue))

-- a message that joins an empty queue is its head
unfoldable pub join_moments : Node → ℕ → List Moment
join_moments n g = joined ∷ elim (is_empty n.queue) [ true ↦ headed g n.running ∷ [] | false ↦ [] ]

-- before settling
unfoldable pub act_moments : Build → Node → Operation → List Moment
act_moments b n (arrive g ws) = join_moments n g
act_moments b n preempt = []
act_moments b n (dispatch g) = []
act_moments b n (schedule g) = []
act_moments b n (tick k) = ticks_moments b k (valued 0 n)
act_moments b n turn = []
act_moments b n (user poll) = []
act_moments b n (user (peek i)) = []
act_moments b n (user dispose) = dispose_moments n
act_moments b n (user (begin_atomic force)) = []
act_moments b n (user end_atomic) = []
act_moments b n (user (describe w)) = []
act_moments b n (user (launch k)) = []
act_moments b n unknown = []

-- an act, and the settling behind it
unfoldable pub one_act_moments : Build → Bool → Node → Operation → List Moment
one_act_moments b taken n op =
    let e = act b n op in
    act_moments b n op ++ pass_moments b taken e.node.queue e.node

-- O takes the processor where a group runs; its settling goes on with nobody running
unfoldable pub take_moments : Build → Node → List Moment
take_moments b n = one_act_moments b (not (eqb n.running 0)) n preempt

-- S: those of its two acts, of O, "and I unless g is 0"
unfoldable pub switch_moments : Build → Node → ℕ → List Moment
switch_moments b n g =
    elim (eqb g n.running) [
      | true ↦ []
      | false ↦
          take_moments b n
          ++ elim (eqb g 0) [ true ↦ [] | false ↦ one_act_moments b false (finish b (act b n preempt)).node (dispatch g) ]
    ]

-- an accepted operation's
unfoldable pub performed_moments : Build → Node → Operation → List Moment
performed_moments b n (arrive g ws) = one_act_moments b false n (arrive g ws)
performed_moments b n preempt = take_moments b n
performed_moments b n (dispatch g) = one_act_moments b false n (dispatch g)
performed_moments b n (schedule g) = switch_moments b n g
performed_moments b n (tick k) = one_act_moments b false n (tick k)
performed_moments b n turn = one_act_moments b false n turn
performed_moments b n (user r) = one_act_moments b false n (user r)
performed_moments b n unknown = one_act_moments b false n unknown

-- a step's; a refused one has none
unfoldable pub step_moments : Build → Node → Operation → List Moment
step_moments b n op = elim (refusal b n op) [ zero ↦ performed_moments b n op | suc r ↦ [] ]

-- a moment, and the line, or step, that it was in
pub record Dated : Type 0 where
  pub line : ℕ
  pub moment : Moment

-- those of a run, the first step of which has number i
unfoldable pub run_moments : Build → ℕ → Node → List Input → List Dated
run_moments b i n [] = []
run_moments b i n (x ∷ is) =
    map (λ (m : Moment). record { line = i; moment = m }) (step_moments b n (asked x)) ++ run_moments b (suc i) (step b n (asked x)).node is
