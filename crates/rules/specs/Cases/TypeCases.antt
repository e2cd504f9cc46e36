-- The Rattle types by cases: what stands in each field of a value in which no two numbers are alike, so that none can be taken for another.
-- The letters of a script stand beside the operations' names. Assumes nothing.
use Rattle.std.specs.Prelude.{ℕ, ◌≡◌, true, false, List, [], ◌∷◌, map, replicate}
use Rattle.rules.specs.Build.{paper01}
use Rattle.rules.specs.Operation.{poll, peek, dispose, begin_atomic, end_atomic, describe, launch}
use Rattle.rules.specs.Operation.{Operation, arrive, schedule, preempt, dispatch, tick, turn, user, unknown}
use Rattle.rules.specs.Types.{operation_of, sent_of, report_of, build_of, limits}
use Rattle.rules.specs.Text.{bytes}
use Rattle.rules.specs.Script.{read_line}
use Rattle.rules.specs.declared.Operation.TheVariants.{Arrive, Schedule, Preempt, Dispatch, Tick, Turn, Poll, Peek, Dispose, BeginAtomic, EndAtomic, Describe, Launch, Unknown}

-- an operation of each kind, in the order of the paper's table, O and I behind S, C behind T
abbrev pub every_operation : ℕ → List ℕ → List Operation
every_operation x ws =
    arrive x ws
    ∷ schedule x
    ∷ preempt
    ∷ dispatch x
    ∷ tick x
    ∷ turn
    ∷ user poll
    ∷ user (peek x)
    ∷ user dispose
    ∷ user (begin_atomic false)
    ∷ user (begin_atomic true)
    ∷ user end_atomic
    ∷ user (describe x)
    ∷ user (launch x)
    ∷ unknown
    ∷ []

-- each value stands for what is written beside it
pub record TypesHold : Type 0 where
  -- the operations by name, with words lent beside them
  pub operations : (x : ℕ) (ws : List ℕ)
      → map (λ o. operation_of o ws) (Arrive x ∷ Schedule x ∷ Preempt ∷ Dispatch x ∷ Tick x ∷ Turn ∷ Poll ∷ Peek x ∷ Dispose ∷ BeginAtomic false ∷ BeginAtomic true ∷ EndAtomic ∷ Describe x ∷ Launch x ∷ Unknown ∷ [])
      ≡ every_operation x ws
  -- and by letter
  pub letters : map (λ l. read_line (bytes l)) ("A,3,5,6" ∷ "S,3" ∷ "O" ∷ "I,3" ∷ "T,3" ∷ "C" ∷ "M" ∷ "E,3" ∷ "D" ∷ "B" ∷ "B,1" ∷ "N" ∷ "P,3" ∷ "L,3" ∷ "Q" ∷ [])
      ≡ every_operation 3 (5 ∷ 6 ∷ [])
  -- "answer .. , value, trap, upcall group or 0, moved; an accepted L adds node, group, words"
  pub reports : report_of (record { answer = 1; value = 2; trap = 3; upcall = 4; moved = 5; sent = 6 ∷ 7 ∷ 8 ∷ 9 ∷ [] })
      ≡ record {
        answer = 1;
        value = 2;
        trap = 3;
        upcall = 4;
        moved = 5;
        sent = record { node = 6; group = 7; len = 2; words = 8 ∷ 9 ∷ 0 ∷ 0 ∷ 0 ∷ 0 ∷ 0 ∷ 0 ∷ [] };
      }
  pub nothing-sent : sent_of [] ≡ record { node = 0; group = 0; len = 0; words = replicate 8 0 }
  -- "16 queue places, 32 frames, 256 ticks"; "A frame holds 8 messages."; "64 swap pages"
  pub build : build_of paper01 ≡ record { frames = 32; swap = 64; per_frame = 8; places = 16; timeout = 256 }
  -- "8 groups"; "1 to 8 words"; "node 0 to 63"; "1 to 65,535"
  pub shared-limits : limits ≡ record { groups = 8; words = 8; last_node = 63; tick_limit = 65535 }
