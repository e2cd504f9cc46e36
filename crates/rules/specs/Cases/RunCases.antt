-- What is counted of a run, and what a private line hears of it, in three runs: demand 3 holds these against each other, so here each is told by itself.
-- Assumes nothing.
use Rattle.std.specs.Prelude.{ℕ, ◌≡◌, Bool, true, false, List, [], ◌∷◌, ◌++◌, map, replicate}
use Rattle.rules.specs.Build.{paper01}
use Rattle.rules.specs.Text.{bytes}
use Rattle.rules.specs.Script.{script_lines}
use Rattle.rules.specs.Operation.{Operation, schedule, preempt, dispatch, turn}
use Rattle.rules.specs.Private.{Answer, Told, processor, nothing, told}
use Rattle.rules.specs.Run.{script_line, Event, run, arrivals, answers_of, upcalls_of, disposals, left, ticked, listen}

-- what is seen of a run of 25 steps. Group 1 has the processor from the 5th to the 19th and from the 22nd on. Refused are the 1st, 4th and 9th with 15, 3
-- and 15, the 15th with 8, and the last with 2. The queue loses a message with the 3rd, two with the 11th, a D, and one with the 13th, a timeout
abbrev pub seen : List Event
seen =
    (run paper01 (map script_line (script_lines (bytes "T,0\nT,70\nA,2,4\nA,9,1\nS,1\nA,1,7,3\nA,2,5\nA,1,8\nT,65536\nT,200\nD\nN\nT,256\nD\nD\nM\nP,3\nL,9\nS,2\nE,0\nD\nS,1\nN\nA,1,6\nx\n")))
    ).events

-- an answer, with what is sent by it
abbrev pub answer : ℕ → ℕ → List ℕ → Answer
answer a v s = record { number = a; value = v; sent = s }

-- group 1 asked D, N, D, D, M, P, L and N
abbrev pub first_answers : List Answer
first_answers =
    answer 0 0 []
    ∷ answer 0 0 []
    ∷ answer 0 0 []
    ∷ answer 8 0 []
    ∷ answer 0 0 []
    ∷ answer 0 1 []
    ∷ answer 0 1 (9 ∷ 1 ∷ 3 ∷ [])
    ∷ answer 0 0 []
    ∷ []

-- its upcalls came with the 6th step, the 12th, an N, and the 24th
abbrev pub first_upcalls : List Bool
first_upcalls = replicate 5 false ++ (true ∷ replicate 5 false ++ (true ∷ replicate 11 false ++ (true ∷ false ∷ [])))

pub record RunCases : Type 0 where
  -- "the accepted messages of all groups, in order"
  pub arrivals-seen :
      arrivals seen
      ≡ record { group = 2; words = 4 ∷ [] }
      ∷ record { group = 1; words = 7 ∷ 3 ∷ [] }
      ∷ record { group = 2; words = 5 ∷ [] }
      ∷ record { group = 1; words = 8 ∷ [] }
      ∷ record { group = 1; words = 6 ∷ [] }
      ∷ []
  -- "as many .. as it had accepted D": of group 1, of group 2, and of 3, which never ran
  pub disposals-first : disposals 1 seen ≡ 2
  pub disposals-second : disposals 2 seen ≡ 1
  pub disposals-none : disposals 3 seen ≡ 0
  -- "the sum of moved in the run's reports so far, plus the count of its accepted D with trap 0"
  pub left-queue : left seen ≡ 4
  -- "the n of accepted T .. , summed"
  pub ticks-accepted : ticked seen ≡ 526
  -- "its answers, in order", and the steps where "a report names it for an upcall"
  pub answers-first : answers_of 1 seen ≡ first_answers
  pub answers-second : answers_of 2 seen ≡ answer 0 4 [] ∷ answer 0 0 [] ∷ []
  pub upcalls-first : upcalls_of 1 seen ≡ first_upcalls
  -- the private line of group 1 over the same steps: it has the message that came last, which is not disposed of
  pub heard-first :
      listen 1 seen
      ≡ record {
        answers = first_answers;
        upcalls = first_upcalls;
        line =
            record {
              has = true;
              atomic = true;
              pending = true;
              messages = record { group = 1; words = 6 ∷ [] } ∷ [];
              descriptor = [];
            };
      }

-- what is seen of a run of 16 steps in which the processor is taken and given. Refused are the 4th, an I, with 16, the 7th, with nobody running, with 7,
-- and the 13th, an I, with 14. Group 1 has the processor from the 1st to the 6th and from the 14th on, group 2 from the 8th to the 11th. The queue loses
-- its two messages with the 6th, an O
abbrev pub switching : List Event
switching = (run paper01 (map script_line (script_lines (bytes "I,1\nA,1,7\nA,2,5\nI,2\nT,5\nO\nM\nI,2\nM\nD\nO\nO\nI,0\nI,1\nE,0\nD\n")))).events

-- O and I
pub record SwitchedRunCases : Type 0 where
  -- they bring no message, dispose of none, give no group an answer and are no ticks
  pub switching-arrivals :
      arrivals switching ≡ record { group = 1; words = 7 ∷ [] } ∷ record { group = 2; words = 5 ∷ [] } ∷ []
  pub switching-disposals-first : disposals 1 switching ≡ 1
  pub switching-disposals-second : disposals 2 switching ≡ 1
  pub switching-answers-first : answers_of 1 switching ≡ answer 0 7 [] ∷ answer 0 0 [] ∷ []
  pub switching-answers-second : answers_of 2 switching ≡ answer 0 1 [] ∷ answer 0 0 [] ∷ []
  pub switching-ticks : ticked switching ≡ 5
  -- what O moved has left the queue
  pub switching-left : left switching ≡ 2
  -- group 2's upcall comes with the 8th step, an I
  pub switching-upcalls : upcalls_of 2 switching ≡ replicate 7 false ++ (true ∷ replicate 8 false)
  -- the private line of group 2 over the same steps: it lost the processor with the 11th
  pub switching-heard :
      listen 2 switching
      ≡ record {
        answers = answer 0 1 [] ∷ answer 0 0 [] ∷ [];
        upcalls = replicate 7 false ++ (true ∷ replicate 8 false);
        line = record { has = false; atomic = true; pending = false; messages = []; descriptor = [] };
      }

-- what is seen of a run of 8 steps, four of them C: with nobody running, and while group 1 has a message and disposes of it
abbrev pub turning : List Event
turning = (run paper01 (map script_line (script_lines (bytes "C\nI,1\nA,1,7\nC\nM\nC\nD\nC\n")))).events

-- C "belongs to no group"
pub record TurningRunCases : Type 0 where
  -- it brings no message, disposes of none, gives no group an answer, is no tick and moves none
  pub turning-arrivals : arrivals turning ≡ record { group = 1; words = 7 ∷ [] } ∷ []
  pub turning-disposals : disposals 1 turning ≡ 1
  pub turning-answers : answers_of 1 turning ≡ answer 0 1 [] ∷ answer 0 0 [] ∷ []
  pub turning-ticks : ticked turning ≡ 0
  pub turning-left : left turning ≡ 1
  -- the private line of group 1 over the same steps
  pub turning-heard :
      listen 1 turning
      ≡ record {
        answers = answer 0 1 [] ∷ answer 0 0 [] ∷ [];
        upcalls = false ∷ false ∷ true ∷ replicate 5 false;
        line = record { has = true; atomic = true; pending = false; messages = []; descriptor = [] };
      }

-- what groups 1 and 2 are told of an operation that is accepted, and of the same where it is refused
abbrev pub told_of : Operation → List Told
told_of op = told 1 op true ∷ told 2 op true ∷ told 1 op false ∷ told 2 op false ∷ []

-- "For the private line an accepted O is as an accepted `S,0`, an accepted `I,g` as an accepted `S,g`."
pub record ToldCases : Type 0 where
  -- "An accepted S: g has the processor exactly if S names g."; a refused one is nothing
  pub told-switch : told_of (schedule 1) ≡ processor true ∷ processor false ∷ nothing ∷ nothing ∷ []
  pub told-switch-to-nobody : told_of (schedule 0) ≡ processor false ∷ processor false ∷ nothing ∷ nothing ∷ []
  pub told-taken : told_of preempt ≡ processor false ∷ processor false ∷ nothing ∷ nothing ∷ []
  pub told-given : told_of (dispatch 1) ≡ processor true ∷ processor false ∷ nothing ∷ nothing ∷ []
  -- C "belongs to no group"
  pub told-turn : told_of turn ≡ nothing ∷ nothing ∷ nothing ∷ nothing ∷ []
