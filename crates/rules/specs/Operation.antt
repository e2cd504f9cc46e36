-- The operations, the answers, the traps and the report. Assumes nothing.
use Rattle.std.specs.Prelude.{ℕ, Bool, List, []}

-- the user's operations, M to L: they "belong to the running group"
pub data Request : Type 0 where
  -- M
  poll : Request
  -- E: i
  peek : ℕ → Request
  -- D
  dispose : Request
  -- B: whether it turns force on
  begin_atomic : Bool → Request
  -- N
  end_atomic : Request
  -- P: word
  describe : ℕ → Request
  -- L: node
  launch : ℕ → Request

-- the table of operations; an unknown one stands for a line that cannot be read too
pub data Operation : Type 0 where
  -- A: group, words
  arrive : ℕ → List ℕ → Operation
  -- O
  preempt : Operation
  -- I: group
  dispatch : ℕ → Operation
  -- S: group; a line of two acts, those of O and I
  schedule : ℕ → Operation
  -- T: n
  tick : ℕ → Operation
  -- C
  turn : Operation
  user : Request → Operation
  unknown : Operation

-- 0 accepted; each refusal by its number
abbrev pub accepted : ℕ
accepted = 0

-- "1: memory too short, or not a node."
abbrev pub not_node : ℕ
not_node = 1

-- "2: unknown operation or unreadable line."
abbrev pub unreadable : ℕ
unreadable = 2

-- "3: group not 1 to 8."
abbrev pub bad_group : ℕ
bad_group = 3

-- "4: no words, or more than 8."
abbrev pub bad_words : ℕ
bad_words = 4

-- "5: 16 messages already in the hardware queue."
abbrev pub queue_full : ℕ
queue_full = 5

-- "6: with this message the pledges would sum to above 32."; "Answer 6 .. now read[s] 96 for 32"
abbrev pub no_frames : ℕ
no_frames = 6

-- "7: nobody runs"
abbrev pub nobody_runs : ℕ
nobody_runs = 7

-- "8: D or E with an empty line."
abbrev pub no_message : ℕ
no_message = 8

-- "9: E with i not below the message's length."
abbrev pub past_message : ℕ
past_message = 9

-- "10: N while pending."
abbrev pub still_pending : ℕ
still_pending = 10

-- "11: P with 8 words in the descriptor."
abbrev pub descriptor_full : ℕ
descriptor_full = 11

-- "12: L with an empty descriptor"
abbrev pub descriptor_empty : ℕ
descriptor_empty = 12

-- "13, after it: node above 63."
abbrev pub bad_node : ℕ
bad_node = 13

-- "14: S above 8."; I "for a group outside 1 to 8"
abbrev pub bad_schedule : ℕ
bad_schedule = 14

-- "15: T with 0 or above 65,535."
abbrev pub bad_ticks : ℕ
bad_ticks = 15

-- "It refuses I with 16 when a group already runs"
abbrev pub already_runs : ℕ
already_runs = 16

-- "Trap: 1 dispose-extend, on D begun while buffered; 2 atomicity-extend, on N begun while buffered; 3 timeout, on T; else 0."
abbrev pub no_trap : ℕ
no_trap = 0

-- "1 dispose-extend, on D begun while buffered"
abbrev pub dispose_extend : ℕ
dispose_extend = 1

-- "2 atomicity-extend, on N begun while buffered"
abbrev pub atomicity_extend : ℕ
atomicity_extend = 2

-- "3 timeout, on T"
abbrev pub timeout_trap : ℕ
timeout_trap = 3

-- what a step reports; sent is empty but for an accepted L: node, group, words
pub record Report : Type 0 where
  pub answer : ℕ
  pub value : ℕ
  pub trap : ℕ
  pub upcall : ℕ
  pub moved : ℕ
  pub sent : List ℕ

-- "A refused step reports its number and zeros"
abbrev pub refused : ℕ → Report
refused a = record { answer = a; value = 0; trap = no_trap; upcall = 0; moved = 0; sent = [] }

-- what an accepted step reports that sends nothing
abbrev pub accepted_with : ℕ → ℕ → ℕ → ℕ → Report
accepted_with value trap upcall moved = record { answer = accepted; value = value; trap = trap; upcall = upcall; moved = moved; sent = [] }

-- all that an accepted power-on reports, and a step that does nothing
abbrev pub all_zero : Report
all_zero = accepted_with 0 no_trap 0 0
