-- Demand 1, as far as the rules go: on any memory any operation, and any script line, has an answer; a refusal has its number, a report of zeros
-- beside it, and the memory as it was. That there is an end is the definitions' own: they are total. Assumes nothing.
use Rattle.std.specs.Prelude.{ℕ, ◌≤◌, ◌<◌, ◌≡◌, ◌≢◌, ◌↔◌, true, false, List, [], ◌∷◌, ◌++◌, length, drop, replicate}
use Rattle.rules.specs.Operation.{Operation, unknown, Report}
use Rattle.rules.specs.Memory.{node_at}
use Rattle.rules.specs.MemoryTest.{is_memory, step_memory, power_on_memory}
use Rattle.rules.specs.Script.{read_line}
use Rattle.rules.specs.Conditions.{FirstDue}

-- a number "and zeros"
abbrev pub only_number : ℕ → Report
only_number a = record { answer = a; value = 0; trap = 0; upcall = 0; moved = 0; sent = [] }

-- what holds of any step on any memory
pub record AnyStep (m : List ℕ) (op : Operation) : Type 0 where
  -- "each refusal has its number": the first of the table that is due, 0 where none is
  pub answered : FirstDue m (node_at m) op (step_memory m op).report.answer
  -- "1: memory too short, or not a node. Tested first, at every step"
  pub too_short : length m < 8104 → (step_memory m op).report.answer ≡ 1
  pub not-node : ((step_memory m op).report.answer ≡ 1) ↔ (is_memory m ≡ false)
  -- "2: unknown operation or unreadable line. Next after 1, before all below."
  pub unreadable : is_memory m ≡ true → ((step_memory m op).report.answer ≡ 2) ↔ (op ≡ unknown)
  -- the answer is one of 0 to 16
  pub numbered : (step_memory m op).report.answer ≤ 16
  -- "A refused step reports its number and zeros, and nothing in memory changes"
  pub refused-unchanged : (step_memory m op).report.answer ≢ 0
      → step_memory m op ≡ record { report = only_number (step_memory m op).report.answer; memory = m }
  -- "Memory past the node's size is never touched."
  pub length-kept : length (step_memory m op).memory ≡ length m
  pub rest-kept : drop 8104 (step_memory m op).memory ≡ drop 8104 m
  -- a node stays a node: a keeper who hands back what the last step left never meets 1
  pub stays-node : is_memory m ≡ true → is_memory (step_memory m op).memory ≡ true

-- "At power-on nobody runs, every queue, buffer, flag and descriptor is empty or off, all message words are 0."; "Free frames stand in a
-- line, at power-on 0 to 31.": 0 everywhere but in the counts of free frames and free swap pages and in their lines
abbrev pub power_on_words : List ℕ
power_on_words =
    replicate 3 0
    ++ (32 ∷ replicate 160 0)
    ++ (0 ∷ 1 ∷ 2 ∷ 3 ∷ 4 ∷ 5 ∷ 6 ∷ 7 ∷ 8 ∷ 9 ∷ 10 ∷ 11 ∷ 12 ∷ 13 ∷ 14 ∷ 15 ∷ [])
    ++ (16 ∷ 17 ∷ 18 ∷ 19 ∷ 20 ∷ 21 ∷ 22 ∷ 23 ∷ 24 ∷ 25 ∷ 26 ∷ 27 ∷ 28 ∷ 29 ∷ 30 ∷ 31 ∷ [])
    ++ replicate 7808 0
    ++ (64 ∷ replicate 3 0)
    ++ (32 ∷ 33 ∷ 34 ∷ 35 ∷ 36 ∷ 37 ∷ 38 ∷ 39 ∷ 40 ∷ 41 ∷ 42 ∷ 43 ∷ 44 ∷ 45 ∷ 46 ∷ 47 ∷ [])
    ++ (48 ∷ 49 ∷ 50 ∷ 51 ∷ 52 ∷ 53 ∷ 54 ∷ 55 ∷ 56 ∷ 57 ∷ 58 ∷ 59 ∷ 60 ∷ 61 ∷ 62 ∷ 63 ∷ [])
    ++ (64 ∷ 65 ∷ 66 ∷ 67 ∷ 68 ∷ 69 ∷ 70 ∷ 71 ∷ 72 ∷ 73 ∷ 74 ∷ 75 ∷ 76 ∷ 77 ∷ 78 ∷ 79 ∷ [])
    ++ (80 ∷ 81 ∷ 82 ∷ 83 ∷ 84 ∷ 85 ∷ 86 ∷ 87 ∷ 88 ∷ 89 ∷ 90 ∷ 91 ∷ 92 ∷ 93 ∷ 94 ∷ 95 ∷ [])
    ++ replicate 32 0

-- what holds of power-on on any memory: "power-on tests only the size"
pub record AnyPowerOn (m : List ℕ) : Type 0 where
  pub long-enough : 8104 ≤ length m → power_on_memory m ≡ record { report = only_number 0; memory = power_on_words ++ drop 8104 m }
  pub too_short : length m < 8104 → power_on_memory m ≡ record { report = only_number 1; memory = m }
  pub makes-node : 8104 ≤ length m → is_memory (power_on_memory m).memory ≡ true

-- the whole of demand 1
pub record DemandOne : Type 0 where
  pub any_step : (m : List ℕ) (op : Operation) → AnyStep m op
  pub any-line : (m line : List ℕ) → AnyStep m (read_line line)
  pub any-power-on : (m : List ℕ) → AnyPowerOn m
