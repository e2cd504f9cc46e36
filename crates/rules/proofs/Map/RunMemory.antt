-- A run over memory is the run over nodes, seen through the map: each step reads the node that the last one wrote, and the words past the
-- node's size stay. Assumes nothing.
use Prim.Native.Nat.{ℕ, ◌≤◌}
use mathlib.Core.Path.{◌≡◌, refl, ap, ◌∙◌}
use mathlib.Core.Bool.{true}
use mathlib.Core.List.{List, [], ◌∷◌, ◌++◌}
use borrow.Author.Tests.{le-leb}
use lib.Dec.{leb}
use lib.ListN.{length, drop}
use lib.Seq.{drop_at}
use Rattle.rules.specs.Build.{paper01}
use Rattle.rules.specs.Node.{Node, power_on}
use Rattle.rules.specs.Operation.{Operation}
use Rattle.rules.specs.Step.{Stepped, step}
use Rattle.rules.specs.Memory.{running_at, size, words, word, node_at}
use Rattle.rules.specs.MemoryTest.{is_memory, MemoryStep, replaced, step_memory, power_on_memory}
use Rattle.rules.specs.Run.{Input, asked, play, run, PlayedMemory, play_memory, run_memory}
use Rattle.rules.specs.Valid.{Valid}
pub use Rattle.rules.proofs.Steps.SoundLaws.{paper-sensible}
use Rattle.rules.proofs.Steps.SoundLaws.{valid-mapped}
use Rattle.rules.proofs.Map.MapRead.{words-length}
use Rattle.rules.proofs.Map.MapLaws.{read_back, test-written}
use Rattle.rules.proofs.Steps.StepLaws.{power-on-valid, step-valid}

-- what stands behind a node's words
pub rest_of : (n : Node) (rest : List ℕ) → Valid paper01 n → drop size (words n ++ rest) ≡ rest
rest_of n rest v = drop_at (words n) rest size (words-length n (valid-mapped v))

-- a step on memory that passes the test, and power-on on memory that is long enough
pub step-tested : (m : List ℕ) (op : Operation) → is_memory m ≡ true
    → step_memory m op ≡ record { report = (step paper01 (node_at m) op).report; memory = replaced (step paper01 (node_at m) op).node m }
unfolding step_memory
step-tested m op e = rw (e, step_memory) refl

pub power-on-tested : (m : List ℕ) → leb size (length m) ≡ true → (power_on_memory m).memory ≡ replaced (power_on paper01) m
unfolding power_on_memory
power-on-tested m e = rw (e, power_on_memory) refl

-- a step on the memory of a node
pub step-written : (n : Node) (rest : List ℕ) → Valid paper01 n → (op : Operation)
    → step_memory (words n ++ rest) op ≡ record { report = (step paper01 n op).report; memory = words (step paper01 n op).node ++ rest }
unfolding replaced
step-written n rest v op =
    let onto : Node → List ℕ → MemoryStep = λ k r. record { report = (step paper01 k op).report; memory = words (step paper01 k op).node ++ r } in
    step-tested (words n ++ rest) op (test-written n rest v)
    ∙ ap (λ (k : Node). onto k (drop size (words n ++ rest))) (read_back n rest v)
    ∙ ap (onto n) (rest_of n rest v)

-- who runs stands first
runner-of : (n : Node) (rest : List ℕ) → word (words n ++ rest) running_at ≡ n.running
unfolding words word
runner-of n rest = refl

-- a run
pub play-written : (n : Node) (rest : List ℕ) → Valid paper01 n → (is : List Input)
    → play_memory (words n ++ rest) is ≡ record { events = (play paper01 n is).events; memory = words (play paper01 n is).node ++ rest }
unfolding play_memory play
play-written n rest v [] = refl
play-written n rest v (i ∷ is) =
    let st : Stepped = step paper01 n (asked i) in
    let begun : ℕ → MemoryStep → PlayedMemory = λ r s.
    record {
      events = record { runner = r; operation = asked i; report = s.report } ∷ (play_memory s.memory is).events;
      memory = (play_memory s.memory is).memory;
    } in
    let onto : PlayedMemory → PlayedMemory = λ p.
    record { events = record { runner = n.running; operation = asked i; report = st.report } ∷ p.events; memory = p.memory } in
    ap (λ (r : ℕ). begun r (step_memory (words n ++ rest) (asked i))) (runner-of n rest)
    ∙ ap (begun n.running) (step-written n rest v (asked i))
    ∙ ap onto (play-written st.node rest (step-valid v (asked i)) is)

-- from power-on
pub run-written : (m : List ℕ) → size ≤ length m → (is : List Input)
    → run_memory m is ≡ record { events = (run paper01 is).events; memory = words (run paper01 is).node ++ drop size m }
unfolding run_memory replaced run
run-written m long is =
    ap (λ (k : List ℕ). play_memory k is) (power-on-tested m (le-leb size (length m) long))
    ∙ play-written (power_on paper01) (drop size m) (power-on-valid paper01 paper-sensible) is
