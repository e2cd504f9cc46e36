-- Demand 1 holds. The answer of a step on a node is its operation's refusal, which is the first number that is due. On memory that fails the
-- test nothing is done; memory that passes it is the map of a node followed by the rest, and a refused step writes the same node back.
-- Power-on's words are computed. Assumes nothing.
use Prim.Native.Nat.{ℕ, suc, ◌+◌, ◌≤◌, ◌<◌}
use mathlib.Core.Path.{◌≡◌, refl, sym, ap, ◌∙◌, subst}
use mathlib.Core.Logic.{◌≢◌}
use mathlib.Core.Bool.{Bool, true, false, true≢false}
use mathlib.Core.List.{List, ◌++◌}
use borrow.Author.Tests.{le-leb, lt-leb}
use lib.ListN.{length, drop, length-append}
use Rattle.rules.specs.Lists.{passes}
use Rattle.rules.specs.Build.{paper01}
use Rattle.rules.specs.Node.{Node, empty_page, empty_paging, power_on}
use Rattle.rules.specs.Operation.{Operation, not_node, refused}
use Rattle.rules.specs.Refusal.{refusal}
use Rattle.rules.specs.Step.{Stepped, step}
use Rattle.rules.specs.Memory.{size, flag_word, queue_words, line_words, list_words, group_words, place_words, pages_from, pages_of, places_of, all_pages, frame_words, paging_words, words, node_at}
use Rattle.rules.specs.MemoryTest.{memory_tests, is_memory, MemoryStep, replaced, step_memory, power_on_memory}
use Rattle.rules.specs.Valid.{Valid}
use Rattle.rules.specs.Script.{read_line}
use Rattle.rules.specs.Conditions.{FirstDue}
use Rattle.rules.specs.DemandOne.{only_number, power_on_words, AnyStep, AnyPowerOn, DemandOne}
use Rattle.rules.proofs.Steps.StepLaws.{power-on-valid, step-cases, performed-answer, step-answer, step-valid}
use Rattle.rules.proofs.Steps.SoundLaws.{valid-mapped}
use Rattle.rules.proofs.Map.MapRead.{words-length}
use Rattle.rules.proofs.Map.MapLaws.{test-valid, test_words, test-written}
use Rattle.rules.proofs.Map.RunMemory.{paper-sensible, rest_of, step-tested}
use Rattle.rules.proofs.Demands.ConditionsLaws.{refusal-first, no-node-first, first-numbered, first_one, first_two}

-- on memory that is a node a step's answer is its operation's refusal
pub answer-tested : (m : List ℕ) (op : Operation) → is_memory m ≡ true → (step_memory m op).report.answer ≡ refusal paper01 (node_at m) op
answer-tested m op e = ap (λ (x : MemoryStep). x.report.answer) (step-tested m op e) ∙ step-answer paper01 (node_at m) op

-- a step on memory that is no node
step-untested : (m : List ℕ) (op : Operation) → is_memory m ≡ false → step_memory m op ≡ record { report = refused not_node; memory = m }
unfolding step_memory
step-untested m op e = rw (e, step_memory)

-- the answer on any memory
answer-first : (m : List ℕ) (op : Operation) → FirstDue m (node_at m) op (step_memory m op).report.answer
answer-first m op = go (is_memory m) refl
  where
    go : (t : Bool) → is_memory m ≡ t → FirstDue m (node_at m) op (step_memory m op).report.answer
    go true e = subst (FirstDue m (node_at m) op) (sym (answer-tested m op e)) (refusal-first m (node_at m) e (test-valid m e) op)
    go false e =
        subst (FirstDue m (node_at m) op) (sym (ap (λ (x : MemoryStep). x.report.answer) (step-untested m op e)))
        (no-node-first m (node_at m) op e)

-- memory too short for a node
short-no-node : (m : List ℕ) → length m < size → is_memory m ≡ false
unfolding is_memory memory_tests
short-no-node m short = rw (lt-leb size (length m) short, passes)

-- What a step does to memory.

record Kept (m : List ℕ) (op : Operation) : Type 0 where
  refused-unchanged : (step_memory m op).report.answer ≢ 0
      → step_memory m op ≡ record { report = only_number (step_memory m op).report.answer; memory = m }
  length-kept : length (step_memory m op).memory ≡ length m
  rest-kept : drop size (step_memory m op).memory ≡ drop size m
  stays-node : is_memory m ≡ true → is_memory (step_memory m op).memory ≡ true

unfit : (m : List ℕ) (op : Operation) → is_memory m ≡ false → Kept m op
unfit m op e =
    let s : step_memory m op ≡ record { report = refused not_node; memory = m } = step-untested m op e in
    record {
      refused-unchanged = λ not. s ∙ sym (ap (λ (x : MemoryStep). record { report = only_number x.report.answer; memory = m }) s);
      length-kept = ap (λ (x : MemoryStep). length x.memory) s;
      rest-kept = ap (λ (x : MemoryStep). drop size x.memory) s;
      stays-node = λ t. absurd (true≢false (sym t ∙ e));
    }

-- a refused step writes the node back as it was
rewritten : (m : List ℕ) (op : Operation) → is_memory m ≡ true
    → (step paper01 (node_at m) op).report.answer ≢ 0
    → ◌≡◌ {A = MemoryStep}
    (record { report = (step paper01 (node_at m) op).report; memory = words (step paper01 (node_at m) op).node ++ drop size m })
    (record { report = only_number (step paper01 (node_at m) op).report.answer; memory = m })
rewritten m op e =
    step-cases paper01 (node_at m) op Goal (λ z not. absurd (not (performed-answer paper01 (node_at m) op)))
    (λ r z not i. record { report = only_number (suc r); memory = test_words m e i })
  where
    Goal : Stepped → Type 0
    Goal s =
        s.report.answer ≢ 0
        → ◌≡◌ {A = MemoryStep} (record { report = s.report; memory = words s.node ++ drop size m })
        (record { report = only_number s.report.answer; memory = m })

-- a step on the memory of a node
fit : (m : List ℕ) (op : Operation) → is_memory m ≡ true → Kept m op
unfolding replaced
fit m op e =
    let n : Node = node_at m in
    let v : Valid paper01 n = test-valid m e in
    let v' : Valid paper01 (step paper01 n op).node = step-valid v op in
    let after : List ℕ = words (step paper01 n op).node in
    let s : step_memory m op ≡ record { report = (step paper01 n op).report; memory = after ++ drop size m } = step-tested m op e in
    let lengths : length (after ++ drop size m) ≡ length m =
    length-append after (drop size m) ∙ ap (λ (k : ℕ). k + length (drop size m)) (words-length (step paper01 n op).node (valid-mapped v') ∙ sym (words-length n (valid-mapped v)))
    ∙ sym (length-append (words n) (drop size m))
    ∙ ap length (test_words m e) in
    record {
      refused-unchanged = λ not.
          subst (λ (x : MemoryStep). x.report.answer ≢ 0 → x ≡ record { report = only_number x.report.answer; memory = m }) (sym s)
          (rewritten m op e) not;
      length-kept = ap (λ (x : MemoryStep). length x.memory) s ∙ lengths;
      rest-kept = ap (λ (x : MemoryStep). drop size x.memory) s ∙ rest_of (step paper01 n op).node (drop size m) v';
      stays-node = λ t.
          subst (λ (x : MemoryStep). is_memory x.memory ≡ true) (sym s) (test-written (step paper01 n op).node (drop size m) v');
    }

kept : (m : List ℕ) (op : Operation) → Kept m op
kept m op = go (is_memory m) refl
  where
    go : (t : Bool) → is_memory m ≡ t → Kept m op
    go true e = fit m op e
    go false e = unfit m op e

any_step : (m : List ℕ) (op : Operation) → AnyStep m op
any_step m op =
    let f : FirstDue m (node_at m) op (step_memory m op).report.answer = answer-first m op in
    let k : Kept m op = kept m op in
    record {
      answered = f;
      too_short = λ short. (first_one f).1 (short-no-node m short);
      not-node = first_one f;
      unreadable = first_two f;
      numbered = first-numbered f;
      refused-unchanged = k.refused-unchanged;
      length-kept = k.length-kept;
      rest-kept = k.rest-kept;
      stays-node = k.stays-node;
    }

-- Power-on.

power-on-words : words (power_on paper01) ≡ power_on_words
unfolding
    power_on empty_page empty_paging flag_word queue_words line_words list_words group_words place_words pages_from pages_of places_of all_pages frame_words paging_words words
power-on-words = refl

power-on-long : (m : List ℕ) → size ≤ length m → power_on_memory m ≡ record { report = only_number 0; memory = power_on_words ++ drop size m }
unfolding power_on_memory replaced
power-on-long m long = rw (le-leb size (length m) long, power_on_memory, power-on-words) refl

power-on-short : (m : List ℕ) → length m < size → power_on_memory m ≡ record { report = only_number 1; memory = m }
unfolding power_on_memory
power-on-short m short = rw (lt-leb size (length m) short, power_on_memory)

any-power-on : (m : List ℕ) → AnyPowerOn m
any-power-on m = record { long-enough = power-on-long m; too_short = power-on-short m; makes-node = node }
  where
    node : size ≤ length m → is_memory (power_on_memory m).memory ≡ true
    node long =
        subst (λ (k : List ℕ). is_memory k ≡ true) (ap (λ (x : MemoryStep). x.memory) (sym (power-on-long m long)))
        (subst (λ (ws : List ℕ). is_memory (ws ++ drop size m) ≡ true) power-on-words
        (test-written (power_on paper01) (drop size m) (power-on-valid paper01 paper-sensible)))

-- demand 1
pub demand-one : DemandOne
demand-one = record { any_step = any_step; any-line = λ m l. any_step m (read_line l); any-power-on = any-power-on }
