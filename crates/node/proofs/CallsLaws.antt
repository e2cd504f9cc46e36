-- A run of the public calls is a run of the rules, call by call, so the demands hold of the calls. Assumes nothing.
use Rattle.node.specs.Calls.{none, next, Call, CallHolds, Calls, CallsDemanded, Promised, inputs_of, reports_of}
use Rattle.node.specs.Parts.{part_of, shown_by}
use Rattle.node.specs.declared.message.Part.{Part as Part·rt}
use Rattle.rules.specs.MemoryTest.{step_memory, MemoryStep, is_memory, head_part, head_words}
use Rattle.rules.specs.Types.{report_of}
use Prim.Native.Nat.{ℕ}
use mathlib.Core.Bool.{true}
use mathlib.Core.List.{List, ◌∷◌, map}
use mathlib.Core.Path.{◌∙◌, ◌≡◌, ap, refl, subst, sym}
use lib.ListN.{drop, length}
use Rattle.rules.specs.Conditions.{FirstDue}
use Rattle.rules.specs.DemandOne.{only_number}
use Rattle.rules.specs.Memory.{node_at}
use Rattle.rules.specs.Operation.{Operation, turn, user, peek, accepted_with, no_trap}
use Rattle.rules.specs.Turn.{whose_turn}
use Rattle.rules.specs.Run.{PlayedMemory, asked, play_memory, run_memory}
use Rattle.rules.specs.Reading.{Reads, peeked}
use Rattle.rules.specs.declared.Report.{Report as Report·rt}
use Rattle.rules.proofs.Demands.DemandOneLaws.{demand-one}
use Rattle.rules.proofs.Demands.DemandThreeLaws.{demand-three}
use Rattle.rules.proofs.Demands.DumpsLaws.{dumps}
use Rattle.rules.proofs.Demands.ReadingLaws.{reading}
use Rattle.rules.proofs.Demands.TurnsLaws.{turns}

-- the memory and the reports of calls from m on
calls-play : {m m' : List ℕ} {cs : List Call} → Calls m cs m'
    → (m' ≡ (play_memory m (inputs_of cs)).memory) × (map (λ (c : Call). c.report) cs ≡ reports_of (play_memory m (inputs_of cs)).events)
unfolding play_memory
calls-play none = (refl, refl)
calls-play {m} (next {m₁ = m₁} {c = c} {cs = cs} p rest) =
    let t = calls-play rest in
    let s : List ℕ = (step_memory m (asked c.input)).memory in
    let same : play_memory m₁ (inputs_of cs) ≡ play_memory s (inputs_of cs) = ap (λ (k : List ℕ). play_memory k (inputs_of cs)) p.left in (
      t.0 ∙ ap (λ (k : PlayedMemory). k.memory) same,
      (λ i. p.reported i ∷ (t.1 ∙ ap (λ (k : PlayedMemory). reports_of k.events) same) i),
    )

-- one call
call-holds : (m : List ℕ) (c : Call) (m' : List ℕ) → Promised m c m' → CallHolds m c m'
call-holds m c m' p =
    let op : Operation = asked c.input in
    let d = demand-one.any_step m op in
    let a : c.report.answer ≡ (step_memory m op).report.answer = ap (λ (x : Report·rt). x.answer) p.reported in
    record {
      answered = subst (λ (k : ℕ). FirstDue m (node_at m) op k) (sym a) d.answered;
      refused-unchanged = λ not.
          let s = d.refused-unchanged (λ z. not (a ∙ z)) in (
            p.reported ∙ ap (λ (x : MemoryStep). report_of x.report) s ∙ ap (λ (k : ℕ). report_of (only_number k)) (sym a),
            p.left ∙ ap (λ (x : MemoryStep). x.memory) s,
          );
      length-kept = ap length p.left ∙ d.length-kept;
      rest-kept = ap (drop 8104) p.left ∙ d.rest-kept;
      stays-node = λ t. ap is_memory p.left ∙ d.stays-node t;
      clean = λ t. rw p.left (dumps.step-clean m op t);
    }

-- E and the head calls
call-reads : (m : List ℕ) (c : Call) (m' : List ℕ) (i : ℕ) (p : Part·rt) (ws : List ℕ)
    → asked c.input ≡ user (peek i)
    → Promised m c m'
    → p ≡ part_of (head_part m)
    → ws ≡ head_words m
    → Reads m i c.report.answer c.report.value (shown_by p) ws
call-reads m c m' i p ws e call part shown =
    let told : c.report ≡ report_of (peeked m i) = call.reported ∙ ap (λ (o : Operation). report_of (step_memory m o).report) e in
    rw (told, part, shown) (reading.any-peek m i)

-- C
call-turns : (m : List ℕ) (c : Call) (m' : List ℕ)
    → asked c.input ≡ turn
    → Promised m c m'
    → is_memory m ≡ true
    → (c.report ≡ report_of (accepted_with (whose_turn (node_at m)) no_trap 0 0)) × (m' ≡ m)
call-turns m c m' e call good =
    let whole = ap (step_memory m) e ∙ turns.on-memory m good in
    (call.reported ∙ ap (λ (s : MemoryStep). report_of s.report) whole, call.left ∙ ap (λ (s : MemoryStep). s.memory) whole)

pub calls-demanded : CallsDemanded
unfolding run_memory
calls-demanded =
    record {
      any-call = call-holds;
      any-peek = call-reads;
      any-turn = call-turns;
      any-calls = λ m m₀ m' rep cs long on calls.
          let t = calls-play calls in
          let same : play_memory m₀ (inputs_of cs) ≡ run_memory m (inputs_of cs) = ap (λ (k : List ℕ). play_memory k (inputs_of cs)) on.left in
          record {
            memory = t.0 ∙ ap (λ (k : PlayedMemory). k.memory) same;
            reports = t.1 ∙ ap (λ (k : PlayedMemory). reports_of k.events) same;
            demand-three = demand-three.over-memory m long (inputs_of cs);
          };
    }
