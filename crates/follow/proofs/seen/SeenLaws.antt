-- A line stepped: what is told of it is what is seen of its step. Assumes nothing.
use Prim.Native.Nat.{ℕ, ◌+◌, ◌≤◌, ◌<◌}
use native.Mathlib.Omega.{arith}
use mathlib.Core.Bool.{Bool, true, false, true≢false, not, ◌&&◌}
use mathlib.Core.List.{List, [], ◌∷◌, ◌++◌, map}
use mathlib.Core.Path.{◌≡◌, refl, sym, ap, subst, ◌∙◌}
use lib.Dec.{eqb, ltb}
use lib.ListN.{length, drop}
use borrow.Author.Tests.{eqb-true, eqb-false, ltb-false, le-leb}
use Rattle.rules.specs.Build.{paper01, group_count}
use Rattle.rules.specs.Lists.{is_empty}
use Rattle.rules.specs.Memory.{node_at, running_at, size, word, words}
use Rattle.rules.specs.MemoryTest.{MemoryStep, is_memory, replaced, step_memory}
use Rattle.rules.specs.Node.{Message, Node, power_on}
use Rattle.rules.specs.Operation.{Operation, arrive, preempt, dispatch, schedule, tick, turn, user, unknown, bad_group, not_node, refused}
use Rattle.rules.specs.Refusal.{refusal, refuse_arrive}
use Rattle.rules.specs.Run.{arrived, arrived_by, asked, disposed_by, left_by, script_line, was_accepted}
use Rattle.rules.specs.Script.{read_line}
use Rattle.rules.specs.Step.{Stepped, step}
use Rattle.rules.specs.Types.{operation_of}
use Rattle.rules.specs.Valid.{Valid}
use Rattle.rules.specs.declared.Operation.{Operation as Operation·rt}
use Rattle.rules.specs.declared.Operation.TheVariants.{Arrive, Schedule, Preempt, Dispatch, Tick, Turn, Poll, Peek, Dispose, BeginAtomic, EndAtomic, Describe, Launch, Unknown}
use Rattle.rules.specs.declared.Report.{Report as Report·rt}
use Rattle.rules.proofs.Map.MapLaws.{read_back}
use Rattle.rules.proofs.Map.RunMemory.{paper-sensible, power-on-tested, step-tested, step-written}
use Rattle.rules.proofs.Steps.StepLaws.{power-on-valid, step-refused, step-valid}
use Rattle.memory.specs.Answers.{Answers}
use Rattle.reasons.specs.ByPlace.{event_reasons, first_reason, later_reason, leaving}
use Rattle.reasons.specs.Follow.{Seen, seen_of, seen_run}
use Rattle.script.proofs.play.PlayLaws.{known-stays}
use Rattle.script.proofs.read.LineEndLaws.{by-test}
use Rattle.std.specs.Prelude.{Option, None, Some, SomeIff, is_some}
use Rattle.follow.specs.Seen.{Arrival, ArrivalKnown, Gone, Leaves, LineStepped, Sees, SeenRuns, event_on, left_limit, left_of, seen_memory, seen_on, seen_step}
use Rattle.follow.specs.declared.seen.Leaving.{Leaving as Leaving·rt}
use Rattle.follow.specs.declared.seen.Line.{Line as Line·rt}
use Rattle.follow.proofs.seen.QuietLaws.{reasoned}

-- Memory that is no node moves nothing and accepts nothing.

step-untested : (m : List ℕ) (op : Operation) → is_memory m ≡ false → step_memory m op ≡ record { report = refused not_node; memory = m }
unfolding step_memory
step-untested m op e = rw (e, step_memory)

pub accepted-node : (m : List ℕ) (op : Operation) → (step_memory m op).report.answer ≡ 0 → is_memory m ≡ true
accepted-node m op e =
    by-test (is_memory m) (λ q. q)
    (λ q. absurd (let f = sym (ap (λ (s : MemoryStep). s.report.answer) (step-untested m op q)) ∙ e in omega arith))

-- an arrival at which messages move is accepted, so its group is one
pub arrival-moved : (m : List ℕ) (g : ℕ) (ws : List ℕ) → 0 < (step_memory m (arrive g ws)).report.moved → Arrival (step_memory m (arrive g ws)).memory g
unfolding refusal refuse_arrive
arrival-moved m g ws some =
    by-test (is_memory m)
    (λ q. by-test (eqb g 0) (λ z. absurd (none q (rw z))) (λ z. by-test (ltb group_count g) (λ t. absurd (none q (rw (z, t)))) (λ t. record {
      node = known-stays m (arrive g ws) ∙ q;
      low = let n = eqb-false g 0 z in omega arith;
      high = ltb-false group_count g t;
    })))
    (λ q. absurd (let f = ap (λ (s : MemoryStep). s.report.moved) (step-untested m (arrive g ws) q) in omega arith))
  where
    none : is_memory m ≡ true → refusal paper01 (node_at m) (arrive g ws) ≡ bad_group → ⊥
    none q r =
        let f = ap (λ (s : MemoryStep). s.report.moved) (step-tested m (arrive g ws) q) in
        let h = ap (λ (s : Stepped). s.report.moved) (step-refused paper01 (node_at m) (arrive g ws) 2 r) in
        omega arith

pub arrival-left : (m : List ℕ) (op : Operation·rt) (ws : List ℕ) (ok : Bool) (left : ℕ) → Leaves op ok (step_memory m (operation_of op ws)).report.moved left
    → ArrivalKnown (step_memory m (operation_of op ws)).memory op left
unfolding operation_of ArrivalKnown Leaves disposed_by
arrival-left m (Arrive g) ws ok left l = λ some. arrival-moved m g ws (let e = l ws in omega arith)
arrival-left m (Schedule g) ws ok left l = tt
arrival-left m Preempt ws ok left l = tt
arrival-left m (Dispatch g) ws ok left l = tt
arrival-left m (Tick k) ws ok left l = tt
arrival-left m Turn ws ok left l = tt
arrival-left m Poll ws ok left l = tt
arrival-left m (Peek i) ws ok left l = tt
arrival-left m Dispose ws ok left l = tt
arrival-left m (BeginAtomic force) ws ok left l = tt
arrival-left m EndAtomic ws ok left l = tt
arrival-left m (Describe w) ws ok left l = tt
arrival-left m (Launch k) ws ok left l = tt
arrival-left m Unknown ws ok left l = tt

-- what is refused brings no message
refused_none : (op : Operation) → arrived_by op false ≡ []
unfolding arrived_by
refused_none (arrive g ws) = refl
refused_none preempt = refl
refused_none (dispatch g) = refl
refused_none (schedule g) = refl
refused_none (tick k) = refl
refused_none turn = refl
refused_none (user r) = refl
refused_none unknown = refl

-- an accepted arrival is one on a node
pub arrived-node : (m : List ℕ) (op : Operation) {t : Bool} → t ≡ not (is_empty (arrived_by op (eqb (step_memory m op).report.answer 0))) → t ≡ true
    → is_memory (step_memory m op).memory ≡ true
arrived-node m op e h =
    by-test (eqb (step_memory m op).report.answer 0)
    (λ q. known-stays m op ∙ accepted-node m op (eqb-true (step_memory m op).report.answer 0 q))
    (λ q. absurd (true≢false (sym h ∙ e ∙ ap (λ (t : Bool). not (is_empty (arrived_by op t))) q ∙ ap (λ (ms : List Message). not (is_empty ms)) (refused_none op))))

-- how many are queued is told of an accepted arrival
queued-told : (o : Option ℕ) (t : Bool) (n : ℕ) → SomeIff o (t ≡ true) n → is_some o ≡ t
queued-told None true n h = absurd (h refl)
queued-told None false n h = refl
queued-told (Some x) t n h = sym h.0

queued-as : (o : Option ℕ) (t : Bool) (n : ℕ) → SomeIff o (t ≡ true) n → t ≡ true → o ≡ Some n
queued-as None t n h e = absurd (h e)
queued-as (Some x) t n h e = ap Some h.1

-- An operation stepped: what the functions tell of its report and of the memory after it is what is seen of it.
module _ (m : List ℕ) (op : Operation·rt) (ws : List ℕ) {m' : List ℕ} {r : Report·rt} (a : Answers m' r (step_memory m (operation_of op ws))) where
  report-left : (left : ℕ) → Leaves op (eqb r.answer 0 && eqb r.trap 0) r.moved left → left ≡ left_by (event_on m (operation_of op ws))
  unfolding Leaves left_by event_on was_accepted
  report-left left l =
      l ws ∙ ap (λ (x : Report·rt). x.moved + disposed_by (operation_of op ws) (eqb x.answer 0 && eqb x.trap 0)) a.reported

  pub step-known-arrival : (left : ℕ) → Leaves op (eqb r.answer 0 && eqb r.trap 0) r.moved left → ArrivalKnown m' op left
  step-known-arrival left l =
      subst (λ (x : List ℕ). ArrivalKnown x op left) (sym a.left)
      (arrival-left m op ws (eqb r.answer 0 && eqb r.trap 0) left
      (subst (λ (k : ℕ). Leaves op (eqb r.answer 0 && eqb r.trap 0) k left) (ap (λ (x : Report·rt). x.moved) a.reported) l))

  module _ {arrival : Bool} (t : (ws : List ℕ) → arrival ≡ not (is_empty (arrived_by (operation_of op ws) (eqb r.answer 0)))) where
    told-arrival : arrival ≡ not (is_empty (arrived_by (operation_of op ws) (eqb (step_memory m (operation_of op ws)).report.answer 0)))
    told-arrival = t ws ∙ ap (λ (x : Report·rt). not (is_empty (arrived_by (operation_of op ws) (eqb x.answer 0)))) a.reported

    pub step-known-node : arrival ≡ true → is_memory m' ≡ true
    step-known-node e = ap is_memory a.left ∙ arrived-node m (operation_of op ws) told-arrival e

    pub step-sees : {left next : ℕ} {queued : Option ℕ} {gone : Option Leaving·rt} → Leaves op (eqb r.answer 0 && eqb r.trap 0) r.moved left → left ≤ left_limit
        → SomeIff queued (arrival ≡ true) (length (node_at m').queue) → Gone m' op left gone × (left_of gone ≤ left)
        → Sees (record { next = next; answer = r.answer; queued = queued; leaving = gone }) (seen_step m (operation_of op ws))
    unfolding seen_step seen_of event_reasons arrived was_accepted Gone event_on
    step-sees {left} {queued = queued} l few q f =
        let o = operation_of op ws in
        let n = node_at (step_memory m o).memory in
        let same : node_at m' ≡ n = ap node_at a.left in
        let e = report-left left l in
        record {
          answer = ap (λ (x : Report·rt). x.answer) a.reported;
          arrival = queued-told queued arrival (length (node_at m').queue) q ∙ told-arrival;
          queued = λ h. queued-as queued arrival (length (node_at m').queue) q (told-arrival ∙ h) ∙ ap (λ (k : Node). Some (length k.queue)) same;
          reasons =
              sym (f.0 ws (λ some. reasoned m o (node_at m') (subst (λ (k : ℕ). 0 < k) e some)) ∙ ap (λ (k : ℕ). leaving k (first_reason o (node_at m')) (later_reason o)) e
              ∙ ap (λ (k : Node). leaving (left_by (event_on m o)) (first_reason o k) (later_reason o)) same);
          few = let g = f.1 in omega arith;
        }

    -- of a line that was read
    pub line-stepped : {l : List ℕ} {behind next : ℕ} → operation_of op ws ≡ read_line l → next ≡ behind
        → {left : ℕ} {queued : Option ℕ} {gone : Option Leaving·rt} → Leaves op (eqb r.answer 0 && eqb r.trap 0) r.moved left → left ≤ left_limit
        → SomeIff queued (arrival ≡ true) (length (node_at m').queue) → Gone m' op left gone × (left_of gone ≤ left)
        → LineStepped m l behind m' (record { next = next; answer = r.answer; queued = queued; leaving = gone })
    unfolding seen_on
    line-stepped {next = next} read e {left} {queued} {gone} l few q f =
        let told : Line·rt = record { next = next; answer = r.answer; queued = queued; leaving = gone } in
        record {
          next = e;
          memory = a.left ∙ ap (λ (o : Operation). (step_memory m o).memory) read;
          sees = subst (λ (o : Operation). Sees told (seen_step m o)) read (step-sees {next = next} l few q f);
        }

-- From power-on on.

runner-written : (n : Node) (rest : List ℕ) → word (words n ++ rest) running_at ≡ n.running
unfolding words word
runner-written n rest = refl

seen-written : (n : Node) (rest : List ℕ) → Valid paper01 n → (ls : List (List ℕ)) → seen_memory (words n ++ rest) ls ≡ seen_run paper01 n (map script_line ls)
unfolding seen_memory seen_run seen_on seen_step event_on asked
seen-written n rest v [] = refl
seen-written n rest v (l ∷ ls) =
    let op = read_line l in
    let after = step paper01 n op in
    let shown : ℕ → MemoryStep → Node → Seen = λ k s x. seen_of (record { runner = k; operation = op; report = s.report }) x in
    let onto : MemoryStep = record { report = after.report; memory = words after.node ++ rest } in
    ap (λ (s : MemoryStep). shown (word (words n ++ rest) running_at) s (node_at s.memory) ∷ seen_memory s.memory ls) (step-written n rest v op)
    ∙ ap (λ (x : Node). shown (word (words n ++ rest) running_at) onto x ∷ seen_memory onto.memory ls) (read_back after.node rest (step-valid v op))
    ∙ ap (λ (k : ℕ). shown k onto after.node ∷ seen_memory onto.memory ls) (runner-written n rest)
    ∙ ap (λ (ss : List Seen). shown n.running onto after.node ∷ ss) (seen-written after.node rest (step-valid v op) ls)

pub seen-runs : SeenRuns
unfolding replaced
seen-runs =
    record {
      seen = λ m ls long.
          ap (λ (k : List ℕ). seen_memory k ls) (power-on-tested m (le-leb size (length m) long))
          ∙ seen-written (power_on paper01) (drop size m) (power-on-valid paper01 paper-sensible) ls;
    }
