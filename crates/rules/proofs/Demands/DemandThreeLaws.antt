-- Demand 3 holds: what the laws of lines, queue, timer and map say of a run, put together. Assumes nothing.
use Prim.Native.Nat.{ℕ, ◌+◌, ◌≤◌}
use native.Mathlib.Omega.{arith}
use mathlib.Core.Path.{◌≡◌, refl, sym, ap, ◌∙◌, subst}
use mathlib.Core.Bool.{true}
use mathlib.Core.List.{List, [], ◌++◌}
use lib.ListN.{length, drop}
use Rattle.rules.specs.Lists.{filter}
use Rattle.rules.specs.Build.{Build, Sensible, paper01, group_count}
use Rattle.rules.specs.Node.{Message, Node, power_on, is_of, line}
use Rattle.rules.specs.Memory.{size, words, node_at}
use Rattle.rules.specs.MemoryTest.{is_memory}
use Rattle.rules.specs.Private.{PrivateLine, at_first}
use Rattle.rules.specs.Run.{Input, Event, run, PlayedMemory, run_memory, arrivals, disposals, left, Listened, listen}
use Rattle.rules.specs.Valid.{Valid}
use Rattle.rules.specs.DemandThree.{Delivered, OverMemory, DemandThree}
use Rattle.rules.proofs.Steps.StepLaws.{power-on-valid}
use Rattle.rules.proofs.Private.ViewLaws.{view, power-on-view}
use Rattle.rules.proofs.Runs.RunLaws.{seen_as, play-valid, run-heard}
use Rattle.rules.proofs.Runs.RunLine.{play-line}
use Rattle.rules.proofs.Runs.RunQueue.{play-queue}
use Rattle.rules.proofs.Runs.RunWaits.{waits-from}
use Rattle.rules.proofs.Map.MapLaws.{read_back, test-written}
use Rattle.rules.proofs.Map.RunMemory.{paper-sensible, rest_of, run-written}

-- at power-on a group has no line
line-at-first : (b : Build) (g : ℕ) → 1 ≤ g → line (power_on b) g ≡ []
unfolding view at_first
line-at-first b g lo = ap (λ (p : PrivateLine). p.messages) (power-on-view b g lo)

-- and the hardware queue is empty
queue-at-first : (b : Build) → (power_on b).queue ≡ []
unfolding power_on
queue-at-first b = refl

-- over nodes
delivered : {b : Build} → Sensible b → (is : List Input) (g : ℕ) → 1 ≤ g → g ≤ group_count
    → Delivered b.timeout g (run b is).events (line (run b is).node g) (run b is).node.queue
unfolding run view
delivered {b} s is g lo hi =
    let es : List Event = (run b is).events in
    let v : Valid b (power_on b) = power-on-valid b s in
    let heard : listen g es ≡ seen_as b (power_on b) g is = run-heard s g lo hi is in
    record {
      answers = sym (ap (λ (h : Listened). h.answers) heard);
      upcalls = sym (ap (λ (h : Listened). h.upcalls) heard);
      line-private = sym (ap (λ (h : Listened). h.line.messages) heard);
      line-accepted =
          play-line v g lo hi is
          ∙ ap (λ (l : List Message). drop (disposals g es) (l ++ filter (is_of g) (arrivals es))) (line-at-first b g lo);
      queue-accepted = play-queue v is ∙ ap (λ (q : List Message). drop (left es) (q ++ arrivals es)) (queue-at-first b);
      waits = λ before after e m p same one place waited.
          let none : length (power_on b).queue ≡ 0 = ap length (queue-at-first b) in
          let gone : length (power_on b).queue + length (arrivals before) + 1 ≤ left es =
          waits-from v is before after e m p same one (omega (arith, none, place)) waited in
          omega (arith, none, gone);
    }

-- a run leaves a node
run-valid : {b : Build} → Sensible b → (is : List Input) → Valid b (run b is).node
unfolding run
run-valid {b} s is = play-valid (power-on-valid b s) is

-- over memory
over-memory : (m : List ℕ) → size ≤ length m → (is : List Input) → OverMemory m is
over-memory m long is =
    let n : Node = (run paper01 is).node in
    let rest : List ℕ = drop size m in
    let v : Valid paper01 n = run-valid paper-sensible is in
    let written : run_memory m is ≡ record { events = (run paper01 is).events; memory = words n ++ rest } = run-written m long is in
    record {
      stays-node = subst (λ (r : PlayedMemory). is_memory r.memory ≡ true) (sym written) (test-written n rest v);
      rest-kept = ap (λ (r : PlayedMemory). drop size r.memory) written ∙ rest_of n rest v;
      delivered = λ g lo hi.
          subst
          (λ (r : PlayedMemory). Delivered paper01.timeout g r.events (line (node_at r.memory) g) (node_at r.memory).queue)
          (sym written)
          (subst (λ (k : Node). Delivered paper01.timeout g (run paper01 is).events (line k g) k.queue) (sym (read_back n rest v))
          (delivered paper-sensible is g lo hi));
    }

-- demand 3
pub demand-three : DemandThree
demand-three =
    record {
      over-nodes = λ b s is. record { stays-node = run-valid s is; delivered = delivered s is };
      over-memory = over-memory;
    }
