-- `node::kernel::schedule` meets its contract: to the one running nothing is done; to another the queue is drained with nobody running, and
-- two numbers are set. Assumes nothing.
use Prim.Native.Nat.{ℕ, ◌≤◌}
use native.Mathlib.Omega.{arith}
use mathlib.Core.List.{List}
use mathlib.Core.Logic.{◌≢◌}
use mathlib.Core.Path.{◌∙◌, sym}
use lib.ListN.{length, length-set, set}
use Rattle.rules.specs.Build.{paper01}
use Rattle.rules.specs.Memory.{running_at, size, timer_at, word}
use Rattle.rules.specs.Node.{Node, with_running, with_timer}
use Rattle.rules.specs.Operation.{schedule}
use Rattle.rules.specs.Settling.{drain}
use Rattle.rules.specs.Valid.{Valid}
use Rattle.memory.specs.Holds.{Holds}
use Rattle.memory.proofs.PieceLaws.{holds-pieces}
use Rattle.memory.proofs.PieceWrites.{timer-held}
use Rattle.memory.proofs.WriteLaws.{wrote-set}
use Rattle.node.specs.Steps.{Drained}
use Rattle.node.proofs.kernel.KernelLaws.{handed, handed-sound, schedule-other, schedule-refused, schedule-same, schedule-sound}
use Rattle.node.proofs.StepMap.{acting-unsettled, stepping-refused, stepping-still}
use Rattle.node.proofs.kernel.schedule.Goals as goal
use Rattle.node.proofs.kernel.schedule.Lts as lts
use Rattle.node.proofs.kernel.schedule.Tie as tie
use Rattle.node.proofs.kernel.schedule.Reads as past

-- The places of the code that lemmas speak of.

abbrev After-drain : Type 0
After-drain = lts.After-drain tie.the-claims past.Pre past.Post

-- the queue drained with nobody running
drained : (c : After-drain) (n : Node) (r : List ℕ) → Holds c.args.m.now n r → Valid paper01 n
    → Drained c.drain-waiting.new.m (with_running 0 n) r c.drain-waiting.result
drained c n r h v = c.drain-waiting.ensures (with_running 0 n) r (handed h 0) (handed-sound v 0 (omega arith))

drained-long : (c : After-drain) → size ≤ length c.drain-waiting.new.m
drained-long c = let p = c.requires in (holds-pieces (drained c p.node p.rest p.holds p.fact).holds).long

-- the processor given, and the timer set
given : {m : List ℕ} {n : Node} {r : List ℕ} → Holds m n r → (g : ℕ) → Holds (set (set m running_at g) timer_at 0) (with_timer 0 (with_running g n)) r
given {m} h g = timer-held (handed h g) 0 (wrote-set (set m running_at g) timer_at 0 (omega (arith, (holds-pieces (handed h g)).long)))

pub returns-then-g-gt-GROUPS : goal.returns-then-g-gt-GROUPS
returns-then-g-gt-GROUPS c n r h v = let g = c.args.g in stepping-refused (schedule g) 13 (schedule-refused n g c.if-g-gt-GROUPS.true) h

pub bounds-m-0 : goal.bounds-m-0
bounds-m-0 c = omega (arith, (holds-pieces c.requires.holds).long)

pub returns-then-g-m : goal.returns-then-g-m
unfolding word
returns-then-g-m c n r h v = let g = c.args.g in rw c.accepted.ensures (stepping-still (schedule g) (schedule-same v g (c.if-g-m.true ∙ (holds-pieces h).running)) h)

pub bounds-m-0-2 : goal.bounds-m-0-2
bounds-m-0-2 c = omega (arith, (holds-pieces c.requires.holds).long)

pub drain-waiting-requires : goal.drain-waiting-requires
drain-waiting-requires c = let p = c.requires in record { node = with_running 0 p.node; rest = p.rest; holds = handed p.holds 0; fact = handed-sound p.fact 0 (omega arith) }

pub bounds-m-0-3 : goal.bounds-m-0-3
bounds-m-0-3 c = omega (arith, drained-long c.before.before)

pub bounds-m-1 : goal.bounds-m-1
bounds-m-1 c = simp length-set (omega (arith, drained-long c.before.before))

pub returns : goal.returns
unfolding word with_running
returns c n r h v =
    let g = c.args.g in
    let high = c.if-g-gt-GROUPS.false in
    let other : g ≢ n.running = λ e. c.if-g-m.false (e ∙ sym (holds-pieces h).running) in
    let d = drained c.before.before n r h v in
    let k = with_timer 0 (with_running g (drain paper01 n.queue (with_running 0 n))) in
    rw d.count (acting-unsettled (schedule g) k 0 (length n.queue) (schedule-other v g high other) (schedule-sound v g high) v.queue-length (given d.holds g))
