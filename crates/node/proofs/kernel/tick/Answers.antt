-- `node::kernel::tick` meets its contract: the ticks in closed form: idle, counted, or a timeout with what is left over. Assumes nothing.
use Prim.Native.Nat.{◌+◌, ◌<◌, ◌≤◌, ℕ}
use native.Mathlib.Omega.{arith}
use mathlib.Core.List.{[], ◌∷◌}
use mathlib.Core.Path.{◌∙◌, ◌≡◌, ap, refl, sym}
use lib.ListN.{length}
use Rattle.rules.specs.Build.{paper01}
use Rattle.rules.specs.Memory.{size, timer_at, word}
use Rattle.rules.specs.Node.{with_timer}
use Rattle.rules.specs.Operation.{tick, timeout_trap}
use Rattle.rules.specs.Step.{valued}
use Rattle.rules.proofs.Steps.SoundLaws.{valid-sound}
use Rattle.rules.proofs.Steps.QuietLaws.{counted-quiet, valid-quiet}
use Rattle.memory.proofs.PieceLaws.{holds-pieces}
use Rattle.memory.proofs.PieceWrites.{timer-held}
use Rattle.memory.proofs.WriteLaws.{wrote_as, wrote-set}
use Rattle.node.specs.Steps.{late}
use Rattle.node.proofs.kernel.KernelLaws.{late-sound, tick-accepted, tick-counted, tick-idle, tick-many, tick-none, tick-timeout, valid-ticking}
use Rattle.node.proofs.StepMap.{acting-unsettled, one-act, stepping-quiet, stepping-refused}
use Rattle.node.proofs.kernel.tick.Goals as goal
use Rattle.node.proofs.kernel.tick.Goals.{then-k-eq0-via-then-k-eq0, then-k-eq0-via-else-k-eq0+then-k-gt-TICK_LIMIT}
use Rattle.node.proofs.kernel.tick.Lts as lts
use Rattle.node.proofs.kernel.tick.Tie as tie
use Rattle.node.proofs.kernel.tick.Reads as past

-- The places of the code that lemmas speak of.

abbrev Start : Type 0
Start = lts.Start tie.the-claims past.Pre past.Post

long : (c : Start) → size ≤ length c.args.m.now
long c = (holds-pieces c.requires.holds).long

-- the timer is below the timeout
timer-low : (c : Start) → word c.args.m.now timer_at < paper01.timeout
timer-low c = rw (holds-pieces c.requires.holds).timer c.requires.fact.timer-bound

pub returns-then-k-eq0 : goal.returns-then-k-eq0
returns-then-k-eq0 c n r h v =
    let k = c.args.k in
    stepping-refused (tick k) 14
    (elim c.then-k-eq0.branch [
      | then-k-eq0-via-then-k-eq0 w ↦ tick-none n k w.if-k-eq0.true
      | then-k-eq0-via-else-k-eq0+then-k-gt-TICK_LIMIT w ↦ tick-many n k w.if-k-eq0.false w.if-k-gt-TICK_LIMIT.true
    ]) h

pub returns-then-not-timer_runs : goal.returns-then-not-timer_runs
unfolding valued
returns-then-not-timer_runs c n r h v =
    let k = c.args.k in
    let rests = c.timer_runs.ensures n r h (valid-sound v) ∙ c.if-not-timer_runs.true in
    rw c.accepted.ensures
    (stepping-quiet (tick k) (valued 0 n) (one-act n (tick k) tt (tick-accepted n k c.if-k-eq0.false c.if-k-gt-TICK_LIMIT.false) (tick-idle v k rests)) (valid-quiet v) h refl)

pub bounds-m-1 : goal.bounds-m-1
bounds-m-1 c = let l = long c.before.before.before.before.before.before.before in omega arith

pub overflow_add-t : goal.overflow_add-t
unfolding word
overflow_add-t c = let l = timer-low c.before.before.before.before.before.before.before in let k = c.if-k-gt-TICK_LIMIT.false in omega arith

pub bounds-m-1-then-t-lt-TIMEOUT : goal.bounds-m-1-then-t-lt-TIMEOUT
bounds-m-1-then-t-lt-TIMEOUT c = let l = long c.before.before.before.before.before.before.before in omega arith

pub returns-then-t-lt-TIMEOUT : goal.returns-then-t-lt-TIMEOUT
unfolding word valued
returns-then-t-lt-TIMEOUT c n r h v =
    let k = c.args.k in
    let m = c.args.m.now in
    let t = (holds-pieces h).timer in
    let l = (holds-pieces h).long in
    let runs = c.timer_runs.ensures n r h (valid-sound v) ∙ c.if-not-timer_runs.false in
    let e : word m timer_at + k ≡ n.timer + k = ap (λ (x : ℕ). x + k) t in
    rw c.accepted-then-t-lt-TIMEOUT.ensures
    (stepping-quiet (tick k) (valued 0 (with_timer (n.timer + k) n))
    (one-act n (tick k) tt (tick-accepted n k c.if-k-eq0.false c.if-k-gt-TICK_LIMIT.false) (tick-counted v k runs (omega (arith, c.if-t-lt-TIMEOUT.true))))
    (counted-quiet v runs (n.timer + k))
    (timer-held h (n.timer + k) (wrote_as (wrote-set m timer_at (word m timer_at + k) (omega arith)) (ap (λ (x : ℕ). x ∷ []) e))) refl)

pub timeout-requires : goal.timeout-requires
timeout-requires c =
    let p = c.requires in
    let runs = c.timer_runs.ensures p.node p.rest p.holds (valid-sound p.fact) ∙ c.if-not-timer_runs.false in
    record { node = p.node; rest = p.rest; holds = p.holds; fact = valid-ticking p.fact runs }

pub returns : goal.returns
unfolding word
returns c n r h v =
    let k = c.args.k in
    let m = c.args.m.now in
    let timer = (holds-pieces h).timer in
    let runs = c.timer_runs.ensures n r h (valid-sound v) ∙ c.if-not-timer_runs.false in
    let e : word m timer_at + k ≡ n.timer + k = ap (λ (x : ℕ). x + k) timer in
    let t = c.timeout.ensures n r h (valid-ticking v runs) in
    rw t.told
    (acting-unsettled (tick k) (late (word m timer_at + k) n).node timeout_trap (length n.queue)
    (one-act n (tick k) tt (tick-accepted n k c.if-k-eq0.false c.if-k-gt-TICK_LIMIT.false) (tick-timeout v k runs (omega (arith, c.if-t-lt-TIMEOUT.false)) ∙ ap (λ (x : ℕ). late x n) (sym e)))
    (late-sound (valid-ticking v runs) (word m timer_at + k)) v.queue-length t.holds)
