-- `node::settling::rest_timer` meets its contract. Assumes nothing.
use native.Mathlib.Omega.{arith}
use mathlib.Core.Path.{◌∙◌}
use Rattle.rules.specs.Memory.{timer_at}
use Rattle.memory.proofs.PieceLaws.{holds-pieces}
use Rattle.memory.proofs.PieceWrites.{timer-held}
use Rattle.memory.proofs.WriteLaws.{wrote-set}
use Rattle.node.proofs.settling.TimerLaws.{rest-running, rest-stopped}
use Rattle.node.proofs.settling.rest_timer.Goals as goal

pub bounds-m-1 : goal.bounds-m-1
bounds-m-1 c = omega (arith, (holds-pieces c.requires.holds).long)

pub returns-then-not-timer_runs : goal.returns-then-not-timer_runs
returns-then-not-timer_runs c n r h s =
    rw (rest-stopped n (c.timer_runs.ensures n r h s ∙ c.if-not-timer_runs.true))
    (timer-held h 0 (wrote-set c.args.m.now timer_at 0 (omega (arith, (holds-pieces h).long))))

pub returns-else-not-timer_runs : goal.returns-else-not-timer_runs
returns-else-not-timer_runs c n r h s = rw (rest-running n (c.timer_runs.ensures n r h s ∙ c.if-not-timer_runs.false)) h
