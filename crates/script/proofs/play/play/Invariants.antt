-- `script::play::play` meets its contract: at each turn the lines so far are played, and the memory is still known to be a node or none. The
-- measure is what is left of the script. Assumes nothing.
use Prim.Native.Nat.{◌-◌}
use mathlib.Core.Path.{◌≡◌}
use lib.ListN.{length}
use Rattle.script.specs.Read.{field_limit}
use Rattle.script.specs.declared.play.Stop.TheVariants.{AllUsed}
use Rattle.script.proofs.play.PlayLaws.{Playing}
use Rattle.script.proofs.play.play.Given as goal

abbrev pub invariant-loop-p : goal.invariant-loop-p
invariant-loop-p l =
    (length l.memory ≡ length l.initial.memory)
    × ((length l.fields ≡ field_limit)
    × ((l.p.stop ≡ AllUsed) × Playing l.initial.memory l.s l.from l.initial.out l.at l.initial.counter l.memory l.out l.counter l.p.used l.p.at l.p.lines))

abbrev pub decreases-loop-p : goal.decreases-loop-p
decreases-loop-p l = length l.s - l.p.used
