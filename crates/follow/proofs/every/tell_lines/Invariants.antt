-- `follow::every::tell_lines` meets its contract: at each turn the lines so far are stepped and told, and the memory is still known to be a node or none. The
-- measure is what is left of the lines. Assumes nothing.
use Prim.Native.Nat.{◌-◌}
use mathlib.Core.Path.{◌≡◌}
use lib.ListN.{length, take}
use Rattle.script.specs.Read.{field_limit}
use Rattle.script.specs.declared.play.Stop.TheVariants.{AllUsed}
use Rattle.follow.proofs.every.EveryLaws.{Telling-lines}
use Rattle.follow.proofs.every.tell_lines.Given as goal

abbrev pub invariant-loop-r : goal.invariant-loop-r
invariant-loop-r l =
    (length l.memory ≡ length l.initial.memory)
    × ((length l.kept ≡ length l.initial.kept)
    × ((length l.waiting ≡ length l.initial.waiting)
    × ((length l.out ≡ length l.initial.out)
    × ((length l.fields ≡ field_limit)
    × ((l.r.stop ≡ AllUsed) × Telling-lines l.initial.memory (take l.begun l.initial.kept) l.whole l.lines (take l.count l.initial.waiting) l.initial.out l.memory l.kept l.waiting l.out l.r)))))

abbrev pub decreases-loop-r : goal.decreases-loop-r
decreases-loop-r l = length l.whole - l.r.used
