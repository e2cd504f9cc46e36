-- `follow::one::follow_lines` meets its contract: at each turn the lines so far are stepped and followed, and the memory is still known to be a node or none. The
-- measure is what is left of the lines. Assumes nothing.
use Prim.Native.Nat.{◌-◌}
use mathlib.Core.Path.{◌≡◌}
use lib.ListN.{length, take}
use Rattle.script.specs.Read.{field_limit}
use Rattle.follow.proofs.one.FollowLaws.{Going}
use Rattle.follow.proofs.one.follow_lines.Given as goal

abbrev pub invariant-loop-at : goal.invariant-loop-at
invariant-loop-at l =
    (length l.memory ≡ length l.initial.memory)
    × ((length l.kept ≡ length l.initial.kept)
    × ((length l.fields ≡ field_limit) × Going l.initial.memory (take l.count l.initial.kept) l.whole l.lines l.wanted l.initial.r.followed l.memory l.kept l.at l.r))

abbrev pub decreases-loop-at : goal.decreases-loop-at
decreases-loop-at l = length l.whole - l.at
