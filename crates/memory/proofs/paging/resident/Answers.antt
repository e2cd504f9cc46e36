-- `memory::paging::resident` meets its contract. Assumes nothing.
use mathlib.Core.Path.{subst}
use Rattle.rules.specs.Node.{Node}
use Rattle.memory.specs.Holds.{Holds}
use Rattle.memory.proofs.paging.PrepareLaws.{resident-away, resident-here}
use Rattle.memory.proofs.paging.resident.Goals as goal

pub returns-else-p-ge-FRAMES : goal.returns-else-p-ge-FRAMES
returns-else-p-ge-FRAMES c n r h owned =
    let a = c.args in
    subst (λ (k : Node). Holds a.m.now k r) (resident-here a.p n c.if-p-ge-FRAMES.false) h

pub returns-then-p-ge-FRAMES : goal.returns-then-p-ge-FRAMES
returns-then-p-ge-FRAMES c n r h owned =
    let a = c.args in
    let high = c.if-p-ge-FRAMES.true in
    subst (λ (k : Node). Holds c.bring_in.new.m k r) (resident-away a.p n high)
    (c.bring_in.ensures n r h (record { owned = owned; high = high }))
