-- `follow::one::finish` meets its contract: a line that has begun gets its newline. Assumes nothing.
use mathlib.Core.Path.{◌∙◌, sym}
use Rattle.follow.proofs.one.FollowLaws.{finished-begun, finished-none}
use Rattle.follow.proofs.one.finish.Goals as goal

pub returns-then-begun : goal.returns-then-begun
returns-then-begun c = finished-begun (sym c.if-begun.true ∙ c.begun.ensures) c.follow-ended.ensures c.told_at.ensures

pub returns-else-begun : goal.returns-else-begun
returns-else-begun c = finished-none (sym c.if-begun.false ∙ c.begun.ensures) c.told_at-else-begun.ensures
