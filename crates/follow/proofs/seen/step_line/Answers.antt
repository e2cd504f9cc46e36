-- `follow::seen::step_line` meets its contract: the line is read and stepped, and what is seen of it is told by its operation, its report and the memory after it. Assumes nothing.
use mathlib.Core.Path.{ap, ◌∙◌}
use Rattle.rules.specs.Types.{operation_of}
use Rattle.follow.proofs.seen.SeenLaws.{line-stepped, step-known-arrival, step-known-node}
use Rattle.follow.proofs.seen.step_line.Goals as goal

pub queued_after-requires : goal.queued_after-requires
queued_after-requires c = step-known-node _ _ _ c.step_known-r.ensures c.is_arrival-arrival.ensures

pub gone-requires : goal.gone-requires
gone-requires c = step-known-arrival _ _ _ c.step_known-r.ensures _ c.left_by-left.ensures.0

pub returns : goal.returns
returns c = line-stepped _ _ _ c.step_known-r.ensures c.is_arrival-arrival.ensures (ap (operation_of c.read_at-l.result.op) c.words_of.ensures ∙ c.read_at-l.ensures.operation) c.read_at-l.ensures.next c.left_by-left.ensures.0 c.left_by-left.ensures.1 c.queued_after.ensures c.gone.ensures
