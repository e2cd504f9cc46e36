-- `memory::lines::Line::list_of` meets its contract. Assumes nothing.
use native.Mathlib.Omega.{arith}
use Rattle.memory.proofs.group.GroupLaws.{record-within}
use Rattle.memory.proofs.lines.Line.list_of.Goals as goal

pub overflow_add-result : goal.overflow_add-result
overflow_add-result c = let l = record-within _ c.requires.1 in omega (arith, c.group_at-at.ensures)

pub overflow_add-result-2 : goal.overflow_add-result-2
overflow_add-result-2 c = let l = record-within _ c.requires.1 in omega (arith, c.group_at-at.ensures)
