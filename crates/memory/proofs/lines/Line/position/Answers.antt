-- `memory::lines::Line::position` meets its contract: the first of the line's words that is x. Assumes nothing.
use native.Mathlib.Omega.{arith}
use mathlib.Core.Path.{refl}
use lib.ListN.{get_or}
use Rattle.rules.specs.Memory.{word}
use Rattle.std.proofs.Common.{rules, tests}
use Rattle.std.proofs.lemmas.Iterator.{YieldsList-from_range}
use Rattle.std.proofs.lemmas.Iterator.Search.{position_from_yields_List}
use Rattle.memory.proofs.lines.IndexLaws.{found-index, is_here}
use Rattle.memory.proofs.lines.Line.position.Goals as goal

pub returns : goal.returns
unfolding word
returns c =
    let a = c.args in
    let n = get_or a.m.now a.self.count 0 in
    found-index a.m.now a.self.first a.x n
    (position_from_yields_List (is_here a.m.now a.self.first a.x) _ _ c.position.result c.position.ensures.ran (YieldsList-from_range 0 n n refl (omega arith)) (λ i b q k. search (rules, tests)))
