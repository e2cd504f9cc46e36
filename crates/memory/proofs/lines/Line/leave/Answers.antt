-- `memory::lines::Line::leave` meets its contract. Assumes nothing.
use native.Mathlib.Omega.{arith}
use mathlib.Core.Path.{refl}
use Rattle.rules.specs.Memory.{word}
use Rattle.memory.proofs.WriteLaws.{wrote-set}
use Rattle.memory.proofs.lines.Line.leave.Goals as goal

pub returns : goal.returns
unfolding word
returns c =
    let w = c.shift.ensures in
    record { number = refl; between = c.shift.new.m; moved = w; counted = wrote-set _ _ _ (omega (arith, w.same_length)) }
