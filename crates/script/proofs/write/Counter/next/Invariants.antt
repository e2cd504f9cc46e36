-- `script::write::Counter::next` meets its contract. The loop's invariant: from place i on nines have become zeros. A digit that is no nine is one
-- more. Where no place is left all were nines, and there is room for a digit more, for the number is not the largest. Assumes nothing.
use mathlib.Core.Path.{◌≡◌}
use Rattle.script.proofs.write.CarryLaws.{Carrying}
use Rattle.script.proofs.write.Counter.next.Given as goal

abbrev pub invariant-loop-i : goal.invariant-loop-i
invariant-loop-i l = (l.self.len ≡ l.initial.self.len) × Carrying l.initial.self.digits l.initial.self.len l.self.digits l.i
