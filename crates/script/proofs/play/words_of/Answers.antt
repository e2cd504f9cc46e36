-- `script::play::words_of` meets its contract: a line without fields has no words either. Assumes nothing.
use Prim.Native.Nat.{◌-◌}
use native.Mathlib.Omega.{arith}
use mathlib.Core.Path.{◌≡◌}
use Rattle.script.proofs.play.words_of.Goals as goal

pub returns-then-count-eq0 : goal.returns-then-count-eq0
returns-then-count-eq0 c = let e = c.if-count-eq0.true in let z : c.args.count - 1 ≡ 0 = omega arith in rw z
