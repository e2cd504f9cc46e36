-- `script::write::put_field` meets its contract: a comma, and behind it the digit of a number below ten, or the digits that `put_number` writes, of
-- which a number of 32 bits has at most ten. Assumes nothing.
use Prim.Native.Nat.{◌+◌, ℕ}
use native.Mathlib.Omega.{arith}
use mathlib.Core.List.{List, ◌∷◌}
use mathlib.Core.Path.{sym, ap, ◌∙◌}
use lib.ListN.{length-set}
use Rattle.script.specs.Written.{field}
use Rattle.script.proofs.write.AppendedLaws.{appended-byte, appended-next, appended-as, appended-to, appended_then}
use Rattle.script.proofs.write.DecimalLaws.{decimal-small, decimal-ten}
use Rattle.script.proofs.write.put_field.Goals as goal

pub bounds-out-at-then-n-lt10 : goal.bounds-out-at-then-n-lt10
bounds-out-at-then-n-lt10 c = simp length-set (omega (arith, c.requires))

pub shape_of-out-then-n-lt10 : goal.shape_of-out-then-n-lt10
shape_of-out-then-n-lt10 c = simp length-set

pub returns-then-n-lt10 : goal.returns-then-n-lt10
unfolding field
returns-then-n-lt10 c =
    let a = c.args in
    let p = c.requires in
    let comma = appended-byte a.out.now a.at 44 (omega arith) in
    let w = appended-next comma (48 + a.n) (omega arith) in
    (appended-to (appended-as w (ap (λ (t : List ℕ). 44 ∷ t) (sym (decimal-small a.n c.if-n-lt10.true)))) (omega arith), omega arith)

pub put_number-requires : goal.put_number-requires
put_number-requires c =
    simp length-set (omega (arith, c.requires, decimal-ten c.args.n c.ranges.n.fits))

pub shape_of-out : goal.shape_of-out
shape_of-out c = c.put_number.ensures.same_length ∙ simp length-set

pub returns : goal.returns
unfolding field
returns c =
    let a = c.args in
    let p = c.requires in
    let comma = appended-byte a.out.now a.at 44 (omega arith) in
    let w = c.put_number.ensures in
    (appended_then comma w, omega (arith, w.end, decimal-ten a.n c.ranges.n.fits))
