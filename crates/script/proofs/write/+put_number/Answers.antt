-- `script::write::put_number` meets its contract. A number below ten is one digit. Any other is its tenth, which the call writes, and its last
-- digit behind it. Assumes nothing.
use Prim.Native.Nat.{◌+◌, ◌%◌}
use native.Mathlib.Omega.{arith}
use mathlib.Core.Path.{sym}
use Rattle.script.proofs.write.AppendedLaws.{appended-byte, appended-next, appended-as}
use Rattle.script.proofs.write.DecimalLaws.{decimal-small, decimal-more, decimal-some, decimal-longer}
use Rattle.script.proofs.write.+put_number.Goals as goal

pub bounds-out-at : goal.bounds-out-at
bounds-out-at t c = omega (arith, decimal-some c.args.n, c.requires)

pub returns-then-n-lt10 : goal.returns-then-n-lt10
returns-then-n-lt10 t c =
    let a = c.args in
    let w = appended-byte a.out.now a.at (48 + a.n) (omega (arith, decimal-some a.n, c.requires)) in
    appended-as w (sym (decimal-small a.n c.if-n-lt10.true))

pub put_number-last-requires : goal.put_number-last-requires
put_number-last-requires t c = (omega arith, omega (arith, c.requires, decimal-longer c.args.n c.if-n-lt10.false))

-- there is room for the last digit
pub bounds-out-last : goal.bounds-out-last
bounds-out-last t c =
    let w = c.put_number-last.ensures in
    omega (arith, c.requires, decimal-longer c.args.n c.if-n-lt10.false, w.same_length, w.end)

pub returns : goal.returns
returns t c =
    let a = c.args in
    let w = c.put_number-last.ensures in
    appended-as (appended-next w (48 + a.n % 10) (omega (arith, c.requires, decimal-longer a.n c.if-n-lt10.false, w.same_length, w.end)))
    (sym (decimal-more a.n c.if-n-lt10.false))
