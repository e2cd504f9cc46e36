-- `script::write::Counter::new` meets its contract: a number of 64 bits has at most twenty digits. Assumes nothing.
use native.Mathlib.Omega.{arith}
use mathlib.Core.Path.{refl}
use Rattle.script.proofs.write.CounterLaws.{counts-written}
use Rattle.script.proofs.write.DecimalLaws.{decimal-length}
use Rattle.script.proofs.write.Counter.new.Goals as goal

pub put_number-len-requires : goal.put_number-len-requires
put_number-len-requires c = let l = decimal-length 19 c.args.n (let f = c.ranges.n.fits in omega arith) in omega arith

pub returns : goal.returns
returns c = counts-written c.put_number-len.ensures refl (let f = c.ranges.n.fits in omega arith)
