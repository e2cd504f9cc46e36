-- `memory::words::put_message` meets its contract: the length, and the eight words behind it. Assumes nothing.
use native.Mathlib.Omega.{arith}
use mathlib.Core.Path.{refl}
use Rattle.memory.proofs.WriteLaws.{wrote-set, wrote_then}
use Rattle.memory.proofs.words.put_message.Goals as goal

pub returns : goal.returns
returns c = let a = c.args in wrote_then (wrote-set a.part.now 0 a.message.len (omega arith)) 1 refl c.put_eight.ensures
