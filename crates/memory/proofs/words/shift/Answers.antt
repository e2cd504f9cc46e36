-- `memory::words::shift` meets its contract. Assumes nothing.
use Prim.Native.Nat.{◌+◌}
use native.Mathlib.Omega.{arith}
use Rattle.rules.proofs.Map.MapWords.{length-words_at}
use Rattle.memory.proofs.WriteLaws.{wrote_then}
use Rattle.memory.proofs.words.shift.Goals as goal

pub copy-requires : goal.copy-requires
copy-requires c = record { n_in_bounds = (omega arith, omega arith); n_bound = λ l. absurd (omega arith) }

pub returns : goal.returns
returns c =
    let a = c.args in
    let w = c.copy.ensures in
    let l = length-words_at a.m.now (a.at + a.by) a.n in
    wrote_then w (a.at + a.n) (omega arith) c.clear.ensures
