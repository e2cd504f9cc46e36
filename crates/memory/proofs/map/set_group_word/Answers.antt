-- `memory::map::set_group_word` meets its contract. Assumes nothing.
use Prim.Native.Nat.{◌+◌}
use native.Mathlib.Omega.{arith}
use Rattle.rules.specs.Memory.{group_address}
use Rattle.memory.proofs.group.GroupLaws.{record-within}
use Rattle.memory.proofs.WriteLaws.{wrote-set}
use Rattle.memory.proofs.map.set_group_word.Goals as goal

pub returns : goal.returns
returns c =
    let a = c.args in
    let l = record-within a.g c.requires.high in
    rw c.group_at.ensures (wrote-set a.m.now (group_address a.g + a.k) a.x (omega (arith, c.requires)))
