-- `memory::group::write` meets its contract: six words written one behind the other are one write. Assumes nothing.
use native.Mathlib.Nat.{add-zero}
use native.Mathlib.Omega.{arith}
use Rattle.rules.specs.Memory.{group_address}
use Rattle.memory.proofs.group.GroupLaws.{record-within}
use Rattle.memory.proofs.WriteLaws.{wrote-six}
use Rattle.memory.proofs.group.write.Goals as goal

pub returns : goal.returns
returns c = let within = record-within c.args.g c.requires.high in rw (c.group_at-a.ensures, add-zero) (wrote-six c.args.m.now (group_address c.args.g) c.args.x.atomic c.args.x.pending c.args.x.force c.args.x.revoked c.args.x.used c.args.x.count (omega (arith, c.requires.long)))
