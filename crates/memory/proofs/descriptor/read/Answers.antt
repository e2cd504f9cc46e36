-- `memory::descriptor::read` meets its contract. Length and words stand one behind the other in the group's record. Assumes nothing.
use Prim.Native.Nat.{◌+◌}
use native.Mathlib.Omega.{arith}
use mathlib.Core.Path.{◌≡◌}
use Rattle.rules.specs.Memory.{group_address}
use Rattle.memory.proofs.descriptor.DescriptorLaws.{descriptor-read}
use Rattle.memory.proofs.group.GroupLaws.{record-within}
use Rattle.memory.proofs.descriptor.read.Goals as goal

pub overflow_add-group_at : goal.overflow_add-group_at
overflow_add-group_at c = let i = record-within c.args.g c.requires.le_g.1 in omega (arith, c.group_at.ensures)

pub message-requires : goal.message-requires
message-requires c = let i = record-within c.args.g c.requires.le_g.1 in omega (arith, c.group_at.ensures, c.requires.size_in_bounds)

pub returns : goal.returns
returns c n r h =
    let behind : group_address c.args.g + 7 + 1 ≡ group_address c.args.g + 8 = omega arith in
    rw (c.message.ensures, c.group_at.ensures, behind) (descriptor-read h c.args.g c.requires.le_g.0 c.requires.le_g.1)
