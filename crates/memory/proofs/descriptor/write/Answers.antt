-- `memory::descriptor::write` meets its contract. Length and words are written one behind the other in the group's record, and nothing else
-- of it. Assumes nothing.
use Prim.Native.Nat.{ℕ, ◌+◌, ◌-◌}
use native.Mathlib.Omega.{arith}
use mathlib.Core.List.{◌∷◌}
use mathlib.Core.Path.{ap}
use lib.ListN.{length, length-drop, length-take}
use Rattle.rules.specs.Build.{word_limit}
use Rattle.rules.specs.Lists.{pad}
use Rattle.rules.specs.Memory.{described_offset}
use Rattle.rules.proofs.Steps.ListLaws.{length-pad}
use Rattle.memory.proofs.WriteLaws.{wrote_at, wrote-part}
use Rattle.memory.proofs.descriptor.DescriptorLaws.{descriptor-held}
use Rattle.memory.proofs.group.GroupLaws.{record-within}
use Rattle.memory.proofs.descriptor.write.Goals as goal

pub overflow_add-at : goal.overflow_add-at
overflow_add-at c = let i = record-within c.args.g c.requires.le_g.1 in omega (arith, c.group_at-at.ensures)

pub offset_bounds-m-at : goal.offset_bounds-m-at
offset_bounds-m-at c = let i = record-within c.args.g c.requires.le_g.1 in omega (arith, c.group_at-at.ensures)

pub slice_bounds-put_message-count : goal.slice_bounds-put_message-count
slice_bounds-put_message-count c = let i = record-within c.args.g c.requires.le_g.1 in omega (arith, c.group_at-at.ensures, c.requires.size_in_bounds)

pub slice_bounds-put_message-start : goal.slice_bounds-put_message-start
slice_bounds-put_message-start c = let i = record-within c.args.g c.requires.le_g.1 in omega (arith, c.group_at-at.ensures, c.requires.size_in_bounds)

pub put_message-requires : goal.put_message-requires
put_message-requires c =
    let i = record-within c.args.g c.requires.le_g.1 in
    simp (length-take, length-drop) (omega (arith, c.group_at-at.ensures, c.requires.size_in_bounds))

pub returns : goal.returns
returns c d few e n r h any =
    let g = c.args.g in
    let m = c.args.m.now in
    let at = c.group_at-at.result + described_offset in
    let i = record-within g c.requires.le_g.1 in
    let l = length-pad word_limit d in
    let w =
    wrote-part m c.put_message.new.part at (length m - at) (length d ∷ pad word_limit d) (omega (arith, c.group_at-at.ensures, c.requires.size_in_bounds))
    (simp (length-take, length-drop) (omega (arith, c.group_at-at.ensures, c.requires.size_in_bounds)))
    (rw e at c.put_message.ensures) in
    descriptor-held h g c.requires.le_g.0 c.requires.le_g.1 d few (wrote_at w (ap (λ (a : ℕ). a + described_offset) c.group_at-at.ensures))
