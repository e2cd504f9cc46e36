-- `memory::descriptor::Descriptor::described` meets its contract. The word is set at the first place past the others, which was 0.
-- Assumes nothing.
use Rattle.memory.proofs.descriptor.DescriptorLaws.{described-more}
use Rattle.memory.proofs.descriptor.Descriptor.described.Goals as goal

pub returns : goal.returns
returns c d e = described-more d c.args.w c.args.self e c.requires
