-- The descriptor as a value, and a group's descriptor replaced. Assumes nothing.
use Rattle.std.specs.Prelude.{ℕ, List, length}
use Rattle.rules.specs.Build.{word_limit}
use Rattle.rules.specs.Lists.{pad}
use Rattle.rules.specs.Node.{Node, group_of, with_descriptor, with_group}
use Rattle.memory.specs.declared.descriptor.Descriptor.{Descriptor as Descriptor·rt}

-- "a descriptor of 0 to 8 words", 0 past them
abbrev pub descriptor_of : List ℕ → Descriptor·rt
descriptor_of d = record { len = length d; words = pad word_limit d }

-- the node in which group g has this descriptor
unfoldable pub redescribed : ℕ → List ℕ → Node → Node
redescribed g d n = with_group g (with_descriptor d (group_of n g)) n
