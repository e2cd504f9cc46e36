-- Where the running group's first message stands in the memory of a node. Assumes nothing.
use Rattle.std.specs.Prelude.{ℕ, List, ◌≡◌, drop, take}
use Rattle.rules.specs.Build.{paper01}
use Rattle.rules.specs.MemoryTest.{Part, runner_part}
use Rattle.rules.specs.Node.{Node}
use Rattle.rules.specs.Valid.{Valid}
use Rattle.memory.specs.Holds.{Holds}
use Rattle.node.specs.declared.message.Part.{Part as Part·rt}

-- a part of the memory
abbrev pub part_of : Part → Part·rt
part_of p = record { start = p.start; len = p.len }

-- and back
abbrev pub shown_by : Part·rt → Part
shown_by p = record { start = p.start; len = p.len }

-- whatever node m holds, p is the part with the words of its running group's first message, empty if there is none
abbrev pub FirstPart : List ℕ → Part·rt → Type 0
FirstPart m p = (n : Node) (r : List ℕ) → Holds m n r → Valid paper01 n → p ≡ part_of (runner_part m n)

-- and ws are these words
abbrev pub FirstWords : List ℕ → List ℕ → Type 0
FirstWords m ws =
    (n : Node) (r : List ℕ) → Holds m n r → Valid paper01 n → ws ≡ take (runner_part m n).len (drop (runner_part m n).start m)
