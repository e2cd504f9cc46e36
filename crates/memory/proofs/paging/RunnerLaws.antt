-- The running group's list of pages, as it is read from memory. Assumes nothing.
use Prim.Native.Nat.{ℕ, ◌+◌, ◌≤◌}
use native.Mathlib.Decide.{ℕ_discrete}
use native.Mathlib.Omega.{arith}
use mathlib.Core.List.{List}
use mathlib.Core.Path.{◌≡◌}
use lib.ListN.{get_or, length}
use Rattle.rules.specs.Build.{group_count, paper01}
use Rattle.rules.specs.Memory.{group_address, held_offset, list_offset, running_at, word}
use Rattle.rules.specs.Node.{Node, group_of}
use Rattle.rules.specs.Sound.{Sound}
use Rattle.memory.specs.Holds.{Holds}
use Rattle.memory.proofs.PieceLaws.{holds-pieces}
use Rattle.memory.proofs.group.GroupLaws.{list-line}
use Rattle.memory.proofs.lines.LineLaws.{line_first}

-- a group runs, and has a page
abbrev pub Paged : List ℕ → Type 0
Paged m = (1 ≤ word m running_at) × (1 ≤ word m (group_address (word m running_at) + held_offset))

-- else nobody runs, or the running group has none
pub pageless : {P : Type 0} (m : List ℕ) → (Paged m → ⊥) → (word m running_at ≡ 0 → P) → (1 ≤ word m running_at → word m (group_address (word m running_at) + held_offset) ≡ 0 → P) → P
pageless {P} m none nobody empty = go (ℕ_discrete (word m running_at) 0) (ℕ_discrete (word m (group_address (word m running_at) + held_offset)) 0)
  where
    go : Dec (word m running_at ≡ 0) → Dec (word m (group_address (word m running_at) + held_offset) ≡ 0) → P
    go (yes e) d = nobody e
    go (no d) (yes e) = empty (omega arith) e
    go (no d) (no t) = absurd (none (omega arith, omega arith))

module _ {m : List ℕ} {n : Node} {r : List ℕ} (h : Holds m n r) (s : Sound paper01 n) (low : 1 ≤ word m running_at) where
  pub runs : 1 ≤ n.running
  runs = omega (arith, (holds-pieces h).running)

  pub runner-high : word m running_at ≤ group_count
  runner-high = omega (arith, (holds-pieces h).running, s.running-bound)

  -- how many pages it has
  pub runner-held : word m (group_address (word m running_at) + held_offset) ≡ length (group_of n n.running).buffer.frames
  runner-held = rw (holds-pieces h).running (list-line (holds-pieces h) h.mapped n.running runs s.running-bound).counted

  -- and the first of them
  pub runner-first : 1 ≤ length (group_of n n.running).buffer.frames
      → word m (group_address (word m running_at) + list_offset) ≡ get_or (group_of n n.running).buffer.frames 0 0
  runner-first some = rw (holds-pieces h).running (line_first (list-line (holds-pieces h) h.mapped n.running runs s.running-bound) some)
