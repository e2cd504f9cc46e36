-- Where the head message can stand: within the node's own words, so that its place and its length are words too. Assumes nothing.
use Prim.Native.Nat.{ℕ, ◌≤◌}
use native.Mathlib.Decide.{ℕ_discrete}
use native.Mathlib.Omega.{arith}
use mathlib.Core.Bool.{Bool, true, false}
use mathlib.Core.List.{List}
use mathlib.Core.Path.{◌≡◌, refl}
use Rattle.rules.specs.Build.{word_limit}
use Rattle.rules.specs.Memory.{buffer_at, frame_address, node_at, size}
use Rattle.rules.specs.MemoryTest.{Part, buffer_part, first_place, head_part, is_memory, queue_part, runner_part}
use Rattle.rules.proofs.Map.MapHead.{first-bounded, good-buffer, nobody-part, part-cases, untested-part, tested-part, head-shows}
use Rattle.rules.proofs.Map.MapLaws.{test-valid}

-- both are small
pub record Small (p : Part) : Type 0 where
  pub start : p.start ≤ size
  pub len : p.len ≤ word_limit

module _ (m : List ℕ) (t : is_memory m ≡ true) where
  -- in a page, at the head of the queue, or nowhere
  part_low : 1 ≤ (node_at m).running → (runner_part m (node_at m)).start ≤ size
  unfolding buffer_part first_place frame_address queue_part buffer_at
  part_low low =
      let g = (node_at m).running in
      let high = (test-valid m t).running-bound in
      part-cases m (node_at m) low (λ p. p.start ≤ size)
      (λ none. omega arith)
      (λ waits. omega (arith, first-bounded m t g low high waits, (good-buffer m t g low high waits).used-bound))
      (λ direct some. omega arith)

  tested-small : Small (head_part m)
  tested-small = rw (tested-part m t) (go (ℕ_discrete (node_at m).running 0))
    where
      go : Dec ((node_at m).running ≡ 0) → Small (runner_part m (node_at m))
      go (yes e) = rw (nobody-part m (node_at m) e) (record { start = omega arith; len = omega arith })
      go (no some) = record { start = part_low (omega arith); len = (head-shows m t (omega arith)).few }

-- those that the head call tells
pub head_small : (m : List ℕ) → Small (head_part m)
head_small m = go (is_memory m) refl
  where
    go : (t : Bool) → is_memory m ≡ t → Small (head_part m)
    go true e = tested-small m e
    go false e = rw (untested-part m e) (record { start = omega arith; len = omega arith })
