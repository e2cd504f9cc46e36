-- The words of a node that are read after an arrival: who runs, how many are queued, and how many a group's buffer holds. Assumes nothing.
use Prim.Native.Nat.{ℕ, zero, suc, ◌+◌, ◌*◌, ◌-◌, ◌≤◌, ◌<◌}
use native.Mathlib.Omega.{arith}
use mathlib.Core.List.{List}
use mathlib.Core.Path.{◌≡◌, refl, sym, ap, ◌∙◌}
use lib.ListN.{length, get_or}
use borrow.Author.Tests.{eq-eqb, ne_eqb, lt-ltb, le-ltb}
use Rattle.rules.specs.Build.{group_count}
use Rattle.rules.specs.Memory.{word, messages_at, group_at, groups_from, group_address, group_stride, groups_at, buffer_at, node_at, queue_at, queue_stride, queued_at, count_offset, size}
use Rattle.rules.specs.Node.{Group, empty_group, group_of}
use Rattle.rules.proofs.Map.MapLaws.{test-size}
use Rattle.memory.specs.Writes.{InGroup}
use Rattle.reasons.specs.ByPlace.{own_reason}
use Rattle.follow.specs.Seen.{Arrival}

-- as many messages are read as asked for
length-messages : (m : List ℕ) (a k : ℕ) → length (messages_at m a k) ≡ k
unfolding messages_at
length-messages m a zero = refl
length-messages m a (suc k) = ap suc (length-messages m (a + queue_stride) k)

pub queue-count : (m : List ℕ) → word m queued_at ≡ length (node_at m).queue
unfolding node_at
queue-count m = sym (length-messages m queue_at (word m queued_at))

-- the i-th of the groups
getD-groups : (m : List ℕ) (a k i : ℕ) → i < k → get_or (groups_from m a k) i empty_group ≡ group_at m (a + group_stride * i)
unfolding groups_from
getD-groups m a zero i h = absurd (omega arith)
getD-groups m a (suc k) zero h = let e : a ≡ a + group_stride * 0 = omega arith in ap (group_at m) e
getD-groups m a (suc k) (suc i) h =
    let e : a + group_stride + group_stride * i ≡ a + group_stride * suc i = omega arith in
    getD-groups m (a + group_stride) k i (omega arith) ∙ ap (group_at m) e

pub group-count : (m : List ℕ) (g : ℕ) → 1 ≤ g → g ≤ group_count → word m (group_address g + count_offset) ≡ (group_of (node_at m) g).buffer.count
unfolding group_of node_at group_address group_at buffer_at
group-count m zero low high = absurd (omega arith)
group-count m (suc g) low high =
    let e : groups_at + group_stride * (suc g - 1) ≡ groups_at + group_stride * g = omega arith in
    ap (λ (a : ℕ). word m (a + count_offset)) e
    ∙ sym (ap (λ (G : Group). G.buffer.count) (getD-groups m groups_at group_count g (omega arith)))

-- who runs stands first
runner-read : (m : List ℕ) → get_or m 0 0 ≡ (node_at m).running
unfolding node_at word
runner-read m = refl

-- An arrival that moved.

module _ {m : List ℕ} {g : ℕ} (a : Arrival m g) where
  pub arrival-long : size ≤ length m
  arrival-long = test-size m a.node

  pub arrival-count : InGroup m g count_offset
  arrival-count = record { long = arrival-long; low = a.low; high = a.high; inside = omega arith }

  -- its group doesn't run
  pub own-other : (g ≡ get_or m 0 0 → ⊥) → 3 ≡ own_reason (node_at m) g
  unfolding own_reason
  own-other h = rw (ne_eqb g (node_at m).running (λ e. h (e ∙ sym (runner-read m))))

  -- it runs, and the buffer holds more than this one, or not
  pub own-older : g ≡ get_or m 0 0 → {n : ℕ} → n ≡ word m (group_address g + count_offset) → 1 < n → 4 ≡ own_reason (node_at m) g
  unfolding own_reason
  own-older e {n} c h =
      let k = group-count m g a.low a.high in
      rw (eq-eqb g (node_at m).running (e ∙ runner-read m), lt-ltb 1 (group_of (node_at m) g).buffer.count (omega arith))

  pub own_alone : g ≡ get_or m 0 0 → {n : ℕ} → n ≡ word m (group_address g + count_offset) → n ≤ 1 → 5 ≡ own_reason (node_at m) g
  unfolding own_reason
  own_alone e {n} c h =
      let k = group-count m g a.low a.high in
      rw (eq-eqb g (node_at m).running (e ∙ runner-read m), le-ltb 1 (group_of (node_at m) g).buffer.count (omega arith))
