-- The running group as it is read from memory, and its flags set. Assumes nothing.
use Prim.Native.Nat.{◌≤◌, ℕ}
use native.Mathlib.Omega.{arith}
use mathlib.Core.Bool.{Bool}
use mathlib.Core.List.{List}
use mathlib.Core.Path.{◌≡◌, subst}
use lib.ListN.{length}
use Rattle.rules.specs.Build.{group_count}
use Rattle.rules.specs.Memory.{count_offset, flag_word, group_address, running_at, word}
use Rattle.rules.specs.Node.{Node, group_of}
use Rattle.rules.specs.Step.{flagged, timer_flagged}
use Rattle.rules.proofs.Map.MapParts.{GroupStands}
use Rattle.memory.specs.Holds.{Holds, flagging, timer_flagging}
use Rattle.memory.specs.Writes.{InGroup, group_read}
use Rattle.memory.proofs.group.GroupLaws.{group-words}
use Rattle.memory.proofs.PieceLaws.{holds-pieces}

module _ {m : List ℕ} {n : Node} {r : List ℕ} (h : Holds m n r) where
  -- its number
  runner : word m running_at ≡ n.running
  runner = (holds-pieces h).running

  -- its flags set
  pub runner-flagged : {m' : List ℕ} (a p : Bool) → Holds m' (flagging (word m running_at) a p n) r → Holds m' (flagged a p n) r
  unfolding flagging flagged
  runner-flagged {m'} a p k = subst (λ (g : ℕ). Holds m' (flagging g a p n) r) runner k

  pub runner-timer-flagged : {m' : List ℕ} (f s : Bool) → Holds m' (timer_flagging (word m running_at) f s n) r → Holds m' (timer_flagged f s n) r
  unfolding timer_flagging timer_flagged
  runner-timer-flagged {m'} f s k = subst (λ (g : ℕ). Holds m' (timer_flagging g f s n) r) runner k

  module _ (low : 1 ≤ n.running) (high : n.running ≤ group_count) where
    -- its record lies within memory of the same length
    pub runner-in : (m' : List ℕ) → length m' ≡ length m → InGroup m' (word m running_at) count_offset
    runner-in m' l = record { long = omega (arith, (holds-pieces h).long); low = rw runner low; high = rw runner high; inside = omega arith }

    -- its flags and counts are read
    runner-words : GroupStands m (group_address (word m running_at)) (group_of n n.running)
    runner-words =
        subst (λ (g : ℕ). GroupStands m (group_address (word m running_at)) (group_of n g)) runner
        (group-words (holds-pieces h) h.mapped (word m running_at) (rw runner low) (rw runner high))

    pub runner-atomic : (group_read m (word m running_at)).atomic ≡ flag_word (group_of n n.running).atomic
    runner-atomic = runner-words.atomic

    pub runner-pending : (group_read m (word m running_at)).pending ≡ flag_word (group_of n n.running).pending
    runner-pending = runner-words.pending

    pub runner-force : (group_read m (word m running_at)).force ≡ flag_word (group_of n n.running).force
    runner-force = runner-words.force

    pub runner-revoked : (group_read m (word m running_at)).revoked ≡ flag_word (group_of n n.running).revoked
    runner-revoked = runner-words.revoked

    pub runner-count : (group_read m (word m running_at)).count ≡ (group_of n n.running).buffer.count
    runner-count = runner-words.count
