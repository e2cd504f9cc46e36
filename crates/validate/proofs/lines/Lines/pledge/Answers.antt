-- `validate::lines::Lines::pledge` meets its contract: h and n are within the pages of the list, and the queue has at most 16 messages, so the sum
-- fits. Assumes nothing.
use Prim.Native.Nat.{ℕ, ◌+◌, ◌≤◌}
use native.Mathlib.Omega.{arith}
use mathlib.Core.List.{List}
use lib.ListN.{get_or}
use Rattle.rules.specs.Build.{group_count}
use Rattle.rules.specs.Frames.{ceil_div}
use Rattle.rules.specs.Memory.{word, queued_at, group_address, used_offset, count_offset}
use Rattle.validate.specs.Known.{Lined, QueueCounts}
use Rattle.validate.proofs.frames.PlaceLaws.{room}
use Rattle.validate.proofs.lines.CountLaws.{queued-few, pledge-words}
use Rattle.validate.proofs.lines.Lines.pledge.Goals as goal

-- at most 768 places, and at most 16 messages
few : (m queued : List ℕ) (g : ℕ) → Lined m → QueueCounts m (word m queued_at) queued → 1 ≤ g → g ≤ group_count
    → (word m (group_address g + used_offset) + word m (group_address g + count_offset) ≤ 768) × (get_or queued g 0 ≤ 16)
few m queued g l counts low high =
    let f = l.framed g low high in (
      omega (arith, room m g f, f.few),
      omega (arith, counts.each g (omega arith), queued-few m (word m queued_at) g, l.counted.queued),
    )

pub overflow_add-places : goal.overflow_add-places
overflow_add-places c =
    let s = c.args.self.now in
    omega (arith, few s.m.now s.queued c.args.g s.lined s.counted c.requires.0 c.requires.1)

pub overflow_add-places-2 : goal.overflow_add-places-2
overflow_add-places-2 c =
    let s = c.args.self.now in
    omega (arith, few s.m.now s.queued c.args.g s.lined s.counted c.requires.0 c.requires.1)

pub frames_for-requires : goal.frames_for-requires
frames_for-requires c =
    let s = c.args.self.now in
    omega (arith, few s.m.now s.queued c.args.g s.lined s.counted c.requires.0 c.requires.1)

pub returns : goal.returns
unfolding ceil_div
returns c =
    let s = c.args.self.now in
    let g = c.args.g in
    let bound = few s.m.now s.queued g s.lined s.counted c.requires.0 c.requires.1 in
    let queued = s.counted.each g (omega arith) in (
      rw (pledge-words s.m.now g c.requires.0 c.requires.1, ← queued, ← c.group_word.ensures, ← c.group_word-2.ensures)
          c.frames_for.ensures,
      omega (arith, bound, c.frames_for.ensures),
    )
