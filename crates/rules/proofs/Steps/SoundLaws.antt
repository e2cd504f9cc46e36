-- A node is sound, and a sound node can be mapped; what of a group a step in the middle leaves. Assumes nothing.
use Prim.Native.Nat.{ℕ, ◌+◌, ◌≤◌}
use mathlib.Core.Path.{◌≡◌, refl, ◌∙◌}
use mathlib.Core.Bool.{true, false}
use native.Mathlib.Omega.{arith}
use lib.ListN.{length, length-append}
use Rattle.rules.specs.Lists.{is_empty, concat_map}
use Rattle.rules.specs.Build.{Build, Sensible, paper01, group_count}
use Rattle.rules.specs.Node.{Group, Node, group_of, line}
use Rattle.rules.specs.Valid.{GoodGroup, Valid, frame_list, idle, frame_numbers, frame_order}
use Rattle.rules.specs.Sound.{Sound, WholeGroup, Mapped}
use Rattle.rules.proofs.Steps.EveryLaws.{every-mono}
use Rattle.rules.proofs.Steps.ListLaws.{below-once, below_length, below-append, below_none}

-- paper 01's build makes sense
pub paper-sensible : Sensible paper01
paper-sensible =
    record { frames = omega arith; per_frame = omega arith; places = omega arith; timeout = omega arith }

-- "pending only with [...] a line not empty"
abbrev pub PendingLines : Node → Type 0
PendingLines n = (g : ℕ) → 1 ≤ g → g ≤ group_count → (group_of n g).pending ≡ true → is_empty (line n g) ≡ false

-- two groups with the same flags and descriptor
pub record SameFlags (G H : Group) : Type 0 where
  pub atomic : G.atomic ≡ H.atomic
  pub pending : G.pending ≡ H.pending
  pub force : G.force ≡ H.force
  pub revoked : G.revoked ≡ H.revoked
  pub descriptor : G.descriptor ≡ H.descriptor

-- they are passed on
pub flags-trans : {F G H : Group} → SameFlags F G → SameFlags G H → SameFlags F H
flags-trans p q =
    record {
      atomic = p.atomic ∙ q.atomic;
      pending = p.pending ∙ q.pending;
      force = p.force ∙ q.force;
      revoked = p.revoked ∙ q.revoked;
      descriptor = p.descriptor ∙ q.descriptor;
    }

pub flags-refl : {G : Group} → SameFlags G G
flags-refl = record { atomic = refl; pending = refl; force = refl; revoked = refl; descriptor = refl }

-- a node is sound
pub valid-sound : {b : Build} {n : Node} → Valid b n → Sound b n
valid-sound v =
    record {
      sensible = v.sensible;
      running-bound = v.running-bound;
      timer-bound = v.timer-bound;
      queue-length = v.queue-length;
      queue-good = v.queue-good;
      group-count = v.group-count;
      groups-good = v.groups-good;
      frames-once = v.frames-once;
      frames-all = v.frames-all;
      swap-numbers = v.swap-numbers;
      entered-once = v.entered-once;
      entered_all = v.entered_all;
      pledged = v.pledged;
    }

module _ {b : Build} {n : Node} (s : Sound b n) where
  -- the free frames and those in the order of entry are as many as the build has
  pub line-lengths : length n.free + length n.paging.entered ≡ b.frames
  unfolding frame_order
  line-lengths =
      let all = s.entered_all in
      let e = length-append n.free n.paging.entered in
      omega arith

  -- no more swap pages are free than there are: the numbers below `frames` are as many as that and none of them is in the swap line, so the
  -- free line and the lists have that many at least
  pub swap-short : length n.paging.swap ≤ b.swap
  unfolding idle frame_numbers
  swap-short =
      let lists = concat_map frame_list n.groups in
      let once = below-once b.frames (frame_numbers n) (λ f l. s.frames-once f (omega arith)) in
      let parts = simp below-append at once in
      let none = below_none b.frames n.paging.swap s.swap-numbers in
      let sizes = simp length-append at s.frames-all in
      omega (arith, below_length b.frames n.free, below_length b.frames lists)

-- a sound node can be mapped
pub sound-mapped : {n : Node} → Sound paper01 n → Mapped n
sound-mapped {n} s =
    record {
      queue-length = s.queue-length;
      queue-good = s.queue-good;
      group-count = s.group-count;
      groups-whole =
          every-mono (GoodGroup paper01) WholeGroup
          (λ G g. record { descriptor = g.descriptor; whole = g.buffer.whole; places = g.buffer.places }) n.groups s.groups-good;
      frames-once = s.frames-once;
      frames-all = s.frames-all;
      free-short = omega (arith, line-lengths s);
      swap-short = swap-short s;
      entered-short = omega (arith, line-lengths s);
    }

-- and so can a valid one
pub valid-mapped : {n : Node} → Valid paper01 n → Mapped n
valid-mapped v = sound-mapped (valid-sound v)
