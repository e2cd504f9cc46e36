-- What a message needs before it is written, and the running group's first page, as they are read from memory: which of the rules' cases it is.
-- Assumes nothing.
use Prim.Native.Nat.{ℕ, ◌+◌, ◌*◌, ◌/◌, ◌≤◌, ◌<◌}
use native.Mathlib.Omega.{arith}
use mathlib.Core.List.{List, [], ◌∷◌}
use mathlib.Core.Logic.{◌≢◌}
use mathlib.Core.Path.{◌≡◌, refl, sym, ap, ◌∙◌}
use lib.ListN.{get_or, length}
use borrow.Author.Tests.{eq-eqb, le-ltb, lt-ltb, ne_eqb}
use Rattle.rules.specs.Build.{group_count, paper01}
use Rattle.rules.specs.Frames.{put}
use Rattle.rules.specs.Memory.{free_count_at, group_address, held_offset, list_offset, running_at, word, used_offset, count_offset}
use Rattle.rules.specs.Node.{Message, Node, group_of}
use Rattle.rules.specs.Paging.{first_resident, freed, in_frame, next_page, prepared, resident, runner_resident, store}
use Rattle.rules.specs.Sound.{Sound}
use Rattle.rules.proofs.Steps.FrameLaws.{fits}
use Rattle.rules.proofs.Steps.NodeLaws.{group-good}
use Rattle.rules.proofs.Steps.PagingLaws.{listed_at, next-listed, prepared-left, prepared-repaged, prepared-sound}
use Rattle.rules.proofs.Steps.RoomLaws.{swap-left}
use Rattle.rules.proofs.Steps.SoundLaws.{line-lengths}
use Rattle.memory.specs.Holds.{Holds, Storable}
use Rattle.memory.specs.Paging.{Owned, Sending, Wanting, bringing, sending}
use Rattle.memory.proofs.PieceLaws.{holds-pieces}
use Rattle.memory.proofs.buffer.AppendLaws.{Ends, ends, full-read}
use Rattle.memory.proofs.group.GroupLaws.{group-whole, group-words, listed}
use Rattle.memory.proofs.paging.RunnerLaws.{runner-first, runner-held, runs}

-- Whether a frame is free.

no-frame : (fs : List ℕ) → length fs ≡ 0 → fs ≡ []
no-frame [] e = refl
no-frame (f ∷ fs) e = absurd (omega arith)

module _ {m : List ℕ} {n : Node} {r : List ℕ} (h : Holds m n r) where
  pub none_free : word m free_count_at ≡ 0 → n.free ≡ []
  none_free e = no-frame n.free (sym (holds-pieces h).free-count ∙ e)

  pub some-free : 1 ≤ word m free_count_at → 1 ≤ length n.free
  some-free l = omega (arith, (holds-pieces h).free-count)

-- Whether a page is in a frame.

pub resident-here : (p : ℕ) (n : Node) → p < paper01.frames → n ≡ resident paper01 p n
unfolding resident in_frame
resident-here p n l = rw (lt-ltb p paper01.frames l)

pub resident-away : (p : ℕ) (n : Node) → paper01.frames ≤ p → bringing p n ≡ resident paper01 p n
unfolding resident in_frame
resident-away p n l = rw (le-ltb p paper01.frames l)

-- What a message needs.

module _ {g : ℕ} (low : 1 ≤ g) (high : g ≤ group_count) {n : Node} (c : Wanting g n) where
  -- its page in a frame, where the buffer has room
  prepared-room : (group_of n g).buffer.used + (group_of n g).buffer.count < length (group_of n g).buffer.places
      → resident paper01 (next_page paper01 (group_of n g).buffer) n ≡ prepared paper01 g n
  unfolding prepared
  prepared-room l = rw (lt-ltb _ _ l)

  -- else a free frame
  prepared-full : length (group_of n g).buffer.places ≤ (group_of n g).buffer.used + (group_of n g).buffer.count → freed n.free n ≡ prepared paper01 g n
  unfolding prepared
  prepared-full l = rw (le-ltb _ _ l)

  module _ {m r : List ℕ} (h : Holds m n r) where
    -- the end of the buffer is read
    pub wanting-ends : Ends m g
    wanting-ends = ends h g low high (fits (group-good c.sound g low high).buffer)

    -- so is whether there is room, and the page to write to
    module _ (room : word m (group_address g + used_offset) + word m (group_address g + count_offset) < 8 * word m (group_address g + held_offset)) where
      is-room : (group_of n g).buffer.used + (group_of n g).buffer.count < length (group_of n g).buffer.places
      is-room = let read = full-read h g low high in omega (arith, read.0, read.1)

      next-read : word m (group_address g + (list_offset + (word m (group_address g + used_offset) + word m (group_address g + count_offset)) / 8)) ≡ next_page paper01 (group_of n g).buffer
      unfolding next_page
      next-read =
          let B = (group_of n g).buffer in
          let whole = group-whole h.mapped g low high in
          let l = is-room in
          let inside : (B.used + B.count) / 8 < length B.frames = omega (arith, whole.whole) in
          rw (full-read h g low high).1 (listed m (group_address g) B.frames ((B.used + B.count) / 8) inside (group-words (holds-pieces h) h.mapped g low high).list)

      pub next-owned : Owned (word m (group_address g + (list_offset + (word m (group_address g + used_offset) + word m (group_address g + count_offset)) / 8))) n
      next-owned = record { sound = c.sound; listed = rw next-read (next-listed c.sound g low high is-room) }

      pub next-prepared : resident paper01 (word m (group_address g + (list_offset + (word m (group_address g + used_offset) + word m (group_address g + count_offset)) / 8))) n ≡ prepared paper01 g n
      next-prepared = rw next-read (prepared-room is-room)

    -- and whether it is full
    module _ (full : 8 * word m (group_address g + held_offset) ≤ word m (group_address g + used_offset) + word m (group_address g + count_offset)) where
      is-full : length (group_of n g).buffer.places ≤ (group_of n g).buffer.used + (group_of n g).buffer.count
      is-full = let read = full-read h g low high in omega (arith, read.0, read.1)

      pub full-sending : word m free_count_at ≡ 0 → Sending n
      full-sending e =
          let none = none_free h e in
          record { crowded = record { sound = c.sound; full = none }; some = swap-left c.sound g low high c.queued is-full none }

      pub full-sent : word m free_count_at ≡ 0 → sending n ≡ prepared paper01 g n
      unfolding freed
      full-sent e = sym (ap (λ (fs : List ℕ). freed fs n) (none_free h e)) ∙ prepared-full is-full

      pub full-ready : word m free_count_at ≢ 0 → n ≡ prepared paper01 g n
      unfolding freed
      full-ready d = go n.free refl ∙ prepared-full is-full
        where
          go : (fs : List ℕ) → n.free ≡ fs → n ≡ freed n.free n
          go [] e = absurd (omega (arith, some-free h (omega (arith, d)), ap length e))
          go (f ∷ fs) e = sym (ap (λ (l : List ℕ). freed l n) e)

  -- it can be stored then
  pub prepared-storable : Storable g (prepared paper01 g n)
  prepared-storable =
      let sound = prepared-sound c.sound g low high in
      let same = (prepared-repaged paper01 g n).groups g in (
        fits (group-good sound g low high).buffer,
        λ full.
            record {
              some = prepared-left c.sound g low high c.queued (rw (same.used, same.count, same.places) at full);
              order = omega (arith, line-lengths sound);
            },
      )

-- The running group's first page.

module _ {m : List ℕ} {n : Node} {r : List ℕ} (h : Holds m n r) (s : Sound paper01 n) where
  pub nobody-resident : word m running_at ≡ 0 → n ≡ runner_resident paper01 n
  unfolding runner_resident
  nobody-resident e = rw (eq-eqb n.running 0 (sym (holds-pieces h).running ∙ e))

  module _ (low : 1 ≤ word m running_at) where
    runs-first : first_resident paper01 (group_of n n.running).buffer.frames n ≡ runner_resident paper01 n
    unfolding runner_resident
    runs-first = rw (ne_eqb n.running 0 (λ e. omega (arith, runs h s low)))

    -- it has no page
    pub empty-resident : word m (group_address (word m running_at) + held_offset) ≡ 0 → n ≡ runner_resident paper01 n
    unfolding first_resident
    empty-resident e = go (group_of n n.running).buffer.frames refl ∙ runs-first
      where
        go : (fs : List ℕ) → (group_of n n.running).buffer.frames ≡ fs → n ≡ first_resident paper01 (group_of n n.running).buffer.frames n
        go [] q = rw q
        go (f ∷ fs) q = absurd (omega (arith, runner-held h s low, ap length q))

    module _ (some : word m (group_address (word m running_at) + held_offset) ≢ 0) where
      first-held : 1 ≤ length (group_of n n.running).buffer.frames
      first-held = omega (arith, some, runner-held h s low)

      pub first-owned : Owned (word m (group_address (word m running_at) + list_offset)) n
      first-owned = record { sound = s; listed = rw (runner-first h s low first-held) (listed_at s n.running (runs h s low) s.running-bound 0 first-held) }

      pub first-resident : resident paper01 (word m (group_address (word m running_at) + list_offset)) n ≡ runner_resident paper01 n
      unfolding first_resident
      first-resident = ap (λ (p : ℕ). resident paper01 p n) (runner-first h s low first-held) ∙ go (group_of n n.running).buffer.frames refl ∙ runs-first
        where
          go : (fs : List ℕ) → (group_of n n.running).buffer.frames ≡ fs
              → resident paper01 (get_or (group_of n n.running).buffer.frames 0 0) n ≡ first_resident paper01 (group_of n n.running).buffer.frames n
          go [] q = absurd (omega (arith, first-held, ap length q))
          go (f ∷ fs) q = rw q

-- A message of group g is stored by being put into the prepared node.
pub prepared-put : (x : Message) (g : ℕ) (n : Node) → x.group ≡ g → put paper01 x (prepared paper01 g n) ≡ store paper01 x n
unfolding store
prepared-put x g n e = rw (sym e)
