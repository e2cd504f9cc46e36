-- A message in the queue never lacks a page: the frames and swap pages held and the idle ones are all there are; every group's pledge is at
-- least what it holds; the queued message of a full buffer makes its group's pledge more than it holds; and the pledges sum to at most all
-- there are. Assumes nothing.
use Prim.Native.Nat.{ℕ, ◌+◌, ◌≤◌, ◌<◌}
use mathlib.Core.Path.{◌≡◌, sym, ap, ◌∙◌}
use mathlib.Core.List.{List, [], map}
use native.Mathlib.Nat.{lt_of_mul-lt-mul_right}
use native.Mathlib.Omega.{arith}
use lib.ListN.{length, get_or, length-append, length-map, get_or-map}
use Rattle.rules.specs.Lists.{sum, up_from, concat_map}
use Rattle.rules.specs.Build.{Build, group_count}
use Rattle.rules.specs.Node.{Group, Node, empty_group, group_of, in_queue}
use Rattle.rules.specs.Frames.{pledge, pledges}
use Rattle.rules.specs.Valid.{frame_list, idle, frame_numbers}
use Rattle.rules.specs.Sound.{Sound}
use Rattle.rules.proofs.Steps.ListLaws.{length-concat_map, map-up_from, sum_lt}
use Rattle.rules.proofs.Steps.FrameLaws.{ceil-enough, ceil-mono}
use Rattle.rules.proofs.Steps.NodeLaws.{filled, group-good}

-- the pages that a group holds
abbrev held_by : Group → ℕ
held_by G = length G.buffer.frames

abbrev held : Node → ℕ → ℕ
held n g = held_by (group_of n g)

-- summed, they are all that the groups hold
held_all : {b : Build} (n : Node) → Sound b n → sum (map (held n) (up_from 1 group_count)) ≡ length (concat_map frame_list n.groups)
unfolding frame_list group_of
held_all n s =
    let lists : List ℕ = map held_by n.groups in
    let count : length lists ≡ group_count = length-map n.groups held_by ∙ s.group-count in
    let read : map (held n) (up_from 1 (length lists)) ≡ lists =
    map-up_from (held n) lists 1 0
    (λ i below. ap (λ (k : ℕ). held_by (get_or n.groups k empty_group)) (omega arith) ∙ sym (get_or-map held_by n.groups i empty_group)) in
    ap (λ (k : ℕ). sum (map (held n) (up_from 1 k))) (sym count) ∙ ap sum read ∙ sym (length-concat_map frame_list n.groups)

module _ {b : Build} {n : Node} (s : Sound b n) (g : ℕ) (low : 1 ≤ g) (high : g ≤ group_count) where
  -- no group holds more than its pledge
  held-pledge : held n g ≤ pledge b n g
  unfolding pledge
  held-pledge =
      let v = (group_of n g).buffer in
      let good = (group-good s g low high).buffer in
      rw good.list_length (ceil-mono (v.used + v.count) (v.used + v.count + length (in_queue n g)) b.per_frame (omega arith) (omega arith))

  -- and less, if it is full and has a message in the queue
  held-less : 1 ≤ length (in_queue n g) → length (group_of n g).buffer.places ≤ filled n g
      → held n g < pledge b n g
  unfolding pledge
  held-less queued full =
      let v = (group_of n g).buffer in
      let good = (group-good s g low high).buffer in
      lt_of_mul-lt-mul_right b.per_frame
      (omega (arith, good.whole, ceil-enough (v.used + v.count + length (in_queue n g)) b.per_frame (omega arith)))

-- a full buffer with a message in the queue meets a free frame or a free swap page
pub page-left : {b : Build} {n : Node} → Sound b n → (g : ℕ) → 1 ≤ g → g ≤ group_count → 1 ≤ length (in_queue n g)
    → length (group_of n g).buffer.places ≤ filled n g → 1 ≤ length (idle n)
unfolding frame_numbers pledges
page-left {b} {n} s g low high queued full =
    let none_more : (h : ℕ) → 1 ≤ h → h < 1 + group_count → held n h ≤ pledge b n h = λ h low' high'. held-pledge s h low' (omega arith) in
    let less = sum_lt (held n) (pledge b n) 1 group_count none_more g low (omega arith) (held-less s g low high queued full) in
    let parts = length-append (idle n) (concat_map frame_list n.groups) in
    omega (arith, less, held_all n s, s.pledged, s.frames-all, parts)

-- so where no frame is free, a swap page is
pub swap-left : {b : Build} {n : Node} → Sound b n → (g : ℕ) → 1 ≤ g → g ≤ group_count → 1 ≤ length (in_queue n g)
    → length (group_of n g).buffer.places ≤ filled n g → n.free ≡ [] → 1 ≤ length n.paging.swap
unfolding idle
swap-left {b} {n} s g low high queued full none =
    omega (arith, page-left s g low high queued full, length-append n.free n.paging.swap, ap length none)
