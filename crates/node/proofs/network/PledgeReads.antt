-- Pledges as they are counted in memory: the messages of a group over the queue's places, a group's pledge with one message more, and the sum
-- over the groups. Assumes nothing.
use Prim.Native.Nat.{ℕ, ◌+◌, ◌*◌, ◌≤◌, ◌<◌}
use native.Mathlib.Numerals.{add-one}
use native.Mathlib.Omega.{arith}
use mathlib.Core.List.{List, [], ◌∷◌, ◌++◌}
use mathlib.Core.Logic.{◌≢◌}
use mathlib.Core.Path.{◌∙◌, ◌≡◌, ap, sym}
use lib.ListN.{get_or, length, length-append, take}
use lib.Seq.{take_all, take-suc}
use Rattle.rules.specs.Build.{Build, group_count, paper01}
use Rattle.rules.specs.Frames.{ceil_div, pledge, pledges}
use Rattle.rules.specs.Lists.{filter, up_from}
use Rattle.rules.specs.Memory.{count_offset, free_count_at, group_address, queue_at, queue_stride, queued_at, size, swap_count_at, used_offset, word}
use Rattle.rules.specs.Node.{Message, Node, group_of, in_queue, is_of, with_queue}
use Rattle.rules.specs.Refusal.{queued}
use Rattle.rules.proofs.Steps.ListLaws.{weight, weight-append}
use Rattle.rules.specs.Sound.{Sound}
use Rattle.memory.specs.Holds.{Holds, blank}
use Rattle.memory.proofs.CountLaws.{lists-short}
use Rattle.memory.proofs.group.GroupLaws.{group-words}
use Rattle.memory.proofs.LinePieces.{paging-words}
use Rattle.memory.proofs.PieceLaws.{holds-pieces}
use Rattle.memory.proofs.PowerOnLaws.{up_from-more}
use Rattle.memory.proofs.queue.QueueLaws.{message-read, queue-count}
use Rattle.node.proofs.network.PledgeLaws.{filter-other, filter_same, filter-short, pledge-held}

-- The messages of a group in the queue.

-- how many of the first i messages of the queue are of group g
abbrev pub among : Node → ℕ → ℕ → ℕ
among n g i = length (filter (is_of g) (take i n.queue))

-- counted by the words of the queue's places
module _ {m : List ℕ} {n : Node} {r : List ℕ} (h : Holds m n r) (g i : ℕ) where
  -- a message of the group
  pub among-hit : i < word m queued_at → word m (queue_at + queue_stride * i) ≡ g → among n g (i + 1) ≡ among n g i + 1
  among-hit inside same =
      let l : i < length n.queue = omega (arith, (queue-count h).0) in
      rw (add-one, take-suc n.queue i blank l) (filter_same g (take i n.queue) (get_or n.queue i blank) (sym (message-read h i l).0 ∙ same))

  -- one of another group
  pub among-miss : i < word m queued_at → word m (queue_at + queue_stride * i) ≢ g → among n g (i + 1) ≡ among n g i
  among-miss inside other =
      let l : i < length n.queue = omega (arith, (queue-count h).0) in
      rw (add-one, take-suc n.queue i blank l)
      (filter-other g (take i n.queue) (get_or n.queue i blank) (λ e. other ((message-read h i l).0 ∙ e)))

  -- the whole queue
  pub among-all : word m queued_at ≤ i → among n g i ≡ length (in_queue n g)
  unfolding in_queue
  among-all past = rw (take_all i n.queue (omega (arith, (queue-count h).0)))

-- the queue's places lie within the memory, and its count is small
pub record Places (m : List ℕ) : Type 0 where
  pub long : size ≤ length m
  pub few : word m queued_at ≤ paper01.places

pub places : {m : List ℕ} {n : Node} {r : List ℕ} → Holds m n r → Places m
places h = record { long = (holds-pieces h).long; few = omega (arith, queue-count h) }

-- the free frames and the free swap pages are counted
pub free-counts : {m : List ℕ} {n : Node} {r : List ℕ} → Holds m n r
    → (word m free_count_at ≡ length n.free) × (word m swap_count_at ≡ length n.paging.swap)
free-counts h = ((holds-pieces h).free-count, (paging-words (holds-pieces h) h.mapped.swap-short h.mapped.entered-short).swap-count)

-- Pledges with one message more.

module _ {m : List ℕ} {n : Node} {r : List ℕ} (h : Holds m n r) (g : ℕ) where
  -- a group has at most 16 messages in the queue
  pub queue-few : length (in_queue n g) ≤ paper01.places
  unfolding in_queue
  queue-few = omega (arith, filter-short (is_of g) n.queue, queue-count h)

  module _ (low : 1 ≤ g) (high : g ≤ group_count) (x : Message) where
    -- a group's pledge, from the words of its record and its messages in the queue
    pub pledge-read : (k : ℕ) → k ≡ length (in_queue (queued x n) g)
        → ceil_div (word m (group_address g + used_offset) + word m (group_address g + count_offset) + k) paper01.per_frame ≡ pledge paper01 (queued x n) g
    unfolding pledge queued with_queue group_of
    pledge-read k e =
        let words = group-words (holds-pieces h) h.mapped g low high in
        ap (λ (a : ℕ). ceil_div a paper01.per_frame) (omega (arith, words.used, words.count))

    -- it is at most the 96 pages and 17 messages
    pub pledge-few : Sound paper01 n → pledge paper01 (queued x n) g ≤ 113
    unfolding queued
    pledge-few s =
        omega (
          arith,
          pledge-held s (n.queue ++ (x ∷ [])) g low high,
          filter-short (is_of g) (n.queue ++ (x ∷ [])),
          length-append n.queue (x ∷ []),
          queue-count h,
          lists-short h.mapped g low high,
        )

-- the sum over one group more
pub sum_more : (w : ℕ → ℕ) (i : ℕ) → weight w (up_from 1 (i + 1)) ≡ weight w (up_from 1 i) + w (i + 1)
sum_more w i =
    let e : 1 + i ≡ i + 1 = omega arith in
    rw (up_from-more 1 i, weight-append w (up_from 1 i) ((1 + i) ∷ []), e) (omega arith)

-- over all groups
pub sum-all : (b : Build) (n : Node) (i : ℕ) → i ≡ group_count → weight (pledge b n) (up_from 1 i) ≡ pledges b n
unfolding pledges
sum-all b n i e = rw e
