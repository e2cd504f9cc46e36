-- The messages of each group in the hardware queue, counted as the queue is walked, and the pledges that they make with the buffers'
-- numbers. Assumes nothing.
use Prim.Native.Nat.{ℕ, zero, suc, pred, ◌+◌, ◌-◌, ◌*◌, ◌≤◌, ◌<◌}
use mathlib.Core.Path.{◌≡◌, refl, sym, ap, ◌∙◌}
use mathlib.Core.Bool.{Bool, true, false, cond}
use mathlib.Core.List.{List, [], ◌∷◌, ◌++◌, map}
use native.Mathlib.Omega.{arith}
use native.Mathlib.Nat.{suc-add}
use native.Mathlib.Decide.{ℕ_discrete}
use lib.Dec.{eqb}
use lib.ListN.{length, get_or, set, replicate, length-append, length-set, length-replicate, get_or-replicate}
use lib.Seq.{get_or-set_same, get_or-set_other}
use borrow.Author.Tests.{eq-eqb, ne_eqb}
use Rattle.rules.specs.Lists.{filter, sum, up_from}
use Rattle.rules.specs.Build.{paper01, group_count}
use Rattle.rules.specs.Node.{Message, empty_group, group_of, is_of, in_queue}
use Rattle.rules.specs.Frames.{ceil_div, pledge, pledges}
use Rattle.rules.specs.Memory.{queued_at, queue_at, queue_stride, groups_at, group_stride, used_offset, count_offset, word, message_at, messages_at, buffer_at, group_at, group_address, node_at}
use Rattle.rules.proofs.Steps.ListLaws.{filter-append, filter-pass, filter-fail}
use Rattle.rules.proofs.Map.MapWords.{length-records, record-at}
use Rattle.rules.proofs.Map.MapParts.{messages, groups}
use Rattle.validate.specs.Known.{queued_of, QueueCounts, Lined}

-- no more elements pass a test than there are
filter-short : {A : Type 0} (p : A → Bool) (xs : List A) → length (filter p xs) ≤ length xs
filter-short p [] = omega arith
filter-short p (x ∷ xs) = go (p x) refl (filter-short p xs)
  where
    go : (t : Bool) → p x ≡ t → length (filter p xs) ≤ length xs → length (filter p (x ∷ xs)) ≤ suc (length xs)
    go true e l = rw (filter-pass p x xs e) (omega arith)
    go false e l = rw (filter-fail p x xs e) (omega arith)

module _ (m : List ℕ) where
  -- one message more
  messages-more : (a i : ℕ) → messages_at m a (i + 1) ≡ messages_at m a i ++ (message_at m (a + queue_stride * i) ∷ [])
  unfolding messages_at
  messages-more a zero = let e : a + queue_stride * 0 ≡ a = omega arith in rw e
  messages-more a (suc i) =
      let e : a + queue_stride + queue_stride * i ≡ a + queue_stride * suc i = omega arith in
      rw (suc-add, ← e) (ap (λ (r : List Message). message_at m a ∷ r) (messages-more (a + queue_stride) i))

  -- of one group more or of another
  queued-more : (i g : ℕ) → queued_of m (i + 1) g ≡ queued_of m i g + cond (eqb (word m (queue_at + queue_stride * i)) g) 1 0
  unfolding queued_of is_of message_at
  queued-more i g =
      let x = message_at m (queue_at + queue_stride * i) in
      ap (λ (xs : List Message). length (filter (is_of g) xs)) (messages-more queue_at i)
      ∙ ap length (filter-append (is_of g) (messages_at m queue_at i) (x ∷ []))
      ∙ length-append (filter (is_of g) (messages_at m queue_at i)) (filter (is_of g) (x ∷ []))
      ∙ ap (λ (k : ℕ). length (filter (is_of g) (messages_at m queue_at i)) + k) (one (eqb (word m (queue_at + queue_stride * i)) g) refl)
    where
      one : (t : Bool) → eqb (word m (queue_at + queue_stride * i)) g ≡ t
          → length (filter (is_of g) (message_at m (queue_at + queue_stride * i) ∷ [])) ≡ cond (eqb (word m (queue_at + queue_stride * i)) g) 1 0
      one true e = ap length (filter-pass (is_of g) (message_at m (queue_at + queue_stride * i)) [] e) ∙ rw e
      one false e = ap length (filter-fail (is_of g) (message_at m (queue_at + queue_stride * i)) [] e) ∙ rw e

  -- no more than there are
  pub queued-few : (i g : ℕ) → queued_of m i g ≤ i
  unfolding queued_of
  queued-few i g = omega (arith, filter-short (is_of g) (messages_at m queue_at i), length-records (messages m) queue_at i)

  -- at first none
  pub counts-none : QueueCounts m 0 (replicate 9 0)
  unfolding queued_of messages_at
  counts-none = record { sized = length-replicate {A = ℕ} 9 0; each = λ g h. get_or-replicate 9 g 0 0 h }

  -- one message more
  pub counts-more : (i w : ℕ) (counts : List ℕ) → QueueCounts m i counts → w ≡ word m (queue_at + queue_stride * i + 0) → w < 9
      → QueueCounts m (i + 1) (set counts w (get_or counts w 0 + 1))
  counts-more i w counts k e h =
      record { sized = length-set counts w (get_or counts w 0 + 1) ∙ k.sized; each = λ g l. one g l (ℕ_discrete w g) }
    where
      here : word m (queue_at + queue_stride * i) ≡ w
      here = let z : queue_at + queue_stride * i + 0 ≡ queue_at + queue_stride * i = omega arith in sym (rw z at e)

      one : (g : ℕ) → g < 9 → Dec (w ≡ g) → get_or (set counts w (get_or counts w 0 + 1)) g 0 ≡ queued_of m (i + 1) g
      one g l (yes q) =
          rw (← q, get_or-set_same counts w (get_or counts w 0 + 1) 0 (rw k.sized h), queued-more i w, here, eq-eqb w w refl)
          (omega (arith, k.each w h))
      one g l (no d) =
          rw (get_or-set_other counts w g (get_or counts w 0 + 1) 0 (λ q. d (sym q)), queued-more i g, here, ne_eqb w g d)
          (omega (arith, k.each g l))

  -- a message in the queue is of one of the groups
  pub known-group : Lined m → (i w : ℕ) → i < word m queued_at → w ≡ word m (queue_at + queue_stride * i + 0) → w < 9
  known-group l i w h e =
      let z : queue_at + queue_stride * i + 0 ≡ queue_at + queue_stride * i = omega arith in
      let here = rw z at e in
      omega (arith, l.groups i h)

  -- Group g of the node.

  module _ (g : ℕ) (low : 1 ≤ g) (high : g ≤ group_count) where
    -- is read at its address
    pub group-read : group_of (node_at m) g ≡ group_at m (group_address g)
    unfolding group_of node_at group_address
    group-read =
        let e : pred g ≡ g - 1 = omega arith in
        record-at (groups m) empty_group groups_at group_count (pred g) (omega arith) ∙ ap (λ (i : ℕ). group_at m (groups_at + group_stride * i)) e

    -- its pledge
    pub pledge-words : pledge paper01 (node_at m) g
        ≡ ceil_div (word m (group_address g + used_offset) + word m (group_address g + count_offset) + queued_of m (word m queued_at) g) 8
    unfolding pledge group_at buffer_at in_queue node_at queued_of
    pledge-words = rw group-read

-- the sum over a range and one more
sum_more : (f : ℕ → ℕ) (a k : ℕ) → sum (map f (up_from a (k + 1))) ≡ sum (map f (up_from a k)) + f (a + k)
sum_more f a zero = let e : a + 0 ≡ a = omega arith in rw e (omega arith)
sum_more f a (suc k) = let e : suc a + k ≡ a + suc k = omega arith in rw (suc-add, ← e) (omega (arith, sum_more f (suc a) k))

-- the pledges of the groups below g, summed
unfoldable pub pledged_to : List ℕ → ℕ → ℕ
pledged_to m g = sum (map (pledge paper01 (node_at m)) (up_from 1 (g - 1)))

module _ (m : List ℕ) where
  pub pledged-none : 0 ≡ pledged_to m 1
  unfolding pledged_to
  pledged-none = refl

  pub pledged-more : (g p : ℕ) → 1 ≤ g → p ≡ pledge paper01 (node_at m) g → pledged_to m (g + 1) ≡ pledged_to m g + p
  unfolding pledged_to
  pledged-more g p low e =
      let k : g + 1 - 1 ≡ (g - 1) + 1 = omega arith in
      let here : 1 + (g - 1) ≡ g = omega arith in
      rw (e, k) (sum_more (pledge paper01 (node_at m)) 1 (g - 1) ∙ rw here)

  pub pledged-all : (g : ℕ) → g ≡ 9 → pledges paper01 (node_at m) ≡ pledged_to m g
  unfolding pledged_to pledges
  pledged-all g e = rw e
