-- The clauses on one message of the queue and on one group's buffer, as the words tell them, in the order in which they are tested. A
-- message's length is the one kept with it where that is in bounds. Assumes nothing.
use Prim.Native.Nat.{ℕ, ◌+◌, ◌*◌, ◌/◌, ◌≤◌, ◌<◌}
use mathlib.Core.Path.{◌≡◌, sym, ap, ◌∙◌}
use mathlib.Core.Logic.{◌⊎◌, inl, inr}
use mathlib.Core.Bool.{not, ◌&&◌, ◌||◌, and-true, and-false}
use mathlib.Core.List.{List}
use native.Mathlib.Omega.{arith}
use borrow.Author.Tests.{le-leb, lt-leb, ne_eqb}
use lib.Dec.{leb, ltb, eqb}
use Rattle.std.proofs.lemmas.Bool.{cases_lt}
use lib.ListN.{length}
use Rattle.rules.specs.Build.{word_limit}
use Rattle.rules.specs.Frames.{ceil_div}
use Rattle.rules.specs.Valid.{is_message}
use Rattle.rules.specs.Memory.{word, group_address, queue_at, queue_stride, used_offset, count_offset, held_offset, message_at}
use Rattle.rules.proofs.Map.MapWords.{take-words_at, length-words_at}
use Rattle.validate.specs.Clauses.{message_good, buffer_good}

module _ (m : List ℕ) where
  -- the length of a message
  pub message-length : (a : ℕ) → word m (a + 1) ≤ word_limit → length (message_at m a).words ≡ word m (a + 1)
  unfolding message_at
  message-length a h = ap length (take-words_at m (a + 2) (word m (a + 1)) word_limit h) ∙ length-words_at m (a + 2) (word m (a + 1))

  -- message i of the queue, whose length is known to be at most 8: its group g is 1 to 8, and it has words
  pub message_parted : (i g : ℕ) → g ≡ word m (queue_at + queue_stride * i + 0) → word m (queue_at + queue_stride * i + 1) ≤ 8
      → message_good m i ≡ leb 1 g && (leb g 8 && leb 1 (word m (queue_at + queue_stride * i + 1)))
  unfolding message_good is_message message_at
  message_parted i g group b =
      let e : queue_at + queue_stride * i + 0 ≡ queue_at + queue_stride * i = omega arith in
      let at : word m (queue_at + queue_stride * i) ≡ g = sym (rw e at group) in
      rw (message-length (queue_at + queue_stride * i) b, at, le-leb _ 8 b, and-true (leb 1 (word m (queue_at + queue_stride * i + 1))))

  -- the buffer of group g, with h, n and the length of its list, which is known to be at most 96: more messages than the frames and swap pages
  -- hold have a longer one
  pub buffer_parted : (g h n k : ℕ) → h ≡ word m (group_address g + used_offset) → n ≡ word m (group_address g + count_offset)
      → k ≡ word m (group_address g + held_offset) → k ≤ 96
      → buffer_good m g ≡ ltb h 8 && (leb n 768 && ((not (eqb n 0) || eqb h 0) && eqb k (ceil_div (h + n) 8)))
  unfolding buffer_good ceil_div
  buffer_parted g h n k used count held b = rw (← used, ← count, ← held) (ap (λ t. ltb h 8 && t) (go (cases_lt 768 n)))
    where
      go : (768 < n) ⊎ (n ≤ 768)
          → (not (eqb n 0) || eqb h 0) && eqb k (ceil_div (h + n) 8) ≡ leb n 768 && ((not (eqb n 0) || eqb h 0) && eqb k (ceil_div (h + n) 8))
      go (inl o) = rw (lt-leb n 768 o, ne_eqb k ((h + n + 7) / 8) (λ e. omega arith), and-false (not (eqb n 0) || eqb h 0))
      go (inr l) = rw (le-leb n 768 l)
