-- Where the running group's first message stands in a memory that holds a node: the part that is read there is within the memory, of at
-- most eight words, and has the message's words; it is empty exactly where the line is. A memory that holds a valid node passes the memory
-- test and is read as that node, so the laws of the head call hold of it. Assumes nothing.
use Prim.Native.Nat.{ℕ, ◌+◌, ◌≤◌, ◌<◌}
use native.Mathlib.Decide.{ℕ_discrete}
use native.Mathlib.Omega.{arith}
use mathlib.Core.Bool.{true, false}
use mathlib.Core.List.{List}
use mathlib.Core.Path.{◌≡◌, ◌∙◌, ap, subst, sym}
use lib.ListN.{length, take, drop}
use borrow.Author.Tests.{lt-ltb, le-ltb}
use Rattle.rules.specs.Build.{paper01, page_count, word_limit}
use Rattle.rules.specs.Lists.{is_empty}
use Rattle.rules.specs.Memory.{buffer_at, group_address, list_offset, node_at, used_offset, word, size}
use Rattle.rules.specs.MemoryTest.{Part, buffer_part, empty_part, head_part, head_words, is_memory, queue_part, runner_part}
use Rattle.rules.specs.Node.{Node, buffer_holds, group_of, line}
use Rattle.rules.specs.Valid.{Valid}
use Rattle.rules.proofs.Steps.LineLaws.{line-buffered}
use Rattle.rules.proofs.Map.ShownLaws.{Shows}
use Rattle.rules.proofs.Map.MapHead.{first-bounded, good-buffer, nobody-part, empty-part, frame-part, queue-part, tested-part, head-shows}
use Rattle.rules.proofs.Map.MapLaws.{read_back, test-written, test-valid, test_words}
use Rattle.rules.proofs.Steps.SoundLaws.{valid-sound, valid-mapped}
use Rattle.memory.specs.Holds.{Holds}
use Rattle.node.specs.Parts.{FirstWords}
use Rattle.node.proofs.settling.CallLaws.{line-none, line-queued}
use Rattle.node.proofs.section.SectionLaws.{valid-settles}

module _ {m : List ℕ} {n : Node} {r : List ℕ} (h : Holds m n r) (v : Valid paper01 n) where
  -- a memory that holds a valid node is read as that node
  pub held-node : node_at m ≡ n
  held-node = ap node_at h.map ∙ read_back n r v

  -- and passes the test
  pub held_test : is_memory m ≡ true
  held_test = ap is_memory h.map ∙ test-written n r v

  -- so the head call, which tests, names the same part
  pub head-tested : head_part m ≡ runner_part m n
  head-tested = tested-part m held_test ∙ ap (runner_part m) held-node

  -- and its words are those of the part
  pub head-words : head_words m ≡ take (runner_part m n).len (drop (runner_part m n).start m)
  unfolding head_words
  head-words = ap (λ (p : Part). take p.len (drop p.start m)) head-tested

  module _ (low : 1 ≤ n.running) where
    -- A buffered group.

    module _ (some : 1 ≤ (group_of n n.running).buffer.count) where
      -- the same, of the node that is read
      read_some : 1 ≤ (group_of (node_at m) n.running).buffer.count
      read_some = rw held-node some

      -- the first page of its list, and the used-up places of that
      pub first-frame : (word m (group_address n.running + list_offset) < page_count paper01) × (word m (group_address n.running + used_offset) < paper01.per_frame)
      unfolding buffer_at
      first-frame =
          (first-bounded m held_test n.running low v.running-bound read_some, (good-buffer m held_test n.running low v.running-bound read_some).used-bound)

      -- the line is not empty
      frame-line : is_empty (line n n.running) ≡ false
      frame-line = line-buffered (valid-sound v) n.running low v.running-bound some

      -- and the part is there
      pub buffered-part : runner_part m n ≡ buffer_part m n.running
      unfolding buffer_holds
      buffered-part = frame-part m n low frame-line (lt-ltb 0 (group_of n n.running).buffer.count some)

    -- A direct one.

    module _ (none : (group_of n n.running).buffer.count ≡ 0) where
      direct : buffer_holds n n.running ≡ false
      unfolding buffer_holds
      direct = le-ltb 0 (group_of n n.running).buffer.count (omega arith)

      -- with an empty queue it has no message
      idle-line : length n.queue ≡ 0 → is_empty (line n n.running) ≡ true
      idle-line = line-none n n.running none

      pub idle-part : length n.queue ≡ 0 → runner_part m n ≡ empty_part
      idle-part e = empty-part m n low (idle-line e)

      -- with a message in the queue it has the head
      queue-line : 1 ≤ length n.queue → is_empty (line n n.running) ≡ false
      queue-line = line-queued (valid-settles v) none

      pub queued-part : 1 ≤ length n.queue → runner_part m n ≡ queue_part m
      queued-part some = queue-part m n low (queue-line some) direct

  -- The part shows the first message of the running group's line.

  pub part-shows : 1 ≤ n.running → Shows m (runner_part m n) (line n n.running)
  part-shows = subst (λ (k : Node). 1 ≤ k.running → Shows m (runner_part m k) (line k k.running)) held-node (head-shows m held_test)

  -- it is within the memory, and of at most eight words
  pub part-inside : ((runner_part m n).start + (runner_part m n).len ≤ length m) × ((runner_part m n).len ≤ word_limit)
  part-inside = go (ℕ_discrete n.running 0)
    where
      go : Dec (n.running ≡ 0) → ((runner_part m n).start + (runner_part m n).len ≤ length m) × ((runner_part m n).len ≤ word_limit)
      go (yes e) = rw (nobody-part m n e) (omega arith, omega arith)
      go (no some) = let s = part-shows (omega arith) in (s.inside, s.few)

-- A memory that passes the test holds the node that is read from it.
pub tested-holds : (m : List ℕ) → is_memory m ≡ true → Holds m (node_at m) (drop size m)
tested-holds m t = record { mapped = valid-mapped (test-valid m t); map = sym (test_words m t) }

-- So words that are those of the part are the head call's.
pub tested-words : (m ws : List ℕ) → is_memory m ≡ true → FirstWords m ws → ws ≡ head_words m
tested-words m ws t e =
    let h = tested-holds m t in
    e (node_at m) (drop size m) h (test-valid m t) ∙ sym (head-words h (test-valid m t))
