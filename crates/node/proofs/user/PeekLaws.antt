-- M and E, answered from the part of the memory that has the words of the running group's first message: M is its length, and E reads one
-- word of it. Both leave the node as it was. Assumes nothing.
use Prim.Native.Nat.{ℕ, ◌+◌, ◌≤◌, ◌<◌}
use mathlib.Core.List.{List}
use mathlib.Core.Path.{◌≡◌, ap, refl, subst, sym}
use lib.ListN.{length}
use Rattle.rules.specs.Build.{word_limit}
use Rattle.rules.specs.Memory.{word}
use Rattle.rules.specs.MemoryTest.{runner_part}
use Rattle.rules.specs.Node.{Node, line}
use Rattle.rules.specs.Operation.{no_message, past_message, peek, poll, refused, user}
use Rattle.rules.specs.Refusal.{refuse_request}
use Rattle.rules.specs.Step.{serve, valued}
use Rattle.rules.specs.Types.{report_of}
use Rattle.rules.proofs.Map.ShownLaws.{Shows, shown-length, shown-none, shown-past, shown-below, shown-word}
use Rattle.memory.specs.Holds.{Holds}
use Rattle.node.specs.Parts.{part_of, shown_by}
use Rattle.node.specs.Steps.{Running, Stepping, report_done}
use Rattle.node.specs.declared.message.Part.{Part as Part·rt}
use Rattle.node.proofs.message.HeadLaws.{part-shows}
use Rattle.rules.proofs.Steps.QuietLaws.{valid-quiet}
use Rattle.node.proofs.ServedLaws.{own_report, request-quiet, request-refused}

module _ {m : List ℕ} {n : Node} {r : List ℕ} {p : Part·rt} (h : Holds m n r) (runs : Running n) (e : p ≡ part_of (runner_part m n)) where
  -- the part shows the first message of the running group's line
  shown : Shows m (shown_by p) (line n n.running)
  shown = subst (λ (q : Part·rt). Shows m (shown_by q) (line n n.running)) (sym e) (part-shows h runs.valid runs.some)

  -- it lies within the memory
  pub first-inside : (p.start + p.len ≤ length m) × (p.len ≤ word_limit)
  first-inside = (shown.inside, shown.few)

  -- M
  pub poll-serves : Stepping m n r (user poll) (report_done p.len)
  unfolding refuse_request serve valued own_report
  poll-serves =
      request-quiet runs poll refl (valid-quiet runs.valid) (ap report_done (sym (shown-length shown))) h

  -- E with an empty line
  pub peek-none : (i : ℕ) → p.len ≡ 0 → Stepping m n r (user (peek i)) (report_of (refused no_message))
  unfolding refuse_request
  peek-none i none = request-refused runs (peek i) h 7 (shown-none shown i none)

  -- E past the first message
  pub peek-past : (i : ℕ) → 1 ≤ p.len → p.len ≤ i → Stepping m n r (user (peek i)) (report_of (refused past_message))
  unfolding refuse_request
  peek-past i some past = request-refused runs (peek i) h 8 (shown-past shown i some past)

  -- E within it
  pub peek-there : (i : ℕ) → i < p.len → Stepping m n r (user (peek i)) (report_done (word m (p.start + i)))
  unfolding refuse_request serve valued own_report
  peek-there i below =
      request-quiet runs (peek i) (shown-below shown i below) (valid-quiet runs.valid)
      (ap report_done (sym (shown-word shown i below))) h
