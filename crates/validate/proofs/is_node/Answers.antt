-- `validate::is_node` meets its contract: the size, then a function a clause of the memory test, each within the bounds that those before
-- it have established. Assumes nothing.
use mathlib.Core.Path.{sym, ◌∙◌}
use mathlib.Core.Bool.{true≢false}
use borrow.Author.Tests.{lt-leb}
use lib.ListN.{length}
use Rattle.std.proofs.Common.{arith}
use Rattle.rules.specs.Memory.{size}
use Rattle.std.proofs.lemmas.Grind.{common_steps}
use Rattle.validate.proofs.FactLaws.{counted}
use Rattle.validate.proofs.NodeLaws.{memory-parted, atomic-told}
use Rattle.validate.proofs.is_node.Goals as goal
use Rattle.validate.proofs.is_node.Goals.{then-memory-ge-SIZE, else-memory-ge-SIZE, then-counts_in_bounds, else-counts_in_bounds, then-flags_good, else-flags_good}

pub unused_are_zero-requires : goal.unused_are_zero-requires
unused_are_zero-requires c =
    elim c.if-counts_in_bounds.branch [
      | then-counts_in_bounds w ↦
          elim c.if-memory-ge-SIZE.branch [
            | then-memory-ge-SIZE v ↦ counted c.args.memory.now v.if-memory-ge-SIZE.true (v.counts_in_bounds.ensures ∙ sym v.value-is ∙ w.if-counts_in_bounds.true)
            | else-memory-ge-SIZE v ↦
                let short = lt-leb size (length c.args.memory.now) v.if-memory-ge-SIZE.false in
                absurd (true≢false (sym w.if-counts_in_bounds.true ∙ v.value-is ∙ short))
          ]
      | else-counts_in_bounds w ↦ cc
    ]

pub holds_node-requires-clause-counted : goal.holds_node-requires-clause-counted
holds_node-requires-clause-counted c =
    elim c.if-counts_in_bounds.branch [
      | then-counts_in_bounds w ↦
          elim c.if-memory-ge-SIZE.branch [
            | then-memory-ge-SIZE v ↦ counted c.args.memory.now v.if-memory-ge-SIZE.true (v.counts_in_bounds.ensures ∙ sym v.value-is ∙ w.if-counts_in_bounds.true)
            | else-memory-ge-SIZE v ↦
                let short = lt-leb size (length c.args.memory.now) v.if-memory-ge-SIZE.false in
                absurd (true≢false (sym w.if-counts_in_bounds.true ∙ v.value-is ∙ short))
          ]
      | else-counts_in_bounds w ↦ elim c.if-flags_good.branch [ then-flags_good v ↦ cc | else-flags_good v ↦ cc ]
    ]

pub holds_node-requires-clause-group_count_value : goal.holds_node-requires-clause-group_count_value
holds_node-requires-clause-group_count_value c =
    elim c.if-flags_good.branch [
      | then-flags_good v ↦
          elim c.if-counts_in_bounds.branch [
            | then-counts_in_bounds w ↦ atomic-told c.args.memory.now (w.flags_good.ensures ∙ sym w.value-is ∙ v.if-flags_good.true)
            | else-counts_in_bounds w ↦ cc
          ]
      | else-flags_good v ↦ cc
    ]

pub returns-then-unused_are_zero : goal.returns-then-unused_are_zero
returns-then-unused_are_zero c = grind (arith, common_steps, memory-parted c.args.memory.now)

pub returns-else-unused_are_zero : goal.returns-else-unused_are_zero
returns-else-unused_are_zero c = grind (arith, common_steps, memory-parted c.args.memory.now)
