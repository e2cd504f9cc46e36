-- `tested::list_all` meets its contract: each turn of the loop uses a line, and counts one. Assumes nothing.
use Prim.Native.Nat.{ℕ, ◌+◌, ◌≤◌}
use mathlib.Core.Path.{◌≡◌}
use lib.ListN.{length}
use Rattle.std.specs.Slice.Iter.{split_inclusive_rest}
use Rattle.tested.specs.Counted.{CountsTo}
use Rattle.tested.proofs.list_all.Given as goal

abbrev pub invariant-loop-text : goal.invariant-loop-text
invariant-loop-text l =
    (length l.out ≡ length l.initial.out)
    × ((l.at ≤ length l.out)
    × ((length l.yielded + length (split_inclusive_rest l.text-iterator) ≤ length l.script)
    × ((most : ℕ) → CountsTo l.initial.counter most → CountsTo l.counter (most + length l.yielded))))
