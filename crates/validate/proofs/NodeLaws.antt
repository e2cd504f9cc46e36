-- The memory test as a function a clause tests it: the flags in one pass, which within the counts asks the same. Assumes nothing.
use mathlib.Core.Path.{◌≡◌, refl}
use mathlib.Core.Bool.{Bool, true, false, ◌&&◌, and-eq-true_iff}
use mathlib.Core.List.{List}
use Prim.Native.Nat.{ℕ}
use lib.Dec.{leb}
use lib.ListN.{length}
use borrow.Author.Tests.{leb-true}
use Rattle.rules.specs.Lists.{all, up_from}
use Rattle.rules.specs.Build.{paper01, group_count}
use Rattle.rules.specs.Valid.{is_node}
use Rattle.rules.specs.Memory.{size, node_at}
use Rattle.rules.specs.MemoryTest.{counts_in_bounds, flags_are_flags, unused_are_zero, idle_are_wiped, is_memory}
use Rattle.validate.specs.Clauses.{flags_atomic, flags_good}
use Rattle.validate.specs.Known.{Counted}
use Rattle.validate.proofs.TestLaws.{same_test, flags-tell, node-tested, memory-tested}
use Rattle.validate.proofs.FactLaws.{counted}

-- the memory test in the order in which its clauses are tested, all of the flags in one pass
pub memory-parted : (m : List ℕ)
    → is_memory m
    ≡ (leb size (length m)
    && (counts_in_bounds m && (all (flags_good m) (up_from 1 group_count) && (unused_are_zero m && (idle_are_wiped m && is_node paper01 (node_at m))))))
memory-parted m = go (leb size (length m)) (counts_in_bounds m) refl refl
  where
    rest : Bool
    rest = unused_are_zero m && (idle_are_wiped m && is_node paper01 (node_at m))

    -- within the counts the flags of a node are also those of its words
    both : Counted m → flags_are_flags m && rest ≡ all (flags_good m) (up_from 1 group_count) && rest
    both c =
        same_test _ _ (
          λ h.
              let t = (and-eq-true_iff (flags_are_flags m) _).0 h in
              let u = (and-eq-true_iff (unused_are_zero m) _).0 t.1 in
              (and-eq-true_iff _ _).1 ((flags-tell m).1 (t.0, ((node-tested m c).0 u.1).0), t.1),
          λ h.
              let t = (and-eq-true_iff (all (flags_good m) (up_from 1 group_count)) _).0 h in
              (and-eq-true_iff _ _).1 (((flags-tell m).0 t.0).0, t.1),
        )

    go : (l k : Bool) → leb size (length m) ≡ l → counts_in_bounds m ≡ k
        → is_memory m ≡ (leb size (length m) && (counts_in_bounds m && (all (flags_good m) (up_from 1 group_count) && rest)))
    go false k e f = rw (memory-tested m, e)
    go true false e f = rw (memory-tested m, e, f)
    go true true e f = rw (memory-tested m, e, f) (both (counted m (leb-true size (length m) e) f))

-- what the flags establish of those that stand only with atomic
pub atomic-told : (m : List ℕ) → all (flags_good m) (up_from 1 group_count) ≡ true → all (flags_atomic m) (up_from 1 group_count) ≡ true
atomic-told m h = ((flags-tell m).0 h).1
