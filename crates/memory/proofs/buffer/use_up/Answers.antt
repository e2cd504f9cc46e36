-- `memory::buffer::use_up` meets its contract: one place more is used up, and one message fewer waits. Assumes nothing.
use Prim.Native.Nat.{◌<◌, ℕ}
use native.Mathlib.Omega.{arith}
use mathlib.Core.List.{List}
use mathlib.Core.Path.{◌≡◌, ap, refl}
use lib.ListN.{length}
use Rattle.rules.specs.Memory.{count_offset, group_stride}
use Rattle.memory.specs.declared.group.Group.{Group as Group·rt}
use Rattle.memory.specs.Writes.{InGroup}
use Rattle.memory.proofs.buffer.FreeLaws.{Reads, reads, using-up-held}
use Rattle.memory.proofs.buffer.use_up.Goals as goal
use Rattle.memory.proofs.buffer.use_up.Lts as lts
use Rattle.memory.proofs.buffer.use_up.Tie as tie
use Rattle.memory.proofs.buffer.use_up.Reads as past

-- The places of the code that lemmas speak of.

abbrev Start : Type 0
Start = lts.Start tie.the-claims past.Pre past.Post tie.handed_clauses

facts : (c : Start) → Reads c.args.m.now c.args.g
facts c = reads c.requires.some.holds c.args.g c.requires.le_g.0 c.requires.le_g.1 c.requires.some.fact

in_group : (c : Start) (m : List ℕ) (k : ℕ) → length m ≡ length c.args.m.now → k < group_stride → InGroup m c.args.g k
in_group c m k l h = record { long = omega (arith, (facts c).long); low = c.requires.le_g.0; high = c.requires.le_g.1; inside = h }

pub read-x-requires : goal.read-x-requires
read-x-requires c = in_group c.before _ count_offset refl (omega arith)

pub overflow_add-x : goal.overflow_add-x
overflow_add-x c = let e = ap (λ (x : Group·rt). x.used) c.read-x.ensures in let f = facts c.before.before.before.before in omega arith

pub overflow_sub-x : goal.overflow_sub-x
overflow_sub-x c = let e = ap (λ (x : Group·rt). x.count) c.read-x.ensures in let f = facts c.before.before.before.before.before in omega arith

pub set_counts-requires : goal.set_counts-requires
set_counts-requires c = in_group c.before.before.before.before.before _ count_offset refl (omega arith)

pub returns : goal.returns
returns c n r h waits = using-up-held h c.args.g c.requires.le_g.0 c.requires.le_g.1 (rw c.read-x.ensures at c.set_counts.ensures)
