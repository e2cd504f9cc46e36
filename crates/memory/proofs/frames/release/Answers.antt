-- `memory::frames::release` meets its contract: the frame leaves the list before it joins the free line, so it stands in one of them at a time. Assumes nothing.
use Prim.Native.Nat.{ℕ, ◌≤◌}
use native.Mathlib.Omega.{arith}
use mathlib.Core.List.{List}
use mathlib.Core.Path.{ap}
use Rattle.rules.specs.Build.{group_count}
use Rattle.memory.specs.Holds.{Some, Emptied}
use Rattle.memory.specs.declared.group.Group.{Group as Group·rt}
use Rattle.memory.proofs.buffer.FreeLaws.{Reads, free-room, reads, releasing-held}
use Rattle.memory.proofs.frames.release.Goals as goal

-- what the buffer holds and where its list lies
facts : {m : List ℕ} {g : ℕ} → Some m (Emptied g) → (1 ≤ g) × (g ≤ group_count) → Reads m g
facts {g = g} p within = reads p.holds g within.0 within.1 p.fact.waits

pub read-x-requires : goal.read-x-requires
read-x-requires c =
    let f = facts c.requires.some c.requires.le_g in
    record { long = f.long; low = c.requires.le_g.0; high = c.requires.le_g.1; inside = omega arith }

pub leave-f-requires : goal.leave-f-requires
leave-f-requires c =
    let f = facts c.requires.some c.requires.le_g in
    record { in_line = rw c.list_of.ensures f.list; i_bound = rw c.list_of.ensures f.held }

pub overflow_sub-x : goal.overflow_sub-x
overflow_sub-x c =
    let e = ap (λ (x : Group·rt). x.count) c.read-x.ensures in
    let f = facts c.requires.some c.requires.le_g in
    omega arith

pub set_counts-requires : goal.set_counts-requires
set_counts-requires c =
    let f = facts c.requires.some c.requires.le_g in
    record { long = omega (arith, f.long, c.leave-f.auto.m); low = c.requires.le_g.0; high = c.requires.le_g.1; inside = omega arith }

pub join-requires : goal.join-requires
join-requires c =
    let both = free-room c.args.g (facts c.requires.some c.requires.le_g) (rw c.list_of.ensures at c.leave-f.ensures) c.set_counts.ensures in
    record { in_line = both.0; count_bound = both.1 }

pub returns : goal.returns
returns c n r h emptied =
    let g = c.args.g in
    let gone = rw c.list_of.ensures at c.leave-f.ensures in
    releasing-held h g c.requires.le_g.0 c.requires.le_g.1 emptied.waits _ emptied.page gone
    (rw c.read-x.ensures at c.set_counts.ensures)
    c.join.ensures
