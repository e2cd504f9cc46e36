-- `memory::queue::join` meets its contract: a place behind the last is written, and the count. Assumes nothing.
use Prim.Native.Nat.{◌+◌, ◌<◌, ◌≤◌}
use native.Mathlib.Omega.{arith}
use mathlib.Core.Path.{refl}
use lib.ListN.{length, length-set}
use Rattle.rules.specs.Build.{paper01}
use Rattle.rules.specs.Memory.{queued_at, size, word}
use Rattle.rules.specs.Node.{Message}
use Rattle.rules.specs.Valid.{GoodMessage}
use Rattle.memory.proofs.PieceLaws.{holds-pieces}
use Rattle.memory.proofs.queue.QueueLaws.{joined-held, queue-count}
use Rattle.memory.proofs.WriteLaws.{wrote_at, wrote-next, wrote-set, wrote_then}
use Rattle.memory.proofs.queue.join.Goals as goal
use Rattle.memory.proofs.queue.join.Lts as lts
use Rattle.memory.proofs.queue.join.Tie as tie
use Rattle.memory.proofs.queue.join.Reads as past

-- The places of the code that lemmas speak of.

abbrev Start : Type 0
Start = lts.Start tie.the-claims past.Pre past.Post tie.handed_clauses

facts : (c : Start) → (size ≤ length c.args.m.now) × (word c.args.m.now queued_at < paper01.places)
facts c =
    let h = c.requires.some.holds in
    let q = (queue-count h).0 in
    let room = c.requires.some.fact in
    ((holds-pieces h).long, omega arith)

pub bounds-m-2 : goal.bounds-m-2
unfolding word
bounds-m-2 c = let f = facts c.before.before.before.before in omega arith

pub queue_at-at-requires : goal.queue_at-at-requires
unfolding word
queue_at-at-requires c = let f = facts c.before.before.before.before in omega arith

pub offset_bounds-m-at : goal.offset_bounds-m-at
unfolding word
offset_bounds-m-at c = let f = facts c.before.before.before.before.before in omega arith

pub bounds-m-at : goal.bounds-m-at
unfolding word
bounds-m-at c = let f = facts c.before.before.before.before.before in omega arith

pub offset_bounds-m-at-2 : goal.offset_bounds-m-at-2
unfolding word
offset_bounds-m-at-2 c = let f = facts c.before.before.before.before.before in omega arith

pub bounds-m-at-2 : goal.bounds-m-at-2
unfolding word
bounds-m-at-2 c = let f = facts c.before.before.before.before.before in simp length-set (omega arith)

pub overflow_add-at : goal.overflow_add-at
unfolding word
overflow_add-at c = let f = facts c.before.before.before.before.before.before in omega arith

pub copy_in-requires : goal.copy_in-requires
unfolding word
copy_in-requires c = let f = facts c.before.before.before.before.before.before in let p = c.requires.in_bounds in simp length-set (omega arith)

pub overflow_add-m-2 : goal.overflow_add-m-2
unfolding word
overflow_add-m-2 c = let f = facts c.before.before.before.before.before.before.before.before.before in omega arith

pub bounds-m-2-2 : goal.bounds-m-2-2
bounds-m-2-2 c = let f = facts c.before.before.before.before.before.before.before.before.before in let l = simp length-set at c.copy_in.ensures.same_length in omega arith

pub shape_of-m : goal.shape_of-m
shape_of-m c = let l = simp length-set at c.copy_in.ensures.same_length in simp length-set l

pub returns : goal.returns
unfolding word
returns c n r h room =
    let m = c.args.m.now in
    let f = facts c.before.before.before.before.before.before.before.before.before in
    let at = c.queue_at-at.result in
    let e = c.queue_at-at.ensures in
    let u = c.copy_in.ensures in
    let l = simp length-set at u.same_length in
    let w₁ = wrote-set m at c.args.g (omega arith) in
    let w₂ = wrote-next w₁ (at + 1) (length c.args.words.now) refl (omega arith) in
    let x : Message = record { group = c.args.g; words = c.args.words.now } in
    let good : GoodMessage x = record {
      group-low = c.requires.le_g.0;
      group-high = c.requires.le_g.1;
      some_words = c.requires.in_bounds.0;
      few_words = c.requires.in_bounds.1;
    } in
    joined-held h x good room
    (wrote_at (wrote_then w₂ (at + 2) refl u) e) (wrote-set c.copy_in.new.m 2 (word m 2 + 1) (omega arith))
