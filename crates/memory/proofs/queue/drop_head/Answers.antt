-- `memory::queue::drop_head` meets its contract: the places behind the head move up by one, and the last becomes 0. Assumes nothing.
use Prim.Native.Nat.{◌-◌, ◌≤◌}
use native.Mathlib.Omega.{arith}
use lib.ListN.{length}
use Rattle.rules.specs.Build.{paper01}
use Rattle.rules.specs.Memory.{queued_at, size, word}
use Rattle.memory.proofs.PieceLaws.{holds-pieces}
use Rattle.memory.proofs.queue.QueueLaws.{dropping-held, queue-count}
use Rattle.memory.proofs.WriteLaws.{wrote-set}
use Rattle.memory.proofs.queue.drop_head.Goals as goal
use Rattle.memory.proofs.queue.drop_head.Lts as lts
use Rattle.memory.proofs.queue.drop_head.Tie as tie
use Rattle.memory.proofs.queue.drop_head.Reads as past

-- The places of the code that lemmas speak of.

abbrev Start : Type 0
Start = lts.Start tie.the-claims past.Pre past.Post

facts : (c : Start) → (size ≤ length c.args.m.now) × ((1 ≤ word c.args.m.now queued_at) × (word c.args.m.now queued_at ≤ paper01.places))
facts c =
    let h = c.requires.holds in
    let q = queue-count h in
    let some = c.requires.fact in
    ((holds-pieces h).long, (omega arith, omega arith))

pub bounds-m-2 : goal.bounds-m-2
unfolding word
bounds-m-2 c = let f = facts c.before.before.before in omega arith

pub overflow_cast-n : goal.overflow_cast-n
unfolding word
overflow_cast-n c = let f = facts c.before.before.before in omega arith

pub overflow_sub-n : goal.overflow_sub-n
unfolding word
overflow_sub-n c = let f = facts c.before.before.before in omega arith

pub overflow_mul-n : goal.overflow_mul-n
unfolding word
overflow_mul-n c = let f = facts c.before.before.before in omega arith

pub shift-requires : goal.shift-requires
unfolding word
shift-requires c = let f = facts c.before.before.before in omega arith

pub overflow_sub-m : goal.overflow_sub-m
unfolding word
overflow_sub-m c = let f = facts c.before.before.before.before.before.before in omega arith

pub bounds-m-2-2 : goal.bounds-m-2-2
unfolding word
bounds-m-2-2 c = let f = facts c.before.before.before.before.before.before in let l = c.shift.ensures in omega arith

pub returns : goal.returns
unfolding word
returns c n r h some = let w = c.shift.ensures in let f = facts c.before.before.before.before.before.before in dropping-held h 1 some w (wrote-set c.shift.new.m 2 (word c.args.m.now 2 - 1) (omega (arith, w.same_length)))
