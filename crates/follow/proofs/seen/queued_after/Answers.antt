-- `follow::seen::queued_after` meets its contract: after an accepted arrival the memory is a node's. Assumes nothing.
use native.Mathlib.Omega.{arith}
use Rattle.follow.proofs.seen.ReadLaws.{queue-count}
use Rattle.rules.specs.Memory.{word}
use Rattle.rules.proofs.Map.MapLaws.{test-size}
use Rattle.follow.proofs.seen.queued_after.Goals as goal

pub bounds-memory-2 : goal.bounds-memory-2
bounds-memory-2 c = let l = test-size c.args.memory.now (c.requires c.if-arrival.true) in omega arith

pub returns-then-arrival : goal.returns-then-arrival
unfolding word
returns-then-arrival c = (c.if-arrival.true, queue-count c.args.memory.now)
