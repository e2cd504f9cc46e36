-- `follow::waiting::join` meets its contract: what has no place is left out. Assumes nothing.
use native.Mathlib.Omega.{arith}
use Rattle.follow.proofs.waiting.ShiftLaws.{joined-full, joined-last, joined-none}
use Rattle.follow.proofs.waiting.join.Goals as goal

pub returns-then-not-arrival : goal.returns-then-not-arrival
returns-then-not-arrival c = (joined-none c.args.waiting.now c.args.count c.args.i c.args.arrival c.requires.0 c.requires.1 c.if-not-arrival.true, c.requires.1)

pub returns-then-count-eq-PLACES : goal.returns-then-count-eq-PLACES
returns-then-count-eq-PLACES c = (joined-full c.args.waiting.now c.args.count c.args.i c.args.arrival c.requires.0 c.requires.1 c.if-count-eq-PLACES.true, c.requires.1)

pub returns : goal.returns
returns c = (joined-last c.args.waiting.now c.args.count c.args.i c.args.arrival c.requires.0 c.requires.1 c.if-not-arrival.false (let n = c.if-count-eq-PLACES.false in let f = c.requires.1 in omega arith), let n = c.if-count-eq-PLACES.false in let f = c.requires.1 in omega arith)
