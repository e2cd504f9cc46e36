-- All of the portion but the rest is played. The measure is that rest. Assumes nothing.
use Rattle.std.proofs.Common.{length}
use Rattle.streams.proofs.TurnLaws.{PlaysOn}
use Rattle.streams.proofs.portions.play_all.Given as goal

abbrev pub invariant-loop-rest : goal.invariant-loop-rest
invariant-loop-rest g l = PlaysOn g.P.Player.reaches l.initial.memory l.fn.first l.initial.rest l.rest l.memory l.player

abbrev pub decreases-loop-rest : goal.decreases-loop-rest
decreases-loop-rest g l = length l.rest
