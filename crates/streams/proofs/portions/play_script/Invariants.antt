-- What the reads brought so far is played. Assumes nothing.
use Rattle.streams.specs.Turns.{GoesOn}
use Rattle.streams.proofs.portions.play_script.Given as goal

abbrev pub invariant-loop : goal.invariant-loop
invariant-loop g l = GoesOn g.P.Player.reaches l.initial.memory l.fn.first l.memory l.player
