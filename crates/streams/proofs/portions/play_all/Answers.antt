-- `streams::portions::play_all` meets its contract: at each turn of the loop all of the portion but the rest is played. Assumes nothing.
use Rattle.streams.proofs.TurnLaws.{plays-more, plays_none}
use Rattle.streams.proofs.portions.play_all.Goals as goal

pub loop-rest-init : goal.loop-rest-init
loop-rest-init g c = plays_none g.met.P.Player.leads

pub loop-rest-preserved : goal.loop-rest-preserved
loop-rest-preserved g c = plays-more g.met.P.Player.leads c.loop-rest.invariant c.in_ok-step.ensures
