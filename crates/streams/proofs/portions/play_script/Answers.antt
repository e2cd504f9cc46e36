-- `streams::portions::play_script` meets its contract: at each turn of the loop what the reads brought so far is played. Assumes nothing.
use Rattle.streams.proofs.TurnLaws.{goes_on-more, goes_on-none, runs-settled}
use Rattle.streams.proofs.portions.play_script.Goals as goal

pub loop-init : goal.loop-init
loop-init g c = goes_on-none g.met.P.Player.leads _ _

pub loop-preserved : goal.loop-preserved
loop-preserved g c = goes_on-more c.loop.invariant c.in_ok-answer.ensures g.met.P.Player.leads c.in-Continue.is

pub returns-in-Some : goal.returns-in-Some
returns-in-Some g c = runs-settled c.loop.invariant c.in-Some.ensures
