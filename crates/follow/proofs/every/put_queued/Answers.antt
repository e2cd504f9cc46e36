-- `follow::every::put_queued` meets its contract: as many leave as the queue has places, all for one reason. Assumes nothing.
use native.Mathlib.Omega.{arith}
use mathlib.Core.Path.{◌≡◌, ◌∙◌, ap, refl}
use lib.ListN.{length, take}
use lib.Seq.{length-take-le}
use Rattle.rules.specs.Build.{paper01}
use Rattle.reasons.specs.Follow.{tell_queued, telling_lines}
use Rattle.script.proofs.write.AppendedLaws.{appended-as}
use Rattle.follow.proofs.every.EndLaws.{queued-told}
use Rattle.follow.proofs.every.EveryLaws.{waiting_few}
use Rattle.follow.proofs.waiting.TellLaws.{fewer-said}
use borrow.Author.Rules.{rules}
use Rattle.follow.proofs.every.put_queued.Goals as goal

pub put_left-requires : goal.put_left-requires
put_left-requires c = let l : 16 ≡ length c.args.state.waiting = search rules in let w = waiting_few c.args.state c.fewer-count.result (omega arith) (fewer-said c.args.state.count paper01.places c.fewer-count.ensures) in let f = w.1 in let k = length-take-le c.fewer-count.result c.args.state.waiting (omega arith) in (c.requires, omega arith)

pub returns : goal.returns
returns c = let l : 16 ≡ length c.args.state.waiting = search rules in let w = waiting_few c.args.state c.fewer-count.result (omega arith) (fewer-said c.args.state.count paper01.places c.fewer-count.ensures) in let f = w.1 in let k = length-take-le c.fewer-count.result c.args.state.waiting (omega arith) in
    (appended-as c.put_left.ensures.0 (ap telling_lines (queued-told c.args.state.script.lines (take c.fewer-count.result c.args.state.waiting) (omega arith) ∙ ap (tell_queued c.args.state.script.lines) w.0)), refl)
