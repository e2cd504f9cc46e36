-- `follow::one::follow_line` meets its contract: the message of the line wanted is picked up before any leaves. Assumes nothing.
use mathlib.Core.Path.{◌∙◌, ap}
use Rattle.reasons.specs.Follow.{moved_up}
use Rattle.follow.specs.One.{followed_of}
use Rattle.follow.specs.Seen.{reasons_of}
use Rattle.follow.specs.declared.one.Followed.{Followed as Followed·rt}
use Rattle.follow.proofs.one.PlaceLaws.{followed-other, followed-wanted}
use Rattle.follow.proofs.one.follow_line.Goals as goal
use Rattle.follow.proofs.one.follow_line.Goals.{then-i-wanted, else-i-wanted}

pub returns : goal.returns
returns c = λ s v. c.moved_up.ensures ∙
    elim c.if-i-wanted.branch [
      | then-i-wanted w ↦ followed-wanted c.args.wanted c.args.i (followed_of c.args.f) v w.if-i-wanted.true (ap followed_of w.followed-is ∙ w.picked_up-followed.ensures s v)
      | else-i-wanted w ↦ ap (λ (f : Followed·rt). moved_up c.args.i (followed_of f).told (followed_of f).place (reasons_of c.args.l.leaving)) w.followed-is ∙ followed-other c.args.wanted c.args.i (followed_of c.args.f) v w.if-i-wanted.false
    ]
