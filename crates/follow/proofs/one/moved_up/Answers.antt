-- `follow::one::moved_up` meets its contract: a message moves up by as many as leave before it. Assumes nothing.
use mathlib.Core.Path.{ap, sym, ◌∙◌}
use Rattle.follow.specs.One.{followed_of, place_of, told_of}
use Rattle.follow.specs.Seen.{reasons_of}
use Rattle.follow.proofs.one.PlaceLaws.{moved-ahead, moved_none, moved-out, moved_still}
use Rattle.follow.proofs.one.moved_up.Goals as goal

pub returns-in_default : goal.returns-in_default
returns-in_default c = sym (moved_still c.args.i (told_of c.args.f.told) (place_of c.args.f.ahead) (ap reasons_of c.in_default.is))

pub returns-in_default-ahead : goal.returns-in_default-ahead
returns-in_default-ahead c = sym (moved_none c.args.i (told_of c.args.f.told) (place_of c.args.f.ahead) (reasons_of c.args.l.leaving) (ap place_of c.in_default-ahead.is))

pub returns-in-Some-checked_sub : goal.returns-in-Some-checked_sub
returns-in-Some-checked_sub c =
    rw (c.in-Some.is, c.in-Some-ahead.is)
    (moved-ahead c.args.i (told_of c.args.f.told) c.in-Some-ahead.ahead c.in-Some.leaving.count c.in-Some.leaving.first c.in-Some.leaving.later c.in-Some-checked_sub.ensures)

pub returns-in-None : goal.returns-in-None
returns-in-None c =
    rw (c.in-Some.is, c.in-Some-ahead.is)
    (ap followed_of c.left_in.ensures
    ∙ moved-out c.args.i (told_of c.args.f.told) c.in-Some-ahead.ahead c.in-Some.leaving.count c.in-Some.leaving.first c.in-Some.leaving.later c.in-None.ensures c.reason_at.ensures)
