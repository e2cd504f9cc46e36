-- `follow::one::picked_up` meets its contract: the tests are those of the definition. Assumes nothing.
use borrow.Author.Rules.{rules}
use mathlib.Core.Path.{◌≡◌, ◌∙◌, ap}
use Rattle.reasons.specs.Why.{Told}
use Rattle.follow.specs.One.{followed_of}
use Rattle.follow.specs.Seen.{left_of}
use Rattle.follow.proofs.one.PlaceLaws.{picked-arrival, picked-other, picked-unread}
use Rattle.follow.proofs.one.picked_up.Goals as goal

pub returns-then-l : goal.returns-then-l
returns-then-l c = λ s v. ap (λ (t : Told). record { place = 0; told = t }) c.from.ensures ∙ picked-unread v (followed_of c.args.f) c.if-l.true

pub returns-in-Some : goal.returns-in-Some
returns-in-Some c = let e : c.map_or-left.result ≡ left_of c.args.l.leaving = search rules in λ s v. picked-arrival v (followed_of c.args.f) c.if-l.false c.in-Some.queued c.in-Some.is c.checked_sub.result (rw e at c.checked_sub.ensures)

pub returns-in-None : goal.returns-in-None
returns-in-None c = λ s v. picked-other v (followed_of c.args.f) c.if-l.false c.in-None.is
