-- `follow::one::told_at` meets its contract: the test is that of the definition. Assumes nothing.
use native.Mathlib.Omega.{arith}
use mathlib.Core.Path.{◌∙◌, ap, sym}
use Rattle.follow.specs.One.{followed_of, place_of}
use Rattle.follow.proofs.one.PlaceLaws.{told-left, told-queued}
use Rattle.follow.proofs.one.told_at.Goals as goal

pub returns-in-None : goal.returns-in-None
returns-in-None c = told-left c.args.last (followed_of c.args.f) (ap place_of c.in-None.is)

pub returns-in-Some : goal.returns-in-Some
returns-in-Some c = told-queued c.args.last (followed_of c.args.f) (λ e. let s = sym (ap place_of c.in-Some.is) ∙ e in omega arith)
