-- `why::one::is_settled` meets its contract: the tests are those of the definition. Assumes nothing.
use borrow.Author.Rules.{rules}
use mathlib.Core.Path.{◌≡◌, ◌∙◌}
use borrow.Author.Tests.{lt-leb}
use Rattle.std.specs.Prelude.{is_none}
use Rattle.why.proofs.ReachLaws.{settled-not, settled-past}
use Rattle.why.proofs.one.is_settled.Goals as goal

pub returns-then-state-script : goal.returns-then-state-script
returns-then-state-script c = let e : c.is_none.result ≡ is_none c.args.state.followed.ahead = search rules in e ∙ settled-past c.args.state c.if-state-script.true

pub returns-else-state-script : goal.returns-else-state-script
returns-else-state-script c = lt-leb c.args.state.wanted c.args.state.script.lines c.if-state-script.false ∙ settled-not c.args.state c.if-state-script.false
