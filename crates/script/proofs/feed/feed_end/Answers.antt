-- `script::feed::feed_end` meets its contract: a newline is fed, or nothing. Assumes nothing.
use mathlib.Core.Path.{◌∙◌, sym}
use borrow.Author.Tests.{not-false, not-true}
use Rattle.script.proofs.feed.FedLaws.{feeds-newline, feeds-nothing}
use Rattle.script.proofs.feed.feed_end.Goals as goal

pub returns-then-begun : goal.returns-then-begun
returns-then-begun c =
    feeds-newline (not-true _ (sym c.begun.ensures ∙ c.if-begun.true)) c.feed.ensures

pub returns : goal.returns
returns c =
    feeds-nothing (not-false _ (sym c.begun.ensures ∙ c.if-begun.false)) c.feed-2.ensures
