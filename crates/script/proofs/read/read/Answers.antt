-- `script::read::read` meets its contract: the line that the text begins with is the text where no newline is met in it, and a text with one
-- cannot be read. Assumes nothing.
use borrow.Author.Rules.{rules}
use Rattle.script.proofs.read.NewlineLaws.{text-empty, text-broken, text-whole}
use Rattle.script.proofs.read.read.Goals as goal

pub returns-then-is_empty : goal.returns-then-is_empty
returns-then-is_empty c = rw c.unreadable.ensures (text-empty (search rules))

pub returns-then-l-text : goal.returns-then-l-text
returns-then-l-text c = rw c.unreadable-then-l-text.ensures (text-broken c.read_at-l.ensures c.if-l-text.true)

pub returns : goal.returns
returns c = text-whole c.read_at-l.ensures c.if-l-text.false
