-- `memory::paging::traded` meets its contract. Assumes nothing.
use borrow.Author.Tests.{eq-eqb, ne_eqb}
use Rattle.rules.specs.Paging.{traded}
use Rattle.memory.proofs.paging.traded.Goals as goal

pub returns-then-x-p : goal.returns-then-x-p
unfolding traded
returns-then-x-p c = rw (eq-eqb _ _ c.if-x-p.true)

pub returns-then-x-q : goal.returns-then-x-q
unfolding traded
returns-then-x-q c = rw (ne_eqb _ _ c.if-x-p.false, eq-eqb _ _ c.if-x-q.true)

pub returns-else-x-q : goal.returns-else-x-q
unfolding traded
returns-else-x-q c = rw (ne_eqb _ _ c.if-x-p.false, ne_eqb _ _ c.if-x-q.false)
