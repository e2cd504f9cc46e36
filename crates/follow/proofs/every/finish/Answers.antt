-- `follow::every::finish` meets its contract: a line that has begun gets its newline, and leaves room for those that are still queued. Assumes nothing.
use native.Mathlib.Omega.{arith}
use mathlib.Core.Path.{◌∙◌, sym}
use borrow.Author.Rules.{rules}
use Rattle.follow.proofs.every.EndLaws.{finished-none, finished-short, finished-stopped, finished-told, told-room}
use Rattle.follow.proofs.every.finish.Goals as goal

pub returns-then-out : goal.returns-then-out
returns-then-out c = finished-short c.if-out.true

pub returns-then-ne : goal.returns-then-ne
returns-then-ne c = finished-stopped c.args.state c.if-out.false (sym c.if-begun.true ∙ c.begun.ensures) c.tell-t.ensures (search rules)

pub put_queued-requires : goal.put_queued-requires
put_queued-requires c = let w = told-room c.args.state c.if-out.false (sym c.if-begun.true ∙ c.begun.ensures) c.tell-t.ensures (search rules) in let l = c.tell-t.auto.out in let r = c.if-out.false in omega arith

pub returns-then-begun : goal.returns-then-begun
returns-then-begun c = finished-told c.args.state c.if-out.false (sym c.if-begun.true ∙ c.begun.ensures) c.tell-t.ensures (search rules) c.put_queued.ensures

pub returns : goal.returns
returns c = finished-none c.args.state c.if-out.false (sym c.if-begun.false ∙ c.begun.ensures) c.put_queued-2.ensures
