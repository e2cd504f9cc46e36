-- `validate::frames::list_wiped` meets its contract: its closure answers the test. Assumes nothing.
use Prim.Native.Nat.{◌+◌}
use mathlib.Core.Path.{refl, ◌∙◌}
use Rattle.std.proofs.Common.{rules, arith}
use Rattle.std.proofs.lemmas.Iterator.{serves_from_Range}
use Rattle.validate.proofs.AllLaws.{all_range}
use Rattle.validate.proofs.frames.ListedLaws.{list-bound}
use Rattle.validate.proofs.frames.WipedLaws.{wiped_at, list-tested, list-pages}
use Rattle.validate.proofs.frames.list_wiped.Goals as goal

pub overflow_add-at : goal.overflow_add-at
overflow_add-at c = omega (arith, list-bound c.args.m.now c.requires.counted c.args.l c.requires.high)

pub all-requires-clause-callable : goal.all-requires-clause-callable
all-requires-clause-callable c =
    let pages = list-pages c.args.m.now c.args.l c.list_at-at.result c.list_count-count.result c.requires c.list_at-at.ensures c.list_count-count.ensures in
    serves_from_Range (λ x q k. search rules) (λ x low high. let page = pages x low high in search rules)

pub returns : goal.returns
unfolding wiped_at
returns c =
    let m = c.args.m.now in
    let a = c.list_at-at.result in
    let k = c.list_count-count.result in
    list-tested m c.args.l a k c.list_at-at.ensures c.list_count-count.ensures
    ∙ all_range (wiped_at m) a (a + k) k refl (omega arith) c.all.ensures.ran (λ x t q j. search rules)
