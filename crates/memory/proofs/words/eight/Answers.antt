-- `memory::words::eight` meets its contract: the part has eight words, so it is an array of them. Assumes nothing.
use Prim.Native.Nat.{◌+◌, ◌-◌}
use native.Mathlib.Omega.{arith}
use mathlib.Core.Path.{◌≡◌, sym, ◌∙◌}
use Rattle.rules.proofs.Map.MapWords.{words_at-part}
use Rattle.memory.proofs.words.eight.Goals as goal

pub returns : goal.returns
returns c =
    let a = c.args in
    let k : a.a + 8 - a.a ≡ 8 = omega arith in
    let whole = rw c.unwrap.ensures at c.try_into.ensures.1 in
    (rw k at whole.same) ∙ sym (words_at-part a.m.now a.a 8 c.requires)
