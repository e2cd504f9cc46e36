-- `memory::words::copy` meets its contract. The invariant: i words are copied, and those to come are as they were. Assumes nothing.
use Prim.Native.Nat.{◌+◌}
use native.Mathlib.Omega.{arith}
use mathlib.Core.Path.{◌≡◌}
use Rattle.rules.specs.Memory.{word, words_at}
use Rattle.rules.proofs.Map.MapWords.{length-words_at}
use Rattle.memory.proofs.WriteLaws.{wrote_none, wrote-next, words_at-more}
use Rattle.memory.proofs.words.SwapLaws.{uncopied}
use Rattle.memory.proofs.words.copy.Goals as goal

pub loop-i-init : goal.loop-i-init
unfolding words_at
loop-i-init c = wrote_none c.args.m.now c.args.to

pub loop-i-preserved : goal.loop-i-preserved
unfolding word
loop-i-preserved c =
    let a = c.args in
    let m₀ = a.m.now in
    let m = c.loop-i.m in
    let i = c.loop-i.i in
    let w = c.loop-i.invariant in
    let l = length-words_at m₀ a.from i in
    let same : word m (a.from + i) ≡ word m₀ (a.from + i) = rw l at (uncopied w a.from a.n (omega arith) c.requires.n_bound) in
    rw (words_at-more m₀ a.from i, ← same) (wrote-next w (a.to + i) (word m (a.from + i)) (omega arith) (omega arith))
