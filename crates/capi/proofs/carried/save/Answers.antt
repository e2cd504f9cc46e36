-- `capi::carried::save` meets its contract: what is put there is found there. Assumes nothing.
use Rattle.capi.proofs.CarriedLaws.{saved}
use mathlib.Core.Path.{◌∙◌}
use lib.ListN.{length-set}
use borrow.Author.Rules.{rules}
use Rattle.capi.proofs.carried.save.Goals as goal

pub put_waiting-requires : goal.put_waiting-requires
put_waiting-requires c = simp length-set (search rules)

pub shape_of-words : goal.shape_of-words
shape_of-words c =
    let put = simp length-set at c.put_waiting.auto.words in
    put ∙ c.save_script.auto.words

pub returns : goal.returns
returns c =
    saved c.args.words.now c.args.bytes.now c.args.st c.requires.0 c.save_script.ensures c.put_waiting.ensures.0
    c.put_waiting.ensures.1
