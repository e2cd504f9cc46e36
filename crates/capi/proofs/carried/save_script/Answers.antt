-- `capi::carried::save_script` meets its contract: what is put there is found there. Assumes nothing.
use Rattle.capi.proofs.CarriedLaws.{script-saved}
use Rattle.capi.proofs.carried.save_script.Goals as goal

pub returns : goal.returns
returns c =
    script-saved c.args.words.now c.args.bytes.now c.args.st c.requires.0 c.put_kept.ensures.0 c.put_kept.ensures.1
