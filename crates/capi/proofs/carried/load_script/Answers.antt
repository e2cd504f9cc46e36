-- `capi::carried::load_script` meets its contract: each part is what is read there. Assumes nothing.
use Rattle.capi.proofs.CarriedLaws.{script-loaded}
use Rattle.capi.proofs.carried.load_script.Goals as goal

pub returns : goal.returns
returns c =
    script-loaded c.args.words.now c.args.bytes.now c.copy_all.ensures.after
