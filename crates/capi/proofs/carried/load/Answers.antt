-- `capi::carried::load` meets its contract: each part of the state is what is read there. Assumes nothing.
use Rattle.capi.proofs.CarriedLaws.{loaded}
use Rattle.capi.proofs.carried.load.Goals as goal

pub returns : goal.returns
returns c =
    loaded c.args.words.now c.args.bytes.now c.load_script.ensures c.copy_all.ensures.after
