-- `capi::part::put_end` meets its contract: two words, one behind the other. Assumes nothing.
use Rattle.script.specs.Play.{stop_number}
use Rattle.capi.proofs.CarriedLaws.{end-words, stop-told}
use Rattle.capi.proofs.part.put_end.Goals as goal

pub returns : goal.returns
returns c = rw (stop-told c.args.stop) (end-words c.args.part.now (stop_number c.args.stop) c.args.written c.requires)
