-- `capi::part::put_portion` meets its contract: a third word behind those of the end. Assumes nothing.
use Rattle.script.specs.Play.{stop_number}
use Rattle.capi.proofs.CarriedLaws.{portion-words}
use Rattle.capi.proofs.part.put_portion.Goals as goal

pub returns : goal.returns
returns c = rw c.put_end.ensures (portion-words c.args.part.now (stop_number c.args.stop) c.args.written c.args.used c.requires)
