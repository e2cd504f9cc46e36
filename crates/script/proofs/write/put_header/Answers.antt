-- `script::write::put_header` meets its contract: the text is the header's. Assumes nothing.
use Rattle.rules.specs.Script.{header}
use Rattle.script.proofs.write.put_header.Goals as goal

pub put_text-requires : goal.put_text-requires
unfolding header
put_text-requires c = c.requires

pub returns : goal.returns
unfolding header
returns c = c.put_text.ensures
