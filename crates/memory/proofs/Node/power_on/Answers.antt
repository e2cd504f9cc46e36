-- `memory::Node::power_on` meets its contract: only the size is tested. Assumes nothing.
use Rattle.memory.proofs.PowerOnLaws.{power-on-answered, power-on-refused}
use Rattle.memory.proofs.Node.power_on.Goals as goal

pub returns-then-memory-lt-SIZE : goal.returns-then-memory-lt-SIZE
returns-then-memory-lt-SIZE c = power-on-refused _ c.if-memory-lt-SIZE.true c.into.ensures

pub returns : goal.returns
returns c = power-on-answered _ c.if-memory-lt-SIZE.false c.start.ensures c.accepted.ensures
