-- `validate::words::message_unused` meets its contract: a message within its bound ends within its place. Assumes nothing.
use native.Mathlib.Omega.{arith}
use Rattle.rules.specs.MemoryTest.{message_unused}
use Rattle.validate.proofs.words.message_unused.Goals as goal

pub overflow_sub-len : goal.overflow_sub-len
overflow_sub-len c = omega (arith, c.requires.counted.lengths c.args.i c.requires.i_bound)

pub zeros-requires : goal.zeros-requires
zeros-requires c = omega (arith, c.requires.counted.lengths c.args.i c.requires.i_bound)

pub returns : goal.returns
unfolding message_unused
returns c = rw (← c.queue_word-len.ensures) c.zeros.ensures
