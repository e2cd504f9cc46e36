-- `follow::seen::later_reason` meets its contract: T alone moves those behind the first as it moves it. Assumes nothing.
use borrow.Enum.Refused.{opened}
use Rattle.follow.proofs.seen.ReasonLaws.{later-tick, later-other}
use Rattle.follow.proofs.seen.later_reason.Goals as goal

pub returns-in-Tick : goal.returns-in-Tick
returns-in-Tick c = later-tick c.args.op c.in-Tick.is

pub returns-in_default : goal.returns-in_default
returns-in_default c = later-other c.args.op (opened c.in_default.in_default-own.keys2)
