-- `follow::seen::is_arrival` meets its contract: none but A brings a message. Assumes nothing.
use borrow.Enum.Refused.{opened}
use Rattle.follow.proofs.seen.ReasonLaws.{an-arrival, no-arrival}
use Rattle.follow.proofs.seen.is_arrival.Goals as goal

pub returns-in-Arrive : goal.returns-in-Arrive
returns-in-Arrive c = λ ws. an-arrival c.args.op c.in-Arrive.is c.args.accepted ws

pub returns-in_default : goal.returns-in_default
returns-in_default c = λ ws. no-arrival c.args.op (opened c.in_default.in_default-own.keys2) c.args.accepted ws
