-- `node::user::poll` meets its contract. The part that has the words of the running group's first message is as long as the message, and
-- nothing settles after a step that changes nothing. Assumes nothing.
use native.Mathlib.Omega.{arith}
use Rattle.node.proofs.user.PeekLaws.{first-inside, poll-serves}
use Rattle.node.proofs.user.poll.Goals as goal

pub overflow_cast-result : goal.overflow_cast-result
overflow_cast-result c =
    let p = c.requires in
    let few = (first-inside p.holds p.fact (c.first-p.ensures p.node p.rest p.holds p.fact.valid)).1 in
    omega arith

pub returns : goal.returns
returns c n r h runs = poll-serves h runs (c.first-p.ensures n r h runs.valid)
