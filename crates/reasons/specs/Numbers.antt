-- The reasons and the refusals by name, and the paper's numbers of them. Assumes nothing.
use Rattle.std.specs.Prelude.{ℕ}
use Rattle.rules.specs.Operation.{not_node, unreadable}
use Rattle.reasons.specs.Why.{no_arrival}
use Rattle.reasons.specs.declared.Reason.{Reason as Reason·rt}
use Rattle.reasons.specs.declared.Reason.TheVariants.{DisposedOf, StillQueued, NotRunning, OlderWaiting, Revoked, Timeout, ProcessorTaken}
use Rattle.reasons.specs.declared.Untold.{Untold as Untold·rt}
use Rattle.reasons.specs.declared.Untold.TheVariants.{NotNode, Unreadable, NoArrival}

-- those of `Because`, in its order
abbrev pub reason_number : Reason·rt → ℕ
reason_number DisposedOf = 1
reason_number StillQueued = 2
reason_number NotRunning = 3
reason_number OlderWaiting = 4
reason_number Revoked = 5
reason_number Timeout = 6
reason_number ProcessorTaken = 7

-- what a line is refused with of which nothing is told
abbrev pub untold_number : Untold·rt → ℕ
untold_number NotNode = not_node
untold_number Unreadable = unreadable
untold_number NoArrival = no_arrival
