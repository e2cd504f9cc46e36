-- The number of a reason is one more than its place in the enum. Assumes nothing.
use Prim.Native.Nat.{◌+◌}
use mathlib.Core.Path.{◌≡◌, refl}
use denote.Enum.Declared.{tag_of}
use Rattle.reasons.specs.Numbers.{reason_number}
use Rattle.reasons.specs.contracts.Reason.{the_type}
use Rattle.reasons.specs.declared.Reason.{Reason as Reason·rt}
use Rattle.reasons.specs.declared.Reason.TheVariants.{DisposedOf, StillQueued, NotRunning, OlderWaiting, Revoked, Timeout, ProcessorTaken}

pub reason-placed : (r : Reason·rt) → tag_of the_type r + 1 ≡ reason_number r
reason-placed DisposedOf = refl
reason-placed StillQueued = refl
reason-placed NotRunning = refl
reason-placed OlderWaiting = refl
reason-placed Revoked = refl
reason-placed Timeout = refl
reason-placed ProcessorTaken = refl
