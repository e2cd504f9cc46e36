-- Refusals and traps by name, and the numbers that a report has for them. Assumes nothing.
use Rattle.std.specs.Prelude.{ℕ, Option, Some, None}
use Rattle.rules.specs.Operation.{not_node, unreadable, bad_group, bad_words, queue_full, no_frames, nobody_runs, no_message, past_message}
use Rattle.rules.specs.Operation.{still_pending, descriptor_full, descriptor_empty, bad_node, bad_schedule, bad_ticks, already_runs}
use Rattle.rules.specs.Operation.{no_trap, dispose_extend, atomicity_extend, timeout_trap}
use Rattle.rules.specs.declared.Refusal.{Refusal as Refusal·rt}
use Rattle.rules.specs.declared.Refusal.TheVariants.{NotNode, Unreadable, BadGroup, BadWords, QueueFull, NoFrames, NobodyRuns, NoMessage, PastMessage, StillPending, DescriptorFull, DescriptorEmpty, BadNode, BadSchedule, BadTicks, AlreadyRuns}
use Rattle.rules.specs.declared.Trap.{Trap as Trap·rt}
use Rattle.rules.specs.declared.Trap.TheVariants.{DisposeExtend, AtomicityExtend, TimedOut}

-- "each refusal has its number"
abbrev pub refusal_number : Refusal·rt → ℕ
refusal_number NotNode = not_node
refusal_number Unreadable = unreadable
refusal_number BadGroup = bad_group
refusal_number BadWords = bad_words
refusal_number QueueFull = queue_full
refusal_number NoFrames = no_frames
refusal_number NobodyRuns = nobody_runs
refusal_number NoMessage = no_message
refusal_number PastMessage = past_message
refusal_number StillPending = still_pending
refusal_number DescriptorFull = descriptor_full
refusal_number DescriptorEmpty = descriptor_empty
refusal_number BadNode = bad_node
refusal_number BadSchedule = bad_schedule
refusal_number BadTicks = bad_ticks
refusal_number AlreadyRuns = already_runs

-- a trap's number, 0 where there is none
abbrev pub trap_number : Option Trap·rt → ℕ
trap_number None = no_trap
trap_number (Some DisposeExtend) = dispose_extend
trap_number (Some AtomicityExtend) = atomicity_extend
trap_number (Some TimedOut) = timeout_trap
