-- The Rattle types that contracts speak of, and what each of their values stands for. Assumes nothing.
use Rattle.std.specs.Prelude.{ℕ, ◌-◌, List, length, drop, get_or}
use Rattle.rules.specs.Lists.{pad}
use Rattle.rules.specs.Build.{Build, group_count, word_limit, last_node, tick_limit}
use Rattle.rules.specs.Operation.{poll, peek, dispose, begin_atomic, end_atomic, describe, launch}
use Rattle.rules.specs.Operation.{Operation, arrive, schedule, preempt, dispatch, tick, turn, user, unknown, Report}
use Rattle.rules.specs.declared.Operation.{Operation as Operation·rt}
use Rattle.rules.specs.declared.Operation.TheVariants.{Arrive, Schedule, Preempt, Dispatch, Tick, Turn, Poll, Peek, Dispose, BeginAtomic, EndAtomic, Describe, Launch, Unknown}
use Rattle.rules.specs.declared.Report.{Report as Report·rt}
use Rattle.rules.specs.declared.Sent.{Sent as Sent·rt}
use Rattle.rules.specs.declared.Build.{Build as Build·rt}
use Rattle.rules.specs.declared.Limits.{Limits as Limits·rt}

-- an operation, with the words lent beside it
unfoldable pub operation_of : Operation·rt → List ℕ → Operation
operation_of (Arrive g) ws = arrive g ws
operation_of (Schedule g) ws = schedule g
operation_of Preempt ws = preempt
operation_of (Dispatch g) ws = dispatch g
operation_of (Tick k) ws = tick k
operation_of Turn ws = turn
operation_of Poll ws = user poll
operation_of (Peek i) ws = user (peek i)
operation_of Dispose ws = user dispose
operation_of (BeginAtomic force) ws = user (begin_atomic force)
operation_of EndAtomic ws = user end_atomic
operation_of (Describe w) ws = user (describe w)
operation_of (Launch k) ws = user (launch k)
operation_of Unknown ws = unknown

-- what an accepted launch sends: node, group and words, 0 where there is none
abbrev pub sent_of : List ℕ → Sent·rt
sent_of s = record { node = get_or s 0 0; group = get_or s 1 0; len = length s - 2; words = pad word_limit (drop 2 s) }

-- a step's report
abbrev pub report_of : Report → Report·rt
report_of r =
    record {
      answer = r.answer;
      value = r.value;
      trap = r.trap;
      upcall = r.upcall;
      moved = r.moved;
      sent = sent_of r.sent;
    }

-- a build
abbrev pub build_of : Build → Build·rt
build_of b = record { frames = b.frames; swap = b.swap; per_frame = b.per_frame; places = b.places; timeout = b.timeout }

-- the limits that every build shares
abbrev pub limits : Limits·rt
limits = record { groups = group_count; words = word_limit; last_node = last_node; tick_limit = tick_limit }
