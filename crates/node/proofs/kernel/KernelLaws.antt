-- O, I, S and T: when they are refused, and what they do to a node. Assumes nothing.
use Rattle.rules.specs.Node.{Node, forced, group_of, timer_runs, with_queue, with_running, with_timer, with_timer_flags}
use Rattle.rules.specs.Step.{act, finish, revoke, step, timed_out, timer_flagged, valued}
use Rattle.rules.specs.Settling.{drain}
use Prim.Native.Nat.{◌+◌, ◌%◌, ◌<◌, ◌≤◌, ℕ}
use native.Mathlib.Nat.{mod-lt, zero-add}
use native.Mathlib.Omega.{arith}
use mathlib.Core.Bool.{Bool, cond, false, true}
use mathlib.Core.List.{List}
use mathlib.Core.Logic.{◌≢◌}
use mathlib.Core.Path.{◌∙◌, ◌≡◌, ap, refl}
use lib.ListN.{length, set}
use borrow.Author.Tests.{eq-eqb, le-ltb, lt-ltb, ne_eqb}
use Rattle.rules.specs.Build.{group_count, paper01, tick_limit}
use Rattle.rules.specs.Memory.{running_at}
use Rattle.rules.specs.Operation.{accepted, all_zero, already_runs, bad_schedule, bad_ticks, dispatch, preempt, schedule, tick, timeout_trap}
use Rattle.rules.specs.Refusal.{refusal, refuse_dispatch, refuse_schedule, refuse_tick}
use Rattle.rules.specs.Valid.{Valid}
use Rattle.rules.proofs.Steps.ActLaws.{handed-ready}
use Rattle.rules.proofs.Steps.LineLaws.{timer-timed}
use Rattle.rules.proofs.Steps.NodeLaws.{group-good, reflagged, refronted, sound-timer}
use Rattle.rules.proofs.Steps.SettlingLaws.{drain-flags, drain-running, drain-sound}
use Rattle.rules.specs.Sound.{Sound}
use Rattle.rules.proofs.Steps.SoundLaws.{valid-sound}
use Rattle.rules.proofs.Steps.StepLaws.{schedule-still, step-taken}
use Rattle.rules.proofs.Steps.SwitchLaws.{handed_over, preempt-idle, preempt-rests, schedule-drains}
use Rattle.rules.proofs.Steps.TickLaws.{left_over, ticks-counted, ticks-idle, ticks-timeout, timed}
use Rattle.memory.specs.Holds.{Holds}
use Rattle.memory.proofs.PieceLaws.{holds-pieces}
use Rattle.memory.proofs.PieceWrites.{running-held}
use Rattle.memory.proofs.WriteLaws.{wrote-set}
use Rattle.node.specs.Steps.{Ticking, effect, late, rest}

-- The processor taken or given.

pub handed : {m : List ℕ} {n : Node} {r : List ℕ} → Holds m n r → (g : ℕ) → Holds (set m running_at g) (with_running g n) r
handed {m} h g = running-held h g (wrote-set m running_at g (omega (arith, (holds-pieces h).long)))

pub handed-sound : {n : Node} → Valid paper01 n → (g : ℕ) → g ≤ group_count → Sound paper01 (with_running g n)
unfolding with_timer with_running
handed-sound {n} v g high = (handed-ready v g n.timer high v.timer-bound).sound

-- O.

-- with nobody running nothing changes
pub preempt-nobody : {n : Node} → Valid paper01 n → n.running ≡ 0 → step paper01 n preempt ≡ record { report = all_zero; node = n }
preempt-nobody {n} v nobody = step-taken paper01 n ∙ preempt-idle v nobody

-- taken, the processor leaves what O leaves: settling zeroes the timer
pub preempt-taken : {n : Node} → Valid paper01 n → step paper01 n preempt ≡ finish paper01 (effect (with_running 0 n) 0 0)
unfolding valued
preempt-taken {n} v = step-taken paper01 n ∙ preempt-rests v

-- I.

module _ (n : Node) (g : ℕ) where
  pub dispatch-none : g ≡ 0 → refusal paper01 n (dispatch g) ≡ bad_schedule
  unfolding refusal refuse_dispatch
  dispatch-none e = rw (eq-eqb g 0 e)

  module _ (some : g ≢ 0) where
    pub dispatch-high : group_count < g → refusal paper01 n (dispatch g) ≡ bad_schedule
    unfolding refusal refuse_dispatch
    dispatch-high high = rw (ne_eqb g 0 some, lt-ltb group_count g high)

    pub dispatch-busy : g ≤ group_count → n.running ≢ 0 → refusal paper01 n (dispatch g) ≡ already_runs
    unfolding refusal refuse_dispatch
    dispatch-busy high busy = rw (ne_eqb g 0 some, le-ltb group_count g high, ne_eqb n.running 0 busy)

    pub dispatch-accepted : g ≤ group_count → n.running ≡ 0 → refusal paper01 n (dispatch g) ≡ accepted
    unfolding refusal refuse_dispatch
    dispatch-accepted high nobody = rw (ne_eqb g 0 some, le-ltb group_count g high, nobody)

-- S.

pub schedule-refused : (n : Node) (g : ℕ) → group_count < g → refusal paper01 n (schedule g) ≡ bad_schedule
unfolding refusal refuse_schedule
schedule-refused n g high = rw (lt-ltb group_count g high)

module _ {n : Node} (v : Valid paper01 n) (g : ℕ) where
  -- to the one running nothing changes
  pub schedule-same : g ≡ n.running → step paper01 n (schedule g) ≡ record { report = all_zero; node = n }
  schedule-same e = rw e (schedule-still v)

  module _ (high : g ≤ group_count) where
    -- to another it is the two acts: the queue drained with nobody running, the processor given, and this finished
    pub schedule-other : g ≢ n.running
        → step paper01 n (schedule g)
        ≡ finish paper01 (effect (with_timer 0 (with_running g (drain paper01 n.queue (with_running 0 n)))) 0 (length n.queue))
    unfolding handed_over
    schedule-other other = schedule-drains v g other high

    pub schedule-sound : Sound paper01 (with_timer 0 (with_running g (drain paper01 n.queue (with_running 0 n))))
    unfolding with_queue with_running
    schedule-sound =
        let d = drain paper01 n.queue (with_running 0 n) in
        let s : Sound paper01 d = drain-sound n.queue (with_running 0 n) (handed-sound v 0 (omega arith)) in
        refronted s g 0 d.queue high (omega arith) s.queue-length s.queue-good s.pledged

-- T.

pub tick-none : (n : Node) (k : ℕ) → k ≡ 0 → refusal paper01 n (tick k) ≡ bad_ticks
unfolding refusal refuse_tick
tick-none n k e = rw (eq-eqb k 0 e)

pub tick-many : (n : Node) (k : ℕ) → k ≢ 0 → tick_limit < k → refusal paper01 n (tick k) ≡ bad_ticks
unfolding refusal refuse_tick
tick-many n k some many = rw (ne_eqb k 0 some, lt-ltb tick_limit k many)

pub tick-accepted : (n : Node) (k : ℕ) → k ≢ 0 → k ≤ tick_limit → refusal paper01 n (tick k) ≡ accepted
unfolding refusal refuse_tick
tick-accepted n k some few = rw (ne_eqb k 0 some, le-ltb tick_limit k few)

module _ {n : Node} (v : Valid paper01 n) (k : ℕ) where
  -- where the timer does not run nothing changes
  pub tick-idle : timer_runs n ≡ false → act paper01 n (tick k) ≡ valued 0 n
  unfolding act
  tick-idle rests = ticks-idle paper01 k n rests

  -- below the timeout the timer counts on
  pub tick-counted : timer_runs n ≡ true → n.timer + k < paper01.timeout → act paper01 n (tick k) ≡ valued 0 (with_timer (n.timer + k) n)
  unfolding act
  tick-counted runs below = ticks-counted paper01 k n runs below

  -- else there is a timeout
  pub tick-timeout : timer_runs n ≡ true → paper01.timeout ≤ n.timer + k → act paper01 n (tick k) ≡ late (n.timer + k) n
  unfolding act timed left_over rest timed_out valued with_timer
  tick-timeout runs reached =
      ticks-timeout paper01 k n runs v.timer-bound reached
      ∙ ap (effect (with_timer (rest (n.timer + k) n) (revoke (drain paper01 n.queue n))) timeout_trap) (zero-add (length n.queue))

-- a node whose timer runs
pub valid-ticking : {n : Node} → Valid paper01 n → timer_runs n ≡ true → Ticking n
valid-ticking v runs = let t = timer-timed v runs in record { sound = valid-sound v; some = t.runs; atomic = t.atomic }

module _ {n : Node} (t : Ticking n) where
  -- a drain leaves it such
  pub drained-ticking : Ticking (drain paper01 n.queue n)
  unfolding with_queue
  drained-ticking =
      let d = drain paper01 n.queue n in
      let same = drain-running paper01 n.queue n in
      record {
        sound = drain-sound n.queue n t.sound;
        some = rw same t.some;
        atomic = ap (λ (g : ℕ). (group_of d g).atomic) same ∙ (drain-flags paper01 n.queue n n.running).atomic ∙ t.atomic;
      }

  -- a group that is atomic may be revoked
  revoke-sound : Sound paper01 (revoke n)
  unfolding revoke timer_flagged with_timer_flags
  revoke-sound =
      let G = group-good t.sound n.running t.some t.sound.running-bound in
      reflagged t.sound n.running t.some t.sound.running-bound (with_timer_flags (group_of n n.running).force true (group_of n n.running))
      (record {
        buffer = G.buffer;
        descriptor = G.descriptor;
        pending-atomic = G.pending-atomic;
        force-atomic = G.force-atomic;
        revoked-atomic = λ e. t.atomic;
      })
      refl

-- what is left over is below the timeout
pub rest-low : (t : ℕ) (n : Node) → rest t n < paper01.timeout
unfolding rest
rest-low t n = go (forced n)
  where
    go : (f : Bool) → cond f (t % paper01.timeout) 0 < paper01.timeout
    go true = mod-lt t (omega arith)
    go false = omega arith

-- a timeout leaves a sound node
pub late-sound : {n : Node} → Ticking n → (t : ℕ) → Sound paper01 (late t n).node
late-sound {n} k t = sound-timer (revoke-sound (drained-ticking k)) (rest t n) (rest-low t n)
