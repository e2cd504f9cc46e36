-- What each accepted operation does, and a step: refused, or acted, settled and called up. Assumes nothing.
use Rattle.std.specs.Prelude.{ℕ, zero, suc, ◌+◌, Bool, true, false, cond, ◌||◌, List, [], ◌∷◌, ◌++◌, eqb, length, get_or}
use Rattle.rules.specs.Build.{Build}
use Rattle.rules.specs.Node.{Message, Node, group_of, with_running, with_timer, with_queue, with_group, with_flags, with_timer_flags, with_descriptor, buffer_holds, buffered, timer_runs, is_of, line}
use Rattle.rules.specs.Frames.{remove_first, with_stock}
use Rattle.rules.specs.Paging.{runner_resident}
use Rattle.rules.specs.Operation.{Request, poll, peek, dispose, begin_atomic, end_atomic, describe, launch}
use Rattle.rules.specs.Operation.{Operation, arrive, schedule, preempt, dispatch, tick, turn, user, unknown}
use Rattle.rules.specs.Operation.{Report, accepted, no_trap, dispose_extend, atomicity_extend, timeout_trap, refused, all_zero}
use Rattle.rules.specs.Refusal.{refusal, queued}
use Rattle.rules.specs.Settling.{settle, drain, upcall, upcall_group}
use Rattle.rules.specs.Turn.{whose_turn}

-- what an accepted operation does before settling: the node, and its part of the report
pub record Effect : Type 0 where
  pub node : Node
  pub value : ℕ
  pub trap : ℕ
  pub moved : ℕ
  pub sent : List ℕ

-- "Value is 0 where none is named."
unfoldable pub valued : ℕ → Node → Effect
valued x n = record { node = n; value = x; trap = no_trap; moved = 0; sent = [] }

-- O "takes [the processor] from whoever runs"; "O zeroes the timer."; "with nobody running, it changes nothing": the timer is then 0
unfoldable pub preempted : Node → Node
preempted n = with_timer 0 (with_running 0 n)

-- the running group's flags force and revoked set
unfoldable pub timer_flagged : Bool → Bool → Node → Node
timer_flagged f r n = with_group n.running (with_timer_flags f r (group_of n n.running)) n

-- "At any timeout the running group is marked revoked": where a tick counts, a group runs
unfoldable pub revoke : Node → Node
revoke n = timer_flagged (group_of n n.running).force true n

-- "At 256: timeout, the whole hardware queue moves to the buffers, timer 0"
unfoldable pub timed_out : Build → Effect → Effect
timed_out b e =
    record {
      node = with_timer 0 (revoke (drain b e.node.queue e.node));
      value = e.value;
      trap = timeout_trap;
      moved = e.moved + length e.node.queue;
      sent = e.sent;
    }

-- "A tick adds 1 to the timer"
unfoldable pub counted : Effect → Effect
counted e =
    record {
      node = with_timer (e.node.timer + 1) e.node;
      value = e.value;
      trap = e.trap;
      moved = e.moved;
      sent = e.sent;
    }

-- a tick counts where the timer runs, and is else nothing
unfoldable pub one_tick : Build → Effect → Effect
one_tick b e = cond (timer_runs e.node) (cond (eqb (e.node.timer + 1) b.timeout) (timed_out b e) (counted e)) e

-- T: "n single ticks"
unfoldable pub ticks : Build → ℕ → Effect → Effect
ticks b zero e = e
ticks b (suc k) e = ticks b k (one_tick b e)

-- M: "words in the line's first message, 0 if none"
unfoldable pub first_length : List Message → ℕ
first_length [] = 0
first_length (m ∷ ms) = length m.words

-- E: "word i of that message, from 0"
unfoldable pub first_word : List Message → ℕ → ℕ
first_word [] i = 0
first_word (m ∷ ms) i = get_or m.words i 0

-- the queue without the first message of group g
unfoldable pub without_first : ℕ → List Message → List Message
without_first g [] = []
without_first g (m ∷ q) = elim (is_of g m) [ true ↦ q | false ↦ m ∷ without_first g q ]

-- D: "removes that message"; it is in the buffer where that holds one, else in the hardware queue
unfoldable pub removed : Build → Node → Node
removed b n =
    cond (buffer_holds n n.running)
    (with_stock n.running (remove_first b n.free n.paging.entered (group_of n n.running).buffer) n)
    (with_queue (without_first n.running n.queue) n)

-- the running group's flags changed
unfoldable pub flagged : Bool → Bool → Node → Node
flagged a p n = with_group n.running (with_flags a p (group_of n n.running)) n

-- D: "pending off; timer 0"
unfoldable pub disposed : Build → Node → Node
disposed b n = with_timer 0 (flagged (group_of n n.running).atomic false (removed b n))

-- B: "atomic on. Not counted"; "`B,1` turns force on, `B,0` and plain `B` leave it"
unfoldable pub section_begun : Bool → Node → Node
section_begun force n =
    let G = group_of n n.running in
    timer_flagged (force || G.force) G.revoked (flagged true G.pending n)

-- N: "atomic off"; "an accepted N turns [force] off", and a group is revoked "until its next accepted N"
unfoldable pub section_ended : Node → Node
section_ended n = flagged false (group_of n n.running).pending (timer_flagged false false n)

-- a trap that is reported where the running group is buffered as the operation begins
unfoldable pub extending : ℕ → Node → Node → Effect
extending t n after = record { node = after; value = 0; trap = cond (buffered n n.running) t no_trap; moved = 0; sent = [] }

-- the running group's descriptor replaced
unfoldable pub described : List ℕ → Node → Node
described d n = with_group n.running (with_descriptor d (group_of n n.running)) n

-- L: "sends the descriptor to node 0 to 63, stamped with the running group; value: its length; empties it"
unfoldable pub launched : ℕ → Node → Effect
launched k n =
    let d = (group_of n n.running).descriptor in
    record { node = described [] n; value = length d; trap = no_trap; moved = 0; sent = k ∷ n.running ∷ d }

-- M to L, for the running group
unfoldable pub serve : Build → Node → Request → Effect
serve b n poll = valued (first_length (line n n.running)) n
serve b n (peek i) = valued (first_word (line n n.running) i) n
serve b n dispose = extending dispose_extend n (disposed b n)
serve b n (begin_atomic force) = valued 0 (section_begun force n)
serve b n end_atomic = extending atomicity_extend n (section_ended n)
serve b n (describe w) =
    let d = (group_of n n.running).descriptor ++ (w ∷ []) in
    valued (length d) (described d n)
serve b n (launch k) = launched k n

-- the table of operations; S has no act of its own, but those of O and I (see switched)
unfoldable pub act : Build → Node → Operation → Effect
act b n (arrive g ws) = valued 0 (queued (record { group = g; words = ws }) n)
act b n preempt = valued 0 (preempted n)
-- "`I,g` gives it to g"
act b n (dispatch g) = valued 0 (with_running g n)
act b n (schedule g) = valued 0 n
act b n (tick k) = ticks b k (valued 0 n)
-- "C changes nothing"
act b n turn = valued (whose_turn n) n
act b n (user r) = serve b n r
act b n unknown = valued 0 n

-- a step's report, and the node after it
pub record Stepped : Type 0 where
  pub report : Report
  pub node : Node

-- "An accepted operation acts, then come settling and the upcall." The running group's first page is brought in "once settling is done"
unfoldable pub finish : Build → Effect → Stepped
finish b e =
    let s = settle b e.node in
    let n = runner_resident b s.node in
    record {
      report =
          record {
            answer = accepted;
            value = e.value;
            trap = e.trap;
            upcall = upcall_group n;
            moved = e.moved + s.moved;
            sent = e.sent;
          };
      node = upcall n;
    }

-- two steps in a row as one: the second's report, "with the moved counts summed"
unfoldable pub in_arow : Stepped → Stepped → Stepped
in_arow s t =
    let r = t.report in
    record {
      report =
          record {
            answer = r.answer;
            value = r.value;
            trap = r.trap;
            upcall = r.upcall;
            moved = s.report.moved + r.moved;
            sent = r.sent;
          };
      node = t.node;
    }

-- S: "nothing if g already runs, else O, and I unless g is 0"
unfoldable pub switched : Build → Node → ℕ → Stepped
switched b n g =
    elim (eqb g n.running) [
      | true ↦ record { report = all_zero; node = n }
      | false ↦
          let taken = finish b (act b n preempt) in
          elim (eqb g 0) [ true ↦ taken | false ↦ in_arow taken (finish b (act b taken.node (dispatch g))) ]
    ]

-- what an accepted operation does, whole: S is a line of two acts, every other operation one
unfoldable pub performed : Build → Node → Operation → Stepped
performed b n (arrive g ws) = finish b (act b n (arrive g ws))
performed b n preempt = finish b (act b n preempt)
performed b n (dispatch g) = finish b (act b n (dispatch g))
performed b n (schedule g) = switched b n g
performed b n (tick k) = finish b (act b n (tick k))
performed b n turn = finish b (act b n turn)
performed b n (user r) = finish b (act b n (user r))
performed b n unknown = finish b (act b n unknown)

-- "A refused step reports its number and zeros, and nothing in memory changes: no settling, no upcall."
unfoldable pub step : Build → Node → Operation → Stepped
step b n op =
    elim (refusal b n op) [
      | zero ↦ performed b n op
      | suc r ↦ record { report = refused (suc r); node = n }
    ]
