-- B, N and D: when they are refused, and what they do to a node. Assumes nothing.
use Prim.Native.Nat.{◌≤◌, ℕ}
use native.Mathlib.Omega.{arith}
use mathlib.Core.Bool.{Bool, false, true, true≢false}
use mathlib.Core.List.{List, [], ◌∷◌}
use mathlib.Core.Logic.{◌≢◌}
use mathlib.Core.Path.{◌∙◌, ◌≡◌, refl, subst, sym}
use lib.ListN.{length, set}
use borrow.Author.Tests.{ltb-true}
use Rattle.rules.specs.Build.{paper01}
use Rattle.rules.specs.Frames.{ceil_div}
use Rattle.rules.specs.Lists.{is_empty}
use Rattle.rules.specs.Memory.{queued_at, running_at, size, timer_at, word}
use Rattle.rules.specs.Node.{line, Message, Node, buffer_holds, group_of}
use Rattle.rules.specs.Operation.{dispose, end_atomic, accepted, no_message, still_pending}
use Rattle.rules.specs.Refusal.{refuse_dispose, refuse_end, refuse_request}
use Rattle.rules.specs.Step.{disposed, flagged, removed}
use Rattle.rules.specs.Valid.{Valid}
use Rattle.rules.proofs.Steps.LineLaws.{direct-head, line-buffered, removed-running, without-running}
use Rattle.rules.proofs.Steps.NodeLaws.{group-good}
use Rattle.rules.proofs.Steps.PagingLaws.{first-entered}
use Rattle.rules.proofs.Steps.SoundLaws.{line-lengths, valid-sound}
use Rattle.memory.specs.Holds.{Holds, Queued, Waits, dropping, flagging, removing}
use Rattle.memory.specs.Writes.{group_read}
use Rattle.memory.proofs.PieceLaws.{holds-pieces}
use Rattle.memory.proofs.PieceWrites.{timer-held}
use Rattle.memory.proofs.WriteLaws.{wrote-set}
use Rattle.node.specs.Steps.{Running, Settles}
use Rattle.node.proofs.RunnerLaws.{runner-count}
use Rattle.node.proofs.settling.CallLaws.{line-none, line-queued}

-- a valid node has settled
pub valid-settles : {n : Node} → Valid paper01 n → Settles n
valid-settles v = record { sound = valid-sound v; head = v.head-stays }

module _ {m : List ℕ} {n : Node} {r : List ℕ} (h : Holds m n r) (run : Running n) where
  count-read : (group_read m (word m running_at)).count ≡ (group_of n n.running).buffer.count
  count-read = runner-count h run.some run.valid.running-bound

  -- its line is empty exactly where its buffer holds nothing and the queue is empty
  pub runner-none : (group_read m (word m running_at)).count ≡ 0 → word m queued_at ≡ 0 → is_empty (line n n.running) ≡ true
  runner-none none empty = line-none n n.running (sym count-read ∙ none) (sym (holds-pieces h).queued ∙ empty)

  pub runner-buffered : (group_read m (word m running_at)).count ≢ 0 → is_empty (line n n.running) ≡ false
  runner-buffered some =
      line-buffered (valid-sound run.valid) n.running run.some run.valid.running-bound (let c = count-read in omega arith)

  pub runner-queued : (group_read m (word m running_at)).count ≡ 0 → word m queued_at ≢ 0 → is_empty (line n n.running) ≡ false
  runner-queued none some =
      line-queued (valid-settles run.valid) (sym count-read ∙ none) (let c = (holds-pieces h).queued in omega arith)

-- N.

pub section-pending : (n : Node) → (group_of n n.running).pending ≡ true → refuse_request n end_atomic ≡ still_pending
unfolding refuse_request refuse_end
section-pending n on = rw on

pub section-ends : (n : Node) → (group_of n n.running).pending ≡ false → refuse_request n end_atomic ≡ accepted
unfolding refuse_request refuse_end
section-ends n off = rw off

-- D.

pub line-missing : (n : Node) → is_empty (line n n.running) ≡ true → refuse_request n dispose ≡ no_message
unfolding refuse_request refuse_dispose
line-missing n none = go (line n n.running) none
  where
    go : (ms : List Message) → is_empty ms ≡ true → refuse_dispose ms ≡ no_message
    go [] e = refl
    go (x ∷ ms) e = absurd (true≢false (sym e))

pub line-present : (n : Node) → is_empty (line n n.running) ≡ false → refuse_request n dispose ≡ accepted
unfolding refuse_request refuse_dispose
line-present n some = go (line n n.running) some
  where
    go : (ms : List Message) → is_empty ms ≡ false → refuse_dispose ms ≡ accepted
    go [] e = absurd (true≢false e)
    go (x ∷ ms) e = refl

-- from the buffer
pub removed-buffered : (n : Node) → buffer_holds n n.running ≡ true → removed paper01 n ≡ removing n.running n
unfolding removed removing
removed-buffered n e = rw e

-- from the head of the queue
pub removed-direct : {n : Node} → Valid paper01 n → buffer_holds n n.running ≡ false → removed paper01 n ≡ dropping 1 n
unfolding removed dropping
removed-direct v e = rw (e, without-running v)

-- a group whose buffer holds a message has one to remove, its first page is in a frame, and its other places are wiped
pub buffered-waits : {n : Node} → Running n → buffer_holds n n.running ≡ true → Waits n.running n
unfolding buffer_holds ceil_div
buffered-waits {n} run e =
    let good = (group-good (valid-sound run.valid) n.running run.some run.valid.running-bound).buffer in
    let some = ltb-true 0 (group_of n n.running).buffer.count e in
    let held : 1 ≤ length (group_of n n.running).buffer.frames = omega (arith, good.list_length, good.used-bound) in
    record {
      some = some;
      used = good.used-bound;
      held = held;
      entered = first-entered (valid-sound run.valid) n.running run.some run.valid.running-bound held (run.valid.runner-resident run.some);
      order = omega (arith, line-lengths (valid-sound run.valid));
      wiped = good.unused-wiped;
    }

-- and one whose buffer holds none, with a line, the queue's head
pub direct-queued : {n : Node} → Valid paper01 n → buffer_holds n n.running ≡ false → is_empty (line n n.running) ≡ false → Queued 1 n
direct-queued v direct some = let t = direct-head v direct some in rw t.2 (omega arith)

-- pending off, timer 0
pub disposing : {m : List ℕ} (n : Node) {r : List ℕ} → (a : Bool) → a ≡ (group_of n n.running).atomic → Holds m (flagging n.running a false (removed paper01 n)) r
    → size ≤ length m → Holds (set m timer_at 0) (disposed paper01 n) r
unfolding flagging disposed flagged
disposing {m} n {r} a e h long =
    let h' : Holds m (flagging (removed paper01 n).running (group_of n n.running).atomic false (removed paper01 n)) r =
    subst (λ (g : ℕ). Holds m (flagging g (group_of n n.running).atomic false (removed paper01 n)) r) (sym (removed-running paper01 n))
    (subst (λ (t : Bool). Holds m (flagging n.running t false (removed paper01 n)) r) e h) in
    timer-held h' 0 (wrote-set m timer_at 0 (omega arith))
