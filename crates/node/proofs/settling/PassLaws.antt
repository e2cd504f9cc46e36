-- The loops of settling and of the drain over memory: what holds at each turn. Assumes nothing.
use Prim.Native.Nat.{◌+◌, ◌<◌, ◌≤◌, ℕ, suc}
use native.Mathlib.Nat.{add-zero}
use native.Mathlib.Omega.{arith}
use mathlib.Core.Bool.{false, true}
use mathlib.Core.List.{List}
use mathlib.Core.Logic.{◌≢◌}
use mathlib.Core.Path.{◌∙◌, ◌≡◌, ap, sym, subst}
use lib.ListN.{length}
use Rattle.rules.specs.Build.{paper01, group_count}
use Rattle.rules.specs.Memory.{queued_at, word, queue_at, words_at}
use Rattle.rules.specs.Node.{Node, Message}
use Rattle.rules.specs.Settling.{settle, Moved, pass, drain, may_stay, one_more, rest_timer}
use Rattle.rules.specs.Sound.{Sound}
use Rattle.rules.proofs.Steps.SettlingLaws.{drain-queue, settle-moved}
use Rattle.memory.specs.Holds.{Holds, Becomes, Kept}
use Rattle.memory.proofs.PieceLaws.{holds-pieces}
use Rattle.memory.proofs.queue.QueueLaws.{message-read}
use Rattle.node.specs.Steps.{Drained, Headed, Settled, head_of, moving_head}
use Rattle.node.proofs.settling.MoveLaws.{pass-ends, drain-ends, drain-on, head-good-group, moving-length, moving-sound, pass_on, pass-stays}

-- a pass that has moved i messages before
abbrev more : ℕ → Moved → Moved
more i s = record { node = s.node; moved = i + s.moved }

-- i heads of n's queue have moved, and the memory holds the node at which the pass goes on
pub record Passing (m : List ℕ) (n : Node) (r : List ℕ) (i : ℕ) : Type 0 where
  pub node : Node
  pub holds : Holds m node r
  pub sound : Sound paper01 node
  pub passed : pass paper01 n.queue n ≡ more i (pass paper01 node.queue node)
  pub queued : i + length node.queue ≡ length n.queue

-- the pass has ended at the node that the memory holds
pub record Passed (m : List ℕ) (n : Node) (r : List ℕ) (i : ℕ) : Type 0 where
  pub node : Node
  pub holds : Holds m node r
  pub sound : Sound paper01 node
  pub passed : pass paper01 n.queue n ≡ record { node = node; moved = i }

module _ {m : List ℕ} {n : Node} {r : List ℕ} {i : ℕ} (p : Passing m n r i) where
  -- the queue's count is read
  pub passing-count : word m queued_at ≡ length p.node.queue
  passing-count = (holds-pieces p.holds).queued

  -- the queue is at its end
  pub passing-ends : word m queued_at ≡ 0 → Passed m n r i
  passing-ends none =
      record {
        node = p.node;
        holds = p.holds;
        sound = p.sound;
        passed = p.passed ∙ ap (more i) (pass-ends p.node (sym passing-count ∙ none)) ∙ (λ j. record { node = p.node; moved = add-zero i j });
      }

  module _ (some : word m queued_at ≢ 0) where
    pub passing-headed : Headed p.node
    passing-headed = record { sound = p.sound; some = let c = passing-count in omega arith }

    -- the head, as it is read
    pub passing-read : (word m queue_at ≡ (head_of p.node).group)
        × Kept (word m queue_at) (word m (queue_at + 1)) (words_at m (queue_at + 2) 8) (head_of p.node)
    unfolding head_of
    passing-read = message-read p.holds 0 passing-headed.some

    pub passing-group : (1 ≤ word m queue_at) × (word m queue_at ≤ group_count)
    passing-group =
        let good = head-good-group passing-headed in
        (rw passing-read.0 good.group-low, rw passing-read.0 good.group-high)

    -- one that may not stay moves
    pub passing-on : {m' : List ℕ}
        → ((k : Node) (s : List ℕ) → Holds m k s → (x : Message) → x.group ≡ word m queue_at → may_stay k x ≡ false)
        → Becomes m m' Headed moving_head → Passing m' n r (i + 1)
    unfolding one_more
    passing-on moves becomes =
        let k = p.node in
        let h = passing-headed in
        let s = pass paper01 (moving_head k).queue (moving_head k) in
        record {
          node = moving_head k;
          holds = becomes k r p.holds h;
          sound = moving-sound h;
          passed = p.passed ∙ ap (more i) (pass_on h (moves k r p.holds (head_of k) (sym passing-read.0))) ∙ (λ j. record { node = s.node; moved = shift s.moved j });
          queued = let l = moving-length h in let q = p.queued in omega arith;
        }
      where
        shift : (a : ℕ) → i + suc a ≡ i + 1 + a
        shift a = omega arith

    -- one that may ends the pass
    pub passing-stays : ((k : Node) (s : List ℕ) → Holds m k s → (x : Message) → x.group ≡ word m queue_at → may_stay k x ≡ true) → Passed m n r i
    passing-stays stays =
        let k = p.node in
        record {
          node = k;
          holds = p.holds;
          sound = p.sound;
          passed = p.passed ∙ ap (more i) (pass-stays passing-headed (stays k r p.holds (head_of k) (sym passing-read.0))) ∙ (λ j. record { node = k; moved = add-zero i j });
        }

-- the timer put to rest, it is settled
pub passed-settled : {m m' : List ℕ} {n : Node} {r : List ℕ} {i : ℕ} → Passed m n r i → Becomes m m' (Sound paper01) rest_timer → Settled m' n r i
unfolding settle
passed-settled {m' = m'} {n = n} {r = r} p rest =
    let count = sym (ap (λ (s : Moved). s.moved) p.passed) in
    record {
      count = count;
      loss = ap (λ (k : ℕ). k + length (settle paper01 n).node.queue) count ∙ settle-moved paper01 n;
      holds = subst (λ (k : Node). Holds m' (rest_timer k) r) (sym (ap (λ (s : Moved). s.node) p.passed)) (rest p.node r p.holds p.sound);
    }

-- the memory holds the node at which the drain of n goes on
pub record Draining (m : List ℕ) (n : Node) (r : List ℕ) : Type 0 where
  pub node : Node
  pub holds : Holds m node r
  pub sound : Sound paper01 node
  pub drained : drain paper01 n.queue n ≡ drain paper01 node.queue node

module _ {m : List ℕ} {n : Node} {r : List ℕ} (d : Draining m n r) where
  draining-count : word m queued_at ≡ length d.node.queue
  draining-count = (holds-pieces d.holds).queued

  pub draining-headed : 0 < word m queued_at → Headed d.node
  draining-headed some = record { sound = d.sound; some = let c = draining-count in omega arith }

  pub draining-on : {m' : List ℕ} → 0 < word m queued_at → Becomes m m' Headed moving_head → Draining m' n r
  draining-on some becomes =
      let h = draining-headed some in
      record { node = moving_head d.node; holds = becomes d.node r d.holds h; sound = moving-sound h; drained = d.drained ∙ drain-on h }

  pub draining-ends : word m queued_at ≤ 0 → {i : ℕ} → i ≡ length n.queue → Drained m n r i
  draining-ends none count =
      let empty : length (drain paper01 n.queue n).queue ≡ 0 = ap length (drain-queue paper01 n.queue n) in
      record {
        count = count;
        loss = omega arith;
        holds = subst (λ (k : Node). Holds m k r) (sym (d.drained ∙ drain-ends d.node (omega (arith, draining-count)))) d.holds;
      }

-- a move takes one from the count
pub moved-count : {m m' : List ℕ} {n : Node} {r : List ℕ} → Holds m n r → Headed n → Becomes m m' Headed moving_head → word m' queued_at + 1 ≡ word m queued_at
moved-count {n = n} {r = r} h headed becomes =
    let c = (holds-pieces h).queued in
    let c' = (holds-pieces (becomes n r h headed)).queued in
    let l = moving-length headed in
    omega arith
