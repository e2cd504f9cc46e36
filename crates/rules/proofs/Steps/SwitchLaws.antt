-- O and S in closed form. With nobody running no head may stay, so settling is a drain; nobody's timer is forced, so it comes to rest; no
-- page is brought in and nobody is called up. So O leaves the node drained and its timer at 0, and S is one effect that is finished: the drain
-- with nobody running, and then the processor given. I finds an empty queue, and to nobody the finish finds a node. Assumes nothing.
use Prim.Native.Nat.{ℕ, ◌≤◌}
use native.Mathlib.Decide.{ℕ_discrete}
use native.Mathlib.Nat.{zero-add}
use native.Mathlib.Omega.{arith}
use mathlib.Core.Bool.{false}
use mathlib.Core.List.{List, [], ◌∷◌}
use mathlib.Core.Logic.{◌≢◌}
use mathlib.Core.Path.{◌≡◌, ◌∙◌, ap, refl, subst, sym}
use lib.ListN.{length}
use borrow.Author.Tests.{ne_eqb}
use Rattle.rules.specs.Build.{Build, group_count}
use Rattle.rules.specs.Lists.{Every}
use Rattle.rules.specs.Node.{Message, Node, forced, with_queue, with_running, with_timer}
use Rattle.rules.specs.Operation.{accepted_with, all_zero, no_trap, schedule, dispatch}
use Rattle.rules.specs.Paging.{store}
use Rattle.rules.specs.Settling.{Moved, one_more, calls, drain, may_stay, pass, rest_timer, settle, upcall, upcall_group}
use Rattle.rules.specs.Step.{Effect, Stepped, act, finish, in_arow, preempted, step, valued}
use Rattle.rules.specs.Valid.{GoodMessage, Valid}
use Rattle.rules.proofs.Steps.LineLaws.{nobody-timer}
use Rattle.rules.proofs.Steps.PagingLaws.{runner-quiet}
use Rattle.rules.proofs.Steps.QuietLaws.{quiet-finish, valid-quiet}
use Rattle.rules.proofs.Steps.SettlingLaws.{drain-queue, drain-running, runs-empty, store-running}
use Rattle.rules.proofs.Steps.StepLaws.{taken, given, taken-valid, schedule-takes, schedule-switches}
use Rattle.rules.proofs.Steps.StoreLaws.{store-timer}

-- no head may stay
pub nobody-stays : (n : Node) (m : Message) → n.running ≡ 0 → GoodMessage m → may_stay n m ≡ false
unfolding may_stay
nobody-stays n m none good = rw (none, ne_eqb m.group 0 (λ e. omega (arith, good.group-low)))

-- so a pass is a drain
pass-drains : (b : Build) (q : List Message) (n : Node) → n.running ≡ 0 → Every GoodMessage q
    → pass b q n ≡ record { node = drain b q n; moved = length q }
unfolding pass drain one_more
pass-drains b [] n none good = refl
pass-drains b (m ∷ q) n none good =
    rw (pass, nobody-stays n m none good.0) (ap one_more (pass-drains b q (store b m n) (store-running b m n ∙ none) good.1))

-- a drain does not look at the timer
drain-timer : (b : Build) (q : List Message) (t : ℕ) (n : Node) → drain b q (with_timer t n) ≡ with_timer t (drain b q n)
unfolding drain with_timer with_queue
drain-timer b [] t n = refl
drain-timer b (m ∷ q) t n = ap (drain b q) (store-timer b m t n) ∙ drain-timer b q t (store b m n)

-- a timer is at rest where nobody runs and the queue is empty
nobody-rests : (n : Node) → n.running ≡ 0 → n.queue ≡ [] → rest_timer n ≡ with_timer 0 n
unfolding rest_timer forced
nobody-rests n nobody none = rw (runs-empty n none, nobody)

-- what settling leaves where nobody runs
nobody-settles : (b : Build) (n : Node) → n.running ≡ 0 → Every GoodMessage n.queue
    → settle b n ≡ record { node = with_timer 0 (drain b n.queue n); moved = length n.queue }
unfolding settle
nobody-settles b n nobody good =
    let d = drain b n.queue n in
    ap (λ (s : Moved). record { node = rest_timer s.node; moved = s.moved }) (pass-drains b n.queue n nobody good)
    ∙ ap (λ (k : Node). record { node = k; moved = length n.queue }) (nobody-rests d (drain-running b n.queue n ∙ nobody) (drain-queue b n.queue n))

-- so no message is left in the queue
pub nobody-emptied : (b : Build) (n : Node) → n.running ≡ 0 → Every GoodMessage n.queue → (settle b n).node.queue ≡ []
unfolding with_timer
nobody-emptied b n nobody good = ap (λ (s : Moved). s.node.queue) (nobody-settles b n nobody good) ∙ drain-queue b n.queue n

-- nobody is called up
nobody-called : (n : Node) → n.running ≡ 0 → calls n ≡ false
unfolding calls
nobody-called n nobody = rw nobody

-- and what a step leaves
nobody-finishes : (b : Build) (n : Node) → n.running ≡ 0 → Every GoodMessage n.queue
    → finish b (valued 0 n) ≡ record { report = accepted_with 0 no_trap 0 (length n.queue); node = with_timer 0 (drain b n.queue n) }
unfolding finish valued upcall upcall_group with_timer
nobody-finishes b n nobody good =
    let k = with_timer 0 (drain b n.queue n) in
    let still : k.running ≡ 0 = drain-running b n.queue n ∙ nobody in
    rw (nobody-settles b n nobody good, runner-quiet b k (λ low. absurd (omega arith)), nobody-called k still, zero-add (length n.queue))

-- the node with the processor taken, its whole queue moved while nobody runs, and its timer at 0
unfoldable pub vacated : Build → Node → Node
vacated b n = with_timer 0 (drain b n.queue (with_running 0 n))

-- what S to another than the one running has done before the finish: the drain with nobody running, and the processor given
unfoldable pub handed_over : Build → Node → ℕ → Effect
handed_over b n g =
    record {
      node = with_timer 0 (with_running g (drain b n.queue (with_running 0 n)));
      value = 0;
      trap = no_trap;
      moved = length n.queue;
      sent = [];
    }

-- a step that moved c messages, and then one that begins with none moved, are together one that begins with c moved
joined : (b : Build) (n k : Node) (c : ℕ)
    → in_arow (record { report = accepted_with 0 no_trap 0 c; node = n }) (finish b (valued 0 k))
    ≡ finish b (record { node = k; value = 0; trap = no_trap; moved = c; sent = [] })
unfolding in_arow finish valued
joined b n k c = rw (zero-add (settle b k).moved)

module _ {b : Build} {n : Node} (v : Valid b n) where
  -- with nobody running O changes nothing
  idle-same : n.running ≡ 0 → preempted n ≡ n
  unfolding preempted with_timer with_running
  idle-same nobody =
      λ i.
      record {
        running = sym nobody i;
        timer = sym (nobody-timer v nobody) i;
        queue = n.queue;
        free = n.free;
        paging = n.paging;
        groups = n.groups;
      }

  pub preempt-idle : n.running ≡ 0 → taken b n ≡ record { report = all_zero; node = n }
  unfolding act valued
  preempt-idle nobody = ap (λ (k : Node). finish b (valued 0 k)) (idle-same nobody) ∙ quiet-finish (valued 0 n) (valid-quiet v)

  -- that O zeroes the timer follows from settling: taken alone, the processor leaves the same
  pub preempt-rests : taken b n ≡ finish b (valued 0 (with_running 0 n))
  unfolding act preempted with_timer with_running
  preempt-rests =
      nobody-finishes b (preempted n) refl v.queue-good
      ∙ ap (λ (k : Node). record { report = accepted_with 0 no_trap 0 (length n.queue); node = with_timer 0 k }) (drain-timer b n.queue 0 (with_running 0 n))
      ∙ sym (nobody-finishes b (with_running 0 n) refl v.queue-good)

  -- O drains the queue
  pub preempt-drains : taken b n ≡ record { report = accepted_with 0 no_trap 0 (length n.queue); node = vacated b n }
  unfolding vacated with_running
  preempt-drains = preempt-rests ∙ nobody-finishes b (with_running 0 n) refl v.queue-good

  -- to nobody: O leaves a node, on which nothing is left to finish
  to-nobody : taken b n ≡ finish b (handed_over b n 0)
  unfolding handed_over vacated with_timer with_running
  to-nobody =
      let node : Valid b (vacated b n) = subst (λ (s : Stepped). Valid b s.node) preempt-drains (taken-valid v) in
      preempt-drains
      ∙ sym (quiet-finish (record { node = vacated b n; value = 0; trap = no_trap; moved = length n.queue; sent = [] }) (valid-quiet node))
      ∙ ap (λ (r : ℕ). finish b (handed_over b n r)) (drain-running b n.queue (with_running 0 n))

  -- to a group: what O moved counts with what I moves
  to-group : (g : ℕ) → in_arow (taken b n) (given b n g) ≡ finish b (handed_over b n g)
  unfolding handed_over vacated with_timer with_running act
  to-group g =
      ap (λ (s : Stepped). in_arow s (finish b (act b s.node (dispatch g)))) preempt-drains
      ∙ joined b (vacated b n) (with_running g (vacated b n)) (length n.queue)

  -- S to another than the one running
  pub schedule-drains : (g : ℕ) → g ≢ n.running → g ≤ group_count → step b n (schedule g) ≡ finish b (handed_over b n g)
  schedule-drains g other high = go (ℕ_discrete g 0)
    where
      go : Dec (g ≡ 0) → step b n (schedule g) ≡ finish b (handed_over b n g)
      go (yes none) = rw none (schedule-takes b n (λ e. other (none ∙ sym e)) ∙ to-nobody)
      go (no some) = schedule-switches b n g other some high ∙ to-group g
