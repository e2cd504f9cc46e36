-- P and L, answered from the running group's descriptor as it is read: it is full at eight words, empty at none, and is replaced by the
-- next one. Nothing settles after another descriptor, and no upcall is due. Assumes nothing.
use Prim.Native.Nat.{ℕ, ◌≤◌, ◌<◌}
use native.Mathlib.Omega.{arith}
use mathlib.Core.List.{List, [], ◌∷◌, ◌++◌}
use mathlib.Core.Path.{◌≡◌, ◌∙◌, ap, refl, sym}
use lib.ListN.{length}
use borrow.Author.Tests.{le-leb, le-ltb, lt-leb, lt-ltb}
use Rattle.rules.specs.Build.{last_node, word_limit, group_count}
use Rattle.rules.specs.Memory.{running_at, size, word}
use Rattle.rules.specs.Node.{Node, group_of}
use Rattle.rules.specs.Operation.{accepted, bad_node, describe, descriptor_empty, descriptor_full, launch, refused, user}
use Rattle.rules.specs.Refusal.{refuse_describe, refuse_launch, refuse_request}
use Rattle.rules.specs.Step.{described, launched, serve, valued}
use Rattle.rules.specs.Types.{report_of}
use Rattle.rules.specs.declared.Report.{Report as Report·rt}
use Rattle.memory.specs.Descriptors.{descriptor_of, redescribed}
use Rattle.memory.specs.Holds.{Holds}
use Rattle.memory.specs.declared.descriptor.Descriptor.{Descriptor as Descriptor·rt}
use Rattle.memory.proofs.PieceLaws.{holds-pieces}
use Rattle.node.specs.Sending.{sending}
use Rattle.node.specs.Steps.{Launches, Running, Stepping, report_done}
use Rattle.rules.proofs.Steps.QuietLaws.{described-quiet}
use Rattle.node.proofs.ServedLaws.{own_report, request-quiet, request-refused}

-- L's refusals: none of its words
launch-none : (d : List ℕ) (k : ℕ) → length d ≡ 0 → refuse_launch d k ≡ descriptor_empty
unfolding refuse_launch
launch-none [] k e = refl
launch-none (w ∷ d) k e = absurd (omega arith)

-- a node above 63
launch-above : (d : List ℕ) (k : ℕ) → 1 ≤ length d → last_node < k → refuse_launch d k ≡ bad_node
unfolding refuse_launch
launch-above [] k some h = absurd (omega arith)
launch-above (w ∷ d) k some h = rw (lt-ltb last_node k h)

-- neither
launch-good : (d : List ℕ) (k : ℕ) → 1 ≤ length d → k ≤ last_node → refuse_launch d k ≡ accepted
unfolding refuse_launch
launch-good [] k some h = absurd (omega arith)
launch-good (w ∷ d) k some h = rw (le-ltb last_node k h)

-- the running group's record is within the memory
pub runner-there : {m : List ℕ} {n : Node} {r : List ℕ} → Holds m n r → Running n
    → ((1 ≤ word m running_at) × (word m running_at ≤ group_count)) × (size ≤ length m)
runner-there h runs = (rw (holds-pieces h).running (runs.some, runs.valid.running-bound), (holds-pieces h).long)

-- x is the running group's descriptor, as it is read
module _ {m : List ℕ} {n : Node} {r : List ℕ} {x : Descriptor·rt} (h : Holds m n r) (runs : Running n)
    (e : x ≡ descriptor_of (group_of n (word m running_at)).descriptor) where
  -- that group
  own : word m running_at ≡ n.running
  own = (holds-pieces h).running

  -- its descriptor's length
  len : x.len ≡ length (group_of n n.running).descriptor
  len = ap (λ (y : Descriptor·rt). y.len) e ∙ ap (λ (k : ℕ). length (group_of n k).descriptor) own

  -- P with eight words
  pub describe-full : (w : ℕ) → word_limit ≤ x.len → Stepping m n r (user (describe w)) (report_of (refused descriptor_full))
  unfolding refuse_request refuse_describe
  describe-full w full =
      let d = (group_of n n.running).descriptor in
      request-refused runs (describe w) h 10 (rw (le-leb word_limit (length d) (rw len at full)))

  -- P with fewer
  pub describe-serves : {m' : List ℕ} {k : ℕ} (w : ℕ) → x.len < word_limit → Holds m' (redescribed (word m running_at) ((group_of n (word m running_at)).descriptor ++ (w ∷ [])) n) r
      → k ≡ length ((group_of n (word m running_at)).descriptor ++ (w ∷ [])) → Stepping m' n r (user (describe w)) (report_done k)
  unfolding refuse_request refuse_describe serve valued own_report described redescribed
  describe-serves w few held long =
      let d = (group_of n n.running).descriptor in
      request-quiet runs (describe w) (rw (lt-leb word_limit (length d) (rw len at few))) (described-quiet runs.valid (d ++ (w ∷ [])))
      (ap report_done (rw own at long)) (rw own at held)

  -- L without a word
  pub launch-empty : (k : ℕ) → x.len ≡ 0 → Stepping m n r (user (launch k)) (report_of (refused descriptor_empty))
  unfolding refuse_request
  launch-empty k none =
      request-refused runs (launch k) h 11 (launch-none (group_of n n.running).descriptor k (sym len ∙ none))

  -- L to a node above 63
  pub launch-far : (k : ℕ) → 1 ≤ x.len → last_node < k → Stepping m n r (user (launch k)) (report_of (refused bad_node))
  unfolding refuse_request
  launch-far k some above =
      request-refused runs (launch k) h 12 (launch-above (group_of n n.running).descriptor k (rw len at some) above)

  -- an accepted L
  pub launch-ready : (k : ℕ) → 1 ≤ x.len → k ≤ last_node → Launches k n
  unfolding refuse_request
  launch-ready k some good = record { running = runs; fine = launch-good (group_of n n.running).descriptor k (rw len at some) good }

-- L
pub launch-serves : {m m' : List ℕ} {n : Node} {r : List ℕ} {rep : Report·rt} (h : Holds m n r) (k : ℕ) → Launches k n
    → Holds m' (redescribed (word m running_at) [] n) r → rep ≡ report_of (sending k (word m running_at) (group_of n (word m running_at)).descriptor)
    → Stepping m' n r (user (launch k)) rep
unfolding serve launched own_report described redescribed
launch-serves h k ready held report =
    let own = (holds-pieces h).running in
    request-quiet ready.running (launch k) ready.fine (described-quiet ready.running.valid []) (rw own at report) (rw own at held)
