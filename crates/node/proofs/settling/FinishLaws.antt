-- Settled, its running group's first page brought in, and called up, an operation is finished. Assumes nothing.
use Rattle.rules.specs.Step.{finish}
use Rattle.rules.specs.Settling.{settle}
use Prim.Native.Nat.{◌+◌, ℕ}
use mathlib.Core.List.{List}
use mathlib.Core.Path.{◌∙◌, ◌≡◌}
use Rattle.rules.specs.Build.{paper01}
use Rattle.rules.specs.Node.{Node}
use Rattle.rules.specs.Operation.{accepted_with}
use Rattle.rules.specs.Paging.{runner_resident}
use Rattle.rules.specs.Types.{report_of}
use Rattle.rules.specs.declared.Report.{Report as Report·rt}
use Rattle.rules.proofs.Steps.SettlingLaws.{settle-sound}
use Rattle.rules.specs.Sound.{Sound}
use Rattle.memory.specs.Holds.{Becomes, Holds, Some}
use Rattle.node.specs.Steps.{Called, Finished, Settled, Settles, effect}
use Rattle.node.proofs.settling.CallLaws.{settled-settles}

-- the settled node, whose page can be brought in
pub settled-some : {m : List ℕ} {n : Node} {r : List ℕ} {i : ℕ} → Sound paper01 n → Settled m n r i → Some m (Sound paper01)
settled-some {n = n} {r = r} s d = record { node = (settle paper01 n).node; rest = r; holds = d.holds; fact = settle-sound s }

-- the node with that page brought in
pub settled-resident : {m m' : List ℕ} {n : Node} {r : List ℕ} {i : ℕ} → Sound paper01 n → Settled m n r i → Becomes m m' (Sound paper01) (runner_resident paper01)
    → Holds m' (runner_resident paper01 (settle paper01 n).node) r
settled-resident {n = n} {r = r} s d becomes = becomes (settle paper01 n).node r d.holds (settle-sound s)

-- for which an upcall can be told
pub resident-some : {m m' : List ℕ} {n : Node} {r : List ℕ} {i : ℕ} → Sound paper01 n → Settled m n r i → Becomes m m' (Sound paper01) (runner_resident paper01)
    → Some m' Settles
resident-some {n = n} {r = r} s d becomes =
    record {
      node = runner_resident paper01 (settle paper01 n).node;
      rest = r;
      holds = settled-resident s d becomes;
      fact = settled-settles s;
    }

-- the report and the node
pub finished : {m₁ m₂ : List ℕ} {n : Node} {r : List ℕ} (trap moved up settled : ℕ) {rep : Report·rt} → Settled m₁ n r settled → Called m₂ (runner_resident paper01 (settle paper01 n).node) r up
    → rep ≡ report_of (accepted_with 0 trap up (moved + settled)) → Finished m₂ (effect n trap moved) r rep
unfolding finish
finished {n = n} trap moved up settled s c e =
    record {
      report = e ∙ (λ i. report_of (accepted_with 0 trap (c.group i) (moved + s.count i)));
      holds = c.holds;
    }
