-- Whether the timer is forced, and whether it runs, as they are read from memory; and the timer put to rest. Assumes nothing.
use Prim.Native.Nat.{◌+◌, ℕ}
use native.Mathlib.Omega.{arith}
use mathlib.Core.Bool.{Bool, ◌&&◌, false, not, true}
use mathlib.Core.List.{List}
use mathlib.Core.Logic.{◌≢◌}
use mathlib.Core.Path.{◌∙◌, ◌≡◌, ap, refl, sym}
use lib.Dec.{eqb}
use borrow.Author.Tests.{eq-eqb, ne_eqb}
use Rattle.rules.specs.Build.{paper01}
use Rattle.rules.specs.Memory.{flag_word, force_offset, group_address, queued_at, running_at, word}
use Rattle.rules.specs.Node.{Node, forced, group_of, timer_runs, with_timer}
use Rattle.rules.specs.Settling.{rest_timer}
use Rattle.rules.specs.Sound.{Sound}
use Rattle.rules.proofs.Steps.ListLaws.{length_some}
use Rattle.rules.proofs.Steps.NodeLaws.{group-good}
use Rattle.rules.proofs.Steps.SettlingLaws.{runs-empty, runs-queued}
use Rattle.memory.specs.Holds.{Holds}
use Rattle.memory.specs.Writes.{InGroup}
use Rattle.memory.proofs.group.GroupLaws.{group-words}
use Rattle.memory.proofs.PieceLaws.{holds-pieces}
use Rattle.node.proofs.settling.MoveLaws.{none-queued}

-- a flag that stands only with another is both
with-other : (f a : Bool) → (f ≡ true → a ≡ true) → (f && a) ≡ f
with-other false a only = refl
with-other true a only = only refl

-- a flag is read from its word
flag-read : (f : Bool) (x : ℕ) → x ≡ flag_word f → f ≡ not (eqb x 0)
unfolding flag_word
flag-read true x e = sym (ap (λ (y : ℕ). not (eqb y 0)) e)
flag-read false x e = sym (ap (λ (y : ℕ). not (eqb y 0)) e)

-- a timer that does not run is put to rest, and one that runs is left
pub rest-stopped : (n : Node) → timer_runs n ≡ false → rest_timer n ≡ with_timer 0 n
unfolding rest_timer
rest-stopped n rests = rw rests

pub rest-running : (n : Node) → timer_runs n ≡ true → rest_timer n ≡ n
unfolding rest_timer
rest-running n runs = rw runs

module _ {m : List ℕ} {n : Node} {r : List ℕ} (h : Holds m n r) where
  -- with nobody running the timer is not forced
  pub forced-nobody : word m running_at ≡ 0 → forced n ≡ false
  unfolding forced
  forced-nobody none = rw (eq-eqb n.running 0 (sym (holds-pieces h).running ∙ none))

  -- else the running group's force tells
  module _ (s : Sound paper01 n) (some : word m running_at ≢ 0) where
    pub force-in : InGroup m (word m running_at) force_offset
    force-in =
        let e = (holds-pieces h).running in
        record { long = (holds-pieces h).long; low = omega arith; high = omega (arith, s.running-bound); inside = omega arith }

    pub forced-read : (x : ℕ) → x ≡ word m (group_address (word m running_at) + force_offset) → forced n ≡ not (eqb x 0)
    unfolding forced
    forced-read x e =
        let g = word m running_at in
        let same = (holds-pieces h).running in
        let G = group_of n n.running in
        let good = group-good s n.running (omega arith) s.running-bound in
        let stands = (group-words (holds-pieces h) h.mapped g force-in.low force-in.high).force in
        let read : x ≡ flag_word G.force = e ∙ stands ∙ ap (λ (i : ℕ). flag_word (group_of n i).force) same in
        ap (λ (t : Bool). not t && (G.force && G.atomic)) (ne_eqb n.running 0 (λ z. some (same ∙ z)))
        ∙ with-other G.force G.atomic good.force-atomic
        ∙ flag-read G.force x read

  -- with a message queued the timer runs, and else where it is forced
  pub runs-read : word m queued_at ≢ 0 → timer_runs n ≡ true
  runs-read some = let c = (holds-pieces h).queued in runs-queued n (length_some n.queue (omega arith))

  pub runs-idle : word m queued_at ≡ 0 → timer_runs n ≡ forced n
  runs-idle none = runs-empty n (none-queued n.queue (sym (holds-pieces h).queued ∙ none))
