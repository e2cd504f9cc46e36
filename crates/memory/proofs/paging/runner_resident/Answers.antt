-- `memory::paging::runner_resident` meets its contract: the running group's first page is brought in. Assumes nothing.
use Prim.Native.Nat.{ℕ, ◌+◌}
use native.Mathlib.Omega.{arith}
use mathlib.Core.List.{List}
use mathlib.Core.Path.{◌≡◌, subst}
use Rattle.rules.specs.Build.{paper01}
use Rattle.rules.specs.Memory.{group_address, running_at, word, list_offset}
use Rattle.rules.specs.Node.{Node}
use Rattle.rules.specs.Paging.{resident, runner_resident}
use Rattle.rules.specs.Sound.{Sound}
use Rattle.memory.specs.Holds.{Holds}
use Rattle.memory.specs.Paging.{Owned}
use Rattle.memory.proofs.paging.PrepareLaws.{empty-resident, first-owned, first-resident, nobody-resident}
use Rattle.memory.proofs.PieceLaws.{holds-pieces}
use Rattle.memory.proofs.paging.RunnerLaws.{Paged, pageless, runner-high}
use Rattle.memory.proofs.paging.runner_resident.Goals as goal

module _ {m : List ℕ} {n : Node} {r : List ℕ} (h : Holds m n r) (s : Sound paper01 n) (p : ℕ)
    (paged : Paged m) (read : p ≡ word m (group_address (word m running_at) + list_offset)) where
  -- it is one of the node's
  owned : Owned p n
  owned = rw read (first-owned h s paged.0 (λ e. omega (arith, paged.1, e)))

  -- and bringing it in is all
  brought : resident paper01 p n ≡ runner_resident paper01 n
  brought = rw read (first-resident h s paged.0 (λ e. omega (arith, paged.1, e)))

pub group_word-p-requires : goal.group_word-p-requires
unfolding word
group_word-p-requires c =
    let g = c.in-Some.ensures in
    record {
      long = (holds-pieces c.requires.holds).long;
      low = omega (arith, g.0.0, g.1);
      high = omega (arith, runner-high c.requires.holds c.requires.fact g.0.0, g.1);
      inside = omega arith;
    }

pub resident-requires : goal.resident-requires
resident-requires c =
    let p = c.requires in
    let g = c.in-Some.ensures in
    record { node = p.node; rest = p.rest; holds = p.holds; fact = owned p.holds p.fact c.group_word-p.result g.0 (rw g.1 at c.group_word-p.ensures) }

pub returns-in-Some : goal.returns-in-Some
returns-in-Some c n r h sound =
    let g = c.in-Some.ensures in
    let read = rw g.1 at c.group_word-p.ensures in
    subst (λ (k : Node). Holds c.resident.new.m k r) (brought h sound c.group_word-p.result g.0 read)
    (c.resident.ensures n r h (owned h sound c.group_word-p.result g.0 read))

pub returns-in_default : goal.returns-in_default
returns-in_default c n r h sound =
    subst (λ (k : Node). Holds c.args.m.now k r) (pageless c.args.m.now c.in_default.ensures (nobody-resident h sound) (empty-resident h sound)) h
