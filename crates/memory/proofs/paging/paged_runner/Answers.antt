-- `memory::paging::paged_runner` meets its contract: who runs, and how many pages its list has, are read. Assumes nothing.
use Prim.Native.Nat.{ℕ, ◌+◌, ◌≤◌}
use native.Mathlib.Decide.{ℕ_discrete}
use native.Mathlib.Omega.{arith}
use mathlib.Core.Bool.{Bool, true, false}
use mathlib.Core.List.{List}
use mathlib.Core.Path.{◌≡◌, refl, sym, subst, ◌∙◌}
use lib.Dec.{eqb}
use borrow.Author.Tests.{eq-eqb, ne_eqb}
use Rattle.rules.specs.Memory.{group_address, held_offset, running_at, word}
use Rattle.memory.proofs.PieceLaws.{holds-pieces}
use Rattle.memory.proofs.paging.RunnerLaws.{Paged, runner-high}
use Rattle.memory.proofs.paging.paged_runner.Goals as goal
use Rattle.memory.proofs.paging.paged_runner.Goals.{then-g-eq0, else-g-eq0}
use Rattle.memory.proofs.paging.paged_runner.Lts as lts
use Rattle.memory.proofs.paging.paged_runner.Tie as tie
use Rattle.memory.proofs.paging.paged_runner.Reads as past

-- what the test says
abbrev Judged : List ℕ → Bool → Type 0
Judged m true = Paged m → ⊥
Judged m false = Paged m

-- where a group runs, the count of its list decides
by_held : (m : List ℕ) (x : ℕ) → x ≡ word m (group_address (word m running_at) + held_offset) → 1 ≤ word m running_at → Judged m (eqb x 0)
by_held m x read low = go (ℕ_discrete x 0)
  where
    go : Dec (x ≡ 0) → Judged m (eqb x 0)
    go (yes e) = rw (eq-eqb x 0 e) (λ b. omega (arith, b.1))
    go (no d) = rw (ne_eqb x 0 d) (low, omega arith)

-- The place of the code that the lemma speaks of.
abbrev Joined1 : Type 0
Joined1 = lts.Joined1 tie.the-claims past.Pre past.Post

judged : (c : Joined1) → Judged c.args.m.now c.if-g-eq0.value
unfolding word
judged c =
    elim c.if-g-eq0.branch [
      | then-g-eq0 w ↦ subst (Judged c.args.m.now) (sym (w.value-is ∙ eq-eqb _ 0 w.if-g-eq0.true)) (λ b. omega (arith, b.0, w.if-g-eq0.true))
      | else-g-eq0 w ↦ subst (Judged c.args.m.now) (sym w.value-is) (by_held c.args.m.now w.group_word.result w.group_word.ensures (omega (arith, w.if-g-eq0.false)))
    ]

pub bounds-m-0 : goal.bounds-m-0
bounds-m-0 c = omega (arith, (holds-pieces c.requires.holds).long)

pub group_word-requires : goal.group_word-requires
unfolding word
group_word-requires c =
    record {
      long = (holds-pieces c.requires.holds).long;
      low = omega (arith, c.if-g-eq0.false);
      high = runner-high c.requires.holds c.requires.fact (omega (arith, c.if-g-eq0.false));
      inside = omega arith;
    }

pub returns-then-group_word-eq0 : goal.returns-then-group_word-eq0
returns-then-group_word-eq0 c = subst (Judged c.args.m.now) c.if-group_word-eq0.true (judged c.before.before)

pub returns-else-group_word-eq0 : goal.returns-else-group_word-eq0
unfolding word
returns-else-group_word-eq0 c = (subst (Judged c.args.m.now) c.if-group_word-eq0.false (judged c.before.before), refl)
