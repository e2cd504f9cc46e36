-- `memory::buffer::unbuffer` meets its contract: the first message's place is wiped; then its page is freed where no other message is left in
-- it, or the place is used up. Assumes nothing.
use Prim.Native.Nat.{ℕ, ◌+◌, ◌≤◌, ◌<◌}
use native.Mathlib.Decide.{ℕ_discrete}
use native.Mathlib.Omega.{arith}
use mathlib.Core.Bool.{Bool, true, false}
use mathlib.Core.List.{List}
use mathlib.Core.Logic.{◌≢◌, ◌⊎◌, inl, inr}
use mathlib.Core.Path.{◌≡◌, sym, subst, ◌∙◌}
use lib.Dec.{eqb}
use borrow.Author.Tests.{eq-eqb, ne_eqb}
use Rattle.rules.specs.Build.{group_count}
use Rattle.rules.specs.Memory.{group_stride, used_offset, count_offset}
use Rattle.rules.specs.Node.{Buffer, Node, group_of}
use Rattle.memory.specs.Holds.{Becomes, Emptied, Holds, Some, Waits, wiping}
use Rattle.memory.specs.Writes.{InGroup}
use Rattle.memory.proofs.buffer.WipeLaws.{removing-frame, removing-last, removing-used, wiped-counts, wiping-emptied, wiping-waits}
use Rattle.memory.proofs.PieceLaws.{holds-pieces}
use Rattle.memory.proofs.buffer.unbuffer.Goals as goal
use Rattle.memory.proofs.buffer.unbuffer.Goals.{Joined-group_word-eq1, then-group_word-eq1, else-group_word-eq1}

-- the first message's place is wiped, and the record of its group read
within : {m m' : List ℕ} {g : ℕ} → Becomes m m' (Waits g) (wiping g) → Some m (Waits g) → (1 ≤ g) × (g ≤ group_count) → (k : ℕ) → k < group_stride → InGroup m' g k
within wipes p group k h =
    record { long = (holds-pieces (wipes p.node p.rest p.holds p.fact)).long; low = group.0; high = group.1; inside = h }

-- what the test says of a buffer: the first message is the last of all or of its page, or neither
abbrev Judged : Bool → Buffer → Type 0
Judged true v = (v.count ≡ 1) ⊎ ((v.count ≢ 1) × (v.used + 1 ≡ 8))
Judged false v = (v.count ≢ 1) × (v.used + 1 ≢ 8)

-- where it is not the last of all, h decides
by_used : (v : Buffer) (x : ℕ) → x ≡ v.used → v.count ≢ 1 → Judged (eqb x 7) v
by_used v x read more = go (ℕ_discrete x 7)
  where
    go : Dec (x ≡ 7) → Judged (eqb x 7) v
    go (yes e) = rw (eq-eqb x 7 e) (inr (more, omega arith))
    go (no d) = rw (ne_eqb x 7 d) (more, λ e. d (omega arith))

judged : (c : Joined-group_word-eq1) (n : Node) (r : List ℕ) → Holds c.args.m.now n r → Waits c.args.g n → Judged c.if-group_word-eq1.value (group_of n c.args.g).buffer
judged c n r h waits =
    let g = c.args.g in
    let v = (group_of n g).buffer in
    let read = wiped-counts h.mapped g c.requires.le_g.0 c.requires.le_g.1 (c.wipe_first.ensures n r h waits) in
    let count : c.group_word.result ≡ v.count = c.group_word.ensures ∙ read.0 in
    elim c.if-group_word-eq1.branch [
      | then-group_word-eq1 w ↦ subst (λ (t : Bool). Judged t v) (sym (w.value-is ∙ eq-eqb c.group_word.result 1 w.if-group_word-eq1.true)) (inl (sym count ∙ w.if-group_word-eq1.true))
      | else-group_word-eq1 w ↦
          subst (λ (t : Bool). Judged t v) (sym w.value-is)
          (by_used v w.group_word-else-group_word-eq1.result (w.group_word-else-group_word-eq1.ensures ∙ read.1) (λ e. w.if-group_word-eq1.false (count ∙ e)))
    ]

-- its page is empty where it is the last
emptied : {n : Node} {g : ℕ} {m : List ℕ} {r : List ℕ} {t : Bool} → Holds m n r → (1 ≤ g) × (g ≤ group_count) → Waits g n → t ≡ true → Judged t (group_of n g).buffer
    → Emptied g (wiping g n)
emptied {n} {g} h group waits e j = go (subst (λ (t : Bool). Judged t (group_of n g).buffer) e j)
  where
    go : Judged true (group_of n g).buffer → Emptied g (wiping g n)
    go (inl one) = wiping-emptied h.mapped g group.0 group.1 waits (inl one)
    go (inr up) = wiping-emptied h.mapped g group.0 group.1 waits (inr up.1)

pub group_word-requires : goal.group_word-requires
group_word-requires c = within c.wipe_first.ensures c.requires.some c.requires.le_g count_offset (omega arith)

pub group_word-requires-else-group_word-eq1 : goal.group_word-requires-else-group_word-eq1
group_word-requires-else-group_word-eq1 c = within c.wipe_first.ensures c.requires.some c.requires.le_g used_offset (omega arith)

pub free_first-requires : goal.free_first-requires
free_first-requires c =
    let p = c.requires.some in record {
      le_g = c.requires.le_g;
      some = record {
        node = wiping c.args.g p.node;
        rest = p.rest;
        holds = c.wipe_first.ensures p.node p.rest p.holds p.fact;
        fact = emptied p.holds c.requires.le_g p.fact c.if-group_word-eq-LAST_PLACE.true (judged c.before.before p.node p.rest p.holds p.fact);
      };
    }

pub returns-then-group_word-eq-LAST_PLACE : goal.returns-then-group_word-eq-LAST_PLACE
returns-then-group_word-eq-LAST_PLACE c n r h waits =
    let g = c.args.g in
    let j = judged c.before.before.before.before.before.before n r h waits in
    let freed = c.free_first.ensures (wiping g n) r (c.wipe_first.ensures n r h waits) (emptied h c.requires.le_g waits c.if-group_word-eq-LAST_PLACE.true j) in
    elim (subst (λ (t : Bool). Judged t (group_of n g).buffer) c.if-group_word-eq-LAST_PLACE.true j) [
      | inl one ↦ subst (λ (k : Node). Holds c.free_first.new.m k r) (removing-last h.mapped g c.requires.le_g.0 c.requires.le_g.1 waits one) freed
      | inr up ↦ subst (λ (k : Node). Holds c.free_first.new.m k r) (removing-frame h.mapped g c.requires.le_g.0 c.requires.le_g.1 waits up.0 up.1) freed
    ]

pub use_up-requires : goal.use_up-requires
use_up-requires c =
    let p = c.requires.some in record {
      le_g = c.requires.le_g;
      some = record {
        node = wiping c.args.g p.node;
        rest = p.rest;
        holds = c.wipe_first.ensures p.node p.rest p.holds p.fact;
        fact = wiping-waits p.holds.mapped c.args.g c.requires.le_g.0 c.requires.le_g.1 p.fact;
      };
    }

pub returns-else-group_word-eq-LAST_PLACE : goal.returns-else-group_word-eq-LAST_PLACE
returns-else-group_word-eq-LAST_PLACE c n r h waits =
    let g = c.args.g in
    let j = judged c.before.before.before.before.before.before n r h waits in
    let neither = subst (λ (t : Bool). Judged t (group_of n g).buffer) c.if-group_word-eq-LAST_PLACE.false j in
    subst (λ (k : Node). Holds c.use_up.new.m k r) (removing-used h.mapped g c.requires.le_g.0 c.requires.le_g.1 waits neither.0 neither.1)
    (c.use_up.ensures (wiping g n) r (c.wipe_first.ensures n r h waits) (wiping-waits h.mapped g c.requires.le_g.0 c.requires.le_g.1 waits))
