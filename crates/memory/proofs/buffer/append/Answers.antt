-- `memory::buffer::append` meets its contract. Assumes nothing.
use Prim.Native.Nat.{ℕ, ◌+◌, ◌*◌, ◌≤◌, ◌<◌}
use native.Mathlib.Omega.{arith}
use mathlib.Core.List.{List}
use mathlib.Core.Path.{◌≡◌, sym, ◌∙◌, subst}
use lib.ListN.{length}
use Rattle.rules.specs.Memory.{word, group_address, group_stride, used_offset, count_offset, held_offset}
use Rattle.rules.specs.Node.{Node}
use Rattle.memory.specs.Holds.{Holds, Storable}
use Rattle.memory.specs.Writes.{InGroup}
use Rattle.memory.proofs.buffer.AppendLaws.{Ready, Ends, ends, full-left, ready-room, ready-taken}
use Rattle.memory.proofs.buffer.append.Goals as goal
use Rattle.memory.proofs.buffer.append.Goals.{then-places-end, else-places-end}
use Rattle.memory.proofs.buffer.append.Lts as lts
use Rattle.memory.proofs.buffer.append.Tie as tie
use Rattle.memory.proofs.buffer.append.Reads as past

-- The places of the code that lemmas speak of.

abbrev After-group_word3 : Type 0
After-group_word3 = lts.After-group_word3 tie.the-claims past.Pre past.Post tie.handed_clauses

abbrev Joined1 : Type 0
Joined1 = lts.Joined1 tie.the-claims past.Pre past.Post tie.handed_clauses

abbrev Start : Type 0
Start = lts.Start tie.the-claims past.Pre past.Post tie.handed_clauses

facts : (c : Start) → Ends c.args.m.now c.args.g
facts c = ends c.requires.some.holds c.args.g c.requires.le_g.0 c.requires.le_g.1 c.requires.some.fact.0

in_group : (c : Start) (k : ℕ) → k < group_stride → InGroup c.args.m.now c.args.g k
in_group c k h = record { long = (facts c).long; low = c.requires.le_g.0; high = c.requires.le_g.1; inside = h }

-- what is read
abbrev Read : After-group_word3 → Type 0
Read c =
    (c.group_word-places.result ≡ word c.args.m.now (group_address c.args.g + held_offset))
    × ((c.group_word-2.result ≡ word c.args.m.now (group_address c.args.g + count_offset))
    × (c.group_word.result ≡ word c.args.m.now (group_address c.args.g + used_offset)))

reads : (c : After-group_word3) → Read c
reads c = (c.group_word-places.ensures, (c.group_word-2.ensures, c.group_word.ensures))

-- where the arms meet, the buffer has room
ready : (c : Joined1) (n : Node) (r : List ℕ) → Holds c.args.m.now n r → Storable c.args.g n → Ready c.if-places-end.m c.args.g n r
ready c n r h fit =
    let g = c.args.g in
    let low = c.requires.le_g.0 in
    let high = c.requires.le_g.1 in
    let q = reads c.before in
    elim c.if-places-end.branch [
      | then-places-end w ↦
          (let full : 8 * word c.args.m.now (group_address g + held_offset) ≤ word c.args.m.now (group_address g + used_offset) + word c.args.m.now (group_address g + count_offset) =
          omega (arith, w.if-places-end.true, q.0, q.1.0, q.1.1) in
          subst (λ (k : List ℕ). Ready k g n r) (sym w.m-is)
          (ready-taken h g low high fit full (w.extend.ensures n r h (full-left h g low high fit full))))
      | else-places-end w ↦ subst (λ (k : List ℕ). Ready k g n r) (sym w.m-is) (ready-room h g low high fit (omega (arith, w.if-places-end.false, q.0, q.1.0, q.1.1)))
    ]

ready-length : (c : Joined1) → length c.if-places-end.m ≡ length c.args.m.now
ready-length c = c.if-places-end.auto.m

pub group_word-requires : goal.group_word-requires
group_word-requires c = in_group c.before used_offset (omega arith)

pub group_word-requires-2 : goal.group_word-requires-2
group_word-requires-2 c = in_group c.before.before count_offset (omega arith)

pub overflow_add-end : goal.overflow_add-end
overflow_add-end c = let f = facts c.before.before.before in omega (arith, c.group_word-2.ensures, c.group_word.ensures)

pub group_word-places-requires : goal.group_word-places-requires
group_word-places-requires c = in_group c.before.before.before held_offset (omega arith)

pub overflow_mul-places : goal.overflow_mul-places
overflow_mul-places c = let f = facts c.before.before.before.before in omega (arith, c.group_word-places.ensures)

pub extend-requires : goal.extend-requires
extend-requires c =
    let p = c.requires.some in
    let q = reads c.before.before in
    let full : 8 * word c.args.m.now (group_address c.args.g + held_offset)
    ≤ word c.args.m.now (group_address c.args.g + used_offset) + word c.args.m.now (group_address c.args.g + count_offset) =
    omega (arith, c.if-places-end.true) in record {
      le_g = c.requires.le_g;
      some = record {
        node = p.node;
        rest = p.rest;
        holds = p.holds;
        fact = full-left p.holds c.args.g c.requires.le_g.0 c.requires.le_g.1 p.fact full;
      };
    }

pub put-requires : goal.put-requires
put-requires c =
    let p = c.requires.some in
    let t = ready c.before p.node p.rest p.holds p.fact in
    record { le_g = c.requires.le_g; some = record { node = t.node; rest = p.rest; holds = t.holds; fact = t.room } }

pub shape_of-m : goal.shape_of-m
shape_of-m c = c.put.auto.m ∙ ready-length c.before.before.before.before.before

pub returns : goal.returns
returns c x kept n r h fit =
    let t = ready c.before.before.before.before.before n r h fit in
    subst (λ (k : Node). Holds c.put.new.m k r) (t.stores x kept.group)
    (c.put.ensures x kept t.node r t.holds t.room)
