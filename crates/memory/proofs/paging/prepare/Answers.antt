-- `memory::paging::prepare` meets its contract: the counts of the buffer and of the free line say which case it is. Assumes nothing.
use Prim.Native.Nat.{ℕ, ◌+◌, ◌*◌, ◌/◌, ◌≤◌, ◌<◌}
use native.Mathlib.Omega.{arith}
use mathlib.Core.Path.{◌≡◌, subst}
use Rattle.rules.specs.Memory.{group_address, group_stride, word, used_offset, count_offset, held_offset, list_offset}
use Rattle.rules.specs.Node.{Node}
use Rattle.memory.specs.Holds.{Holds}
use Rattle.memory.specs.Writes.{InGroup}
use Rattle.memory.proofs.buffer.AppendLaws.{Ends}
use Rattle.memory.proofs.paging.PrepareLaws.{full-ready, full-sending, full-sent, next-owned, next-prepared, wanting-ends}
use Rattle.memory.proofs.paging.prepare.Goals as goal
use Rattle.memory.proofs.paging.prepare.Lts as lts
use Rattle.memory.proofs.paging.prepare.Tie as tie
use Rattle.memory.proofs.paging.prepare.Reads as past

-- The places of the code that lemmas speak of.

abbrev After-group_word3 : Type 0
After-group_word3 = lts.After-group_word3 tie.the-claims past.Pre past.Post tie.handed_clauses

abbrev After-group_word4 : Type 0
After-group_word4 = lts.After-group_word4 tie.the-claims past.Pre past.Post tie.handed_clauses

abbrev Else1 : Type 0
Else1 = lts.Else1 tie.the-claims past.Pre past.Post tie.handed_clauses

abbrev Start : Type 0
Start = lts.Start tie.the-claims past.Pre past.Post tie.handed_clauses

abbrev Then1 : Type 0
Then1 = lts.Then1 tie.the-claims past.Pre past.Post tie.handed_clauses

facts : (c : Start) → Ends c.args.m.now c.args.g
facts c = wanting-ends c.requires.le_g.0 c.requires.le_g.1 c.requires.some.fact c.requires.some.holds

in_group : (c : Start) (k : ℕ) → k < group_stride → InGroup c.args.m.now c.args.g k
in_group c k h = record { long = (facts c).long; low = c.requires.le_g.0; high = c.requires.le_g.1; inside = h }

-- where the counts are read
abbrev start : After-group_word3 → Start
start c = c.before.before.before.before

-- word k of the record at entry
abbrev field : Start → ℕ → ℕ
field c k = word c.args.m.now (group_address c.args.g + k)

-- the end of the buffer
end_read : (c : After-group_word3) → c.group_word.result + c.group_word-2.result ≡ field (start c) used_offset + field (start c) count_offset
end_read c = omega (arith, c.group_word.ensures, c.group_word-2.ensures)

-- its places
held-read : (c : After-group_word3) → c.group_word-3.result ≡ field (start c) held_offset
held-read c = c.group_word-3.ensures

pub group_word-requires : goal.group_word-requires
group_word-requires c = in_group c.before used_offset (omega arith)

pub group_word-requires-2 : goal.group_word-requires-2
group_word-requires-2 c = in_group c.before.before count_offset (omega arith)

pub overflow_add-end : goal.overflow_add-end
overflow_add-end c = omega (arith, c.group_word-2.ensures, c.group_word.ensures, facts c.before.before.before)

pub group_word-requires-3 : goal.group_word-requires-3
group_word-requires-3 c = in_group c.before.before.before held_offset (omega arith)

pub overflow_mul-group_word : goal.overflow_mul-group_word
overflow_mul-group_word c = omega (arith, held-read c, facts (start c))

pub group_word-last-requires : goal.group_word-last-requires
group_word-last-requires c =
    in_group (start c.before) _ (omega (arith, c.if-end-group_word.true, held-read c.before, facts (start c.before)))

-- there is room: the page to write to
room : (c : Then1) → field (start c.before) used_offset + field (start c.before) count_offset < 8 * field (start c.before) held_offset
room c = omega (arith, c.if-end-group_word.true, end_read c.before, held-read c.before)

next : (c : After-group_word4) → c.group_word-last.result ≡ field (start c.before.before) (list_offset + (field (start c.before.before) used_offset + field (start c.before.before) count_offset) / 8)
next c = rw (end_read c.before.before) at c.group_word-last.ensures

pub resident-requires : goal.resident-requires
resident-requires c =
    let s = start c.before.before.before in
    let p = s.requires.some in
    record {
      node = p.node;
      rest = p.rest;
      holds = p.holds;
      fact = rw (next c.before) (next-owned s.requires.le_g.0 s.requires.le_g.1 p.fact p.holds (room c.before.before));
    }

pub returns-then-end-group_word : goal.returns-then-end-group_word
returns-then-end-group_word c n r h wanting =
    let s = start c.before.before.before.before.before.before.before in
    let e = next c.before.before.before.before.before in
    subst (λ (k : Node). Holds c.resident.new.m k r)
    (rw e (next-prepared s.requires.le_g.0 s.requires.le_g.1 wanting h (room c.before.before.before.before.before.before)))
    (c.resident.ensures n r h (rw e (next-owned s.requires.le_g.0 s.requires.le_g.1 wanting h (room c.before.before.before.before.before.before))))

pub bounds-m-3 : goal.bounds-m-3
bounds-m-3 c = omega (arith, (facts (start c.before.before.before)).long)

-- there is none
full : (c : Else1) → 8 * field (start c.before) held_offset ≤ field (start c.before) used_offset + field (start c.before) count_offset
full c = omega (arith, c.if-end-group_word.false, end_read c.before, held-read c.before)

pub send_out-requires : goal.send_out-requires
unfolding word
send_out-requires c =
    let s = start c.before.before.before.before in
    let p = s.requires.some in
    record {
      node = p.node;
      rest = p.rest;
      holds = p.holds;
      fact = full-sending s.requires.le_g.0 s.requires.le_g.1 p.fact p.holds (full c.before.before.before) c.if-m-eq0.true;
    }

pub returns-then-m-eq0 : goal.returns-then-m-eq0
unfolding word
returns-then-m-eq0 c n r h wanting =
    let s = start c.before.before.before.before.before.before.before.before in
    let none = c.if-m-eq0.true in
    subst (λ (k : Node). Holds c.send_out.new.m k r) (full-sent s.requires.le_g.0 s.requires.le_g.1 wanting h (full c.before.before.before.before.before.before.before) none)
    (c.send_out.ensures n r h (full-sending s.requires.le_g.0 s.requires.le_g.1 wanting h (full c.before.before.before.before.before.before.before) none))

pub returns-else-m-eq0 : goal.returns-else-m-eq0
unfolding word
returns-else-m-eq0 c n r h wanting =
    let s = start c.before.before.before.before in
    subst (λ (k : Node). Holds s.args.m.now k r) (full-ready s.requires.le_g.0 s.requires.le_g.1 wanting h (full c.before.before.before) c.if-m-eq0.false) h
