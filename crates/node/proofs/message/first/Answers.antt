-- `node::message::first` meets its contract. Nobody runs: no part. The running group's count is above 0: its first message waits in the
-- first frame of its list, behind the used-up places. Else the head of the queue, if there is one, is its first message. Assumes nothing.
use Prim.Native.Nat.{◌+◌, ◌<◌, ◌≤◌, ℕ}
use native.Mathlib.Omega.{arith}
use mathlib.Core.List.{List}
use mathlib.Core.Path.{◌∙◌, ◌≡◌, ap, sym}
use lib.ListN.{get_or, length}
use Rattle.rules.specs.Build.{paper01, page_count}
use Rattle.rules.specs.Memory.{count_offset, frame_address, group_address, group_stride, list_offset, size, used_offset, word}
use Rattle.rules.specs.MemoryTest.{buffer_part, first_place, queue_part}
use Rattle.rules.specs.Node.{Node, group_of}
use Rattle.rules.specs.Valid.{Valid}
use Rattle.memory.specs.Holds.{Holds}
use Rattle.memory.specs.Writes.{InGroup}
use Rattle.memory.proofs.group.GroupLaws.{group-words}
use Rattle.memory.proofs.PieceLaws.{holds-pieces}
use Rattle.node.specs.Parts.{part_of}
use Rattle.rules.proofs.Map.MapHead.{nobody-part}
use Rattle.node.proofs.message.HeadLaws.{buffered-part, first-frame, idle-part, queued-part}
use Rattle.node.proofs.ServedLaws.{runner}
use Rattle.node.proofs.message.first.Goals as goal
use Rattle.node.proofs.message.first.Lts as lts
use Rattle.node.proofs.message.first.Tie as tie
use Rattle.node.proofs.message.first.Reads as past

-- The places of the code that lemmas speak of.

abbrev After-group_word : Type 0
After-group_word = lts.After-group_word tie.the-claims past.Pre past.Post

abbrev After-group_word3 : Type 0
After-group_word3 = lts.After-group_word3 tie.the-claims past.Pre past.Post

abbrev After-place_at : Type 0
After-place_at = lts.After-place_at tie.the-claims past.Pre past.Post

abbrev Else1 : Type 0
Else1 = lts.Else1 tie.the-claims past.Pre past.Post

abbrev Start : Type 0
Start = lts.Start tie.the-claims past.Pre past.Post

-- its messages in the buffer
counted : (c : After-group_word) {n : Node} {r : List ℕ} → Holds c.args.m.now n r → Valid paper01 n
    → (1 ≤ n.running) × (c.group_word.result ≡ (group_of n n.running).buffer.count)
counted c {n} h v =
    let e = runner h in
    let low : 1 ≤ n.running = omega (arith, c.if-g-eq0.false) in
    let at : c.group_word.result ≡ word c.args.m.now (group_address n.running + count_offset) = rw (← e) c.group_word.ensures in
    (low, at ∙ (group-words (holds-pieces h) h.mapped n.running low v.running-bound).count)

in_group : (c : Else1) (k : ℕ) → k < group_stride → InGroup c.args.m.now (get_or c.args.m.now 0 0) k
in_group c k l =
    let p = c.requires in
    let e = runner p.holds in
    let v = p.fact.running-bound in
    record { long = (holds-pieces p.holds).long; low = omega (arith, c.if-g-eq0.false); high = omega arith; inside = l }

-- the frame and the place in it
first-there : (c : After-group_word3) → (c.group_word-frame.result < page_count paper01) × (c.group_word-used.result < paper01.per_frame)
first-there c =
    let p = c.requires in
    let e = runner p.holds in
    let k = counted c.before.before.before p.holds p.fact in
    let f = first-frame p.holds p.fact k.0 (omega (arith, c.if-group_word-ne0.true)) in
    (rw (c.group_word-frame.ensures, e) f.0, rw (c.group_word-used.ensures, e) f.1)

at_place : (c : After-place_at) {n : Node} {r : List ℕ} → Holds c.args.m.now n r → c.place_at-at.result ≡ first_place c.args.m.now n.running
unfolding first_place
at_place c h = c.place_at-at.ensures ∙ rw (c.group_word-frame.ensures, c.group_word-used.ensures, runner h)

inside : (c : After-place_at) → c.place_at-at.result + 9 ≤ size
unfolding frame_address
inside c = let f = first-there c.before in omega (arith, c.place_at-at.ensures)

long : (c : Start) → size ≤ length c.args.m.now
long c = (holds-pieces c.requires.holds).long

pub bounds-m-0 : goal.bounds-m-0
bounds-m-0 c = omega (arith, long c.before.before.before)

pub returns-then-g-eq0 : goal.returns-then-g-eq0
returns-then-g-eq0 c n r h v = sym (ap part_of (nobody-part _ n (sym (runner h) ∙ c.if-g-eq0.true)))

pub group_word-requires : goal.group_word-requires
group_word-requires c = in_group c.before count_offset (omega arith)

pub group_word-frame-requires : goal.group_word-frame-requires
group_word-frame-requires c = in_group c.before.before.before list_offset (omega arith)

pub group_word-used-requires : goal.group_word-used-requires
group_word-used-requires c = in_group c.before.before.before.before used_offset (omega arith)

pub place_at-at-requires : goal.place_at-at-requires
place_at-at-requires c = first-there c.before

pub overflow_add-result : goal.overflow_add-result
overflow_add-result c = let w = inside c.before in omega arith

pub offset_bounds-m-at : goal.offset_bounds-m-at
offset_bounds-m-at c = let w = inside c.before in omega arith

pub bounds-m-at : goal.bounds-m-at
bounds-m-at c = let w = inside c.before.before in omega (arith, long c.before.before.before.before.before.before.before.before.before.before)

pub returns-then-group_word-ne0 : goal.returns-then-group_word-ne0
unfolding buffer_part word
returns-then-group_word-ne0 c n r h v =
    let k = counted c.before.before.before.before.before.before h v in
    let some : 1 ≤ (group_of n n.running).buffer.count = omega (arith, c.if-group_word-ne0.true) in
    rw (buffered-part h v k.0 some, at_place c.before.before h)

pub bounds-m-2 : goal.bounds-m-2
bounds-m-2 c = omega (arith, long c.before.before.before.before.before.before.before)

pub bounds-m : goal.bounds-m
bounds-m c = omega (arith, long c.before.before.before.before.before.before.before.before.before)

pub returns-then-m-ne0 : goal.returns-then-m-ne0
unfolding queue_part word
returns-then-m-ne0 c n r h v =
    let k = counted c.before.before.before.before.before h v in
    let none : (group_of n n.running).buffer.count ≡ 0 = omega (arith, c.if-group_word-ne0.false) in
    let q = (holds-pieces h).queued in
    rw (queued-part h v k.0 none (omega (arith, c.if-m-ne0.true)))

pub returns : goal.returns
unfolding word
returns c n r h v =
    let k = counted c.before.before.before.before h v in
    let none : (group_of n n.running).buffer.count ≡ 0 = omega (arith, c.if-group_word-ne0.false) in
    let q = (holds-pieces h).queued in
    rw (idle-part h v k.0 none (omega (arith, c.if-m-ne0.false)))
