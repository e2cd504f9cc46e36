-- `node::network::refusal` meets its contract: it asks in the paper's order, and what it reads is what the definition asks of. Where more
-- frames and swap pages are free than messages queued, the pledges are within the pages by the law of early acceptance, so they are not
-- summed. Assumes nothing.
use Prim.Native.Nat.{ℕ, ◌+◌, ◌≤◌, ◌<◌}
use native.Mathlib.Omega.{arith}
use mathlib.Core.List.{List}
use mathlib.Core.Path.{refl, sym}
use lib.ListN.{length}
use Rattle.rules.specs.Build.{paper01}
use Rattle.rules.specs.Memory.{size, word}
use Rattle.rules.specs.Node.{Message, Node}
use Rattle.rules.specs.Valid.{GoodMessage}
use Rattle.rules.proofs.Steps.SoundLaws.{valid-sound}
use Rattle.memory.specs.Holds.{Holds}
use Rattle.memory.proofs.queue.QueueLaws.{queue-count}
use Rattle.node.proofs.network.ArriveLaws.{above-pages, full-queue, high-group, many-words, no-group, no_words, within-pages}
use Rattle.node.proofs.network.PledgeLaws.{early}
use Rattle.node.proofs.network.PledgeReads.{free-counts, places}
use Rattle.node.proofs.network.refusal.Goals as goal
use Rattle.node.proofs.network.refusal.Goals.{then-g-eq0-via-then-g-eq0, then-g-eq0-via-else-g-eq0+then-g-gt-GROUPS}
use Rattle.node.proofs.network.refusal.Goals.{then-words-eq0-via-then-words-eq0, then-words-eq0-via-else-words-eq0+then-words}
use Rattle.node.proofs.network.refusal.Lts as lts
use Rattle.node.proofs.network.refusal.Tie as tie
use Rattle.node.proofs.network.refusal.Reads as past

-- The places of the code that lemmas speak of.

abbrev Else4 : Type 0
Else4 = lts.Else4 tie.the-claims past.Pre past.Post

abbrev Else5 : Type 0
Else5 = lts.Else5 tie.the-claims past.Pre past.Post

abbrev Start : Type 0
Start = lts.Start tie.the-claims past.Pre past.Post

long : (c : Start) → size ≤ length c.args.m.now
long c = (places c.requires.holds).long

-- the message
abbrev message : Start → Message
message s = record { group = s.args.g; words = s.args.words.now }

-- past 3 and 4 it is good
good : (c : Else4) → GoodMessage (message c.before.before.before.before.before.before)
good c =
    record {
      group-low = omega (arith, c.if-g-eq0.false);
      group-high = c.if-g-gt-GROUPS.false;
      some_words = omega (arith, c.if-words-eq0.false);
      few_words = c.if-words.false;
    }

-- past 5 the queue has room
room : (c : Else5) (n : Node) (r : List ℕ) → Holds c.args.m.now n r → length n.queue < 16
unfolding word
room c n r h = omega (arith, queue-count h, c.if-m-ge-PLACES.false)

pub returns-then-g-eq0 : goal.returns-then-g-eq0
returns-then-g-eq0 c n r h v =
    let s = c.args in
    sym
    (elim c.then-g-eq0.branch [
      | then-g-eq0-via-then-g-eq0 w ↦ no-group paper01 n s.g s.words.now w.if-g-eq0.true
      | then-g-eq0-via-else-g-eq0+then-g-gt-GROUPS w ↦ high-group paper01 n s.g s.words.now w.if-g-gt-GROUPS.true
    ])

pub returns-then-words-eq0 : goal.returns-then-words-eq0
returns-then-words-eq0 c n r h v =
    let s = c.args in
    let low : 1 ≤ s.g = omega (arith, c.if-g-eq0.false) in
    sym
    (elim c.then-words-eq0.branch [
      | then-words-eq0-via-then-words-eq0 w ↦ no_words paper01 n s.g s.words.now low c.if-g-gt-GROUPS.false w.if-words-eq0.true
      | then-words-eq0-via-else-words-eq0+then-words w ↦ many-words paper01 n s.g s.words.now low c.if-g-gt-GROUPS.false w.if-words.true
    ])

pub bounds-m-2 : goal.bounds-m-2
bounds-m-2 c = omega (arith, long c.before.before.before.before.before.before.before.before)

pub returns-then-m-ge-PLACES : goal.returns-then-m-ge-PLACES
unfolding word
returns-then-m-ge-PLACES c n r h v =
    let s = c.args in
    sym (full-queue paper01 n s.g s.words.now (good c.before.before.before) (omega (arith, queue-count h, c.if-m-ge-PLACES.true)))

pub bounds-m-3 : goal.bounds-m-3
bounds-m-3 c = omega (arith, long c.before.before.before.before.before.before.before.before.before.before)

pub bounds-m-8004 : goal.bounds-m-8004
bounds-m-8004 c = omega (arith, long c.before.before.before.before.before.before.before.before.before.before.before)

-- the free frames and swap pages are few
pub overflow_add-m : goal.overflow_add-m
unfolding word
overflow_add-m c = let p = c.requires in omega (arith, free-counts p.holds, p.holds.mapped.free-short, p.holds.mapped.swap-short)

pub bounds-m-2-2 : goal.bounds-m-2-2
bounds-m-2-2 c = omega (arith, long c.before.before.before.before.before.before.before.before.before.before.before.before)

pub returns-then-m : goal.returns-then-m
unfolding word
returns-then-m c n r h v =
    let s = c.args in
    let x = good c.before.before.before.before.before.before.before in
    let free : length n.queue < length n.free + length n.paging.swap = omega (arith, queue-count h, free-counts h, c.if-m.true) in
    sym (within-pages paper01 n s.g s.words.now x (room c.before.before.before.before.before n r h) (early (valid-sound v) (message c.before.before.before.before.before.before.before.before.before.before.before.before.before) x free))

pub returns-then-pledges : goal.returns-then-pledges
returns-then-pledges c n r h v =
    let s = c.args in
    let total = c.pledges.ensures n r h (message c.before.before.before.before.before.before.before.before.before.before.before.before.before.before.before) refl in
    sym (above-pages paper01 n s.g s.words.now (good c.before.before.before.before.before.before.before.before.before) (room c.before.before.before.before.before.before.before n r h) (omega (arith, c.if-pledges.true)))

pub returns : goal.returns
returns c n r h v =
    let s = c.args in
    let total = c.pledges.ensures n r h (message c.before.before.before.before.before.before.before.before.before.before.before.before.before.before.before) refl in
    sym (within-pages paper01 n s.g s.words.now (good c.before.before.before.before.before.before.before.before.before) (room c.before.before.before.before.before.before.before n r h) (omega (arith, c.if-pledges.false)))
