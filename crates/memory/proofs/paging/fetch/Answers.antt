-- `memory::paging::fetch` meets its contract: the front of the free line enters, the page is counted, and goes there; a lemma for each place
-- says what stands there. Assumes nothing.
use Prim.Native.Nat.{ℕ}
use native.Mathlib.Omega.{arith}
use mathlib.Core.List.{List}
use Rattle.rules.specs.Memory.{free_at, word}
use Rattle.rules.specs.Node.{Node}
use Rattle.memory.specs.Holds.{Holds, entering}
use Rattle.memory.specs.Paging.{Fetching}
use Rattle.memory.proofs.PieceLaws.{holds-pieces}
use Rattle.memory.proofs.paging.PiecesLaws.{laid-listing}
use Rattle.memory.proofs.paging.FetchLaws.{Opened, entered, entered-more, entered-ready, fetched-held, fetched-ready, fetching-front, fetching-room, opened}
use Rattle.memory.proofs.paging.fetch.Goals as goal
use Rattle.memory.proofs.paging.fetch.Lts as lts
use Rattle.memory.proofs.paging.fetch.Tie as tie
use Rattle.memory.proofs.paging.fetch.Reads as past

-- The places of the code that lemmas speak of.

abbrev After-count : Type 0
After-count = lts.After-count tie.the-claims past.Pre past.Post tie.handed_clauses

abbrev After-enter : Type 0
After-enter = lts.After-enter tie.the-claims past.Pre past.Post tie.handed_clauses

abbrev After-leave : Type 0
After-leave = lts.After-leave tie.the-claims past.Pre past.Post tie.handed_clauses

abbrev After-move_page : Type 0
After-move_page = lts.After-move_page tie.the-claims past.Pre past.Post tie.handed_clauses

abbrev Start : Type 0
Start = lts.Start tie.the-claims past.Pre past.Post tie.handed_clauses

-- The places, from each call to the one before it.

abbrev start : After-enter → Start
start c = c.before.before.before.before

abbrev at-enter : After-count → After-enter
at-enter c = c.before.before.before.before

abbrev at_count : After-leave → After-count
at_count c = c.before.before.before.before

abbrev at-leave : After-move_page → After-leave
at-leave c = c.before.before.before.before

-- the memory held such a node at entry
abbrev Entry : Start → Node → List ℕ → Type 0
Entry c n r = Holds c.args.m.now n r × Fetching c.args.p n

-- the front of the free line
abbrev front : Start → ℕ
front c = word c.args.m.now free_at

-- it has entered
entering-front : (c : After-enter) {n : Node} {r : List ℕ} → Entry (start c) n r → Holds c.enter.new.m (entering (front (start c)) n) r
unfolding word
entering-front c {n} {r} e = c.enter.ensures n r e.0 (fetching-room e.1)

-- and the page is counted
counted : (c : After-count) {n : Node} {r : List ℕ} → Entry (start (at-enter c)) n r → Holds c.count.new.m (entered (front (start (at-enter c))) n) r
counted c {n} e = entered-more n (front (start (at-enter c))) (entering-front (at-enter c) e) c.count.ensures

-- it has left the free line
left : (c : After-leave) {n : Node} {r : List ℕ} → Entry (start (at-enter (at_count c))) n r
    → Opened c.leave.new.m n r (front (start (at-enter (at_count c)))) (start (at-enter (at_count c))).args.p
left c e = opened e.1 (fetching-front e.1 e.0) (counted (at_count c) e) c.leave.ensures

pub bounds-m-164 : goal.bounds-m-164
bounds-m-164 c = omega (arith, (holds-pieces c.requires.holds).long)

pub enter-requires : goal.enter-requires
enter-requires c =
    let p = c.requires in
    record { node = p.node; rest = p.rest; holds = p.holds; fact = fetching-room p.fact }

pub count-requires : goal.count-requires
count-requires c =
    let p = (start c.before.before.before).requires in
    omega (arith, (holds-pieces (entering-front c.before.before.before (p.holds, p.fact))).long)

pub leave-requires : goal.leave-requires
leave-requires c =
    let p = (start (at-enter c.before.before.before)).requires in let both = entered-ready p.fact (fetching-front p.fact p.holds) (counted c.before.before.before (p.holds, p.fact)) in record { in_line = both.0; i_bound = both.1 }

pub move_page-requires : goal.move_page-requires
unfolding word
move_page-requires c =
    let p = (start (at-enter (at_count c.before.before.before))).requires in
    let t = left c.before.before.before (p.holds, p.fact) in
    record { p_bound = (t.high, t.low); listing = laid-listing t.pieces t.laid }

pub join-requires : goal.join-requires
unfolding word
join-requires c =
    let p = (start (at-enter (at_count (at-leave c.before.before.before)))).requires in let both = fetched-ready p.fact (left (at-leave c.before.before.before) (p.holds, p.fact)) c.move_page.ensures in record { in_line = both.0; count_bound = both.1 }

pub returns : goal.returns
unfolding word
returns c n r h s =
    fetched-held s (left (at-leave c.before.before.before.before.before.before.before) (h, s)) c.move_page.ensures c.join.ensures
