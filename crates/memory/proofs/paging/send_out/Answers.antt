-- `memory::paging::send_out` meets its contract: the victim's frame leaves the order of entry, the page is counted, and goes to the front of
-- the swap line; a lemma for each place says what stands there. Assumes nothing.
use Prim.Native.Nat.{ℕ}
use native.Mathlib.Omega.{arith}
use mathlib.Core.List.{List}
use mathlib.Core.Path.{◌≡◌, subst, sym}
use Rattle.rules.specs.Node.{Node}
use Rattle.rules.specs.Paging.{victim}
use Rattle.memory.specs.Holds.{Holds, InOrder, departing}
use Rattle.memory.specs.Paging.{PageMoved, Sending}
use Rattle.memory.proofs.PieceLaws.{holds-pieces}
use Rattle.memory.proofs.paging.PiecesLaws.{laid-listing}
use Rattle.memory.proofs.paging.SendLaws.{Taken, parted, parted-held, parted-ready, sent-held, sent-ready, taken, victim-ordered}
use Rattle.memory.proofs.paging.send_out.Goals as goal
use Rattle.memory.proofs.paging.send_out.Lts as lts
use Rattle.memory.proofs.paging.send_out.Tie as tie
use Rattle.memory.proofs.paging.send_out.Reads as past

-- The places of the code that lemmas speak of.

abbrev After-count : Type 0
After-count = lts.After-count tie.the-claims past.Pre past.Post tie.handed_clauses

abbrev After-depart : Type 0
After-depart = lts.After-depart tie.the-claims past.Pre past.Post tie.handed_clauses

abbrev After-leave : Type 0
After-leave = lts.After-leave tie.the-claims past.Pre past.Post tie.handed_clauses

abbrev After-move_page : Type 0
After-move_page = lts.After-move_page tie.the-claims past.Pre past.Post tie.handed_clauses

abbrev After-victim : Type 0
After-victim = lts.After-victim tie.the-claims past.Pre past.Post tie.handed_clauses

abbrev Start : Type 0
Start = lts.Start tie.the-claims past.Pre past.Post tie.handed_clauses

-- The places, from each call to the one before it.

abbrev start : After-victim → Start
start c = c.before.before

abbrev at-victim : After-depart → After-victim
at-victim c = c.before.before

abbrev at-depart : After-count → After-depart
at-depart c = c.before.before.before.before

abbrev at_count : After-leave → After-count
at_count c = c.before.before.before.before

abbrev at-leave : After-move_page → After-leave
at-leave c = c.before.before.before.before

-- the memory held such a node at entry
abbrev Entry : After-victim → Node → List ℕ → Type 0
Entry c n r = Holds (start c).args.m.now n r × Sending n

-- what victim gives is the victim
chosen : (c : After-victim) {n : Node} {r : List ℕ} → Entry c n r → c.victim-f.result ≡ victim n
chosen c {n} {r} e = c.victim-f.ensures n r e.0 e.1.crowded

ordered : (c : After-victim) {n : Node} {r : List ℕ} → Entry c n r → InOrder c.victim-f.result n
ordered c {n} e = subst (λ f. InOrder f n) (sym (chosen c e)) (victim-ordered e.1)

-- it has left the order of entry
departed : (c : After-depart) {n : Node} {r : List ℕ} → Entry (at-victim c) n r → Holds c.depart.new.m (departing (at-victim c).victim-f.result n) r
departed c {n} {r} e = c.depart.ensures n r e.0 (ordered (at-victim c) e)

-- and is counted
counted : (c : After-count) {n : Node} {r : List ℕ} → Entry (at-victim (at-depart c)) n r → Holds c.count.new.m (parted n) r
counted c {n} e = parted-held n (chosen (at-victim (at-depart c)) e) (departed (at-depart c) e) c.count.ensures

-- the front of the swap line is taken
fronted : (c : After-leave) {n : Node} {r : List ℕ} → Entry (at-victim (at-depart (at_count c))) n r → Taken c.leave-s.new.m n r c.leave-s.result
fronted c e = taken e.1 (counted (at_count c) e) c.leave-s.ensures

-- the page is there
moved : (c : After-move_page) {n : Node} {r : List ℕ} → Entry (at-victim (at-depart (at_count (at-leave c)))) n r
    → PageMoved (at-leave c).leave-s.new.m c.move_page.new.m (victim n) (at-leave c).leave-s.result
moved c e = rw (chosen (at-victim (at-depart (at_count (at-leave c)))) e) at c.move_page.ensures

pub victim-f-requires : goal.victim-f-requires
victim-f-requires c =
    let p = c.requires in
    record { node = p.node; rest = p.rest; holds = p.holds; fact = p.fact.crowded }

pub depart-requires : goal.depart-requires
depart-requires c =
    let p = (start c.before).requires in
    record { node = p.node; rest = p.rest; holds = p.holds; fact = ordered c.before (p.holds, p.fact) }

pub count-requires : goal.count-requires
count-requires c =
    let p = (start (at-victim c.before.before.before)).requires in
    omega (arith, (holds-pieces (departed c.before.before.before (p.holds, p.fact))).long)

pub leave-s-requires : goal.leave-s-requires
leave-s-requires c =
    let p = (start (at-victim (at-depart c.before.before.before))).requires in let both = parted-ready p.fact (counted c.before.before.before (p.holds, p.fact)) in record { in_line = both.0; i_bound = both.1 }

pub move_page-requires : goal.move_page-requires
move_page-requires c =
    let v = at-victim (at-depart (at_count c.before.before.before)) in
    let p = (start v).requires in
    let t = fronted c.before.before.before (p.holds, p.fact) in
    record { p_bound = (rw (chosen v (p.holds, p.fact)) t.low, t.high); listing = laid-listing t.pieces t.laid }

pub join-requires : goal.join-requires
join-requires c =
    let p = (start (at-victim (at-depart (at_count (at-leave c.before.before.before))))).requires in let both = sent-ready p.fact (fronted (at-leave c.before.before.before) (p.holds, p.fact)) (moved c.before.before.before (p.holds, p.fact)) in record { in_line = both.0; count_bound = both.1 }

pub returns : goal.returns
returns c n r h s =
    sent-held s (fronted (at-leave c.before.before.before.before.before.before.before) (h, s)) (moved c.before.before.before.before.before.before.before (h, s))
    (rw (chosen (at-victim (at-depart (at_count (at-leave c.before.before.before.before.before.before.before)))) (h, s)) at c.join.ensures)
