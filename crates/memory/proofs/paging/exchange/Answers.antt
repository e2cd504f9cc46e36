-- `memory::paging::exchange` meets its contract: the victim's frame goes to the end of the order of entry, both pages are counted, and they
-- trade places; a lemma for each place says what stands there. Assumes nothing.
use Prim.Native.Nat.{ℕ}
use native.Mathlib.Omega.{arith}
use mathlib.Core.List.{List}
use mathlib.Core.Path.{◌≡◌, subst, sym}
use Rattle.rules.specs.Node.{Node}
use Rattle.rules.specs.Paging.{victim}
use Rattle.memory.specs.Holds.{Holds, InOrder, OrderRoom, departing, entering}
use Rattle.memory.specs.Paging.{Exchanging}
use Rattle.memory.proofs.PieceLaws.{holds-pieces}
use Rattle.memory.proofs.paging.ExchangeLaws.{departing-room, exchanged-held, renewed, renewed-held, renewed-ready, victim-ordered}
use Rattle.memory.proofs.paging.exchange.Goals as goal
use Rattle.memory.proofs.paging.exchange.Lts as lts
use Rattle.memory.proofs.paging.exchange.Tie as tie
use Rattle.memory.proofs.paging.exchange.Reads as past

-- The places of the code that lemmas speak of.

abbrev After-count : Type 0
After-count = lts.After-count tie.the-claims past.Pre past.Post tie.handed_clauses

abbrev After-count2 : Type 0
After-count2 = lts.After-count2 tie.the-claims past.Pre past.Post tie.handed_clauses

abbrev After-depart : Type 0
After-depart = lts.After-depart tie.the-claims past.Pre past.Post tie.handed_clauses

abbrev After-enter : Type 0
After-enter = lts.After-enter tie.the-claims past.Pre past.Post tie.handed_clauses

abbrev After-victim : Type 0
After-victim = lts.After-victim tie.the-claims past.Pre past.Post tie.handed_clauses

abbrev Start : Type 0
Start = lts.Start tie.the-claims past.Pre past.Post tie.handed_clauses

-- The places, from each call to the one before it.

abbrev start : After-victim → Start
start c = c.before.before

abbrev at-victim : After-depart → After-victim
at-victim c = c.before.before

abbrev at-depart : After-enter → After-depart
at-depart c = c.before.before.before.before

abbrev at-enter : After-count → After-enter
at-enter c = c.before.before.before.before

abbrev at_count : After-count2 → After-count
at_count c = c.before.before.before.before

-- the memory held such a node at entry
abbrev Entry : After-victim → Node → List ℕ → Type 0
Entry c n r = Holds (start c).args.m.now n r × Exchanging (start c).args.p n

-- what victim gives is the victim
chosen : (c : After-victim) {n : Node} {r : List ℕ} → Entry c n r → c.victim-f.result ≡ victim n
chosen c {n} {r} e = c.victim-f.ensures n r e.0 (record { sound = e.1.away.owned.sound; full = e.1.full })

ordered : (c : After-victim) {n : Node} {r : List ℕ} → Entry c n r → InOrder c.victim-f.result n
ordered c {n} e = subst (λ f. InOrder f n) (sym (chosen c e)) (victim-ordered e.1)

-- it has left the order of entry
departed : (c : After-depart) {n : Node} {r : List ℕ} → Entry (at-victim c) n r → Holds c.depart.new.m (departing (at-victim c).victim-f.result n) r
departed c {n} {r} e = c.depart.ensures n r e.0 (ordered (at-victim c) e)

-- which has a place for it
room : (c : After-depart) {n : Node} {r : List ℕ} → Entry (at-victim c) n r → OrderRoom (departing (at-victim c).victim-f.result n)
room c {n} e = subst (λ f. OrderRoom (departing f n)) (sym (chosen (at-victim c) e)) (departing-room e.1)

-- and is the last there
entered : (c : After-enter) {n : Node} {r : List ℕ} → Entry (at-victim (at-depart c)) n r
    → Holds c.enter.new.m (entering (at-victim (at-depart c)).victim-f.result (departing (at-victim (at-depart c)).victim-f.result n)) r
entered c {n} {r} e = c.enter.ensures (departing (at-victim (at-depart c)).victim-f.result n) r (departed (at-depart c) e) (room (at-depart c) e)

-- both pages are counted
counted : (c : After-count2) {n : Node} {r : List ℕ} → Entry (at-victim (at-depart (at-enter (at_count c)))) n r → Holds c.count-2.new.m (renewed n) r
counted c {n} e =
    renewed-held n (chosen (at-victim (at-depart (at-enter (at_count c)))) e) (entered (at-enter (at_count c)) e) (at_count c).count.ensures c.count-2.ensures

pub victim-f-requires : goal.victim-f-requires
victim-f-requires c =
    let p = c.requires in
    record { node = p.node; rest = p.rest; holds = p.holds; fact = record { sound = p.fact.away.owned.sound; full = p.fact.full } }

pub depart-requires : goal.depart-requires
depart-requires c =
    let p = (start c.before).requires in
    record { node = p.node; rest = p.rest; holds = p.holds; fact = ordered c.before (p.holds, p.fact) }

pub enter-requires : goal.enter-requires
enter-requires c =
    let p = (start (at-victim c.before.before.before)).requires in
    record {
      node = departing (at-victim c.before.before.before).victim-f.result p.node;
      rest = p.rest;
      holds = departed c.before.before.before (p.holds, p.fact);
      fact = room c.before.before.before (p.holds, p.fact);
    }

pub count-requires : goal.count-requires
count-requires c =
    let p = (start (at-victim (at-depart c.before.before.before))).requires in
    omega (arith, (holds-pieces (entered c.before.before.before (p.holds, p.fact))).long)

pub count-requires-2 : goal.count-requires-2
count-requires-2 c =
    let p = (start (at-victim (at-depart (at-enter c.before.before.before)))).requires in
    omega (arith, (holds-pieces (entered (at-enter c.before.before.before) (p.holds, p.fact))).long, c.count.ensures.same_length)

pub swap_pages-requires : goal.swap_pages-requires
swap_pages-requires c =
    let v = at-victim (at-depart (at-enter (at_count c.before.before.before))) in
    let p = (start v).requires in
    let ready = renewed-ready p.fact (counted c.before.before.before (p.holds, p.fact)) in
    record { f_lt_p = rw (chosen v (p.holds, p.fact)) ready.0; listing = ready.1 }

pub returns : goal.returns
returns c n r h s =
    let v = at-victim (at-depart (at-enter (at_count c.before.before.before.before.before.before.before))) in
    exchanged-held s (counted c.before.before.before.before.before.before.before (h, s)) (rw (chosen v (h, s)) at c.swap_pages.ensures)
