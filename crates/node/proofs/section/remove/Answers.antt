-- `node::section::remove` meets its contract: from the buffer where that holds a message, else from the head of the queue. Assumes nothing.
use Prim.Native.Nat.{ℕ}
use native.Mathlib.Omega.{arith}
use mathlib.Core.Bool.{false, true}
use mathlib.Core.Path.{◌∙◌, ◌≡◌, ap, sym, subst}
use Rattle.rules.specs.Memory.{count_offset}
use Rattle.rules.specs.Node.{buffer_holds}
use Rattle.rules.proofs.Steps.LineLaws.{buffered-holds}
use Rattle.memory.specs.Holds.{Holds, removing}
use Rattle.memory.specs.Writes.{InGroup}
use Rattle.memory.proofs.PieceLaws.{holds-pieces}
use Rattle.node.proofs.section.SectionLaws.{buffered-waits, direct-queued, removed-buffered, removed-direct}
use Rattle.node.proofs.section.remove.Goals as goal
use Rattle.node.proofs.section.remove.Lts as lts
use Rattle.node.proofs.section.remove.Tie as tie
use Rattle.node.proofs.section.remove.Reads as past

-- The places of the code that lemmas speak of.

abbrev Start : Type 0
Start = lts.Start tie.the-claims past.Pre past.Post tie.handed_clauses

inside : (c : Start) → InGroup c.args.m.now c.args.g count_offset
inside c =
    let p = c.requires in
    let run = p.fact.running in
    record {
      long = (holds-pieces p.holds).long;
      low = rw p.fact.own run.some;
      high = rw p.fact.own run.valid.running-bound;
      inside = omega arith;
    }

pub holds-requires : goal.holds-requires
holds-requires c = inside c.before

pub unbuffer-requires : goal.unbuffer-requires
unbuffer-requires c = let p = c.requires in let e = p.fact.own in record { le_g = ((inside c.before.before.before.before).low, (inside c.before.before.before.before).high); some = record { node = p.node; rest = p.rest; holds = p.holds; fact = rw e (buffered-waits p.fact.running (rw e at (c.holds.ensures p.node p.rest p.holds) ∙ c.if-holds.true)) } }

pub returns-then-holds : goal.returns-then-holds
returns-then-holds c n r h line =
    let e = line.own in
    let on : buffer_holds n n.running ≡ true = ap (buffer_holds n) (sym e) ∙ c.holds.ensures n r h ∙ c.if-holds.true in
    let k = c.unbuffer.ensures n r h (rw e (buffered-waits line.running on)) in
    record {
      extended = rw (buffered-holds line.running.valid line.some, on);
      holds = rw (removed-buffered n on) (subst (λ (g : ℕ). Holds c.unbuffer.new.m (removing g n) r) e k);
    }

pub drop_head-requires : goal.drop_head-requires
drop_head-requires c = let p = c.requires in let e = p.fact.own in record { node = p.node; rest = p.rest; holds = p.holds; fact = direct-queued p.fact.running.valid (ap (buffer_holds p.node) (sym e) ∙ c.holds.ensures p.node p.rest p.holds ∙ c.if-holds.false) p.fact.some }

pub returns : goal.returns
returns c n r h line =
    let off : buffer_holds n n.running ≡ false = ap (buffer_holds n) (sym line.own) ∙ c.holds.ensures n r h ∙ c.if-holds.false in
    record {
      extended = rw (buffered-holds line.running.valid line.some, off);
      holds = rw (removed-direct line.running.valid off) (c.drop_head.ensures n r h (direct-queued line.running.valid off line.some));
    }
