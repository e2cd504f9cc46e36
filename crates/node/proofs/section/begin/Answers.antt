-- `node::section::begin` meets its contract: atomic on makes nothing due, and force neither. Assumes nothing.
use Prim.Native.Nat.{ℕ}
use native.Mathlib.Omega.{arith}
use mathlib.Core.Bool.{Bool, ◌||◌, true}
use mathlib.Core.List.{List}
use mathlib.Core.Path.{◌∙◌, ◌≡◌, ap, refl, subst, sym}
use Rattle.rules.specs.Memory.{flag_word, word}
use Rattle.rules.specs.Node.{Node, group_of, with_group}
use Rattle.rules.specs.Operation.{begin_atomic}
use Rattle.rules.specs.Refusal.{refuse_request}
use Rattle.rules.specs.Step.{section_begun, flagged, serve, timer_flagged, valued}
use Rattle.memory.specs.Holds.{Holds, timer_flagging}
use Rattle.memory.specs.declared.group.Group.{Group as Group·rt}
use Rattle.memory.proofs.PieceLaws.{holds-pieces}
use Rattle.node.specs.Steps.{Running}
use Rattle.rules.proofs.Steps.QuietLaws.{begun-quiet}
use Rattle.node.proofs.RunnerLaws.{runner-flagged, runner-force, runner-in, runner-pending, runner-revoked}
use Rattle.node.proofs.ServedLaws.{own_report, request-quiet}
use Rattle.node.proofs.section.begin.Goals as goal
use Rattle.node.proofs.section.begin.Goals.{else-force, then-force}
use Rattle.node.proofs.section.begin.Lts as lts
use Rattle.node.proofs.section.begin.Tie as tie
use Rattle.node.proofs.section.begin.Reads as past

-- The places of the code that lemmas speak of.

abbrev After-set_timer_flags : Type 0
After-set_timer_flags = lts.After-set_timer_flags tie.the-claims past.Pre past.Post

abbrev Joined1 : Type 0
Joined1 = lts.Joined1 tie.the-claims past.Pre past.Post

-- where the arms meet, force is on if it was or is asked for
force-word : (c : Joined1) (n : Node) (r : List ℕ) → Holds c.args.m.now n r → Running n
    → c.if-force.forced ≡ flag_word (c.args.force || (group_of n n.running).force)
unfolding word flag_word
force-word c n r h run =
    let f = (group_of n n.running).force in
    let read = ap (λ (x : Group·rt). x.force) c.read-x.ensures ∙ runner-force h run.some run.valid.running-bound in
    elim c.if-force.branch [ then-force w ↦ w.forced-is ∙ sym (ap (λ (t : Bool). flag_word (t || f)) w.if-force.true) | else-force w ↦ w.forced-is ∙ read ∙ sym (ap (λ (t : Bool). flag_word (t || f)) w.if-force.false) ]

-- atomic on, then force
begun-there : (c : After-set_timer_flags) (n : Node) (r : List ℕ) → Holds c.args.m.now n r → Running n
    → Holds c.set_timer_flags.new.m (section_begun c.args.force n) r
unfolding word flag_word section_begun flagged timer_flagged timer_flagging with_group
begun-there c n r h run =
    let G = group_of n n.running in
    let read = c.read-x.ensures in
    let pending = ap (λ (x : Group·rt). x.pending) read ∙ runner-pending h run.some run.valid.running-bound in
    let revoked = ap (λ (x : Group·rt). x.revoked) read ∙ runner-revoked h run.some run.valid.running-bound in
    let on = runner-flagged h true G.pending (c.set_flags.ensures true G.pending refl pending n r h tt) in
    let f = c.args.force || G.force in
    subst (λ (g : ℕ). Holds c.set_timer_flags.new.m (timer_flagging g f G.revoked (flagged true G.pending n)) r) (holds-pieces h).running
    (c.set_timer_flags.ensures f G.revoked (force-word c.before.before.before.before.before.before n r h run) revoked (flagged true G.pending n) r on tt)

pub bounds-m-0 : goal.bounds-m-0
bounds-m-0 c = let p = c.requires in let l = (holds-pieces p.holds).long in omega arith

pub read-x-requires : goal.read-x-requires
unfolding word
read-x-requires c = let p = c.requires in runner-in p.holds p.fact.some p.fact.valid.running-bound _ refl

pub set_flags-requires : goal.set_flags-requires
unfolding word
set_flags-requires c = let p = c.requires in runner-in p.holds p.fact.some p.fact.valid.running-bound _ refl

pub set_timer_flags-requires : goal.set_timer_flags-requires
unfolding word
set_timer_flags-requires c = let p = c.requires in runner-in p.holds p.fact.some p.fact.valid.running-bound _ c.set_flags.auto.m

pub returns : goal.returns
unfolding serve valued refuse_request own_report
returns c n r h run =
    let force = c.args.force in
    request-quiet run (begin_atomic force) refl (begun-quiet run.valid force) refl (begun-there c.before.before.before n r h run)
