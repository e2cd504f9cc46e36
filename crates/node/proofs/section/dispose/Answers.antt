-- `node::section::dispose` meets its contract: the line is not empty where a count says so; the message goes, then pending, then the timer. Assumes nothing.
use Prim.Native.Nat.{ℕ}
use native.Mathlib.Omega.{arith}
use mathlib.Core.Bool.{false}
use mathlib.Core.List.{List}
use mathlib.Core.Path.{◌∙◌, ◌≡◌, ap, refl, subst, sym}
use lib.ListN.{set}
use Rattle.rules.specs.Build.{paper01}
use Rattle.rules.specs.Lists.{is_empty}
use Rattle.rules.specs.Memory.{flag_word, running_at, timer_at, word}
use Rattle.rules.specs.Node.{line, Node, group_of}
use Rattle.rules.specs.Operation.{dispose}
use Rattle.rules.specs.Step.{disposed, extending, removed, serve}
use Rattle.memory.specs.Holds.{Holds, flagging}
use Rattle.memory.specs.declared.group.Group.{Group as Group·rt}
use Rattle.memory.proofs.PieceLaws.{holds-pieces}
use Rattle.rules.specs.Numbers.{trap_number}
use Rattle.node.specs.Steps.{Running, WithLine, effect}
use Rattle.node.proofs.RunnerLaws.{runner-atomic, runner-in}
use Rattle.node.proofs.section.SectionLaws.{disposing, runner-buffered, runner-none, runner-queued, line-missing, line-present}
use Rattle.node.proofs.ServedLaws.{request-refused, request-sound, request-unsettled}
use Rattle.node.proofs.section.dispose.Goals as goal
use Rattle.node.proofs.section.dispose.Goals.{else-x-eq0-via-else-x-eq0, else-x-eq0-via-then-x-eq0+else-m-eq0}
use Rattle.node.proofs.section.dispose.Lts as lts
use Rattle.node.proofs.section.dispose.Tie as tie
use Rattle.node.proofs.section.dispose.Reads as past

-- The places of the code that lemmas speak of.

abbrev After-set_flags : Type 0
After-set_flags = lts.After-set_flags tie.the-claims past.Pre past.Post

abbrev Joined1 : Type 0
Joined1 = lts.Joined1 tie.the-claims past.Pre past.Post

-- where the arms meet, the line is not empty
line-some : (c : Joined1) (n : Node) (r : List ℕ) → Holds c.args.m.now n r → Running n → is_empty (line n n.running) ≡ false
unfolding word
line-some c n r h run =
    let e = ap (λ (x : Group·rt). x.count) c.read-x.ensures in
    elim c.else-x-eq0.branch [
      | else-x-eq0-via-then-x-eq0+else-m-eq0 w ↦ runner-queued h run (sym e ∙ w.if-x-eq0.true) w.if-m-eq0.false
      | else-x-eq0-via-else-x-eq0 w ↦ runner-buffered h run (λ z. w.if-x-eq0.false (e ∙ z))
    ]

with-line : (c : Joined1) (n : Node) (r : List ℕ) → Holds c.args.m.now n r → Running n → WithLine (word c.args.m.now running_at) n
with-line c n r h run = record { running = run; own = (holds-pieces h).running; some = line-some c n r h run }

-- the message is gone, pending off, timer 0
gone : (c : After-set_flags) (n : Node) (r : List ℕ) → Holds c.args.m.now n r → Running n
    → Holds (set c.set_flags.new.m timer_at 0) (disposed paper01 n) r
unfolding word flag_word
gone c n r h run =
    let t = c.remove-trap.ensures n r h (with-line c.before.before.before.before.before.before n r h run) in
    let a = (group_of n n.running).atomic in
    let e = ap (λ (x : Group·rt). x.atomic) c.read-x.ensures ∙ runner-atomic h run.some run.valid.running-bound in
    let k = c.set_flags.ensures a false e refl (removed paper01 n) r t.holds tt in
    let k' = subst (λ (g : ℕ). Holds c.set_flags.new.m (flagging g a false (removed paper01 n)) r) (holds-pieces h).running k in
    disposing n a refl k' (holds-pieces k').long

pub bounds-m-0 : goal.bounds-m-0
bounds-m-0 c = let p = c.requires in let l = (holds-pieces p.holds).long in omega arith

pub read-x-requires : goal.read-x-requires
unfolding word
read-x-requires c = let p = c.requires in runner-in p.holds p.fact.some p.fact.valid.running-bound _ refl

pub bounds-m-2 : goal.bounds-m-2
bounds-m-2 c = let p = c.requires in let l = (holds-pieces p.holds).long in omega arith

pub returns-then-m-eq0 : goal.returns-then-m-eq0
unfolding word
returns-then-m-eq0 c n r h run = request-refused run dispose h 7 (line-missing n (runner-none h run (sym (ap (λ (x : Group·rt). x.count) c.read-x.ensures) ∙ c.if-x-eq0.true) c.if-m-eq0.true))

pub remove-trap-requires : goal.remove-trap-requires
unfolding word
remove-trap-requires c = let p = c.requires in record { node = p.node; rest = p.rest; holds = p.holds; fact = with-line c.before p.node p.rest p.holds p.fact }

pub set_flags-requires : goal.set_flags-requires
unfolding word
set_flags-requires c = let p = c.requires in runner-in p.holds p.fact.some p.fact.valid.running-bound _ c.remove-trap.auto.m

pub bounds-m-1 : goal.bounds-m-1
bounds-m-1 c = let p = c.requires in let l = (holds-pieces p.holds).long in omega (arith, c.set_flags.auto.m, c.remove-trap.auto.m)

pub returns : goal.returns
unfolding word serve extending
returns c n r h run =
    let ok = line-present _ (line-some c.before.before.before.before.before.before.before.before n r h run) in
    let t = c.remove-trap.ensures n r h (with-line c.before.before.before.before.before.before.before.before n r h run) in
    request-unsettled run dispose (disposed paper01 n) (trap_number c.remove-trap.result) 0 ok (λ i. effect (disposed paper01 n) (sym t.extended i) 0)
    (request-sound run dispose ok) (omega arith) (gone c.before.before n r h run)
