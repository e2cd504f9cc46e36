-- `node::section::end` meets its contract: pending is read, and the trap is decided before the flags are set. Assumes nothing.
use Prim.Native.Nat.{ℕ}
use native.Mathlib.Omega.{arith}
use mathlib.Core.Bool.{Bool, cond, false, true}
use Rattle.std.specs.Bool.{then_some}
use Rattle.rules.specs.Numbers.{trap_number}
use Rattle.rules.specs.declared.Trap.TheVariants.{AtomicityExtend}
use mathlib.Core.List.{List}
use mathlib.Core.Path.{◌∙◌, ◌≡◌, ap, refl, subst, sym}
use Rattle.rules.specs.Memory.{flag_word, word}
use Rattle.rules.specs.Node.{Node, buffered, group_of, with_group}
use Rattle.rules.specs.Operation.{atomicity_extend, end_atomic, no_trap}
use Rattle.rules.specs.Step.{section_ended, extending, flagged, serve, timer_flagged}
use Rattle.memory.specs.Holds.{Holds, flagging}
use Rattle.memory.specs.declared.group.Group.{Group as Group·rt}
use Rattle.memory.proofs.PieceLaws.{holds-pieces}
use Rattle.node.specs.Steps.{Running, effect}
use Rattle.node.proofs.settling.CallLaws.{flag_off, flag-on}
use Rattle.node.proofs.RunnerLaws.{runner-in, runner-pending, runner-timer-flagged}
use Rattle.node.proofs.section.SectionLaws.{section-ends, section-pending}
use Rattle.node.proofs.ServedLaws.{request-refused, request-sound, request-unsettled}
use Rattle.node.proofs.section.end.Goals as goal
use Rattle.node.proofs.section.end.Lts as lts
use Rattle.node.proofs.section.end.Tie as tie
use Rattle.node.proofs.section.end.Reads as past

-- The places of the code that lemmas speak of.

abbrev After-set_flags : Type 0
After-set_flags = lts.After-set_flags tie.the-claims past.Pre past.Post

-- the trap, by whether the group is buffered
trap-by : (t : Bool) → trap_number (then_some t AtomicityExtend) ≡ cond t atomicity_extend no_trap
trap-by true = refl
trap-by false = refl

-- pending is off; force and revoked go off, and then atomic
ended-there : (c : After-set_flags) (n : Node) (r : List ℕ) → Holds c.args.m.now n r → Running n
    → ((group_of n n.running).pending ≡ false) × Holds c.set_flags.new.m (section_ended n) r
unfolding word flag_word section_ended flagged flagging timer_flagged with_group group_of
ended-there c n r h run =
    let k = timer_flagged false false n in
    let read = ap (λ (x : Group·rt). x.pending) c.read-x.ensures ∙ runner-pending h run.some run.valid.running-bound in
    let off : (group_of n n.running).pending ≡ false = flag_off _ (sym read ∙ c.if-x-ne0.false) in
    let timer = runner-timer-flagged h false false (c.set_timer_flags.ensures false false refl refl n r h tt) in
    let both = subst (λ (g : ℕ). Holds c.set_flags.new.m (flagging g false false k) r) (holds-pieces h).running (c.set_flags.ensures false false refl refl k r timer tt) in
    (off, rw off both)

pub bounds-m-0 : goal.bounds-m-0
bounds-m-0 c = let p = c.requires in let l = (holds-pieces p.holds).long in omega arith

pub read-x-requires : goal.read-x-requires
unfolding word
read-x-requires c = let p = c.requires in runner-in p.holds p.fact.some p.fact.valid.running-bound _ refl

pub returns-then-x-ne0 : goal.returns-then-x-ne0
unfolding word
returns-then-x-ne0 c n r h run = request-refused run end_atomic h 9 (section-pending n (flag-on _ (λ e. c.if-x-ne0.true (ap (λ (x : Group·rt). x.pending) c.read-x.ensures ∙ runner-pending h run.some run.valid.running-bound ∙ e))))

pub buffered-requires : goal.buffered-requires
unfolding word
buffered-requires c = let p = c.requires in runner-in p.holds p.fact.some p.fact.valid.running-bound _ refl

pub set_timer_flags-requires : goal.set_timer_flags-requires
unfolding word
set_timer_flags-requires c = let p = c.requires in runner-in p.holds p.fact.some p.fact.valid.running-bound _ refl

pub set_flags-requires : goal.set_flags-requires
unfolding word
set_flags-requires c = let p = c.requires in runner-in p.holds p.fact.some p.fact.valid.running-bound _ c.set_timer_flags.auto.m

pub returns : goal.returns
unfolding serve extending word
returns c n r h run =
    let t = ended-there c.before.before.before n r h run in
    let ok = section-ends _ t.0 in
    let on : buffered n n.running ≡ c.buffered.result = ap (buffered n) (sym (holds-pieces h).running) ∙ c.buffered.ensures n r h in
    let told = ap trap_number c.then_some-trap.ensures ∙ trap-by c.buffered.result ∙ ap (λ (t : Bool). cond t atomicity_extend no_trap) (sym on) in
    request-unsettled run end_atomic (section_ended n) (trap_number c.then_some-trap.result) 0 ok (λ i. effect (section_ended n) (sym told i) 0)
    (request-sound run end_atomic ok) (omega arith) t.1
