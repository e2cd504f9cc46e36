-- Wherever a message leaves the queue at a step, there is a reason why the first does: at the operations that have none the head stays. Assumes nothing.
use Prim.Native.Nat.{ℕ, ◌+◌, ◌<◌}
use native.Mathlib.Omega.{arith}
use mathlib.Core.Bool.{true, ◌&&◌}
use mathlib.Core.List.{List, [], ◌∷◌, ◌++◌}
use mathlib.Core.Logic.{◌≢◌}
use mathlib.Core.Path.{◌≡◌, refl, ap, ◌∙◌}
use lib.Dec.{eqb, ltb}
use Rattle.rules.specs.Build.{Build}
use Rattle.rules.specs.MemoryTest.{MemoryStep, is_memory, step_memory}
use Rattle.rules.specs.Node.{Message, Node, group_of, with_group, with_running}
use Rattle.rules.specs.Operation.{poll, peek, dispose, begin_atomic, end_atomic, describe, launch}
use Rattle.rules.specs.Operation.{Operation, arrive, preempt, dispatch, schedule, tick, turn, user, unknown, no_trap}
use Rattle.rules.specs.Refusal.{refusal}
use Rattle.rules.specs.Run.{disposed_by, left_by, was_accepted}
use Rattle.rules.specs.Settling.{Moved, may_stay, settle}
use Rattle.rules.specs.Step.{Stepped, act, described, extending, finish, flagged, launched, section_begun, section_ended, serve, step, timer_flagged, valued}
use Rattle.rules.specs.Valid.{Valid}
use Rattle.rules.proofs.Map.MapLaws.{test-valid}
use Rattle.rules.proofs.Map.RunMemory.{step-tested}
use Rattle.rules.proofs.Private.EventLaws.{disposed-none, event_of, refusal-answer}
use Rattle.rules.proofs.Private.RequestLaws.{suc-zero}
use Rattle.rules.proofs.Steps.ActLaws.{dispatched, user-accepted}
use Rattle.rules.proofs.Steps.LineLaws.{nobody-empty}
use Rattle.rules.proofs.Steps.QuietLaws.{begun-quiet, described-quiet, staying-settle}
use Rattle.rules.proofs.Steps.StepLaws.{step-law}
use Rattle.rules.proofs.Touches.SectionRows.{ended-stays}
use Rattle.reasons.specs.ByPlace.{first_reason, own_reason}
use Rattle.reasons.proofs.ActTrail.{gone-counts, no-head}
use Rattle.script.proofs.read.LineEndLaws.{by-test}
use Rattle.follow.specs.Seen.{event_on}

-- an operation that has no reason
abbrev pub Silent : Operation → Type 0
Silent (arrive g ws) = ⊥
Silent preempt = ⊥
Silent (dispatch g) = Unit {0}
Silent (schedule g) = ⊥
Silent (tick k) = ⊥
Silent turn = Unit {0}
Silent (user poll) = Unit {0}
Silent (user (peek i)) = Unit {0}
Silent (user dispose) = ⊥
Silent (user (begin_atomic force)) = Unit {0}
Silent (user end_atomic) = Unit {0}
Silent (user (describe w)) = Unit {0}
Silent (user (launch k)) = Unit {0}
Silent unknown = Unit {0}

-- none leaves where the head stays
stayed : (b : Build) (n : Node) (op : Operation)
    → ((m : Message) (q : List Message) → (act b n op).node.queue ≡ m ∷ q → may_stay (act b n op).node m ≡ true)
    → (act b n op).moved ≡ 0 → disposed_by op (eqb (act b n op).trap no_trap) ≡ 0
    → left_by (event_of n op (finish b (act b n op))) ≡ 0
stayed b n op stays none kept =
    let settled : (settle b (act b n op).node).moved ≡ 0 = ap (λ (s : Moved). s.moved) (staying-settle b (act b n op).node stays) in
    gone-counts b n op ∙ omega (arith, settled, none, kept)

module _ {b : Build} {n : Node} (v : Valid b n) where
  acted-silent : (op : Operation) → Silent op → refusal b n op ≡ 0 → left_by (event_of n op (finish b (act b n op))) ≡ 0
  unfolding act serve valued launched described section_begun section_ended flagged timer_flagged extending with_group with_running disposed_by refusal
  acted-silent (arrive g ws) s e = absurd s
  acted-silent preempt s e = absurd s
  acted-silent (dispatch g) s e = stayed b n (dispatch g) (λ m q some. no-head (nobody-empty v (dispatched n g e).nobody) some) refl refl
  acted-silent (schedule g) s e = absurd s
  acted-silent (tick k) s e = absurd s
  acted-silent turn s e = stayed b n turn v.head-stays refl refl
  acted-silent (user poll) s e = stayed b n (user poll) v.head-stays refl refl
  acted-silent (user (peek i)) s e = stayed b n (user (peek i)) v.head-stays refl refl
  acted-silent (user dispose) s e = absurd s
  acted-silent (user (begin_atomic force)) s e = stayed b n (user (begin_atomic force)) (begun-quiet v force).head refl refl
  acted-silent (user end_atomic) s e = stayed b n (user end_atomic) (ended-stays v (user-accepted n end_atomic e).0) refl refl
  acted-silent (user (describe w)) s e =
      stayed b n (user (describe w)) (described-quiet v ((group_of n n.running).descriptor ++ (w ∷ []))).head refl refl
  acted-silent (user (launch k)) s e = stayed b n (user (launch k)) (described-quiet v []).head refl refl
  acted-silent unknown s e = suc-zero e

-- nor at its step
step-silent : {b : Build} {n : Node} → Valid b n → (op : Operation) → Silent op → left_by (event_of n op (step b n op)) ≡ 0
step-silent {b} v op =
    step-law (λ (n : Node) (op : Operation) (s : Stepped). Silent op → left_by (event_of n op s) ≡ 0)
    (record {
      refuses = λ n v op r e s. unfold left_by was_accepted in rw (refusal-answer r, disposed-none op);
      acts = λ n v op one e s. acted-silent v op s e;
      still = λ n v s. absurd s;
      takes = λ n v runs took s. absurd s;
      switches = λ n v g other some high took gave s. absurd s;
    })
    v op

-- on memory
memory-silent : (m : List ℕ) (op : Operation) → Silent op → left_by (event_on m op) ≡ 0
unfolding left_by was_accepted event_on step_memory
memory-silent m op s =
    by-test (is_memory m)
    (λ q. ap (λ (x : MemoryStep). x.report.moved + disposed_by op (eqb x.report.answer 0 && eqb x.report.trap no_trap)) (step-tested m op q) ∙ step-silent (test-valid m q) op s)
    (λ q. rw (q, step_memory) (omega (arith, disposed-none op)))

-- so the first has a reason where one leaves
pub reasoned : (m : List ℕ) (op : Operation) (n : Node) → 0 < left_by (event_on m op) → first_reason op n ≢ 0
unfolding first_reason own_reason
reasoned m (arrive g ws) n some =
    by-test (eqb g n.running)
    (λ q. by-test (ltb 1 (group_of n g).buffer.count) (λ t. rw (q, t) (λ e. omega arith)) (λ t. rw (q, t) (λ e. omega arith)))
    (λ q. rw q (λ e. omega arith))
reasoned m preempt n some = λ e. omega arith
reasoned m (dispatch g) n some = absurd (let none = memory-silent m (dispatch g) tt in omega arith)
reasoned m (schedule g) n some = λ e. omega arith
reasoned m (tick k) n some = λ e. omega arith
reasoned m turn n some = absurd (let none = memory-silent m turn tt in omega arith)
reasoned m (user poll) n some = absurd (let none = memory-silent m (user poll) tt in omega arith)
reasoned m (user (peek i)) n some = absurd (let none = memory-silent m (user (peek i)) tt in omega arith)
reasoned m (user dispose) n some = λ e. omega arith
reasoned m (user (begin_atomic force)) n some = absurd (let none = memory-silent m (user (begin_atomic force)) tt in omega arith)
reasoned m (user end_atomic) n some = absurd (let none = memory-silent m (user end_atomic) tt in omega arith)
reasoned m (user (describe w)) n some = absurd (let none = memory-silent m (user (describe w)) tt in omega arith)
reasoned m (user (launch k)) n some = absurd (let none = memory-silent m (user (launch k)) tt in omega arith)
reasoned m unknown n some = absurd (let none = memory-silent m unknown tt in omega arith)
