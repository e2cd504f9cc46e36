-- Operations by their Rattle names: which are requests of the running group, and which operation each is. Assumes nothing.
use Rattle.rules.specs.Types.{operation_of}
use Rattle.rules.specs.declared.Operation.TheVariants.{Arrive, Schedule, Preempt, Dispatch, Tick, Turn, Poll, Peek, Dispose, BeginAtomic, EndAtomic, Describe, Launch, Unknown}
use Rattle.rules.specs.contracts.Operation.{the_type}
use denote.Enum.Declared.{tag_of}
use types.Run.{OneOf, miss}
use Prim.Native.Nat.{ℕ}
use native.Mathlib.Omega.{arith}
use mathlib.Core.List.{List, [], ◌∷◌}
use mathlib.Core.Logic.{◌≢◌}
use mathlib.Core.Path.{◌∙◌, ◌≡◌, refl, sym}
use borrow.Author.Tests.{eq-eqb}
use Rattle.rules.specs.Build.{paper01}
use Rattle.rules.specs.Memory.{running_at, word}
use Rattle.rules.specs.Node.{Node}
use Rattle.rules.specs.Operation.{Request, begin_atomic, describe, dispose, end_atomic, launch, peek, poll, unknown, user}
use Rattle.rules.specs.Refusal.{refusal}
use Rattle.rules.specs.Valid.{Valid}
use Rattle.rules.specs.declared.Operation.{Operation as Operation·rt}
use Rattle.memory.specs.Holds.{Holds}
use Rattle.memory.proofs.PieceLaws.{holds-pieces}
use Rattle.rules.specs.declared.Refusal.TheVariants.{NobodyRuns, Unreadable}
use Rattle.node.specs.Steps.{Running, Stepping, report_refused}
use Rattle.node.proofs.StepMap.{stepping-refused}

-- the tags of M to L, and of the others
abbrev request_tags : List ℕ
request_tags = 6 ∷ 7 ∷ 8 ∷ 9 ∷ 10 ∷ 11 ∷ 12 ∷ []

abbrev other_tags : List ℕ
other_tags = 0 ∷ 1 ∷ 2 ∷ 3 ∷ 4 ∷ 5 ∷ 13 ∷ []

-- one of the others is no request
pub not-request : (op : Operation·rt) → OneOf other_tags (tag_of the_type op) → (q : Request) → operation_of op [] ≡ user q → ⊥
unfolding operation_of
not-request (Arrive g) k q e = let z : ◌≡◌ {A = ℕ} 0 1 = cc in omega arith
not-request (Schedule g) k q e = let z : ◌≡◌ {A = ℕ} 0 1 = cc in omega arith
not-request Preempt k q e = let z : ◌≡◌ {A = ℕ} 0 1 = cc in omega arith
not-request (Dispatch g) k q e = let z : ◌≡◌ {A = ℕ} 0 1 = cc in omega arith
not-request (Tick n) k q e = let z : ◌≡◌ {A = ℕ} 0 1 = cc in omega arith
not-request Turn k q e = let z : ◌≡◌ {A = ℕ} 0 1 = cc in omega arith
not-request Poll k q e = miss other_tags 6 tt k
not-request (Peek i) k q e = miss other_tags 7 tt k
not-request Dispose k q e = miss other_tags 8 tt k
not-request (BeginAtomic f) k q e = miss other_tags 9 tt k
not-request EndAtomic k q e = miss other_tags 10 tt k
not-request (Describe w) k q e = miss other_tags 11 tt k
not-request (Launch n) k q e = miss other_tags 12 tt k
not-request Unknown k q e = let z : ◌≡◌ {A = ℕ} 0 1 = cc in omega arith

-- a request is the same whatever words are lent beside it
pub record Asks (op : Operation·rt) (ws : List ℕ) : Type 0 where
  pub request : Request
  pub alone : operation_of op [] ≡ user request
  pub beside : operation_of op ws ≡ user request

pub a-request : (op : Operation·rt) → OneOf request_tags (tag_of the_type op) → (ws : List ℕ) → Asks op ws
unfolding operation_of
a-request (Arrive g) k ws = absurd (miss request_tags 0 tt k)
a-request (Schedule g) k ws = absurd (miss request_tags 1 tt k)
a-request Preempt k ws = absurd (miss request_tags 2 tt k)
a-request (Dispatch g) k ws = absurd (miss request_tags 3 tt k)
a-request (Tick n) k ws = absurd (miss request_tags 4 tt k)
a-request Turn k ws = absurd (miss request_tags 5 tt k)
a-request Poll k ws = record { request = poll; alone = refl; beside = refl }
a-request (Peek i) k ws = record { request = peek i; alone = refl; beside = refl }
a-request Dispose k ws = record { request = dispose; alone = refl; beside = refl }
a-request (BeginAtomic f) k ws = record { request = begin_atomic f; alone = refl; beside = refl }
a-request EndAtomic k ws = record { request = end_atomic; alone = refl; beside = refl }
a-request (Describe w) k ws = record { request = describe w; alone = refl; beside = refl }
a-request (Launch n) k ws = record { request = launch n; alone = refl; beside = refl }
a-request Unknown k ws = absurd (miss request_tags 13 tt k)

-- nobody runs
pub nobody-acts : {m : List ℕ} {n : Node} {r : List ℕ} → Holds m n r → word m running_at ≡ 0 → (q : Request) → Stepping m n r (user q) (report_refused NobodyRuns)
unfolding refusal
nobody-acts {n = n} h e q = stepping-refused (user q) 6 (rw (eq-eqb n.running 0 (sym (holds-pieces h).running ∙ e))) h

-- somebody does
pub somebody-runs : {m : List ℕ} {n : Node} {r : List ℕ} → Holds m n r → word m running_at ≢ 0 → Valid paper01 n → Running n
somebody-runs h d v = record { valid = v; some = let e = (holds-pieces h).running in omega arith }

-- an unknown operation
pub unknown-acts : {m : List ℕ} {n : Node} {r : List ℕ} → Holds m n r → Stepping m n r unknown (report_refused Unreadable)
unfolding refusal
unknown-acts h = stepping-refused unknown 1 refl h
