-- What becomes of the flags of a private line: atomic goes off by N alone, pending goes off by D alone, and on only with an upcall. Assumes
-- nothing.
use Prim.Native.Nat.{ℕ}
use mathlib.Core.Bool.{Bool, true, false, false≢true, cond}
use mathlib.Core.List.{List, [], ◌∷◌}
use mathlib.Core.Logic.{◌⊎◌, inl, inr}
use mathlib.Core.Path.{◌≡◌, refl, sym, ap, ◌∙◌}
use lib.Dec.{eqb, ltb, leb}
use lib.ListN.{length}
use Rattle.rules.specs.Build.{word_limit, last_node}
use Rattle.rules.specs.Node.{Message, line}
use Rattle.rules.specs.Operation.{Request, poll, peek, dispose, begin_atomic, end_atomic, describe, launch, accepted}
use Rattle.rules.specs.Settling.{upcall}
use Rattle.rules.specs.Private.{PrivateLine, Heard, message, is_called, called, afterwards, joined, hear, unheard, Told, processor, request, nothing, Served, unchanged, own_dispose, with_atomic, with_own_descriptor, own_end, own_describe, own_launch, own, answered, with_has}
use Rattle.rules.proofs.Steps.LineLaws.{stays, either}

-- the line keeps a flag that is on
abbrev Atomic : PrivateLine → Type 0
Atomic p = p.atomic ≡ true

abbrev Pending : PrivateLine → Type 0
Pending p = p.pending ≡ true

-- a step by which pending goes on only with an upcall
abbrev Calls : Heard → Type 0
Calls h = h.line.pending ≡ true → h.upcall ≡ true

-- An upcall turns both flags on, and else leaves them.

module _ (p : PrivateLine) where
  called-atomic : Atomic p → Atomic (called p)
  unfolding called
  called-atomic on = either Atomic (is_called p) _ p refl on

  called-pending : Pending p → Pending (called p)
  unfolding called
  called-pending on = either Pending (is_called p) _ p refl on

  called-by : p.pending ≡ false → Pending (called p) → is_called p ≡ true
  unfolding called
  called-by off = go (is_called p)
    where
      go : (t : Bool) → Pending (cond t (record { has = p.has; atomic = true; pending = true; messages = p.messages; descriptor = p.descriptor }) p) → t ≡ true
      go true on = refl
      go false on = absurd (false≢true (sym off ∙ on))

-- An answer, and the upcall behind it.

module _ (s : Served) where
  answered-atomic : Atomic s.line → Atomic (answered s).line
  unfolding answered afterwards
  answered-atomic on = either (λ (h : Heard). Atomic h.line) (eqb s.answer.number accepted) _ _ (called-atomic s.line on) on

  answered-pending : Pending s.line → Pending (answered s).line
  unfolding answered afterwards
  answered-pending on = either (λ (h : Heard). Pending h.line) (eqb s.answer.number accepted) _ _ (called-pending s.line on) on

  answered-by : s.line.pending ≡ false → Calls (answered s)
  unfolding answered afterwards
  answered-by off =
      either Calls (eqb s.answer.number accepted) _ _ (called-by s.line off) (λ on. absurd (false≢true (sym off ∙ on)))

-- The group's own operations before the upcall.

-- a line with the same flags
record Unflagged (q p : PrivateLine) : Type 0 where
  atomic : q.atomic ≡ p.atomic
  pending : q.pending ≡ p.pending

describe-flags : (p : PrivateLine) (w : ℕ) → Unflagged (own_describe p w).line p
unfolding own_describe unchanged with_own_descriptor
describe-flags p w =
    either (λ (s : Served). Unflagged s.line p) (leb word_limit (length p.descriptor)) _ _ (record { atomic = refl; pending = refl }) (record { atomic = refl; pending = refl })

launch-flags : (g : ℕ) (d : List ℕ) (p : PrivateLine) (k : ℕ) → Unflagged (own_launch g d p k).line p
unfolding own_launch unchanged with_own_descriptor
launch-flags g [] p k = record { atomic = refl; pending = refl }
launch-flags g (w ∷ d) p k =
    either (λ (s : Served). Unflagged s.line p) (ltb last_node k) _ _ (record { atomic = refl; pending = refl }) (record { atomic = refl; pending = refl })

dispose-flags : (ms : List Message) (p : PrivateLine)
    → ((own_dispose ms p).line.atomic ≡ p.atomic) × (p.pending ≡ false → (own_dispose ms p).line.pending ≡ false)
unfolding own_dispose unchanged
dispose-flags [] p = (refl, λ off. off)
dispose-flags (m ∷ ms) p = (refl, λ off. refl)

end-flags : (p : PrivateLine) → (own_end p).line.pending ≡ p.pending
unfolding own_end unchanged with_atomic
end-flags p = either (λ (s : Served). s.line.pending ≡ p.pending) p.pending _ _ refl refl

own-atomic : (g : ℕ) (p : PrivateLine) (r : Request) → Atomic p → Atomic (own g p r).line ⊎ (r ≡ end_atomic)
unfolding own unchanged with_atomic
own-atomic g p poll on = inl on
own-atomic g p (peek i) on = inl on
own-atomic g p dispose on = inl ((dispose-flags p.messages p).0 ∙ on)
own-atomic g p (begin_atomic f) on = inl refl
own-atomic g p end_atomic on = inr refl
own-atomic g p (describe w) on = inl ((describe-flags p w).atomic ∙ on)
own-atomic g p (launch k) on = inl ((launch-flags g p.descriptor p k).atomic ∙ on)

own-pending : (g : ℕ) (p : PrivateLine) (r : Request) → Pending p → Pending (own g p r).line ⊎ (r ≡ dispose)
unfolding own unchanged with_atomic
own-pending g p poll on = inl on
own-pending g p (peek i) on = inl on
own-pending g p dispose on = inr refl
own-pending g p (begin_atomic f) on = inl on
own-pending g p end_atomic on = inl (end-flags p ∙ on)
own-pending g p (describe w) on = inl ((describe-flags p w).pending ∙ on)
own-pending g p (launch k) on = inl ((launch-flags g p.descriptor p k).pending ∙ on)

own-off : (g : ℕ) (p : PrivateLine) (r : Request) → p.pending ≡ false → (own g p r).line.pending ≡ false
unfolding own unchanged with_atomic
own-off g p poll off = off
own-off g p (peek i) off = off
own-off g p dispose off = (dispose-flags p.messages p).1 off
own-off g p (begin_atomic f) off = off
own-off g p end_atomic off = end-flags p ∙ off
own-off g p (describe w) off = (describe-flags p w).pending ∙ off
own-off g p (launch k) off = (launch-flags g p.descriptor p k).pending ∙ off

-- What is heard.

module _ (g : ℕ) (p : PrivateLine) where
  pub heard-atomic : (t : Told) → Atomic p → Atomic (hear g p t).line ⊎ (t ≡ request end_atomic)
  unfolding hear afterwards joined with_has unheard
  heard-atomic (message ws) on = inl (called-atomic (joined g ws p) on)
  heard-atomic (processor h) on = inl (called-atomic (with_has h p) on)
  heard-atomic (request r) on = go (own-atomic g p r on)
    where
      go : Atomic (own g p r).line ⊎ (r ≡ end_atomic) → Atomic (cond p.has (answered (own g p r)) (unheard p)).line ⊎ (request r ≡ request end_atomic)
      go (inl stays) = inl (either (λ (h : Heard). Atomic h.line) p.has _ _ (answered-atomic (own g p r) stays) on)
      go (inr e) = inr (ap request e)
  heard-atomic nothing on = inl on

  pub heard-pending : (t : Told) → Pending p → Pending (hear g p t).line ⊎ (t ≡ request dispose)
  unfolding hear afterwards joined with_has unheard
  heard-pending (message ws) on = inl (called-pending (joined g ws p) on)
  heard-pending (processor h) on = inl (called-pending (with_has h p) on)
  heard-pending (request r) on = go (own-pending g p r on)
    where
      go : Pending (own g p r).line ⊎ (r ≡ dispose) → Pending (cond p.has (answered (own g p r)) (unheard p)).line ⊎ (request r ≡ request dispose)
      go (inl stays) = inl (either (λ (h : Heard). Pending h.line) p.has _ _ (answered-pending (own g p r) stays) on)
      go (inr e) = inr (ap request e)
  heard-pending nothing on = inl on

  pub heard-called : (t : Told) → p.pending ≡ false → Calls (hear g p t)
  unfolding hear afterwards joined with_has unheard
  heard-called (message ws) off = called-by (joined g ws p) off
  heard-called (processor h) off = called-by (with_has h p) off
  heard-called (request r) off =
      either Calls p.has _ _ (answered-by (own g p r) (own-off g p r off)) (λ on. absurd (false≢true (sym off ∙ on)))
  heard-called nothing off = λ on. absurd (false≢true (sym off ∙ on))
