-- The reason that is computed is the one that the rule names, and "never buffered" and "still queued" exclude every other. Assumes nothing.
use Prim.Native.Nat.{ℕ, zero, suc, ◌≤◌, ◌<◌}
use native.Mathlib.Omega.{arith}
use mathlib.Core.Path.{◌≡◌, refl, sym, ap, ◌∙◌, subst}
use mathlib.Core.Logic.{◌≢◌}
use mathlib.Core.Bool.{Bool, true, false, true≢false, false≢true, cond, not}
use mathlib.Core.List.{List, ◌∷◌}
use lib.Dec.{eqb}
use lib.ListN.{length}
use borrow.Author.Tests.{eqb-false, ne_eqb}
use Rattle.reasons.specs.Moments.{Facts, Dated}
use Rattle.reasons.specs.Why.{Because, disposed-of, group-revoked, not-running, older-waiting, processor-taken, still-queued, timed-out}
use Rattle.reasons.specs.Why.{Departure, Heading, How, Leaving, MovedWith, Named, NamedLine, Nth, Told, by_disposal, by_move, headings, here, leavings, moved_for, tell_message, there, told}
use Rattle.reasons.proofs.RunTrail.{Matched, none_left, was-disposed, was-moved}

-- the i-th is one, and within the list
nth-low : {A : Type 0} {i : ℕ} {xs : List A} {x : A} → Nth i xs x → 1 ≤ i
nth-low here = omega arith
nth-low (there p) = omega arith

nth-same : {A : Type 0} {i : ℕ} {xs : List A} {x y : A} → Nth i xs x → Nth i xs y → x ≡ y
nth-same here here = refl
nth-same here (there q) = absurd (omega (arith, nth-low q))
nth-same (there p) here = absurd (omega (arith, nth-low p))
nth-same (there p) (there q) = nth-same p q

nth_inside : {A : Type 0} {i : ℕ} {xs : List A} {x : A} → Nth i xs x → i ≤ length xs
nth_inside here = omega arith
nth_inside (there p) = omega (arith, nth_inside p)

-- a move is no disposal
disposed_of : How → Bool
disposed_of by_disposal = true
disposed_of (by_move f) = false

facts_of : Facts → How → Facts
facts_of g by_disposal = g
facts_of g (by_move f) = f

-- The reasons that exclude every other.

module _ {ds : List Dated} {i : ℕ} where
  pub disposed-only : (k : ℕ) → Because ds i 1 → Because ds i k → k ≡ 1
  unfolding disposed_of
  disposed-only k (disposed-of p) other = go other
    where
      unmoved : {f : Facts} → MovedWith ds i f → ⊥
      unmoved m = true≢false (ap (λ (x : Leaving). disposed_of x.how) (nth-same p m.1))

      go : {k : ℕ} → Because ds i k → k ≡ 1
      go (disposed-of q) = refl
      go (still-queued few) = absurd (omega (arith, nth_inside p))
      go (not-running m h apart) = absurd (unmoved m)
      go (older-waiting m e) = absurd (unmoved m)
      go (group-revoked m e) = absurd (unmoved m)
      go (timed-out m e) = absurd (unmoved m)
      go (processor-taken m e) = absurd (unmoved m)

  pub queued-only : (k : ℕ) → Because ds i 2 → Because ds i k → k ≡ 2
  queued-only k (still-queued few) other = go other
    where
      unmoved : {f : Facts} → MovedWith ds i f → ⊥
      unmoved m = omega (arith, nth_inside m.1)

      go : {k : ℕ} → Because ds i k → k ≡ 2
      go (disposed-of q) = absurd (omega (arith, nth_inside q))
      go (still-queued few) = refl
      go (not-running m h apart) = absurd (unmoved m)
      go (older-waiting m e) = absurd (unmoved m)
      go (group-revoked m e) = absurd (unmoved m)
      go (timed-out m e) = absurd (unmoved m)
      go (processor-taken m e) = absurd (unmoved m)

-- Of a message that was moved.

-- its reason, by the facts and whether its group ran when it became head
abbrev picked : Bool → Bool → Bool → Bool → ℕ
picked out ran older revoked = cond out 6 (cond (not ran) 3 (cond older 4 (cond revoked 5 7)))

-- a timeout's is 6; else it is no larger than any that holds
timeout-six : (f : Facts) (ran : Bool) → f.timeout ≡ true → moved_for f ran ≡ 6
unfolding moved_for
timeout-six f ran e = rw e

-- what is said of a reason that is none of a timeout
record NoLarger (ran older revoked : Bool) (k : ℕ) : Type 0 where
  not-running : ran ≡ false → k ≤ 3
  older-waiting : older ≡ true → k ≤ 4
  group-revoked : revoked ≡ true → k ≤ 5
  any : k ≤ 7

no-larger : (f : Facts) (ran : Bool) → moved_for f ran ≢ 6 → NoLarger ran f.older f.revoked (moved_for f ran)
unfolding moved_for
no-larger f ran = go f.timeout ran f.older f.revoked
  where
    go : (out ran older revoked : Bool) → picked out ran older revoked ≢ 6 → NoLarger ran older revoked (picked out ran older revoked)
    go true ran older revoked six = absurd (six refl)
    go false false older revoked six =
        record { not-running = λ e. omega arith; older-waiting = λ e. omega arith; group-revoked = λ e. omega arith; any = omega arith }
    go false true true revoked six =
        record { not-running = λ e. absurd (true≢false e); older-waiting = λ e. omega arith; group-revoked = λ e. omega arith; any = omega arith }
    go false true false true six =
        record { not-running = λ e. absurd (true≢false e); older-waiting = λ e. absurd (false≢true e); group-revoked = λ e. omega arith; any = omega arith }
    go false true false false six =
        record {
          not-running = λ e. absurd (true≢false e);
          older-waiting = λ e. absurd (false≢true e);
          group-revoked = λ e. absurd (false≢true e);
          any = omega arith;
        }

-- its group ran when it became head
abbrev ran : Heading → Bool
ran h = eqb h.group h.runner

module _ (ds : List Dated) {i l : ℕ} {f : Facts} {h : Heading} (p : Nth i (leavings ds) (record { line = l; how = by_move f })) (q : Nth i (headings ds) h)
    (seven : moved_for f (ran h) ≡ 7 → f.taken ≡ true) where
  -- the facts are those of its move
  same-facts : {g : Facts} → MovedWith ds i g → g ≡ f
  unfolding facts_of
  same-facts {g} m = ap (λ (x : Leaving). facts_of g x.how) (nth-same m.1 p)

  -- it holds
  moved_holds : Because ds i (moved_for f (ran h))
  unfolding moved_for
  moved_holds = go f.timeout (ran h) f.older f.revoked refl refl refl refl seven
    where
      go : (out r older revoked : Bool) → f.timeout ≡ out → ran h ≡ r → f.older ≡ older → f.revoked ≡ revoked → (picked out r older revoked ≡ 7 → f.taken ≡ true)
          → Because ds i (picked out r older revoked)
      go true r older revoked e₁ e₂ e₃ e₄ s = timed-out (l, p) e₁
      go false false older revoked e₁ e₂ e₃ e₄ s = not-running (l, p) q (eqb-false h.group h.runner e₂)
      go false true true revoked e₁ e₂ e₃ e₄ s = older-waiting (l, p) e₃
      go false true false true e₁ e₂ e₃ e₄ s = group-revoked (l, p) e₄
      go false true false false e₁ e₂ e₃ e₄ s = processor-taken (l, p) (s refl)

  -- no smaller one does, but for a timeout's
  none-smaller : moved_for f (ran h) ≢ 6 → {k : ℕ} → Because ds i k → moved_for f (ran h) ≤ k
  unfolding disposed_of
  none-smaller six other = go (no-larger f (ran h) six) other
    where
      go : NoLarger (ran h) f.older f.revoked (moved_for f (ran h)) → {k : ℕ} → Because ds i k → moved_for f (ran h) ≤ k
      go n (disposed-of r) = absurd (true≢false (ap (λ (x : Leaving). disposed_of x.how) (nth-same r p)))
      go n (still-queued few) = absurd (omega (arith, nth_inside p))
      go n (not-running m r apart) = n.not-running (ne_eqb h.group h.runner (subst (λ (x : Heading). x.group ≢ x.runner) (nth-same r q) apart))
      go n (older-waiting m e) = n.older-waiting (subst (λ (g : Facts). g.older ≡ true) (same-facts m) e)
      go n (group-revoked m e) = n.group-revoked (subst (λ (g : Facts). g.revoked ≡ true) (same-facts m) e)
      go n (timed-out m e) = absurd (six (timeout-six f (ran h) (subst (λ (g : Facts). g.timeout ≡ true) (same-facts m) e)))
      go n (processor-taken m e) = n.any

  -- where a timeout's holds it is that
  timeout-named : Because ds i 6 → moved_for f (ran h) ≡ 6
  timeout-named (timed-out m e) = timeout-six f (ran h) (subst (λ (g : Facts). g.timeout ≡ true) (same-facts m) e)

  moved_named : Named ds i (moved_for f (ran h))
  moved_named =
      record {
        holds = moved_holds;
        timeout = timeout-named;
        first = λ six k below other. omega (arith, none-smaller six other);
      }

-- of one that was disposed of, and of one still queued, no other reason holds at all
only-named : {ds : List Dated} {i k : ℕ} → k ≢ 6 → Because ds i k → ((j : ℕ) → Because ds i j → j ≡ k) → Named ds i k
only-named six holds only =
    record {
      holds = holds;
      timeout = λ other. sym (only 6 other);
      first = λ _ j below other. omega (arith, only j other);
    }

-- Along those that are matched.

-- the message before which k were accepted: still queued, disposed of or moved
pub data Outcome (hs : List Heading) (xs : List Leaving) (i : ℕ) : Told → ℕ → Type 0 where
  waits : {last : ℕ} → length xs < i → Outcome hs xs i (told 2 last) last
  disposed : {l last : ℕ} → Nth i xs (record { line = l; how = by_disposal }) → Outcome hs xs i (told 1 l) last
  moved : {l last : ℕ} {f : Facts} {h : Heading} → Nth i xs (record { line = l; how = by_move f }) → Nth i hs h
      → (moved_for f (eqb h.group h.runner) ≡ 7 → f.taken ≡ true)
      → Outcome hs xs i (told (moved_for f (eqb h.group h.runner)) l) last

later : {h : Heading} {hs : List Heading} {x : Leaving} {xs : List Leaving} {i last : ℕ} {t : Told} → Outcome hs xs i t last → Outcome (h ∷ hs) (x ∷ xs) (suc i) t last
later (waits few) = waits (omega arith)
later (disposed p) = disposed (there p)
later (moved p q seven) = moved (there p) (there q) seven

pub outcome : {hs : List Heading} {xs : List Leaving} {ds : List Departure} → Matched hs xs ds → (k last : ℕ) → Outcome hs xs (suc k) (tell_message last ds k) last
unfolding tell_message
outcome none_left k last = waits (omega arith)
outcome (was-disposed m) zero last = disposed here
outcome (was-disposed m) (suc k) last = later (outcome m k last)
outcome (was-moved {h = h} {hs = hs} {i = i} {xs = xs} f k e seven m) zero last =
    subst (λ (r : ℕ). Outcome (h ∷ hs) (record { line = i; how = by_move f } ∷ xs) 1 (told r i) last) e (moved {h = h} here here (λ s. seven (sym e ∙ s)))
outcome (was-moved f k e seven m) (suc j) last = later (outcome m j last)

-- so what is told of it is named
module _ (ds : List Dated) {i last : ℕ} where
  pub told_named : {t : Told} → Outcome (headings ds) (leavings ds) i t last → Named ds i t.reason
  told_named (waits few) = only-named (λ e. omega arith) (still-queued few) (λ j other. queued-only j (still-queued few) other)
  told_named (disposed p) = only-named (λ e. omega arith) (disposed-of p) (λ j other. disposed-only j (disposed-of p) other)
  told_named (moved p q seven) = moved_named ds p q seven

  pub told_line : {t : Told} → Outcome (headings ds) (leavings ds) i t last → NamedLine ds last i t.line
  told_line (waits few) = record { left = λ p. absurd (omega (arith, nth_inside p)); queued = λ _. refl }
  told_line (disposed p) = record { left = λ q. ap (λ (x : Leaving). x.line) (nth-same p q); queued = λ few. absurd (omega (arith, nth_inside p)) }
  told_line (moved p q seven) = record { left = λ r. ap (λ (x : Leaving). x.line) (nth-same p r); queued = λ few. absurd (omega (arith, nth_inside p)) }

  pub told-answer : {t : Told} → Outcome (headings ds) (leavings ds) i t last → t.answer ≡ 0
  told-answer (waits few) = refl
  told-answer (disposed p) = refl
  told-answer (moved p q seven) = refl
