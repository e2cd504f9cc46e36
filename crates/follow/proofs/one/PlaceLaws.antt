-- A message's place in the queue, line after line. Assumes nothing.
use Prim.Native.Nat.{ℕ, zero, suc, ◌+◌, ◌-◌, ◌≤◌, ◌<◌}
use native.Mathlib.Omega.{arith}
use mathlib.Core.Bool.{true, false, cond}
use mathlib.Core.List.{List, [], ◌∷◌, ◌++◌}
use mathlib.Core.Path.{◌≡◌, refl, sym, ap, ◌∙◌}
use lib.Dec.{eqb}
use lib.ListN.{length, replicate, length-replicate}
use borrow.Author.Tests.{eq-eqb, ne_eqb}
use Rattle.rules.specs.Operation.{unreadable}
use Rattle.reasons.specs.ByPlace.{leaving}
use Rattle.reasons.specs.Follow.{Followed, Seen, follow_line, follow_lines, moved_up, picked_up, told_at}
use Rattle.reasons.specs.Why.{Told, told, untold}
use Rattle.std.proofs.lemmas.Option.{same_Some}
use Rattle.std.specs.Prelude.{Option, None, Some, SomeIff, is_some}
use Rattle.follow.specs.One.{place_of}
use Rattle.follow.specs.Seen.{Sees, left_of, reasons_of}
use Rattle.follow.specs.declared.seen.Leaving.{Leaving as Leaving·rt}
use Rattle.follow.specs.declared.seen.Line.{Line as Line·rt}

-- as many leave as said
pub length-leaving : (k a b : ℕ) → length (leaving k a b) ≡ k
unfolding leaving
length-leaving zero a b = refl
length-leaving (suc k) a b = ap suc (length-replicate {A = ℕ} k b)

-- Those that leave before a message, and with it.

module _ (i : ℕ) (t : Told) where
  behind-later : (p k b : ℕ) → k < p → moved_up i t p (replicate k b) ≡ record { place = p - k; told = t }
  unfolding moved_up
  behind-later p zero b h = let e : p ≡ p - 0 = omega arith in ap (λ (n : ℕ). record { place = n; told = t }) e
  behind-later zero (suc k) b h = absurd (omega arith)
  behind-later (suc zero) (suc k) b h = absurd (omega arith)
  behind-later (suc (suc p)) (suc k) b h =
      let e : suc p - k ≡ suc (suc p) - suc k = omega arith in
      behind-later (suc p) k b (omega arith) ∙ ap (λ (n : ℕ). record { place = n; told = t }) e

  left-later : (p k b : ℕ) → 1 ≤ p → p ≤ k → moved_up i t p (replicate k b) ≡ record { place = 0; told = told b i }
  unfolding moved_up
  left-later zero k b some h = absurd (omega arith)
  left-later (suc p) zero b some h = absurd (omega arith)
  left-later (suc zero) (suc k) b some h = refl
  left-later (suc (suc p)) (suc k) b some h = left-later (suc p) k b (omega arith) (omega arith)

  -- a message behind them moves up
  pub moved-behind : (p k a b : ℕ) → k < p → moved_up i t p (leaving k a b) ≡ record { place = p - k; told = t }
  unfolding moved_up leaving
  moved-behind p zero a b h = behind-later p zero b h
  moved-behind zero (suc k) a b h = absurd (omega arith)
  moved-behind (suc zero) (suc k) a b h = absurd (omega arith)
  moved-behind (suc (suc p)) (suc k) a b h =
      let e : suc p - k ≡ suc (suc p) - suc k = omega arith in
      behind-later (suc p) k b (omega arith) ∙ ap (λ (n : ℕ). record { place = n; told = t }) e

  -- none leaves
  pub moved_still : (p : ℕ) {rs : List ℕ} → rs ≡ [] → moved_up i t p rs ≡ record { place = p; told = t }
  unfolding moved_up
  moved_still p e = ap (moved_up i t p) e

  -- there is none to follow
  pub moved_none : (p : ℕ) (rs : List ℕ) → p ≡ 0 → moved_up i t p rs ≡ record { place = p; told = t }
  unfolding moved_up
  moved_none zero [] h = refl
  moved_none zero (r ∷ rs) h = refl
  moved_none (suc p) rs h = absurd (omega arith)

  -- it is the first that leaves, or behind it
  pub moved-first : (p k a b : ℕ) → p ≡ 1 → p ≤ k → moved_up i t p (leaving k a b) ≡ record { place = 0; told = told a i }
  unfolding moved_up leaving
  moved-first p zero a b e h = absurd (omega arith)
  moved-first zero (suc k) a b e h = absurd (omega arith)
  moved-first (suc zero) (suc k) a b e h = refl
  moved-first (suc (suc p)) (suc k) a b e h = absurd (omega arith)

  pub moved_later : (p k a b : ℕ) → 2 ≤ p → p ≤ k → moved_up i t p (leaving k a b) ≡ record { place = 0; told = told b i }
  unfolding moved_up leaving
  moved_later p zero a b low h = absurd (omega arith)
  moved_later zero (suc k) a b low h = absurd (omega arith)
  moved_later (suc zero) (suc k) a b low h = absurd (omega arith)
  moved_later (suc (suc p)) (suc k) a b low h = left-later (suc p) k b (omega arith) (omega arith)

  -- the same by how many are queued ahead of it

  pub moved-ahead : (p k a b : ℕ) {q : ℕ} → SomeIff (Some q) (k ≤ p) (p - k) → record { place = suc q; told = t } ≡ moved_up i t (suc p) (leaving k a b)
  moved-ahead p k a b {q} h =
      let h0 = h.0 in
      let h1 = h.1 in
      let e : suc q ≡ suc p - k = omega arith in
      ap (λ (n : ℕ). record { place = n; told = t }) e ∙ sym (moved-behind (suc p) k a b (omega arith))

  pub moved-out : (p k a b : ℕ) {r : ℕ} → ¬ (k ≤ p) → r ≡ cond (eqb p 0) a b → record { place = 0; told = told r i } ≡ moved_up i t (suc p) (leaving k a b)
  moved-out zero k a b n e = ap (λ (x : ℕ). record { place = 0; told = told x i }) e ∙ sym (moved-first 1 k a b refl (omega (arith, n)))
  moved-out (suc p) k a b n e =
      ap (λ (x : ℕ). record { place = 0; told = told x i }) (e ∙ rw (ne_eqb (suc p) 0 (λ q. omega arith)))
      ∙ sym (moved_later (suc (suc p)) k a b (omega arith) (omega (arith, n)))

-- The line wanted.

-- as many leave as are told
pub length-reasons : (o : Option Leaving·rt) → length (reasons_of o) ≡ left_of o
length-reasons None = refl
length-reasons (Some l) = length-leaving l.count l.first l.later

place-one_less : (o : Option ℕ) (n : ℕ) → SomeIff o (1 ≤ n) (n - 1) → place_of o ≡ n
place-one_less None n h = omega (arith, h)
place-one_less (Some k) n h = let h0 = h.0 in let h1 = h.1 in omega arith

module _ {l : Line·rt} {s : Seen} (v : Sees l s) (f : Followed) where
  pub picked-unread : l.answer ≡ unreadable → record { place = 0; told = untold unreadable } ≡ picked_up s f
  unfolding picked_up
  picked-unread e = rw (eq-eqb s.answer unreadable (sym v.answer ∙ e))

  pub picked-arrival : (l.answer ≡ unreadable → ⊥) → (q : ℕ) → l.queued ≡ Some q → (o : Option ℕ) → SomeIff o (1 ≤ q + left_of l.leaving) (q + left_of l.leaving - 1)
      → record { place = place_of o; told = f.told } ≡ picked_up s f
  unfolding picked_up
  picked-arrival n q e o h =
      let t : s.arrival ≡ true = sym v.arrival ∙ ap is_some e in
      let k : length s.reasons ≡ left_of l.leaving = ap length v.reasons ∙ length-reasons l.leaving in
      let j : s.queued ≡ q = sym (same_Some q s.queued (sym e ∙ v.queued t)) in
      ap (λ (x : ℕ). record { place = x; told = f.told }) (place-one_less o (q + left_of l.leaving) h)
      ∙ rw (ne_eqb s.answer unreadable (λ z. n (v.answer ∙ z)), t, k, j)

  pub picked-other : (l.answer ≡ unreadable → ⊥) → l.queued ≡ None → f ≡ picked_up s f
  unfolding picked_up
  picked-other n e =
      let t : s.arrival ≡ false = sym v.arrival ∙ ap is_some e in
      rw (ne_eqb s.answer unreadable (λ q. n (v.answer ∙ q)), t)

-- A line.

module _ (w i : ℕ) (f : Followed) {l : Line·rt} {s : Seen} (v : Sees l s) where
  pub followed-wanted : i ≡ w → {p : Followed} → p ≡ picked_up s f → moved_up i p.told p.place (reasons_of l.leaving) ≡ follow_line w i f s
  unfolding follow_line
  followed-wanted e h =
      ap (λ (q : Followed). moved_up i q.told q.place (reasons_of l.leaving)) h
      ∙ ap (moved_up i (picked_up s f).told (picked_up s f).place) (sym v.reasons) ∙ rw (eq-eqb i w e)

  pub followed-other : (i ≡ w → ⊥) → moved_up i f.told f.place (reasons_of l.leaving) ≡ follow_line w i f s
  unfolding follow_line
  followed-other n = rw (ne_eqb i w n, v.reasons)

-- The script's end.

pub told-left : (last : ℕ) (f : Followed) → f.place ≡ 0 → f.told ≡ told_at last f
unfolding told_at
told-left last f e = rw (eq-eqb f.place 0 e)

pub told-queued : (last : ℕ) (f : Followed) → (f.place ≡ 0 → ⊥) → told 2 last ≡ told_at last f
unfolding told_at
told-queued last f n = rw (ne_eqb f.place 0 n)

-- Lines one behind the other.

pub follow-append : (w i : ℕ) (f : Followed) (ss ts : List Seen) → follow_lines w i f (ss ++ ts) ≡ follow_lines w (i + length ss) (follow_lines w i f ss) ts
unfolding follow_lines
follow-append w i f [] ts = let e : i ≡ i + 0 = omega arith in ap (λ (k : ℕ). follow_lines w k f ts) e
follow-append w i f (x ∷ ss) ts =
    let e : suc i + length ss ≡ i + suc (length ss) = omega arith in
    follow-append w (suc i) (follow_line w i f x) ss ts
    ∙ ap (λ (k : ℕ). follow_lines w k (follow_lines w (suc i) (follow_line w i f x) ss) ts) e

-- behind the line wanted nothing changes where there is none to follow
pub follow-settled : (w i : ℕ) (f : Followed) (ss : List Seen) → w < i → f.place ≡ 0 → follow_lines w i f ss ≡ f
unfolding follow_lines follow_line
follow-settled w i f [] h e = refl
follow-settled w i f (s ∷ ss) h e =
    let k : follow_line w i f s ≡ f = rw (ne_eqb i w (λ q. omega arith)) (moved_none i f.told f.place s.reasons e) in
    ap (λ (x : Followed). follow_lines w (suc i) x ss) k ∙ follow-settled w (suc i) f ss (omega arith) e
