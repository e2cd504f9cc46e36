-- The messages that left the queue in a run, each matched with how it became head and with the reason of the rule by place. Assumes nothing.
use Prim.Native.Nat.{ℕ, suc, ◌+◌}
use mathlib.Core.Path.{◌≡◌, refl, sym, ap, ◌∙◌, subst₂}
use mathlib.Core.Bool.{true}
use mathlib.Core.List.{List, [], ◌∷◌, ◌++◌, map, append_assoc}
use lib.Dec.{eqb}
use Rattle.rules.specs.Lists.{concat_map}
use Rattle.rules.specs.Build.{Build, Sensible}
use Rattle.rules.specs.Node.{Node, power_on}
use Rattle.rules.specs.Run.{Input, asked}
use Rattle.rules.specs.Step.{step}
use Rattle.rules.specs.Valid.{Valid}
use Rattle.rules.proofs.Steps.StepLaws.{power-on-valid, step-valid}
use Rattle.reasons.specs.ByPlace.{dated, place_departures}
use Rattle.reasons.specs.Moments.{Facts, Moment, Dated, run_moments, step_moments}
use Rattle.reasons.specs.Why.{Departure, Heading, Leaving, by_disposal, by_move, departures, heading_in, headings, leaving_in, leavings, left_for, moved_for}
use Rattle.reasons.proofs.Trail.{Trail, disposes, ends, heads, joins, moves, pending}
use Rattle.reasons.proofs.StepTrail.{step-trail}

-- those that have left, in order
pub data Matched : List Heading → List Leaving → List Departure → Type 0 where
  none_left : {hs : List Heading} → Matched hs [] []
  was-disposed : {h : Heading} {hs : List Heading} {i : ℕ} {xs : List Leaving} {ds : List Departure}
      → Matched hs xs ds
      → Matched (h ∷ hs) (record { line = i; how = by_disposal } ∷ xs) (record { reason = 1; line = i } ∷ ds)
  was-moved : {h : Heading} {hs : List Heading} {i : ℕ} {xs : List Leaving} {ds : List Departure} (f : Facts) (k : ℕ)
      → moved_for f (eqb h.group h.runner) ≡ k
      → (k ≡ 7 → f.taken ≡ true)
      → Matched hs xs ds
      → Matched (h ∷ hs) (record { line = i; how = by_move f } ∷ xs) (record { reason = k; line = i } ∷ ds)

-- the reasons are those that the definition computes
pub matched-departures : {hs : List Heading} {xs : List Leaving} {ds : List Departure} → Matched hs xs ds → departures hs xs ≡ ds
unfolding departures left_for
matched-departures {hs = []} none_left = refl
matched-departures {hs = h ∷ hs} none_left = refl
matched-departures (was-disposed {i = i} m) = ap {B = List Departure} (λ ds. record { reason = 1; line = i } ∷ ds) (matched-departures m)
matched-departures (was-moved {hs = hs} {i = i} {xs = xs} f k e seven m) =
    ap {B = List Departure} (λ r. record { reason = r; line = i } ∷ departures hs xs) e
    ∙ ap {B = List Departure} (λ ds. record { reason = k; line = i } ∷ ds) (matched-departures m)

-- a moment in line i
abbrev dating : ℕ → Moment → Dated
dating i m = record { line = i; moment = m }

-- a trail, and then the rest
trail-matched : {p p' : List Heading} {ms : List Moment} {rs : List ℕ} (i : ℕ) → Trail p ms rs p' → (hs : List Heading) {xs : List Leaving} {ds : List Departure}
    → Matched (p' ++ hs) xs ds → Matched (p ++ (headings (map (dating i) ms) ++ hs)) (leavings (map (dating i) ms) ++ xs) (dated i rs ++ ds)
unfolding headings heading_in leavings leaving_in dated
trail-matched i ends hs m = m
trail-matched i (joins t) hs m = trail-matched i t hs m
trail-matched i (heads t) hs m = trail-matched i t hs m
trail-matched i (disposes t) hs m = was-disposed (trail-matched i t hs m)
trail-matched i (moves f k e seven t) hs m = was-moved f k e seven (trail-matched i t hs m)

-- lists that f gives, of two lists one after the other
concat-append : {A B : Type 0} (f : A → List B) (xs ys : List A) → concat_map f (xs ++ ys) ≡ concat_map f xs ++ concat_map f ys
concat-append f [] ys = refl
concat-append f (x ∷ xs) ys = ap (λ l. f x ++ l) (concat-append f xs ys) ∙ sym (append_assoc (f x) (concat_map f xs) (concat_map f ys))

-- a run from a node on, whose first step has number i
pub play-matched : {b : Build} {n : Node} → Valid b n → (i : ℕ) (is : List Input)
    → Matched (pending n.queue ++ headings (run_moments b i n is)) (leavings (run_moments b i n is)) (place_departures b i n is)
unfolding headings leavings run_moments place_departures
play-matched v i [] = none_left
play-matched {b} {n} v i (x ∷ is) =
    let op = asked x in
    let k = (step b n op).node in
    let ms = map (dating i) (step_moments b n op) in
    let rest = run_moments b (suc i) k is in
    subst₂ (λ (hs : List Heading) (xs : List Leaving). Matched (pending n.queue ++ hs) xs (place_departures b i n (x ∷ is)))
    (sym (concat-append (λ (d : Dated). heading_in d.moment) ms rest)) (sym (concat-append (λ (d : Dated). leaving_in d.line d.moment) ms rest))
    (trail-matched i (step-trail v op) (headings rest) (play-matched {b = b} {n = (step b n (asked x)).node} (step-valid v op) (suc i) is))

-- and from power-on
pub run-matched : (b : Build) → Sensible b → (is : List Input)
    → Matched (headings (run_moments b 1 (power_on b) is)) (leavings (run_moments b 1 (power_on b) is)) (place_departures b 1 (power_on b) is)
run-matched b s is = unfold power_on pending in play-matched (power-on-valid b s) 1 is
