-- What is told of a line of a script: a line that can't be read, one that is no accepted arrival, and the reason and the line that are named. Assumes
-- nothing.
use Prim.Native.Nat.{ℕ, zero, suc, ◌+◌}
use native.Mathlib.Nat.{add-zero, zero-add}
use native.Mathlib.Omega.{arith}
use mathlib.Core.Path.{◌≡◌, refl, sym, ap, ◌∙◌, subst}
use mathlib.Core.Logic.{◌≢◌, ◌⊎◌, inl, inr}
use mathlib.Core.List.{List, [], ◌∷◌, ◌++◌}
use lib.Dec.{eqb}
use lib.ListN.{length, length-append}
use borrow.Author.Tests.{eq-eqb, ne_eqb}
use Rattle.rules.specs.Build.{paper01}
use Rattle.rules.specs.Node.{Message}
use Rattle.rules.specs.Operation.{accepted, unreadable}
use Rattle.rules.specs.Run.{Event, arrived, arrivals, arrived_by, run, was_accepted}
use Rattle.rules.specs.Script.{script_lines}
use Rattle.rules.proofs.Private.EventLaws.{arrived-none}
use Rattle.rules.proofs.Steps.SoundLaws.{paper-sensible}
use Rattle.reasons.specs.Why.{Departure, Named, NamedLine, Told, departures, headings, leavings, moments_of, no_arrival, steps_of, tell_event, tell_line, tell_message, untold, why}
use Rattle.reasons.specs.Told.{LineSeen, Tells}
use Rattle.reasons.proofs.NamedLaws.{Outcome, outcome, told-answer, told_line, told_named}
use Rattle.reasons.proofs.RunTrail.{matched-departures, run-matched}

-- a line among those seen
tell-seen : (last : ℕ) (ds : List Departure) (k : ℕ) (before : List Event) (e : Event) (after : List Event)
    → tell_line last ds k (before ++ (e ∷ after)) (length before + 1) ≡ tell_event last ds (k + length (arrivals before)) e
unfolding tell_line arrivals
tell-seen last ds k [] e after = ap (λ (j : ℕ). tell_event last ds j e) (sym (add-zero k))
tell-seen last ds k (x ∷ before) e after =
    let number : suc (length before) + 1 ≡ suc (suc (length before)) = omega arith in
    let number' : length before + 1 ≡ suc (length before) = omega arith in
    let count : k + length (arrived x) + length (arrivals before) ≡ k + length (arrived x ++ arrivals before) =
    omega (arith, length-append (arrived x) (arrivals before)) in
    ap (tell_line last ds k (x ∷ (before ++ (e ∷ after)))) number
    ∙ ap (tell_line last ds (k + length (arrived x)) (before ++ (e ∷ after))) (sym number')
    ∙ tell-seen last ds (k + length (arrived x)) before e after
    ∙ ap (λ (j : ℕ). tell_event last ds j e) count

-- a line is among them, or it is told that it is not
record Place (es : List Event) (w : ℕ) : Type 0 where
  before : List Event
  event : Event
  after : List Event
  split : es ≡ before ++ (event ∷ after)
  number : w ≡ length before + 1

placed : (last : ℕ) (ds : List Departure) (k : ℕ) (es : List Event) (w : ℕ) → Place es w ⊎ (tell_line last ds k es w ≡ untold no_arrival)
unfolding tell_line
placed last ds k [] w = inr refl
placed last ds k (e ∷ es) zero = inr refl
placed last ds k (e ∷ es) (suc zero) = inl (record { before = []; event = e; after = es; split = refl; number = refl })
placed last ds k (e ∷ es) (suc (suc w)) = go (placed last ds (k + length (arrived e)) es (suc w))
  where
    go : Place es (suc w) ⊎ (tell_line last ds (k + length (arrived e)) es (suc w) ≡ untold no_arrival)
        → Place (e ∷ es) (suc (suc w)) ⊎ (tell_line last ds (k + length (arrived e)) es (suc w) ≡ untold no_arrival)
    go (inl p) =
        inl (record { before = e ∷ p.before; event = p.event; after = p.after; split = ap {B = List Event} (λ l. e ∷ l) p.split; number = omega (arith, p.number) })
    go (inr none) = inr none

one-more : (k : ℕ) → suc k ≡ k + 1
one-more k = omega arith

-- an accepted arrival is answered with 0
accepted-answer : (e : Event) {m : Message} → arrived e ≡ m ∷ [] → e.report.answer ≢ unreadable
unfolding arrived was_accepted
accepted-answer e some two =
    let none : arrived_by e.operation (eqb e.report.answer accepted) ≡ [] =
    ap (arrived_by e.operation) (ne_eqb e.report.answer accepted (λ zero. omega arith)) ∙ arrived-none e.operation in
    omega (arith, ap length none, ap length some)

module _ (s : List ℕ) (w : ℕ) where
  abbrev last : ℕ
  last = length (script_lines s)

  abbrev left : List Departure
  left = departures (headings (moments_of s)) (leavings (moments_of s))

  seen-told : (before : List Event) (e : Event) → LineSeen s w before e → why s w ≡ tell_event last left (length (arrivals before)) e
  unfolding why
  seen-told before e seen =
      ap (λ (es : List Event). tell_line last left 0 es w) seen.split
      ∙ ap (tell_line last left 0 (before ++ (e ∷ seen.after))) seen.number
      ∙ tell-seen last left 0 before e seen.after
      ∙ ap (λ (k : ℕ). tell_event last left k e) (zero-add (length (arrivals before)))

  message-outcome : (k : ℕ) → Outcome (headings (moments_of s)) (leavings (moments_of s)) (suc k) (tell_message last left k) last
  unfolding moments_of
  message-outcome k =
      let m = run-matched paper01 paper-sensible (steps_of s) in
      subst (λ (ds : List Departure). Outcome (headings (moments_of s)) (leavings (moments_of s)) (suc k) (tell_message last ds k) last) (sym (matched-departures m)) (outcome m k last)

  -- of an accepted arrival
  arrival-told : (before : List Event) (e : Event) (m : Message) → LineSeen s w before e → arrived e ≡ m ∷ [] → why s w ≡ tell_message last left (length (arrivals before))
  unfolding tell_event
  arrival-told before e m seen some =
      seen-told before e seen
      ∙ rw (ne_eqb e.report.answer unreadable (accepted-answer e some), some)

  pub script-tells : Tells s w (why s w)
  unfolding tell_event
  script-tells =
      record {
        unread = λ before e seen two. seen-told before e seen ∙ rw (eq-eqb e.report.answer unreadable two);
        other = λ before e seen two none. seen-told before e seen ∙ rw (ne_eqb e.report.answer unreadable two, none);
        outside = λ unseen. beyond unseen (placed last left 0 (run paper01 (steps_of s)).events w);
        answered = λ before e m seen some.
            ap (λ (t : Told). t.answer) (arrival-told before e m seen some) ∙ told-answer (moments_of s) (message-outcome (length (arrivals before)));
        named = λ before e m seen some.
            subst (λ (t : Told). Named (moments_of s) (length (arrivals before) + 1) t.reason) (sym (arrival-told before e m seen some))
            (subst (λ (i : ℕ). Named (moments_of s) i (tell_message last left (length (arrivals before))).reason) (one-more (length (arrivals before)))
            (told_named (moments_of s) (message-outcome (length (arrivals before)))));
        line-named = λ before e m seen some.
            subst (λ (t : Told). NamedLine (moments_of s) last (length (arrivals before) + 1) t.line) (sym (arrival-told before e m seen some))
            (subst (λ (i : ℕ). NamedLine (moments_of s) last i (tell_message last left (length (arrivals before))).line) (one-more (length (arrivals before)))
            (told_line (moments_of s) (message-outcome (length (arrivals before)))));
      }
    where
      beyond : ((before : List Event) (e : Event) → ¬ LineSeen s w before e)
          → Place (run paper01 (steps_of s)).events w ⊎ (tell_line last left 0 (run paper01 (steps_of s)).events w ≡ untold no_arrival)
          → why s w ≡ untold 17
      beyond unseen (inl p) = absurd (unseen p.before p.event (record { after = p.after; split = p.split; number = p.number }))
      beyond unseen (inr none) = unfold why in none
