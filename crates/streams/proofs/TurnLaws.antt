-- Portions and turns one after the other. Assumes nothing.
use Rattle.std.proofs.Common.{ℕ, ◌-◌, List, [], ◌++◌, ◌≡◌, length, take, drop, append_assoc, take-append-drop, refl, subst, arith, inl, inr}
use native.Mathlib.Decide.{dec_lt}
use Rattle.std.proofs.lemmas.List.{take_rest}
use Rattle.std.specs.declared.ops.ControlFlow.{ControlFlow}
use Rattle.std.specs.declared.ops.ControlFlow.TheVariants.{Break, Continue}
use Rattle.streams.specs.Turns.{End, GoesOn, Leads, Plays, Reach, Runs, Turns}

-- Within a portion.

-- all of it but the rest is played
pub record PlaysOn {P : Type 0} (reaches : Reach P) (m : List ℕ) (p : P) (input rest m' : List ℕ) (p' : P) : Type 0 where
  pub played : List ℕ
  pub left : played ++ rest ≡ input
  pub reached : reaches m p played m' p'

module _ {P : Type 0} {reaches : Reach P} (leads : Leads reaches) {m : List ℕ} {p : P} {input : List ℕ} where
  -- none of it
  pub plays_none : PlaysOn reaches m p input input m p
  plays_none = record { played = []; left = refl; reached = leads.none m p }

  -- some more
  pub plays-more : {rest m' : List ℕ} {p' : P} {m'' : List ℕ} {p'' : P} {used : ℕ} → PlaysOn reaches m p input rest m' p' → Plays reaches m' p' rest m'' p'' used
      → PlaysOn reaches m p input (take (length rest - used) (drop used rest)) m'' p''
  plays-more {rest} {m'} {p'} {m''} {p''} {used} g s =
      record {
        played = g.played ++ take used rest;
        left = rw (take_rest rest used, append_assoc g.played (take used rest) (drop used rest), take-append-drop used rest) g.left;
        reached = leads.more m p g.played m' p' (take used rest) m'' p'' g.reached s.reached;
      }

-- Turns one after the other.

-- none
pub goes_on-none : {P : Type 0} {reaches : Reach P} → Leads reaches → (m : List ℕ) (p : P) → GoesOn reaches m p m p
goes_on-none leads m p = record { script = []; reached = leads.none m p }

module _ {P : Type 0} {reaches : Reach P} {m : List ℕ} {p : P} {m' : List ℕ} {p' : P} (g : GoesOn reaches m p m' p') where
  -- none is needed any more
  pub runs-settled : {A : Type 0} {ends : End P A} {settles : P → A → Type 0} {a : A} → settles p' a → Runs reaches ends settles m p m' a
  runs-settled s = record { memory = m'; player = p'; goes_on = g; stops = inr (refl, s) }

  module _ {A : Type 0} {ends : End P A} {input out m'' out' : List ℕ} {turn : ControlFlow A P} (t : Turns reaches ends m' p' input out m'' out' turn) where
    -- one more, which brought something
    pub goes_on-more : {next : P} → Leads reaches → turn ≡ Continue next → GoesOn reaches m p m'' next
    goes_on-more {next} leads is =
        elim (dec_lt 0 t.takes-in.answered) [
          | yes some ↦
              let r = t.takes-in.portion some in
              let same : r.0 ≡ next = cc in
              let bytes : List ℕ = take t.takes-in.answered input in
              record { script = _; reached = leads.more m p g.script m' p' bytes m'' next g.reached (subst (λ (x : P). reaches m' p' bytes m'' x) same r.1.1) }
          | no none ↦ let e = t.takes-in.at-end (omega arith) in absurd (cc)
        ]

    -- the last, which brought nothing
    pub runs-end : {settles : P → A → Type 0} {a : A} → turn ≡ Break a → Runs reaches ends settles m p m'' a
    runs-end {a = a} is =
        elim (dec_lt 0 t.takes-in.answered) [
          | yes some ↦ let r = t.takes-in.portion some in absurd (cc)
          | no none ↦
              let e = t.takes-in.at-end (omega arith) in
              let same : e.0 ≡ a = cc in
              record { memory = m'; player = p'; goes_on = g; stops = inl (out, (out', subst (λ (x : A). ends m' p' out m'' out' x) same e.1.1)) }
        ]
