-- Calls of `tell` can be made one after the other. Assumes nothing.
use Rattle.std.specs.Prelude.{ℕ, List, [], ◌∷◌, ◌++◌, ◌≡◌, refl, take}
use Rattle.std.proofs.Common.{◌∙◌, ap, append_assoc, subst, sym}
use Rattle.streams.specs.Turns.{Leads}
use Rattle.follow.specs.EveryPortions.{Portion, last_memory, last_state, used_bytes}
use Rattle.follow.specs.EveryPortions as every
use Rattle.follow.specs.declared.every.State.{State as State·rt}
use Rattle.why.specs.All.{Reaches}
use Rattle.why.specs.declared.all.Telling.{Telling as Telling·rt}

-- no call
reach-none : (m : List ℕ) (st : State·rt) → Reaches m st [] m st
unfolding every.Tells used_bytes last_memory last_state
reach-none m st = record { calls = []; tells = tt; used = refl; memory = refl; state = refl }

-- the calls of two lists
tells-append : (m : List ℕ) (st : State·rt) (ps qs : List Portion) → every.Tells m st ps → every.Tells (last_memory m ps) (last_state st ps) qs
    → every.Tells m st (ps ++ qs)
unfolding every.Tells last_memory last_state
tells-append m st [] qs f g = g
tells-append m st (p ∷ ps) qs f g = (f.0, (f.1.0, tells-append p.memory-after p.told.state ps qs f.1.1 g))

used-append : (ps qs : List Portion) → used_bytes (ps ++ qs) ≡ used_bytes ps ++ used_bytes qs
unfolding used_bytes
used-append [] qs = refl
used-append (p ∷ ps) qs =
    ap (λ (x : List ℕ). take p.told.used p.input ++ x) (used-append ps qs) ∙ sym (append_assoc (take p.told.used p.input) (used_bytes ps) (used_bytes qs))

memory-append : (m : List ℕ) (ps qs : List Portion) → last_memory m (ps ++ qs) ≡ last_memory (last_memory m ps) qs
unfolding last_memory
memory-append m [] qs = refl
memory-append m (p ∷ ps) qs = memory-append p.memory-after ps qs

state-append : (st : State·rt) (ps qs : List Portion) → last_state st (ps ++ qs) ≡ last_state (last_state st ps) qs
unfolding last_state
state-append st [] qs = refl
state-append st (p ∷ ps) qs = state-append p.told.state ps qs

-- one after the other
reach-more : {m : List ℕ} {st : State·rt} {b m' : List ℕ} {st' : State·rt} {c m'' : List ℕ} {st'' : State·rt}
    → Reaches m st b m' st' → Reaches m' st' c m'' st'' → Reaches m st (b ++ c) m'' st''
reach-more {m} {st} {b} {m'} {st'} {c} r s =
    let ps = r.calls in
    let qs = s.calls in
    record {
      calls = ps ++ qs;
      tells = tells-append m st ps qs r.tells
          (subst (λ (x : State·rt). every.Tells (last_memory m ps) x qs) (sym r.state) (subst (λ (x : List ℕ). every.Tells x st' qs) (sym r.memory) s.tells));
      used = used-append ps qs ∙ ap (λ (x : List ℕ). x ++ used_bytes qs) r.used ∙ ap (λ (x : List ℕ). b ++ x) s.used;
      memory = memory-append m ps qs ∙ ap (λ (x : List ℕ). last_memory x qs) r.memory ∙ s.memory;
      state = state-append st ps qs ∙ ap (λ (x : State·rt). last_state x qs) r.state ∙ s.state;
    }

pub telling_leads : Leads {P = Telling·rt} (λ m p bytes m' p'. Reaches m p.state bytes m' p'.state)
telling_leads = record { none = λ m p. reach-none m p.state; more = λ m p a m' p' b m'' p'' r s. reach-more r s }
