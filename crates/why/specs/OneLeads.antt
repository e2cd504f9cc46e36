-- Calls of `follow` can be made one after the other. Assumes nothing.
use Rattle.std.specs.Prelude.{ℕ, List, [], ◌∷◌, ◌++◌, ◌≡◌, refl}
use Rattle.std.proofs.Common.{◌∙◌, ap, append_assoc, subst, sym}
use Rattle.streams.specs.Turns.{Leads}
use Rattle.follow.specs.Portions.{Follows, Portion, bytes_of, last_memory, last_state}
use Rattle.follow.specs.declared.one.State.{State as State·rt}
use Rattle.why.specs.One.{Reaches}
use Rattle.why.specs.declared.one.Following.{Following as Following·rt}

-- no call
reach-none : (m : List ℕ) (st : State·rt) → Reaches m st [] m st
unfolding Follows bytes_of last_memory last_state
reach-none m st = record { calls = []; follows = tt; handed = refl; memory = refl; state = refl }

-- the calls of two lists
follows-append : (m : List ℕ) (st : State·rt) (ps qs : List Portion) → Follows m st ps → Follows (last_memory m ps) (last_state st ps) qs → Follows m st (ps ++ qs)
unfolding Follows last_memory last_state
follows-append m st [] qs f g = g
follows-append m st (p ∷ ps) qs f g = (f.0, (f.1.0, follows-append p.memory-after p.state-after ps qs f.1.1 g))

bytes-append : (ps qs : List Portion) → bytes_of (ps ++ qs) ≡ bytes_of ps ++ bytes_of qs
unfolding bytes_of
bytes-append [] qs = refl
bytes-append (p ∷ ps) qs = ap (λ (x : List ℕ). p.input ++ x) (bytes-append ps qs) ∙ sym (append_assoc p.input (bytes_of ps) (bytes_of qs))

memory-append : (m : List ℕ) (ps qs : List Portion) → last_memory m (ps ++ qs) ≡ last_memory (last_memory m ps) qs
unfolding last_memory
memory-append m [] qs = refl
memory-append m (p ∷ ps) qs = memory-append p.memory-after ps qs

state-append : (st : State·rt) (ps qs : List Portion) → last_state st (ps ++ qs) ≡ last_state (last_state st ps) qs
unfolding last_state
state-append st [] qs = refl
state-append st (p ∷ ps) qs = state-append p.state-after ps qs

-- one after the other
reach-more : {m : List ℕ} {st : State·rt} {b m' : List ℕ} {st' : State·rt} {c m'' : List ℕ} {st'' : State·rt}
    → Reaches m st b m' st' → Reaches m' st' c m'' st'' → Reaches m st (b ++ c) m'' st''
reach-more {m} {st} {b} {m'} {st'} {c} r s =
    let ps = r.calls in
    let qs = s.calls in
    record {
      calls = ps ++ qs;
      follows = follows-append m st ps qs r.follows
          (subst (λ (x : State·rt). Follows (last_memory m ps) x qs) (sym r.state) (subst (λ (x : List ℕ). Follows x st' qs) (sym r.memory) s.follows));
      handed = bytes-append ps qs ∙ ap (λ (x : List ℕ). x ++ bytes_of qs) r.handed ∙ ap (λ (x : List ℕ). b ++ x) s.handed;
      memory = memory-append m ps qs ∙ ap (λ (x : List ℕ). last_memory x qs) r.memory ∙ s.memory;
      state = state-append st ps qs ∙ ap (λ (x : State·rt). last_state x qs) r.state ∙ s.state;
    }

pub following_leads : Leads {P = Following·rt} (λ m p bytes m' p'. Reaches m p.state bytes m' p'.state)
following_leads = record { none = λ m p. reach-none m p.state; more = λ m p a m' p' b m'' p'' r s. reach-more r s }
