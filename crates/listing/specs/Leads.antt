-- Calls of `feed` can be made one after the other. Assumes nothing.
use Rattle.std.specs.Prelude.{ℕ, List, [], ◌++◌, refl}
use Rattle.std.proofs.Common.{◌∙◌, ap, subst, sym}
use Rattle.streams.specs.Turns.{Leads}
use Rattle.script.specs.Portions.{Feeds, last_memory, last_state, used_bytes}
use Rattle.script.specs.declared.feed.State.{State as State·rt}
use Rattle.script.proofs.PortionsLaws.{feeds-append, memory-append, state-append, used-append}
use Rattle.listing.specs.Run.{Reaches}
use Rattle.listing.specs.declared.Listing.{Listing as Listing·rt}

-- no call
pub reach-none : (m : List ℕ) (st : State·rt) → Reaches m st [] m st
unfolding Feeds used_bytes last_memory last_state
reach-none m st = record { calls = []; fed = tt; used = refl; memory = refl; state = refl }

unfoldable pub reach-more : {m : List ℕ} {st : State·rt} {b m' : List ℕ} {st' : State·rt} {c m'' : List ℕ} {st'' : State·rt}
    → Reaches m st b m' st' → Reaches m' st' c m'' st'' → Reaches m st (b ++ c) m'' st''
reach-more {m} {st} {b} {m'} {st'} {c} r s =
    let ps = r.calls in
    let qs = s.calls in
    record {
      calls = ps ++ qs;
      fed = feeds-append m st ps qs r.fed
          (subst (λ (x : State·rt). Feeds (last_memory m ps) x qs) (sym r.state) (subst (λ (x : List ℕ). Feeds x st' qs) (sym r.memory) s.fed));
      used = used-append ps qs ∙ ap (λ (x : List ℕ). x ++ used_bytes qs) r.used ∙ ap (λ (x : List ℕ). b ++ x) s.used;
      memory = memory-append m ps qs ∙ ap (λ (x : List ℕ). last_memory x qs) r.memory ∙ s.memory;
      state = state-append st ps qs ∙ ap (λ (x : State·rt). last_state x qs) r.state ∙ s.state;
    }

-- one after the other
pub reaches_leads : Leads {P = Listing·rt} (λ m p bytes m' p'. Reaches m p.state bytes m' p'.state)
reaches_leads = record { none = λ m p. reach-none m p.state; more = λ m p a m' p' b m'' p'' r s. reach-more r s }
