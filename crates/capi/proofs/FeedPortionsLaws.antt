-- Calls over a script's portions are calls of `feed`, and what is carried between them is its state: so all that is proved of those holds of these.
-- Assumes nothing.
use Prim.Native.Nat.{ℕ}
use native.Mathlib.Omega.{arith}
use mathlib.Core.List.{List, [], ◌∷◌, ◌++◌}
use mathlib.Core.Path.{◌≡◌, ◌∙◌, ap, refl, subst, sym}
use lib.ListN.{get_or, take}
use Rattle.rules.specs.MemoryTest.{power_on_memory}
use Rattle.rules.specs.Script.{header}
use Rattle.script.specs.Feed.{FedTo, kept_line}
use Rattle.script.specs.Play.{stop_number}
use Rattle.script.specs.Portions.{Feeds, last_memory, last_newline, last_state, listed_bytes}
use Rattle.script.specs.Read.{line_of}
use Rattle.script.specs.declared.feed.State.{State as State·rt}
use Rattle.script.proofs.PortionsLaws.{end-listed}
use Rattle.script.proofs.play.StopLaws.{stop-all}
use Rattle.script.proofs.feed.FedLaws.{fed-numbers}
use Rattle.capi.specs.Calls.{Call, last_bytes, last_words}
use Rattle.capi.specs.Carried.{script_of}
use Rattle.capi.specs.Feed.{fed_of}
use Rattle.capi.specs.FeedPortions.{CallsListed, Feedings, portions}

calls-feed : (m w b : List ℕ) (cs : List Call) → Feedings m w b cs → Feeds m (script_of w b) (portions cs)
unfolding Feedings portions Feeds fed_of
calls-feed m w b [] h = tt
calls-feed m w b (c ∷ cs) h =
    let here = h.0.room h.1.0 in
    let few = h.1.1.0 in
    (here.fed, (fed-numbers here.fed (λ e. let n = here.stopped ∙ ap stop_number e in omega arith), calls-feed c.memory-after c.state-after c.kept-after cs h.1.1.1))

calls-state : (w b : List ℕ) (cs : List Call) → last_state (script_of w b) (portions cs) ≡ script_of (last_words w cs) (last_bytes b cs)
unfolding portions last_state last_words last_bytes fed_of
calls-state w b [] = refl
calls-state w b (c ∷ cs) = calls-state c.state-after c.kept-after cs

-- words that begin with two zeros say of a script that nothing of it has been read
module _ (w b : List ℕ) where
  pub new-lines : (script_of w b).lines ≡ get_or w 0 0
  unfolding script_of
  new-lines = refl

  pub new_line : get_or w 1 0 ≡ 0 → kept_line (script_of w b) ≡ []
  unfolding script_of kept_line line_of
  new_line e = rw e

pub calls-listed : CallsListed
calls-listed =
    record {
      listed = λ m w b cs s head head' at out p m' out' p' count q.
          let m₀ = (power_on_memory m).memory in
          let e = q.ends.room q.lent in
          let ends = subst (λ (x : State·rt). FedTo (last_memory m₀ (portions cs)) x (last_newline x) out m' out' e.fed) (sym (calls-state w b cs)) e.ends in
          ap (λ (x : List ℕ). x ++ (listed_bytes (portions cs) ++ take (get_or p' 1 0) out')) (q.begins.written q.room).written
          ∙ ap (λ (n : ℕ). header ++ (listed_bytes (portions cs) ++ take n out')) e.written
          ∙ end-listed m s (script_of w b) (portions cs) q.long (new-lines w b ∙ q.no_lines) (new_line w b q.no-line-begun)
          (calls-feed m₀ w b cs q.calls) q.read ends (stop-all e.fed.stop (sym e.stopped ∙ q.stopped));
    }
