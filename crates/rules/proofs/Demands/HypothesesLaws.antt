-- What the statements ask for is met by what Hypotheses names. A node with other places in a buffer has the same of all that Agree looks at, group by
-- group; the tests' laws are TestLaws' and MapLaws'. Assumes nothing.
use Prim.Native.Nat.{ℕ, zero, suc, ◌+◌, ◌*◌, ◌≤◌, ◌<◌}
use mathlib.Core.Path.{◌≡◌, refl, sym, ap, ◌∙◌, subst}
use mathlib.Core.Logic.{◌↔◌}
use mathlib.Core.Bool.{Bool, true, false, false≢true, not, and-eq-true_iff}
use mathlib.Core.List.{List, [], ◌∷◌, ◌++◌}
use native.Mathlib.Decide.{ℕ_discrete}
use native.Mathlib.Omega.{arith}
use lib.ListN.{get_or}
use borrow.Author.Tests.{not-true}
use Rattle.rules.specs.Build.{Sensible}
use Rattle.rules.specs.Node.{Message, Place, Group, Node, with_group, with_buffer, in_buffer, in_queue, line}
use Rattle.rules.specs.Lists.{Every, all}
use Rattle.rules.specs.Operation.{Operation, arrive, schedule, preempt, dispatch, tick, turn, user, unknown}
use Rattle.rules.specs.Memory.{node_at}
use Rattle.rules.specs.Run.{Input, operation, asked, Event}
use Rattle.rules.specs.Before.{scheduled, step_before, play_before, run_before, Old, is_full, NeverFull}
use Rattle.rules.specs.Dumps.{WaitsIn, Agree}
use Rattle.rules.specs.Hypotheses.{build, BuildExamples, with_places, AgreeExamples, two_pages, WaitsExamples, whole_case, OldExamples, TestSays}
use Rattle.rules.proofs.Cases.Computes.{computes}
use Rattle.rules.proofs.Steps.NodeLaws.{group-other, kept, line_same}
use Rattle.rules.proofs.Map.TestLaws.{is_node-valid, valid-is_node}
use Rattle.rules.proofs.Map.MapLaws.{test-written, test-valid, test_words}
use Rattle.rules.proofs.Demands.DumpsLaws.{dumps}

-- a build with one of each part but swap pages, and two frames, makes sense
makes-sense : (f s p q t : ℕ) → Sensible (build (2 + f) s (1 + p) (1 + q) (1 + t))
makes-sense f s p q t = record { frames = omega arith; per_frame = omega arith; places = omega arith; timeout = omega arith }

pub build-examples : BuildExamples
build-examples =
    record {
      smallest = makes-sense 0 0 0 0 0;
      larger = makes-sense;
      papers = makes-sense 30 64 7 15 255;
      all-frames = makes-sense 94 0 7 15 255;
      papers-all-frames = search;
      any-parting = λ f s f' s' p q t e. search;
    }

-- a node agrees with itself
itself : (n : Node) → Agree n n
itself n =
    record {
      running = refl;
      timer = refl;
      queue = refl;
      free = refl;
      swap = refl;
      entered = refl;
      out = refl;
      brought = refl;
      groups = λ g low high. search;
    }

-- other places in a group's buffer, in which the same messages wait
module _ (n : Node) (g : ℕ) (ps : List Place) (low : 1 ≤ g) (same : in_buffer (with_places g ps n) g ≡ in_buffer n g) where
  -- leave every line
  places-line : (h : ℕ) → 1 ≤ h → line (with_places g ps n) h ≡ line n h
  unfolding line in_queue with_group
  places-line h low' = go (ℕ_discrete h g)
    where
      go : Dec (h ≡ g) → line (with_places g ps n) h ≡ line n h
      go (yes e) = subst (λ (x : ℕ). line (with_places g ps n) x ≡ line n x) (sym e) (ap (λ (ms : List Message). ms ++ in_queue n g) same)
      go (no other) = line_same n (with_places g ps n) h (ap (λ (G : Group). G.buffer) (group-other n g h _ low low' other)) refl

  -- and all else of a node that Agree looks at
  places-untold : Agree (with_places g ps n) n
  unfolding with_group with_buffer
  places-untold =
      record {
        running = refl;
        timer = refl;
        queue = refl;
        free = refl;
        swap = refl;
        entered = refl;
        out = refl;
        brought = refl;
        groups = λ h low' high.
            record {
              atomic = kept (λ G. G.atomic) n g _ refl h;
              pending = kept (λ G. G.pending) n g _ refl h;
              force = kept (λ G. G.force) n g _ refl h;
              revoked = kept (λ G. G.revoked) n g _ refl h;
              used = kept (λ G. G.buffer.used) n g _ refl h;
              count = kept (λ G. G.buffer.count) n g _ refl h;
              pages = kept (λ G. G.buffer.frames) n g _ refl h;
              descriptor = kept (λ G. G.descriptor) n g _ refl h;
              messages = places-line h low';
            };
      }

pub agree-examples : AgreeExamples
agree-examples =
    record {
      itself = itself;
      places-untold = places-untold;
      same-words = λ m m' h e. subst (λ (k : Node). Agree (node_at m) k) (dumps.same-by-dump m m' h e) (itself (node_at m));
    }

-- none of its messages waits before the third place of its first page, behind the second of its second, or in another
none-waits : (p i : ℕ) → (p ≡ 4 → i < 2) → (p ≡ 37 → 2 ≤ i) → ¬ WaitsIn two_pages p i
none-waits p i before behind w = go w.index w.listed w.number w.behind-used w.before-end
  where
    go : (k : ℕ) → k < 2 → get_or (4 ∷ 37 ∷ []) k 0 ≡ p → 2 ≤ 8 * k + i → 8 * k + i < 2 + 8 → ⊥
    go zero h e low high = omega (arith, before (sym e))
    go (suc zero) h e low high = omega (arith, behind (sym e))
    go (suc (suc k)) h e low high = omega arith

pub waits-examples : WaitsExamples
waits-examples =
    record {
      used-up = none-waits 4 1 (λ e. omega arith) (λ e. omega arith);
      first = record { index = 0; listed = omega arith; number = refl; behind-used = omega arith; before-end = omega arith };
      last = record { index = 1; listed = omega arith; number = refl; behind-used = omega arith; before-end = omega arith };
      behind = none-waits 37 2 (λ e. omega arith) (λ e. omega arith);
      unlisted = λ p i first second. none-waits p i (λ e. absurd (first e)) (λ e. absurd (second e));
    }

-- that no answer is 5 or 6, as a test
never-full : (es : List Event) → NeverFull es ↔ (all (λ e. not (is_full e.report.answer)) es ≡ true)
unfolding NeverFull
never-full [] = (λ h. refl, λ h. tt)
never-full (e ∷ es) = (
  λ h. (and-eq-true_iff (not (is_full e.report.answer)) _).1 (ap not h.0, (never-full es).0 h.1),
  λ h.
      let both = (and-eq-true_iff (not (is_full e.report.answer)) _).0 h in
      (not-true (is_full e.report.answer) both.0, (never-full es).1 both.1),
)

-- an operation that is neither O nor I, as a test
abbrev other : Operation → Bool
other (arrive g ws) = true
other preempt = false
other (dispatch g) = false
other (schedule g) = true
other (tick k) = true
other turn = true
other (user r) = true
other unknown = true

other-old : (i : Input) → other (asked i) ≡ true → Old i
other-old i e =
    record {
      no-preempt = λ same. false≢true (ap other (sym same) ∙ e);
      no-dispatch = λ g same. false≢true (ap other (sym same) ∙ e);
    }

others-old : (is : List Input) → all (λ i. other (asked i)) is ≡ true → Every Old is
others-old [] e = tt
others-old (i ∷ is) e =
    let both = (and-eq-true_iff (other (asked i)) (all (λ i. other (asked i)) is)).0 e in
    (other-old i both.0, others-old is both.1)

pub old-examples : OldExamples
unfolding computes is_full step_before play_before run_before scheduled
old-examples =
    record {
      arrival-old = λ g ws. other-old (operation (arrive g ws)) refl;
      schedule-old = λ g. other-old (operation (schedule g)) refl;
      tick-old = λ k. other-old (operation (tick k)) refl;
      turn-old = other-old (operation turn) refl;
      request-old = λ r. other-old (operation (user r)) refl;
      unknown-old = other-old (operation unknown) refl;
      line-old = other-old _ refl;
      full-answers = refl;
      whole-case = record { old = others-old whole_case refl; now = (never-full _).1 refl; before = (never-full _).1 refl };
      five-before = λ o. false≢true ((never-full _).0 o.before);
      six-now = λ o. false≢true ((never-full _).0 o.now);
    }

pub test-says : TestSays
test-says =
    record {
      node-test = λ b n s. (is_node-valid b n s, valid-is_node b n);
      memory-valid = test-valid;
      memory-map = test_words;
      memory-passes = test-written;
    }
