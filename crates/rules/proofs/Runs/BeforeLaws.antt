-- Old scripts give each group the answers and upcalls that they gave before order 5. Under both forms of S a group has those of its private line:
-- so it is of every run now, and it was so of every run before, by the proof that S had then. And the private line is told the same under both:
-- without 5 and 6 an arrival is answered 3, 4 or 0 by its group and words alone, S is refused by its number alone, and of nothing else is the
-- private line told the answer. Assumes nothing.
use Prim.Native.Nat.{ℕ, zero, suc, ◌≤◌}
use native.Mathlib.Omega.{arith}
use mathlib.Core.Path.{◌≡◌, refl, sym, ap, ◌∙◌}
use mathlib.Core.Logic.{◌≢◌}
use mathlib.Core.Bool.{Bool, true, false, true≢false, cond, not, ◌||◌}
use mathlib.Core.List.{List, [], ◌∷◌}
use borrow.Author.Tests.{eqb-true, ltb-false, le-ltb}
use lib.Dec.{eqb, leb, ltb}
use lib.ListN.{length}
use Rattle.rules.specs.Lists.{Every, is_empty}
use Rattle.rules.specs.Build.{Build, Sensible, page_count, group_count, word_limit}
use Rattle.rules.specs.Node.{Message, Node, power_on, with_running, with_timer, line}
use Rattle.rules.specs.Frames.{pledges}
use Rattle.rules.specs.Operation.{Operation, arrive, schedule, preempt, dispatch, tick, turn, user, unknown, accepted, bad_group, bad_words, queue_full, no_frames, refused}
use Rattle.rules.specs.Refusal.{queued, refuse_arrive, refuse_schedule, refusal}
use Rattle.rules.specs.Step.{Stepped, valued, finish, step}
use Rattle.rules.specs.Private.{PrivateLine, at_first, Told, Heard, told, hear, with_has}
use Rattle.rules.specs.Run.{Input, asked, play, run, was_accepted, answers_of, upcalls_of, answer_to, Listened, listen_from, listen}
use Rattle.rules.specs.Before.{scheduled, step_before, play_before, run_before, Old, is_full, NeverFull, OldScript, SameTo, OldScripts}
use Rattle.rules.specs.Valid.{Valid}
use Rattle.rules.proofs.Steps.ActLaws.{failed, Ready, valid-ready, handed-ready}
use Rattle.rules.proofs.Steps.StepLaws.{finish-valid, step-answer, step-valid, power-on-valid}
use Rattle.rules.proofs.Private.ViewLaws.{view, power-on-view}
use Rattle.rules.proofs.Private.HeardLaws.{heard_as, Agrees, seen, refused-agrees, handed-view, step-agrees}
use Rattle.rules.proofs.Runs.RunLaws.{seen_as, heard_then, run-heard}

-- S as it was: refused, or an act of its own
before-cases : (b : Build) (n : Node) (g : ℕ) (P : Stepped → Type 0)
    → (g ≤ group_count → P (finish b (valued 0 (scheduled g n))))
    → ((r : ℕ) → refuse_schedule g ≡ suc r → P (record { report = refused (suc r); node = n }))
    → P (step_before b n (schedule g))
unfolding step_before refuse_schedule
before-cases b n g P accepts refuses = go (refuse_schedule g) refl
  where
    go : (r : ℕ) → refuse_schedule g ≡ r
        → P (elim r [ zero ↦ finish b (valued 0 (scheduled g n)) | suc r ↦ record { report = refused (suc r); node = n } ])
    go zero e = accepts (ltb-false group_count g (failed (ltb group_count g) _ _ e).0)
    go (suc r) e = refuses r e

-- its answer was that of now
before-answer : (b : Build) (n : Node) (g : ℕ) → (step_before b n (schedule g)).report.answer ≡ refuse_schedule g
unfolding finish refuse_schedule
before-answer b n g =
    before-cases b n g (λ s. s.report.answer ≡ refuse_schedule g) (λ high. rw (le-ltb group_count g high)) (λ r e. sym e)

module _ {b : Build} {n : Node} (v : Valid b n) where
  -- what it left was a node before settling
  scheduled-ready : (g : ℕ) → g ≤ group_count → Ready b (scheduled g n)
  unfolding scheduled
  scheduled-ready g high = go (eqb g n.running)
    where
      go : (t : Bool) → Ready b (cond t n (with_timer 0 (with_running g n)))
      go true = valid-ready v
      go false = handed-ready v g 0 high (omega (arith, v.timer-bound))

  -- the group had the processor exactly if it was named
  scheduled-view : (h g : ℕ) → with_has (eqb h g) (view g n) ≡ view g (scheduled h n)
  unfolding scheduled with_has view
  scheduled-view h g = go (eqb h n.running) refl
    where
      go : (t : Bool) → eqb h n.running ≡ t → with_has (eqb h g) (view g n) ≡ view g (cond t n (with_timer 0 (with_running h n)))
      go true e = ap (λ (x : ℕ). with_has (eqb x g) (view g n)) (eqb-true _ _ e)
      go false e = handed-view n h 0 g

  -- a step of then left a node
  before-valid : (op : Operation) → Valid b (step_before b n op).node
  unfolding step_before valued
  before-valid (schedule g) =
      before-cases b n g (λ s. Valid b s.node) (λ high. finish-valid (valued 0 (scheduled g n)) (scheduled-ready g high)) (λ r e. v)
  before-valid (arrive g ws) = step-valid v (arrive g ws)
  before-valid preempt = step-valid v preempt
  before-valid (dispatch g) = step-valid v (dispatch g)
  before-valid (tick k) = step-valid v (tick k)
  before-valid turn = step-valid v turn
  before-valid (user r) = step-valid v (user r)
  before-valid unknown = step-valid v unknown

  -- and showed of a group what its private line makes of what it is told
  before-agrees : (op : Operation) (g : ℕ) → 1 ≤ g → g ≤ group_count → Agrees g n op (step_before b n op)
  unfolding step_before told hear answer_to valued finish refusal
  before-agrees (schedule h) g lo hi =
      before-cases b n h (Agrees g n (schedule h))
      (λ high. seen (valued 0 (scheduled h n)) (scheduled-ready h high).sound g lo hi [] (with_has (eqb h g) (view g n)) (scheduled-view h g))
      (λ r e. refused-agrees b n (schedule h) r e g lo)
  before-agrees (arrive h ws) g lo hi = step-agrees v (arrive h ws) g lo hi
  before-agrees preempt g lo hi = step-agrees v preempt g lo hi
  before-agrees (dispatch h) g lo hi = step-agrees v (dispatch h) g lo hi
  before-agrees (tick k) g lo hi = step-agrees v (tick k) g lo hi
  before-agrees turn g lo hi = step-agrees v turn g lo hi
  before-agrees (user r) g lo hi = step-agrees v (user r) g lo hi
  before-agrees unknown g lo hi = step-agrees v unknown g lo hi

-- so over a run of then the private line heard what the group saw
before-heard : {b : Build} {n : Node} → Valid b n → (g : ℕ) → 1 ≤ g → g ≤ group_count → (is : List Input)
    → listen_from g (view g n) (play_before b n is).events
    ≡ record {
      answers = answers_of g (play_before b n is).events;
      upcalls = upcalls_of g (play_before b n is).events;
      line = view g (play_before b n is).node;
    }
unfolding play_before listen_from answers_of upcalls_of was_accepted
before-heard v g lo hi [] = refl
before-heard {b} {n} v g lo hi (i ∷ is) =
    let st : Stepped = step_before b n (asked i) in
    ap (λ (h : Heard). heard_then h (listen_from g h.line (play_before b st.node is).events)) (before-agrees v (asked i) g lo hi)
    ∙ ap (heard_then (heard_as g n (asked i) st.report st.node)) (before-heard {b = b} {n = (step_before b n (asked i)).node} (before-valid v (asked i)) g lo hi is)

-- What the private line is told.

-- an arrival that is not answered 5 or 6 is accepted by its group and words alone
arrival-told : (b : Build) (n : Node) (m : Message) → is_full (refuse_arrive b n m) ≡ false
    → eqb (refuse_arrive b n m) accepted
    ≡ not ((eqb m.group 0 || ltb group_count m.group) || (is_empty m.words || ltb word_limit (length m.words)))
unfolding refuse_arrive is_full
arrival-told b n m =
    go (eqb m.group 0 || ltb group_count m.group) (is_empty m.words || ltb word_limit (length m.words))
    (leb b.places (length n.queue)) (ltb (page_count b) (pledges b (queued m n)))
  where
    answer : Bool → Bool → Bool → Bool → ℕ
    answer t u w x = cond t bad_group (cond u bad_words (cond w queue_full (cond x no_frames accepted)))

    go : (t u w x : Bool) → (eqb (answer t u w x) queue_full || eqb (answer t u w x) no_frames) ≡ false
        → eqb (answer t u w x) accepted ≡ not (t || u)
    go true u w x e = refl
    go false true w x e = refl
    go false false true x e = absurd (true≢false e)
    go false false false true e = absurd (true≢false e)
    go false false false false e = refl

-- on whatever two nodes, an operation that is not O or I and is not answered 5 or 6 is told alike
told_same : (b : Build) (n k : Node) (g : ℕ) (op : Operation) → op ≢ preempt → ((h : ℕ) → op ≢ dispatch h)
    → is_full (step b n op).report.answer ≡ false
    → is_full (step_before b k op).report.answer ≡ false
    → told g op (eqb (step b n op).report.answer accepted) ≡ told g op (eqb (step_before b k op).report.answer accepted)
unfolding step_before told refusal
told_same b n k g (arrive h ws) o d now before =
    ap (told g (arrive h ws)) (fits n now ∙ sym (fits k before))
  where
    m : Message
    m = record { group = h; words = ws }

    fits : (x : Node) → is_full (step b x (arrive h ws)).report.answer ≡ false
        → eqb (step b x (arrive h ws)).report.answer accepted
        ≡ not ((eqb h 0 || ltb group_count h) || (is_empty ws || ltb word_limit (length ws)))
    fits x full =
        let answer = step-answer b x (arrive h ws) in
        ap (λ (a : ℕ). eqb a accepted) answer ∙ arrival-told b x m (ap is_full (sym answer) ∙ full)
told_same b n k g preempt o d now before = absurd (o refl)
told_same b n k g (dispatch h) o d now before = absurd (d h refl)
told_same b n k g (schedule h) o d now before =
    ap (λ (a : ℕ). told g (schedule h) (eqb a accepted)) (step-answer b n (schedule h) ∙ sym (before-answer b k h))
told_same b n k g (tick x) o d now before = refl
told_same b n k g turn o d now before = refl
told_same b n k g (user r) o d now before = refl
told_same b n k g unknown o d now before = refl

-- so over both runs the private line is told the same
heard-same : (b : Build) (g : ℕ) (is : List Input) (p : PrivateLine) (n k : Node) → Every Old is
    → NeverFull (play b n is).events → NeverFull (play_before b k is).events
    → listen_from g p (play b n is).events ≡ listen_from g p (play_before b k is).events
unfolding play play_before listen_from NeverFull was_accepted
heard-same b g [] p n k old now before = refl
heard-same b g (i ∷ is) p n k old now before =
    let s : Stepped = step b n (asked i) in
    let t : Stepped = step_before b k (asked i) in
    let same = told_same b n k g (asked i) old.0.no-preempt old.0.no-dispatch now.0 before.0 in
    let h : Heard = hear g p (told g (asked i) (eqb t.report.answer accepted)) in
    ap (λ (x : Told). heard_then (hear g p x) (listen_from g (hear g p x).line (play b s.node is).events)) same
    ∙ ap (heard_then h) (heard-same b g is h.line s.node t.node old.1 now.1 before.1)

-- old scripts give each group the same answers and upcalls as before
pub old-scripts : OldScripts
unfolding run run_before listen
old-scripts = record { each-group = each }
  where
    each : (b : Build) → Sensible b → (is : List Input) → OldScript b is → (g : ℕ) → 1 ≤ g → g ≤ group_count
        → SameTo g (run b is).events (run_before b is).events
    each b s is old g lo hi =
        let heard : seen_as b (power_on b) g is
        ≡ record {
          answers = answers_of g (run_before b is).events;
          upcalls = upcalls_of g (run_before b is).events;
          line = view g (run_before b is).node;
        } =
        sym (run-heard s g lo hi is)
        ∙ heard-same b g is at_first (power_on b) (power_on b) old.old old.now old.before
        ∙ ap (λ (p : PrivateLine). listen_from g p (run_before b is).events) (sym (power-on-view b g lo))
        ∙ before-heard (power-on-valid b s) g lo hi is in
        record { answers = ap (λ (h : Listened). h.answers) heard; upcalls = ap (λ (h : Listened). h.upcalls) heard }
