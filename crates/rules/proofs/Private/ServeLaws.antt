-- What the running group's operations do is what its private line does, and the other groups do not see it. Assumes nothing.
use Prim.Native.Nat.{ℕ, suc, ◌≤◌}
use native.Mathlib.Omega.{arith}
use mathlib.Core.Path.{◌≡◌, refl, sym, ap, ◌∙◌}
use mathlib.Core.Logic.{◌≢◌}
use mathlib.Core.Bool.{true, false, ◌||◌}
use mathlib.Core.List.{List, [], ◌∷◌, ◌++◌}
use lib.Dec.{eqb}
use lib.ListN.{length, drop}
use Rattle.rules.specs.Build.{Build}
use Rattle.rules.specs.Node.{Node, group_of, with_group, with_flags, with_descriptor, line}
use Rattle.rules.specs.Operation.{Request, poll, peek, dispose, begin_atomic, end_atomic, describe, launch, user, accepted}
use Rattle.rules.specs.Refusal.{refuse_request}
use Rattle.rules.specs.Step.{valued, timer_flagged, removed, flagged, disposed, section_begun, section_ended, extending, described, launched, serve}
use Rattle.rules.specs.Private.{PrivateLine, Answer, says, refuses, unchanged, with_atomic, with_own_descriptor, own}
use Rattle.rules.specs.Run.{disposed_by}
use Rattle.rules.specs.Valid.{Valid}
use Rattle.rules.proofs.Steps.SoundLaws.{SameFlags}
use Rattle.rules.proofs.Steps.ListLaws.{some-length}
use Rattle.rules.proofs.Steps.LineLaws.{removed-line, removed-other, removed-flags, removed-running}
use Rattle.rules.proofs.Steps.ActLaws.{removed-sound}
use Rattle.rules.proofs.Private.ViewLaws.{timer-view, view, view-same, regroup-other, flags-own, timer-flags-view, begun-own, ended-own, descriptor-own}
use Rattle.rules.proofs.Private.RequestLaws.{poll-accepted, peek-refused, peek-accepted, dispose-refused, dispose-accepted, dispose-some, end_refused, end-accepted, describe-refused, describe-accepted, launch-refused, launch-accepted, zero-suc}

-- a refused request is refused by the private line with the same number, and changes nothing
pub own-refused : (n : Node) (q : Request) (r : ℕ) → refuse_request n q ≡ suc r
    → own n.running (view n.running n) q ≡ unchanged (refuses (suc r)) (view n.running n)
unfolding refuse_request own view
own-refused n poll r e = zero-suc e
own-refused n (peek i) r e = ap (λ a. unchanged a (view n.running n)) (peek-refused (line n n.running) i r e)
own-refused n dispose r e = dispose-refused (line n n.running) (view n.running n) r e
own-refused n (begin_atomic force) r e = zero-suc e
own-refused n end_atomic r e = end_refused (view n.running n) r e
own-refused n (describe w) r e = describe-refused (view n.running n) w r e
own-refused n (launch k) r e = launch-refused n.running (group_of n n.running).descriptor (view n.running n) k r e

-- what D leaves of a node, as the runner sees it
disposed-own : {b : Build} {n : Node} → Valid b n → 1 ≤ n.running
    → view n.running (disposed b n)
    ≡ record {
      has = (view n.running n).has;
      atomic = (view n.running n).atomic;
      pending = false;
      messages = drop 1 (line n n.running);
      descriptor = (view n.running n).descriptor;
    }
unfolding disposed flagged view
disposed-own {b} {n} v run =
    let k : Node = removed b n in
    let same : k.running ≡ n.running = removed-running b n in
    let l : line k n.running ≡ drop 1 (line n n.running) = removed-line v run in
    let f : SameFlags (group_of k n.running) (group_of n n.running) = removed-flags b n n.running in
    timer-view n.running 0 (flagged (group_of n n.running).atomic false k)
    ∙ flags-own k (removed-sound v run).group-count (group_of n n.running).atomic false n.running same run v.running-bound
    ∙ (λ i.
    record {
      has = eqb (same i) n.running;
      atomic = (group_of n n.running).atomic;
      pending = false;
      messages = l i;
      descriptor = f.descriptor i;
    })

-- what the runner's accepted request answers and leaves is what its private line does
pub serve-own : {b : Build} {n : Node} → Valid b n → 1 ≤ n.running → (q : Request) → refuse_request n q ≡ 0
    → own n.running (view n.running n) q
    ≡ record {
      answer = record { number = accepted; value = (serve b n q).value; sent = (serve b n q).sent };
      line = view n.running (serve b n q).node;
    }
unfolding refuse_request own serve valued says unchanged extending launched described flagged with_atomic with_own_descriptor view
serve-own {b} {n} v run poll e = ap (λ (a : Answer). unchanged a (view n.running n)) (poll-accepted (line n n.running))
serve-own {b} {n} v run (peek i) e = ap (λ (a : Answer). unchanged a (view n.running n)) (peek-accepted (line n n.running) i e)
serve-own {b} {n} v run dispose e =
    dispose-accepted (line n n.running) (view n.running n) e
    ∙ ap (unchanged (says 0)) (sym (disposed-own v run))
serve-own {b} {n} v run (begin_atomic force) e = ap (unchanged (says 0)) (sym (begun-own n v.group-count force run v.running-bound))
serve-own {b} {n} v run end_atomic e =
    end-accepted (view n.running n) e ∙ ap (unchanged (says 0)) (sym (ended-own n v.group-count run v.running-bound))
serve-own {b} {n} v run (describe w) e =
    let d : List ℕ = (group_of n n.running).descriptor ++ (w ∷ []) in
    describe-accepted (view n.running n) w e
    ∙ ap (unchanged (says (length d))) (sym (descriptor-own n v.group-count d n.running refl run v.running-bound))
serve-own {b} {n} v run (launch k) e =
    let d : List ℕ = (group_of n n.running).descriptor in
    launch-accepted n.running d (view n.running n) k e
    ∙ ap (unchanged (record { number = accepted; value = length d; sent = k ∷ n.running ∷ d }))
    (sym (descriptor-own n v.group-count [] n.running refl run v.running-bound))

-- D as another group sees it
disposed-other : (b : Build) (n : Node) → 1 ≤ n.running → (g : ℕ) → 1 ≤ g → g ≢ n.running → view g (disposed b n) ≡ view g n
unfolding disposed flagged
disposed-other b n run g lo ne =
    let k : Node = removed b n in
    let same : k.running ≡ n.running = removed-running b n in
    timer-view g 0 (flagged (group_of n n.running).atomic false k)
    ∙ regroup-other k (with_flags (group_of n n.running).atomic false (group_of k k.running)) g (omega arith) lo (λ e. ne (e ∙ same))
    ∙ view-same g k n same (removed-flags b n g) (removed-other b n run g lo ne)

-- the runner's requests are invisible to the others
pub serve-other : (b : Build) (n : Node) → 1 ≤ n.running → (g : ℕ) → 1 ≤ g → g ≢ n.running → (q : Request) → view g (serve b n q).node ≡ view g n
unfolding serve valued extending launched described section_begun section_ended flagged timer_flagged with_group
serve-other b n run g lo ne poll = refl
serve-other b n run g lo ne (peek i) = refl
serve-other b n run g lo ne dispose = disposed-other b n run g lo ne
serve-other b n run g lo ne (begin_atomic force) =
    let G = group_of n n.running in
    timer-flags-view g (force || G.force) G.revoked (flagged true G.pending n) ∙ regroup-other n (with_flags true G.pending G) g run lo ne
serve-other b n run g lo ne end_atomic =
    let k = timer_flagged false false n in
    regroup-other k (with_flags false (group_of n n.running).pending (group_of k n.running)) g run lo ne ∙ timer-flags-view g false false n
serve-other b n run g lo ne (describe w) =
    regroup-other n (with_descriptor ((group_of n n.running).descriptor ++ (w ∷ [])) (group_of n n.running)) g run lo ne
serve-other b n run g lo ne (launch k) = regroup-other n (with_descriptor [] (group_of n n.running)) g run lo ne

-- the runner's line after its request: without the first message after D, else as it was
pub served-line : {b : Build} {n : Node} → Valid b n → 1 ≤ n.running → (q : Request) → refuse_request n q ≡ 0
    → line (serve b n q).node n.running ≡ drop (disposed_by (user q) true) (line n n.running)
unfolding refuse_request serve valued extending launched described flagged view disposed_by with_atomic
served-line v run poll e = refl
served-line v run (peek i) e = refl
served-line {b} {n} v run dispose e = ap (λ (p : PrivateLine). p.messages) (disposed-own v run)
served-line {b} {n} v run (begin_atomic force) e = ap (λ (p : PrivateLine). p.messages) (begun-own n v.group-count force run v.running-bound)
served-line {b} {n} v run end_atomic e = ap (λ (p : PrivateLine). p.messages) (ended-own n v.group-count run v.running-bound)
served-line {b} {n} v run (describe w) e =
    ap (λ (p : PrivateLine). p.messages) (descriptor-own n v.group-count ((group_of n n.running).descriptor ++ (w ∷ [])) n.running refl run v.running-bound)
served-line {b} {n} v run (launch k) e =
    ap (λ (p : PrivateLine). p.messages) (descriptor-own n v.group-count [] n.running refl run v.running-bound)

-- what the runner disposes of is there
pub served-enough : (n : Node) (q : Request) → refuse_request n q ≡ 0 → disposed_by (user q) true ≤ length (line n n.running)
unfolding refuse_request disposed_by
served-enough n poll e = omega arith
served-enough n (peek i) e = omega arith
served-enough n dispose e = some-length (line n n.running) (dispose-some (line n n.running) e)
served-enough n (begin_atomic force) e = omega arith
served-enough n end_atomic e = omega arith
served-enough n (describe w) e = omega arith
served-enough n (launch k) e = omega arith
