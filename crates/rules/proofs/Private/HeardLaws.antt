-- One step: what the private line of a group makes of what it is told is what the node's step shows and leaves of that group. The private
-- line stands at the view of the node before the step, and comes to stand at the view of the node after it. Assumes nothing.
use Prim.Native.Nat.{ℕ, suc, ◌+◌, ◌≤◌}
use native.Mathlib.Omega.{arith}
use mathlib.Core.Path.{◌≡◌, refl, sym, ap, ◌∙◌, subst}
use mathlib.Core.Logic.{◌≢◌}
use mathlib.Core.Bool.{Bool, true, false, cond}
use mathlib.Core.List.{List, [], ◌∷◌, ◌++◌, append-nil}
use borrow.Author.Tests.{eqb-true, eqb-false, ne_eqb}
use lib.Dec.{eqb}
use Rattle.rules.specs.Build.{Build, group_count}
use Rattle.rules.specs.Node.{Message, Node, group_of, with_running, with_timer, with_queue, in_buffer, in_queue, is_of, line}
use Rattle.rules.specs.Operation.{Request, Operation, arrive, schedule, preempt, dispatch, tick, turn, user, unknown, Report, accepted, nobody_runs, refused, all_zero}
use Rattle.rules.specs.Paging.{runner_resident}
use Rattle.rules.specs.Refusal.{refusal, refuse_request, queued}
use Rattle.rules.specs.Settling.{settle, drain, upcall}
use Rattle.rules.specs.Step.{Effect, Stepped, valued, preempted, revoke, timed_out, ticks, serve, act, finish, in_arow, step}
use Rattle.rules.specs.Private.{PrivateLine, message, processor, request, nothing, told, Answer, Heard, refuses, unchanged, own, is_called, called, afterwards, answered, unheard, joined, with_has, hear}
use Rattle.rules.specs.Run.{answer_of, answer_to}
use Rattle.rules.specs.Valid.{Valid}
use Rattle.rules.specs.Sound.{Sound}
use Rattle.rules.proofs.Steps.SoundLaws.{flags-refl, valid-sound}
use Rattle.rules.proofs.Steps.PagingLaws.{runner-repaged, runner-sound}
use Rattle.rules.proofs.Steps.SettlingLaws.{settle-sound, drain-line, drain-flags, drain-running}
use Rattle.rules.proofs.Steps.LineLaws.{arrive-line}
use Rattle.rules.proofs.Steps.TickLaws.{timed, left_over, Ticked, idle, counting, timeout, ticked-by}
use Rattle.rules.proofs.Steps.ListLaws.{filter-pass, filter-fail}
use Rattle.rules.proofs.Steps.NodeLaws.{is-of, not-of}
use Rattle.rules.proofs.Steps.ActLaws.{user-accepted}
use Rattle.rules.proofs.Steps.StepLaws.{act-sound, OneAct, step-law}
use Rattle.rules.proofs.Private.EventLaws.{refusal-answer}
use Rattle.rules.proofs.Private.ViewLaws.{timer-view, timer-flags-view, nobody, called-quiet, view, view-same, settle-view, repaged-view, valid-quiet, upcall-named, upcall-view}
use Rattle.rules.proofs.Private.RequestLaws.{suc-zero}
use Rattle.rules.proofs.Private.ServeLaws.{own-refused, serve-own, serve-other}

-- what the private line of group g, standing at the view of n, makes of a step that reports so and leaves the node k
abbrev pub heard_as : ℕ → Node → Operation → Report → Node → Heard
heard_as g n op r k =
    record { answers = answer_to op (eqb n.running g) r; upcall = eqb r.upcall g; line = view g k }

abbrev pub Agrees : ℕ → Node → Operation → Stepped → Type 0
Agrees g n op s = hear g (view g n) (told g op (eqb s.report.answer accepted)) ≡ heard_as g n op s.report s.node

-- settling and the upcall, as the group sees them
pub finish-view : {b : Build} (e : Effect) → Sound b e.node → (g : ℕ) → 1 ≤ g → g ≤ group_count → view g (finish b e).node ≡ called (view g e.node)
unfolding finish
finish-view {b} e s g lo hi =
    let k = (settle b e.node).node in
    let paged = repaged-view (runner-repaged b k) g in
    upcall-view (runner-sound (settle-sound s)) g lo hi ∙ ap called (paged ∙ settle-view s g lo hi)

finish-named : {b : Build} (e : Effect) → Sound b e.node → (g : ℕ) → 1 ≤ g → g ≤ group_count
    → eqb (finish b e).report.upcall g ≡ is_called (view g e.node)
unfolding finish
finish-named {b} e s g lo hi =
    let k = (settle b e.node).node in
    let paged = repaged-view (runner-repaged b k) g in
    upcall-named (runner_resident b k) g lo ∙ ap is_called (paged ∙ settle-view s g lo hi)

-- an accepted step that the group does not see leaves its view, and names it for no upcall
unseen : {b : Build} {n : Node} → Valid b n → (e : Effect) → Sound b e.node → (g : ℕ) → 1 ≤ g → g ≤ group_count
    → view g e.node ≡ view g n
    → unheard (view g n) ≡ record { answers = []; upcall = eqb (finish b e).report.upcall g; line = view g (finish b e).node }
unfolding unheard
unseen {b} {n} v e s g lo hi same =
    let quiet : is_called (view g n) ≡ false = valid-quiet v g lo in
    let up : false ≡ eqb (finish b e).report.upcall g = sym (finish-named e s g lo hi ∙ ap is_called same ∙ quiet) in
    let l : view g n ≡ view g (finish b e).node = sym (finish-view e s g lo hi ∙ ap called same ∙ called-quiet (view g n) quiet) in
    λ i. record { answers = []; upcall = up i; line = l i }

-- an accepted step that the group sees, and is not answered by
pub seen : {b : Build} (e : Effect) → Sound b e.node → (g : ℕ) → 1 ≤ g → g ≤ group_count → (xs : List Answer) (p : PrivateLine)
    → p ≡ view g e.node
    → afterwards xs p ≡ record { answers = xs; upcall = eqb (finish b e).report.upcall g; line = view g (finish b e).node }
unfolding afterwards
seen {b} e s g lo hi xs p same =
    let up : is_called p ≡ eqb (finish b e).report.upcall g = ap is_called same ∙ sym (finish-named e s g lo hi) in
    let l : called p ≡ view g (finish b e).node = ap called same ∙ sym (finish-view e s g lo hi) in
    λ i. record { answers = xs; upcall = up i; line = l i }

-- A refused step.

-- what the group is not told of
untold : (g : ℕ) (n : Node) → 1 ≤ g → unheard (view g n) ≡ record { answers = []; upcall = eqb 0 g; line = view g n }
unfolding unheard
untold g n lo = λ i. record { answers = []; upcall = sym (nobody g lo) i; line = view g n }

-- a refusal by the private line is an answer and no more
answered-refused : (r : ℕ) (p : PrivateLine) → answered (unchanged (refuses (suc r)) p) ≡ record { answers = refuses (suc r) ∷ []; upcall = false; line = p }
unfolding answered unchanged refuses
answered-refused r p = rw (refusal-answer r) refl

-- a refused request: to the runner its answer, to the others nothing
request-refused : (g : ℕ) (n : Node) (q : Request) (r : ℕ) → 1 ≤ g → cond (eqb n.running 0) nobody_runs (refuse_request n q) ≡ suc r
    → hear g (view g n) (request q) ≡ heard_as g n (user q) (refused (suc r)) n
unfolding hear answer_to view refuses answer_of
request-refused g n q r lo e = go (eqb n.running g) refl
  where
    some : n.running ≡ g → refuse_request n q ≡ suc r
    some same =
        let z : eqb n.running 0 ≡ false = ne_eqb n.running 0 (λ h. omega arith) in
        rw z at e

    mine : (x : ℕ) → n.running ≡ x → refuse_request n q ≡ suc r
        → answered (own x (view x n) q) ≡ record { answers = refuses (suc r) ∷ []; upcall = false; line = view x n }
    mine x same e' =
        subst (λ (x : ℕ). answered (own x (view x n) q) ≡ record { answers = refuses (suc r) ∷ []; upcall = false; line = view x n }) same
        (ap answered (own-refused n q r e') ∙ answered-refused r (view n.running n))

    go : (t : Bool)
        → eqb n.running g ≡ t
        → cond t (answered (own g (view g n) q)) (unheard (view g n))
        ≡ record { answers = cond t (answer_of (refused (suc r)) ∷ []) []; upcall = eqb 0 g; line = view g n }
    go false t = untold g n lo
    go true t =
        mine g (eqb-true _ _ t) (some (eqb-true _ _ t))
        ∙ (λ i. record { answers = refuses (suc r) ∷ []; upcall = sym (nobody g lo) i; line = view g n })

-- a refused step of any kind
pub refused-agrees : (b : Build) (n : Node) (op : Operation) (r : ℕ) → refusal b n op ≡ suc r → (g : ℕ) → 1 ≤ g
    → Agrees g n op (record { report = refused (suc r); node = n })
unfolding told hear answer_to refusal
refused-agrees b n (arrive h ws) r e g lo = rw (refusal-answer r) (untold g n lo)
refused-agrees b n preempt r e g lo = suc-zero (sym e)
refused-agrees b n (dispatch h) r e g lo = rw (refusal-answer r) (untold g n lo)
refused-agrees b n (schedule h) r e g lo = rw (refusal-answer r) (untold g n lo)
refused-agrees b n (tick k) r e g lo = untold g n lo
refused-agrees b n turn r e g lo = untold g n lo
refused-agrees b n (user q) r e g lo = request-refused g n q r lo e
refused-agrees b n unknown r e g lo = untold g n lo

-- An accepted step: each operation, before settling, as the group sees it.

-- A: the message joins the line of its group
arrive_same : (n : Node) (g : ℕ) (ws : List ℕ) → joined g ws (view g n) ≡ view g (queued (record { group = g; words = ws }) n)
unfolding view joined queued with_queue group_of
arrive_same n g ws =
    let m : Message = record { group = g; words = ws } in
    let l : line (queued m n) g ≡ line n g ++ (m ∷ []) =
    arrive-line m n g ∙ ap (λ (ms : List Message). line n g ++ ms) (filter-pass (is_of g) m [] (is-of g m refl)) in
    λ i.
    record {
      has = eqb n.running g;
      atomic = (group_of n g).atomic;
      pending = (group_of n g).pending;
      messages = sym l i;
      descriptor = (group_of n g).descriptor;
    }

arrive-other : (n : Node) (g : ℕ) (m : Message) → m.group ≢ g → view g (queued m n) ≡ view g n
unfolding queued with_queue group_of
arrive-other n g m ne =
    let l : line (queued m n) g ≡ line n g =
    arrive-line m n g ∙ ap (λ (ms : List Message). line n g ++ ms) (filter-fail (is_of g) m [] (not-of g m ne)) ∙ append-nil (line n g) in
    view-same g (queued m n) n refl flags-refl l

-- O and I: the group has the processor exactly if it is named
pub handed-view : (n : Node) (h t g : ℕ) → with_has (eqb h g) (view g n) ≡ view g (with_timer t (with_running h n))
unfolding with_has view with_timer with_running line in_buffer in_queue group_of
handed-view n h t g = refl

-- T: ticks, and what a timeout does, are invisible
pub tick-view : {b : Build} {n : Node} → Valid b n → (k g : ℕ) → 1 ≤ g → g ≤ group_count → view g (ticks b k (valued 0 n)).node ≡ view g n
unfolding valued timed timed_out revoke with_timer with_queue
tick-view {b} {n} v k g lo hi = go (ticked-by v k)
  where
    drained : view g (drain b n.queue n) ≡ view g n
    drained = view-same g (drain b n.queue n) n (drain-running b n.queue n) (drain-flags b n.queue n g) (drain-line n.queue n (valid-sound v) g lo hi)

    go : Ticked b k n → view g (ticks b k (valued 0 n)).node ≡ view g n
    go (idle q e) = ap (λ (x : Effect). view g x.node) e
    go (counting q h e) = ap (λ (x : Effect). view g x.node) e ∙ timer-view g (n.timer + k) n
    go (timeout q e) =
        let d = drain b n.queue n in
        ap (λ (x : Effect). view g x.node) e
        ∙ timer-view g (left_over b k n) (revoke d)
        ∙ timer-flags-view g (group_of d d.running).force true d
        ∙ drained

-- an accepted request: to the runner its answer and its effect, to the others nothing
request-accepted : {b : Build} {n : Node} → Valid b n → (q : Request) → Sound b (serve b n q).node → 1 ≤ n.running → refuse_request n q ≡ 0
    → (g : ℕ) → 1 ≤ g → g ≤ group_count
    → hear g (view g n) (request q) ≡ heard_as g n (user q) (finish b (serve b n q)).report (finish b (serve b n q)).node
unfolding hear answer_to view answered finish answer_of
request-accepted {b} {n} v q s run e g lo hi = go (eqb n.running g) refl
  where
    e' : Effect
    e' = serve b n q

    after : List Answer → Heard
    after xs = record { answers = xs; upcall = eqb (finish b e').report.upcall g; line = view g (finish b e').node }

    mine : n.running ≡ g → answered (own g (view g n) q) ≡ after (answer_of (finish b e').report ∷ [])
    mine same =
        let mine-at : own g (view g n) q
        ≡ record { answer = record { number = accepted; value = e'.value; sent = e'.sent }; line = view g e'.node } =
        subst
        (λ (x : ℕ).
        own x (view x n) q ≡ record { answer = record { number = accepted; value = e'.value; sent = e'.sent }; line = view x e'.node })
        same (serve-own v run q e) in
        ap answered mine-at ∙ seen e' s g lo hi (answer_of (finish b e').report ∷ []) (view g e'.node) refl

    go : (t : Bool)
        → eqb n.running g ≡ t
        → cond t (answered (own g (view g n) q)) (unheard (view g n)) ≡ after (cond t (answer_of (finish b e').report ∷ []) [])
    go false t = unseen v e' s g lo hi (serve-other b n run g lo (λ h. eqb-false _ _ t (sym h)) q)
    go true t = mine (eqb-true _ _ t)

-- an accepted step of one act
pub accepted-agrees : {b : Build} {n : Node} → Valid b n → (op : Operation) → OneAct op → refusal b n op ≡ 0 → (g : ℕ) → 1 ≤ g → g ≤ group_count
    → Agrees g n op (finish b (act b n op))
unfolding told hear answer_to refusal act valued finish preempted with_timer with_running
accepted-agrees {b} {n} v (arrive h ws) one e g lo hi = go (eqb h g) refl
  where
    m : Message
    m = record { group = h; words = ws }

    arrival : Effect
    arrival = valued 0 (queued m n)

    go : (t : Bool)
        → eqb h g ≡ t
        → hear g (view g n) (cond t (message ws) nothing)
        ≡ record { answers = []; upcall = eqb (finish b arrival).report.upcall g; line = view g (finish b arrival).node }
    go true t =
        seen arrival (act-sound v (arrive h ws) e) g lo hi [] (joined g ws (view g n))
        (arrive_same n g ws ∙ ap (λ (x : ℕ). view g (queued (record { group = x; words = ws }) n)) (sym (eqb-true _ _ t)))
    go false t = unseen v arrival (act-sound v (arrive h ws) e) g lo hi (arrive-other n g m (eqb-false _ _ t))
accepted-agrees {b} {n} v preempt one e g lo hi =
    seen (act b n preempt) (act-sound v preempt e) g lo hi [] (with_has (eqb 0 g) (view g n)) (handed-view n 0 0 g)
accepted-agrees {b} {n} v (dispatch h) one e g lo hi =
    seen (act b n (dispatch h)) (act-sound v (dispatch h) e) g lo hi [] (with_has (eqb h g) (view g n)) (handed-view n h n.timer g)
accepted-agrees {b} {n} v (schedule h) one e g lo hi = absurd one
accepted-agrees {b} {n} v (tick k) one e g lo hi = unseen v (ticks b k (valued 0 n)) (act-sound v (tick k) e) g lo hi (tick-view v k g lo hi)
accepted-agrees {b} {n} v turn one e g lo hi = unseen v (act b n turn) (act-sound v turn e) g lo hi refl
accepted-agrees {b} {n} v (user q) one e g lo hi =
    let h : (1 ≤ n.running) × (refuse_request n q ≡ 0) = user-accepted n q e in
    request-accepted v q (act-sound v (user q) e) h.0 h.1 g lo hi
accepted-agrees {b} {n} v unknown one e g lo hi = suc-zero e

-- so a group is seen after it as its private line then stands
pub accepted-view : {b : Build} {n : Node} → Valid b n → (op : Operation) → OneAct op → refusal b n op ≡ 0 → (g : ℕ) → 1 ≤ g → g ≤ group_count
    → view g (finish b (act b n op)).node ≡ (hear g (view g n) (told g op true)).line
unfolding finish
accepted-view v op one taken g lo hi = sym (ap (λ (h : Heard). h.line) (accepted-agrees v op one taken g lo hi))

-- S, by the two acts.

-- to the one running: to be told who has the processor already is to hear nothing, since a running group with a line is atomic
still-agrees : {b : Build} {n : Node} → Valid b n → (g : ℕ) → 1 ≤ g → Agrees g n (schedule n.running) (record { report = all_zero; node = n })
unfolding told hear afterwards answer_to with_has view
still-agrees {b} {n} v g lo =
    let quiet : is_called (view g n) ≡ false = valid-quiet v g lo in
    let up : is_called (view g n) ≡ eqb 0 g = quiet ∙ sym (nobody g lo) in
    λ i. record { answers = []; upcall = up i; line = called-quiet (view g n) quiet i }

-- to another: a private line that has lost the processor hears next what it would have heard at once
lost-heard : (g : ℕ) (p : PrivateLine) (h : Bool) → hear g (hear g p (processor false)).line (processor h) ≡ hear g p (processor h)
unfolding hear afterwards called is_called with_has
lost-heard g p h = refl

switch-agrees : (g : ℕ) → 1 ≤ g → (b : Build) (n : Node) (h : ℕ) (e f : Effect) → Agrees g n preempt (finish b e)
    → Agrees g (finish b e).node (dispatch h) (finish b f) → Agrees g n (schedule h) (in_arow (finish b e) (finish b f))
unfolding told finish in_arow answer_to
switch-agrees g lo b n h e f took gave =
    let gone : hear g (view g n) (processor false) ≡ heard_as g n preempt (finish b e).report (finish b e).node =
    ap (λ (t : Bool). hear g (view g n) (processor t)) (sym (nobody g lo)) ∙ took in
    sym (lost-heard g (view g n) (eqb h g)) ∙ ap (λ (x : Heard). hear g x.line (processor (eqb h g))) gone ∙ gave

-- what a step shows and leaves of a group is what its private line makes of what it is told
pub step-agrees : {b : Build} {n : Node} → Valid b n → (op : Operation) (g : ℕ) → 1 ≤ g → g ≤ group_count → Agrees g n op (step b n op)
unfolding told answer_to
step-agrees {b} v op g lo hi =
    step-law (Agrees g)
    (record {
      refuses = λ n v op r e. refused-agrees b n op r e g lo;
      acts = λ n v op one e. accepted-agrees v op one e g lo hi;
      still = λ n v. still-agrees v g lo;
      takes = λ n v runs took. took;
      switches = λ n v h other some high took gave. switch-agrees g lo b n h _ _ took gave;
    })
    v op
