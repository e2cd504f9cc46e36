-- The table of what an operation may touch holds, and what follows from it by name. Which operations name a part is read off the table; in which
-- direction a flag goes, off what B, N and T leave and what a private line keeps. Assumes nothing.
use Prim.Native.Nat.{ℕ, ◌≤◌}
use mathlib.Core.Bool.{Bool, true, false, true≢false, false≢true, ◌&&◌}
use mathlib.Core.List.Memᴰ
use mathlib.Core.List.{List, [], ◌∷◌, ◌++◌}
use mathlib.Core.Logic.{◌≢◌, ◌⊎◌, inl, inr}
use mathlib.Core.Path.{◌≡◌, refl, sym, ap, ◌∙◌, subst}
use native.Mathlib.Decide.{ℕ_discrete}
use lib.Dec.{eqb}
use lib.ListN.{drop}
use borrow.Author.Tests.{eqb-true, ne_eqb}
use Rattle.rules.specs.Lists.{Every, all}
use Rattle.rules.specs.Build.{Build, group_count}
use Rattle.rules.specs.Node.{Group, Node, group_of, with_group, line, waiting, in_buffer, in_queue}
use Rattle.rules.specs.Operation.{Request, poll, peek, dispose, begin_atomic, end_atomic, describe, launch, Operation, arrive, schedule, preempt, dispatch, tick, turn, user, unknown, Report, accepted, no_trap, timeout_trap}
use Rattle.rules.specs.Refusal.{refusal}
use Rattle.rules.specs.Settling.{settle, upcall}
use Rattle.rules.specs.Step.{Effect, Stepped, valued, timer_flagged, timed_out, flagged, section_begun, section_ended, extending, serve, act, finish, in_arow, step}
use Rattle.rules.specs.Valid.{Valid}
use Rattle.rules.specs.Dumps.{Agree}
use Rattle.rules.specs.Private.{PrivateLine, Heard, told, hear, Told, request, refuses}
use Rattle.rules.specs.Touches.{GroupPart, running, timer, queue, atomic, pending, force, revoked, used, count, places, pages, descriptor, group_part, Row, when, runs, is_moved, filling, preempt_row, dispatch_row, request_row, row_of, ByName, Touches, Touched, NodePart, out, part, untouched, free, swap, entered, brought, GroupKind}
use Rattle.rules.proofs.Steps.LineLaws.{stays, either}
use Rattle.rules.proofs.Steps.TickLaws.{timed, Ticked, idle, counting, timeout, ticked-by}
use Rattle.rules.proofs.Steps.ActLaws.{user-accepted, dispatched}
use Rattle.rules.proofs.Steps.StepLaws.{OneAct, step-accepted, step-cases, performed-answer, step-answer, step-law}
use Rattle.rules.proofs.Steps.QuietLaws.{begun-quiet}
use Rattle.rules.proofs.Private.ViewLaws.{view}
use Rattle.rules.proofs.Private.HeardLaws.{heard_as, step-agrees}
use Rattle.rules.proofs.Private.RequestLaws.{suc-zero}
use Rattle.rules.proofs.Demands.DumpsLaws.{dumps}
use Rattle.rules.proofs.Touches.PartLaws.{node_number, group_number, among, Kept, inside-none, join-none, when-none, kept-touched}
use Rattle.rules.proofs.Touches.TouchLaws.{Grouped, Rows, finish-touched, grouped}
use Rattle.rules.proofs.Touches.SectionRows.{begin-row, begun-keeps, begun-leaves, describe-row, end_row, ended-force, ended-revoked, launch-row, peek-row, poll-row, quiet-left, turn-row}
use Rattle.rules.proofs.Touches.QueueRows.{arrive-row, late, late-queue, late-revoked, tick-row}
use Rattle.rules.proofs.Touches.SwitchRows.{preempt-row, dispatch-row, still-row, takes-row, switches-row}
use Rattle.rules.proofs.Touches.DisposeRow.{dispose-row}
use Rattle.rules.proofs.Private.FlagLaws.{heard-atomic, heard-pending, heard-called}

-- Every operation.

request-row : {b : Build} {n : Node} → Valid b n → (q : Request) → refusal b n (user q) ≡ 0 → Rows b n (user q) (serve b n q)
unfolding refusal
request-row {b} {n} v poll taken = poll-row v
request-row {b} {n} v (peek i) taken = peek-row v i
request-row {b} {n} v dispose taken = dispose-row v taken
request-row {b} {n} v (begin_atomic f) taken = begin-row v f (user-accepted n (begin_atomic f) taken).0
request-row {b} {n} v end_atomic taken = end_row v (user-accepted n end_atomic taken).0
request-row {b} {n} v (describe w) taken = describe-row v w (user-accepted n (describe w) taken).0
request-row {b} {n} v (launch k) taken = launch-row v k (user-accepted n (launch k) taken).0

accepted-row : {b : Build} {n : Node} → Valid b n → (op : Operation) → OneAct op → refusal b n op ≡ 0 → Rows b n op (act b n op)
accepted-row v (arrive h ws) one taken = arrive-row v h ws taken
accepted-row v preempt one taken = preempt-row v
accepted-row {n = n} v (dispatch h) one taken = unfold refusal in dispatch-row v h (dispatched n h taken).nobody
accepted-row v (schedule h) one taken = absurd one
accepted-row v (tick k) one taken = tick-row v k taken
accepted-row v turn one taken = turn-row v
accepted-row v (user q) one taken = unfold act in request-row v q taken
accepted-row v unknown one taken = unfold refusal in suc-zero taken

-- so every accepted step has its row
step_row : {b : Build} {n : Node} → Valid b n → (op : Operation) → (step b n op).report.answer ≡ accepted
    → Kept (row_of n op (step b n op).report) (step b n op).node n
unfolding finish in_arow
step_row {b} v op =
    step-law Goal
    (record {
      refuses = λ n v op r refuses yes'. suc-zero yes';
      acts = λ n v op one taken yes'. accepted-row v op one taken;
      still = λ n v yes'. still-row n;
      takes = λ n v runs' took yes'. takes-row n runs' _ (took yes');
      switches = λ n v g other some high took gave yes'. switches-row v g other (took refl) (gave refl);
    })
    v op
  where
    Goal : Node → Operation → Stepped → Type 0
    Goal n op s = s.report.answer ≡ accepted → Kept (row_of n op s.report) s.node n

-- The table names these parts for few operations.

-- of the node: running, by O, I and S
abbrev ByRunning : Operation → Type 0
ByRunning op = (op ≡ preempt) ⊎ (((h : ℕ) × (op ≡ dispatch h)) ⊎ ((h : ℕ) × (op ≡ schedule h)))

running-named : (n : Node) (op : Operation) (r : Report) → (among node_number running (row_of n op r).node ≡ false) ⊎ ByRunning op
unfolding row_of request_row
running-named n (arrive h ws) r = inl (either (λ (t : Row). among node_number running t.node ≡ false) (eqb r.moved 0) _ _ refl refl)
running-named n preempt r = inr (inl refl)
running-named n (dispatch h) r = inr (inr (inl (h, refl)))
running-named n (schedule h) r = inr (inr (inr (h, refl)))
running-named n (tick k) r = inl (either (λ (t : Row). among node_number running t.node ≡ false) (eqb r.trap no_trap) _ _ refl refl)
running-named n turn r = inl refl
running-named n (user poll) r = inl refl
running-named n (user (peek i)) r = inl refl
running-named n (user dispose) r = inl (either (λ (t : Row). among node_number running t.node ≡ false) (eqb r.trap no_trap) _ _ refl refl)
running-named n (user (begin_atomic f)) r = inl refl
running-named n (user end_atomic) r = inl refl
running-named n (user (describe w)) r = inl refl
running-named n (user (launch k)) r = inl refl
running-named n unknown r = inl refl

-- and the timer, by A
timer-none : (n : Node) (h : ℕ) (ws : List ℕ) (r : Report) → among node_number timer (row_of n (arrive h ws) r).node ≡ false
unfolding row_of
timer-none n h ws r = either (λ (t : Row). among node_number timer t.node ≡ false) (eqb r.moved 0) _ _ refl refl

-- of a group: what moving messages, an upcall and this list do not touch
module _ (p : GroupPart) (unfilled : among group_number p (pages ∷ count ∷ places ∷ []) ≡ false) (uncalled : among group_number p (atomic ∷ pending ∷ []) ≡ false)
    (n : Node) (r : Report) (g : ℕ) where
  abbrev Unnamed : Row → Type 0
  Unnamed t = among group_number p (t.group g) ≡ false

  filling-none : (t : Bool) → among group_number p (filling t) ≡ false
  filling-none true = unfilled
  filling-none false = inside-none group_number p (pages ∷ []) (pages ∷ count ∷ places ∷ []) refl unfilled

  moving-none : (t u : Bool) (ps : List GroupPart) → among group_number p ps ≡ false → among group_number p (filling t ++ when u ps) ≡ false
  moving-none t u ps none = join-none group_number p (filling t) (when u ps) (filling-none t) (when-none p ps none u)

  arrive_none : (h : ℕ) (ws : List ℕ) → Unnamed (row_of n (arrive h ws) r)
  unfolding row_of
  arrive_none h ws = either Unnamed (eqb r.moved 0) _ _ (when-none p (atomic ∷ pending ∷ []) uncalled (eqb h g && runs n g)) (filling-none (eqb h g))

  preempt-none : Unnamed (preempt_row n r)
  preempt-none = either Unnamed (eqb n.running 0) _ _ refl (filling-none (is_moved g r.moved n.queue))

  dispatch-none : (h : ℕ) → Unnamed (dispatch_row h)
  dispatch-none h = join-none group_number p (pages ∷ []) (when (eqb h g) (atomic ∷ pending ∷ [])) (filling-none false) (when-none p (atomic ∷ pending ∷ []) uncalled (eqb h g))

  schedule-none : (h : ℕ) → Unnamed (row_of n (schedule h) r)
  unfolding row_of
  schedule-none h =
      either Unnamed (eqb h n.running) _ _ refl
      (join-none group_number p ((preempt_row n r).group g) ((dispatch_row h).group g) preempt-none (dispatch-none h))

  tick-none : (k : ℕ) → among group_number p (revoked ∷ []) ≡ false → Unnamed (row_of n (tick k) r)
  unfolding row_of
  tick-none k none = either Unnamed (eqb r.trap no_trap) _ _ refl (moving-none (is_moved g r.moved n.queue) (runs n g) (revoked ∷ []) none)

  dispose-none : among group_number p (pending ∷ used ∷ count ∷ places ∷ pages ∷ []) ≡ false → Unnamed (row_of n (user dispose) r)
  unfolding row_of request_row
  dispose-none none =
      either Unnamed (eqb r.trap no_trap) _ _
      (moving-none (is_moved g r.moved (drop 1 n.queue)) (runs n g) (pending ∷ []) (inside-none group_number p (pending ∷ []) (pending ∷ used ∷ count ∷ places ∷ pages ∷ []) refl none))
      (when-none p (pending ∷ used ∷ count ∷ places ∷ pages ∷ []) none (runs n g))

-- What the rest of a step leaves of a group.

finish-kept : (b : Build) (e : Effect) → Every Grouped e.node.queue → (p : GroupPart) → among group_number p (pages ∷ count ∷ places ∷ []) ≡ false
    → among group_number p (atomic ∷ pending ∷ []) ≡ false → (g : ℕ) → 1 ≤ g → g ≤ group_count
    → group_part p (group_of (finish b e).node g) ≡ group_part p (group_of e.node g)
finish-kept b e all p unfilled uncalled g low high =
    (finish-touched b e all).group g low high p
    (moving-none p unfilled uncalled e.node (finish b e).report g (is_moved g (settle b e.node).moved e.node.queue) (runs e.node g) (atomic ∷ pending ∷ []) uncalled)

-- Which operations name a part for a reason of their own, beside messages moved and the upcall.

special : Operation → List GroupPart
special (arrive h ws) = []
special preempt = []
special (dispatch h) = []
special (schedule h) = []
special (tick k) = revoked ∷ []
special turn = []
special (user poll) = []
special (user (peek i)) = []
special (user dispose) = pending ∷ used ∷ count ∷ places ∷ pages ∷ []
special (user (begin_atomic f)) = atomic ∷ force ∷ []
special (user end_atomic) = atomic ∷ pending ∷ force ∷ revoked ∷ []
special (user (describe w)) = descriptor ∷ []
special (user (launch k)) = descriptor ∷ []
special unknown = []

module _ (p : GroupPart) (unfilled : among group_number p (pages ∷ count ∷ places ∷ []) ≡ false) (uncalled : among group_number p (atomic ∷ pending ∷ []) ≡ false) where
  special-none : (n : Node) (op : Operation) (r : Report) (g : ℕ) → among group_number p (special op) ≡ false → among group_number p ((row_of n op r).group g) ≡ false
  unfolding row_of request_row special
  special-none n (arrive h ws) r g none = arrive_none p unfilled uncalled n r g h ws
  special-none n preempt r g none = preempt-none p unfilled uncalled n r g
  special-none n (dispatch h) r g none = dispatch-none p unfilled uncalled n r g h
  special-none n (schedule h) r g none = schedule-none p unfilled uncalled n r g h
  special-none n (tick k) r g none = tick-none p unfilled uncalled n r g k none
  special-none n turn r g none = refl
  special-none n (user poll) r g none = refl
  special-none n (user (peek i)) r g none = refl
  special-none n (user dispose) r g none = dispose-none p unfilled uncalled n r g none
  special-none n (user (begin_atomic f)) r g none = when-none p (atomic ∷ force ∷ []) none (runs n g)
  special-none n (user end_atomic) r g none = when-none p (atomic ∷ pending ∷ force ∷ revoked ∷ []) none (runs n g)
  special-none n (user (describe w)) r g none = when-none p (descriptor ∷ []) none (runs n g)
  special-none n (user (launch k)) r g none = when-none p (descriptor ∷ []) none (runs n g)
  special-none n unknown r g none = refl

special-used : (op : Operation) → among group_number used (special op) ≡ true → op ≡ user dispose
unfolding special
special-used (arrive h ws) e = absurd (false≢true e)
special-used preempt e = absurd (false≢true e)
special-used (dispatch h) e = absurd (false≢true e)
special-used (schedule h) e = absurd (false≢true e)
special-used (tick k) e = absurd (false≢true e)
special-used turn e = absurd (false≢true e)
special-used (user poll) e = absurd (false≢true e)
special-used (user (peek i)) e = absurd (false≢true e)
special-used (user dispose) e = refl
special-used (user (begin_atomic f)) e = absurd (false≢true e)
special-used (user end_atomic) e = absurd (false≢true e)
special-used (user (describe w)) e = absurd (false≢true e)
special-used (user (launch k)) e = absurd (false≢true e)
special-used unknown e = absurd (false≢true e)

special-descriptor : (op : Operation) → among group_number descriptor (special op) ≡ true
    → ((w : ℕ) × (op ≡ user (describe w))) ⊎ ((d : ℕ) × (op ≡ user (launch d)))
unfolding special
special-descriptor (arrive h ws) e = absurd (false≢true e)
special-descriptor preempt e = absurd (false≢true e)
special-descriptor (dispatch h) e = absurd (false≢true e)
special-descriptor (schedule h) e = absurd (false≢true e)
special-descriptor (tick k) e = absurd (false≢true e)
special-descriptor turn e = absurd (false≢true e)
special-descriptor (user poll) e = absurd (false≢true e)
special-descriptor (user (peek i)) e = absurd (false≢true e)
special-descriptor (user dispose) e = absurd (false≢true e)
special-descriptor (user (begin_atomic f)) e = absurd (false≢true e)
special-descriptor (user end_atomic) e = absurd (false≢true e)
special-descriptor (user (describe w)) e = inl (w, refl)
special-descriptor (user (launch k)) e = inr (k, refl)
special-descriptor unknown e = absurd (false≢true e)

-- B and N name force
data ByForce : Operation → Type 0 where
  by-begin : (f : Bool) → ByForce (user (begin_atomic f))
  by_end : ByForce (user end_atomic)

force-act : {op : Operation} → ByForce op → OneAct op
force-act (by-begin f) = tt
force-act by_end = tt

special-force : (op : Operation) → among group_number force (special op) ≡ true → ByForce op
unfolding special
special-force (arrive h ws) e = absurd (false≢true e)
special-force preempt e = absurd (false≢true e)
special-force (dispatch h) e = absurd (false≢true e)
special-force (schedule h) e = absurd (false≢true e)
special-force (tick k) e = absurd (false≢true e)
special-force turn e = absurd (false≢true e)
special-force (user poll) e = absurd (false≢true e)
special-force (user (peek i)) e = absurd (false≢true e)
special-force (user dispose) e = absurd (false≢true e)
special-force (user (begin_atomic f)) e = by-begin f
special-force (user end_atomic) e = by_end
special-force (user (describe w)) e = absurd (false≢true e)
special-force (user (launch k)) e = absurd (false≢true e)
special-force unknown e = absurd (false≢true e)

-- T and N name revoked
data ByRevoked : Operation → Type 0 where
  by-tick : (k : ℕ) → ByRevoked (tick k)
  by_end : ByRevoked (user end_atomic)

revoked-act : {op : Operation} → ByRevoked op → OneAct op
revoked-act (by-tick k) = tt
revoked-act by_end = tt

special-revoked : (op : Operation) → among group_number revoked (special op) ≡ true → ByRevoked op
unfolding special
special-revoked (arrive h ws) e = absurd (false≢true e)
special-revoked preempt e = absurd (false≢true e)
special-revoked (dispatch h) e = absurd (false≢true e)
special-revoked (schedule h) e = absurd (false≢true e)
special-revoked (tick k) e = by-tick k
special-revoked turn e = absurd (false≢true e)
special-revoked (user poll) e = absurd (false≢true e)
special-revoked (user (peek i)) e = absurd (false≢true e)
special-revoked (user dispose) e = absurd (false≢true e)
special-revoked (user (begin_atomic f)) e = absurd (false≢true e)
special-revoked (user end_atomic) e = by_end
special-revoked (user (describe w)) e = absurd (false≢true e)
special-revoked (user (launch k)) e = absurd (false≢true e)
special-revoked unknown e = absurd (false≢true e)

-- One step, and one group.

-- an operation that a group hears as a request is that request
told-request : (g : ℕ) (op : Operation) (q : Request) → told g op true ≡ request q → op ≡ user q
unfolding told
told-request g (arrive h ws) q = either (λ (t : Told). t ≡ request q → arrive h ws ≡ user q) (true && eqb h g) _ _ (λ e. cc) (λ e. cc)
told-request g preempt q = λ e. cc
told-request g (dispatch h) q = λ e. cc
told-request g (schedule h) q = λ e. cc
told-request g (tick k) q = λ e. cc
told-request g turn q = λ e. cc
told-request g (user r) q = λ e. cc
told-request g unknown q = λ e. cc

module _ {b : Build} {n : Node} (v : Valid b n) (op : Operation) (taken : refusal b n op ≡ 0) (g : ℕ) (low : 1 ≤ g) (high : g ≤ group_count) where
  abbrev s : Stepped
  s = step b n op

  abbrev r : Report
  r = s.report

  abbrev before : Group
  before = group_of n g

  abbrev after : Group
  after = group_of s.node g

  answered : r.answer ≡ accepted
  answered = step-answer b n op ∙ taken

  touched : Kept (row_of n op r) s.node n
  touched = step_row v op answered

  -- what the group's private line makes of the step
  agrees : hear g (view g n) (told g op true) ≡ heard_as g n op r s.node
  agrees = ap (λ (a : ℕ). hear g (view g n) (told g op (eqb a accepted))) (sym answered) ∙ step-agrees v op g low high

  heard : (hear g (view g n) (told g op true)).line ≡ view g s.node
  heard = ap (λ (h : Heard). h.line) agrees

  named : (hear g (view g n) (told g op true)).upcall ≡ eqb r.upcall g
  named = ap (λ (h : Heard). h.upcall) agrees

  atomic-turned-off : before.atomic ≡ true → after.atomic ≡ false → op ≡ user end_atomic
  unfolding view
  atomic-turned-off on off = go (heard-atomic g (view g n) (told g op true) on)
    where
      go : ((hear g (view g n) (told g op true)).line.atomic ≡ true) ⊎ (told g op true ≡ request end_atomic) → op ≡ user end_atomic
      go (inl stays) = absurd (true≢false (sym stays ∙ ap (λ (p : PrivateLine). p.atomic) heard ∙ off))
      go (inr e) = told-request g op end_atomic e

  pending-turned-off : before.pending ≡ true → after.pending ≡ false → op ≡ user dispose
  unfolding view
  pending-turned-off on off = go (heard-pending g (view g n) (told g op true) on)
    where
      go : ((hear g (view g n) (told g op true)).line.pending ≡ true) ⊎ (told g op true ≡ request dispose) → op ≡ user dispose
      go (inl stays) = absurd (true≢false (sym stays ∙ ap (λ (p : PrivateLine). p.pending) heard ∙ off))
      go (inr e) = told-request g op dispose e

  pending-called : before.pending ≡ false → after.pending ≡ true → r.upcall ≡ g
  unfolding view
  pending-called off on =
      eqb-true r.upcall g (sym named ∙ heard-called g (view g n) (told g op true) off (ap (λ (p : PrivateLine). p.pending) heard ∙ on))

  -- a part that is other after the step is named by the operation itself
  changed : (p : GroupPart) → among group_number p (pages ∷ count ∷ places ∷ []) ≡ false → among group_number p (atomic ∷ pending ∷ []) ≡ false
      → group_part p after ≢ group_part p before → among group_number p (special op) ≡ true
  changed p unfilled uncalled other = go (among group_number p (special op)) refl
    where
      go : (t : Bool) → among group_number p (special op) ≡ t → t ≡ true
      go true e = refl
      go false e = absurd (other (touched.group g low high p (special-none p unfilled uncalled n op r g e)))

-- a test that fails passes, or the other way round
off-on : {t u : Bool} → u ≡ false → t ≡ true → t ≢ u
off-on off on same = false≢true (sym off ∙ sym same ∙ on)

on-off : {t u : Bool} → u ≡ true → t ≡ false → t ≢ u
on-off on off same = true≢false (sym on ∙ sym same ∙ off)

-- B and N, and what they do to force and revoked.

module _ {b : Build} {n : Node} (v : Valid b n) where
  -- the node that B leaves
  begin-left : (f : Bool) → (finish b (act b n (user (begin_atomic f)))).node ≡ section_begun f n
  unfolding act serve valued
  begin-left f = quiet-left (serve b n (begin_atomic f)) (begun-quiet v f)

  -- after N the flag is off with the running group, and with every other as it was
  end-off : (p : GroupPart) → among group_number p (pages ∷ count ∷ places ∷ []) ≡ false → among group_number p (atomic ∷ pending ∷ []) ≡ false
      → (taken : refusal b n (user end_atomic) ≡ 0) → (g : ℕ) → 1 ≤ g → g ≤ group_count → n.running ≢ g
      → group_part p (group_of (finish b (act b n (user end_atomic))).node g) ≡ group_part p (group_of n g)
  unfolding row_of request_row
  end-off p unfilled uncalled taken g low high other =
      (accepted-row v (user end_atomic) tt taken).group g low high p
      (ap (λ (t : Bool). among group_number p (when t (atomic ∷ pending ∷ force ∷ revoked ∷ []))) (ne_eqb n.running g other))

  ended-queue : Every Grouped (section_ended n).queue
  unfolding section_ended flagged timer_flagged with_group
  ended-queue = grouped v

  end_kept : (p : GroupPart) → among group_number p (pages ∷ count ∷ places ∷ []) ≡ false → among group_number p (atomic ∷ pending ∷ []) ≡ false
      → 1 ≤ n.running
      → group_part p (group_of (finish b (act b n (user end_atomic))).node n.running) ≡ group_part p (group_of (section_ended n) n.running)
  unfolding act serve extending
  end_kept p unfilled uncalled low = finish-kept b (serve b n end_atomic) ended-queue p unfilled uncalled n.running low v.running-bound

  -- so a flag that N turns off is on with none that had it off
  end-turns : (p : GroupPart) → among group_number p (pages ∷ count ∷ places ∷ []) ≡ false → among group_number p (atomic ∷ pending ∷ []) ≡ false
      → (off : GroupKind p) → (1 ≤ n.running → group_part p (group_of (section_ended n) n.running) ≡ off)
      → refusal b n (user end_atomic) ≡ 0 → (g : ℕ) → 1 ≤ g → g ≤ group_count → group_part p (group_of n g) ≡ off
      → group_part p (group_of (finish b (act b n (user end_atomic))).node g) ≡ off
  end-turns p unfilled uncalled off ended taken g low high before = go (ℕ_discrete n.running g)
    where
      after : ℕ → GroupKind p
      after x = group_part p (group_of (finish b (act b n (user end_atomic))).node x)

      go : Dec (n.running ≡ g) → after g ≡ off
      go (yes mine) = subst (λ (x : ℕ). after x ≡ off) mine (end_kept p unfilled uncalled (rw mine low) ∙ ended (rw mine low))
      go (no other) = end-off p unfilled uncalled taken g low high other ∙ before

  -- B turns force off for none
  begin-keeps : (f : Bool) → refusal b n (user (begin_atomic f)) ≡ 0 → (g : ℕ) → 1 ≤ g → g ≤ group_count → (group_of n g).force ≡ true
      → (group_of (finish b (act b n (user (begin_atomic f)))).node g).force ≡ true
  unfolding row_of request_row
  begin-keeps f taken g low high on = go (ℕ_discrete n.running g)
    where
      go : Dec (n.running ≡ g) → (group_of (finish b (act b n (user (begin_atomic f)))).node g).force ≡ true
      go (yes mine) =
          ap (λ (k : Node). (group_of k g).force) (begin-left f)
          ∙ subst (λ (x : ℕ). (group_of n x).force ≡ true → (group_of (section_begun f n) x).force ≡ true) mine (begun-keeps n (rw mine low) v f) on
      go (no other) =
          (accepted-row v (user (begin_atomic f)) tt taken).group g low high force
          (ap (λ (t : Bool). among group_number force (when t (atomic ∷ force ∷ []))) (ne_eqb n.running g other))
          ∙ on

-- T and revoked.

module _ {b : Build} {n : Node} (v : Valid b n) (k : ℕ) (taken : refusal b n (tick k) ≡ 0) (g : ℕ) (low : 1 ≤ g) (high : g ≤ group_count) where
  abbrev ticked : Stepped
  ticked = finish b (act b n (tick k))

  -- without a trap, or with another group running, revoked is as it was
  untrapped : ticked.report.trap ≡ no_trap → (group_of ticked.node g).revoked ≡ (group_of n g).revoked
  unfolding row_of
  untrapped none = (accepted-row v (tick k) tt taken).group g low high revoked (rw none refl)

  another : n.running ≢ g → (group_of ticked.node g).revoked ≡ (group_of n g).revoked
  unfolding row_of
  another other =
      (accepted-row v (tick k) tt taken).group g low high revoked
      (either (λ (t : Row). among group_number revoked (t.group g) ≡ false) (eqb ticked.report.trap no_trap) _ _ refl
      (join-none group_number revoked (filling (is_moved g ticked.report.moved n.queue)) (when (runs n g) (revoked ∷ []))
      (filling-none revoked refl refl n ticked.report g (is_moved g ticked.report.moved n.queue))
      (ap (λ (t : Bool). among group_number revoked (when t (revoked ∷ []))) (ne_eqb n.running g other))))

  -- the trap is that of a timeout, where the flag is other
  tick-trap : (group_of ticked.node g).revoked ≢ (group_of n g).revoked → ticked.report.trap ≡ timeout_trap
  unfolding act finish valued timed timed_out
  tick-trap other = go (ticked-by v k)
    where
      go : Ticked b k n → ticked.report.trap ≡ timeout_trap
      go (idle rests e) = absurd (other (untrapped (ap (λ (x : Effect). x.trap) e)))
      go (counting runs' below e) = absurd (other (untrapped (ap (λ (x : Effect). x.trap) e)))
      go (timeout runs' e) = ap (λ (x : Effect). x.trap) e

  -- a group that is revoked stays so
  tick-keeps : (group_of n g).revoked ≡ true → (group_of ticked.node g).revoked ≡ true
  unfolding act finish valued
  tick-keeps on = go (ℕ_discrete n.running g) (ticked-by v k)
    where
      own : n.running ≡ g → (group_of (finish b (late v k)).node g).revoked ≡ true
      own mine =
          finish-kept b (late v k) (rw (late-queue v k) tt) revoked refl refl g low high
          ∙ subst (λ (x : ℕ). (group_of (late v k).node x).revoked ≡ true) mine (late-revoked v k)

      go : Dec (n.running ≡ g) → Ticked b k n → (group_of ticked.node g).revoked ≡ true
      go (no other) t = another other ∙ on
      go (yes mine) (idle rests e) = untrapped (ap (λ (x : Effect). x.trap) e) ∙ on
      go (yes mine) (counting runs' below e) = untrapped (ap (λ (x : Effect). x.trap) e) ∙ on
      go (yes mine) (timeout runs' e) = subst (λ (x : Effect). (group_of (finish b x).node g).revoked ≡ true) (sym e) (own mine)

-- The flags force and revoked by the operations that name them.

module _ {b : Build} {n : Node} (v : Valid b n) (g : ℕ) (low : 1 ≤ g) (high : g ≤ group_count) where
  force-turned-on : {op : Operation} → ByForce op → refusal b n op ≡ 0 → (group_of n g).force ≡ false
      → (group_of (finish b (act b n op)).node g).force ≡ true → op ≡ user (begin_atomic true)
  unfolding refusal
  force-turned-on (by-begin true) taken off on = refl
  force-turned-on (by-begin false) taken off on =
      let l = (user-accepted n (begin_atomic false) taken).0 in
      absurd (off-on off on (ap (λ (k : Node). (group_of k g).force) (begin-left v false) ∙ begun-leaves n l g))
  force-turned-on by_end taken off on = absurd (false≢true (sym (end-turns v force refl refl false (ended-force v) taken g low high off) ∙ on))

  force-turned-off : {op : Operation} → ByForce op → refusal b n op ≡ 0 → (group_of n g).force ≡ true
      → (group_of (finish b (act b n op)).node g).force ≡ false → op ≡ user end_atomic
  force-turned-off (by-begin f) taken on off = absurd (true≢false (sym (begin-keeps v f taken g low high on) ∙ off))
  force-turned-off by_end taken on off = refl

  revoked-turned-on : {op : Operation} → ByRevoked op → refusal b n op ≡ 0 → (group_of n g).revoked ≡ false
      → (group_of (finish b (act b n op)).node g).revoked ≡ true
      → ((t : ℕ) × (op ≡ tick t)) × ((finish b (act b n op)).report.trap ≡ timeout_trap)
  revoked-turned-on (by-tick k) taken off on = ((k, refl), tick-trap v k taken g low high (off-on off on))
  revoked-turned-on by_end taken off on = absurd (false≢true (sym (end-turns v revoked refl refl false (ended-revoked v) taken g low high off) ∙ on))

  revoked-turned-off : {op : Operation} → ByRevoked op → refusal b n op ≡ 0 → (group_of n g).revoked ≡ true
      → (group_of (finish b (act b n op)).node g).revoked ≡ false → op ≡ user end_atomic
  revoked-turned-off (by-tick k) taken on off = absurd (true≢false (sym (tick-keeps v k taken g low high on) ∙ off))
  revoked-turned-off by_end taken on off = refl

-- The facts by name.

named-facts : {b : Build} {n : Node} → Valid b n → (op : Operation) → refusal b n op ≡ 0 → (g : ℕ) → 1 ≤ g → g ≤ group_count
    → ByName n (step b n op).node op (step b n op).report g
named-facts {b} {n} v op taken g low high =
    record {
      running-by = λ other. handed other (running-named n op report);
      timer-left = λ h ws e. touches.node timer (subst (λ (o : Operation). among node_number timer (row_of n o report).node ≡ false) (sym e) (timer-none n h ws report));
      used-by = λ other. special-used op (changed v op taken g low high used refl refl other);
      descriptor-by = λ other. special-descriptor op (changed v op taken g low high descriptor refl refl other);
      force-on = λ off on.
          let by = special-force op (changed v op taken g low high force refl refl (off-on off on)) in
          force-turned-on v g low high by taken off (acted (force-act by) (λ G. G.force) ∙ on);
      force-off = λ on off.
          let by = special-force op (changed v op taken g low high force refl refl (on-off on off)) in
          force-turned-off v g low high by taken on (acted (force-act by) (λ G. G.force) ∙ off);
      revoked-on = λ off on.
          let by = special-revoked op (changed v op taken g low high revoked refl refl (off-on off on)) in
          let late = revoked-turned-on v g low high by taken off (acted (revoked-act by) (λ G. G.revoked) ∙ on) in
          (late.0, ap (λ (s : Stepped). s.report.trap) (step-accepted b n op (revoked-act by) taken) ∙ late.1);
      revoked-off = λ on off.
          let by = special-revoked op (changed v op taken g low high revoked refl refl (on-off on off)) in
          revoked-turned-off v g low high by taken on (acted (revoked-act by) (λ G. G.revoked) ∙ off);
      atomic-off = atomic-turned-off v op taken g low high;
      pending-off = pending-turned-off v op taken g low high;
      pending-on = pending-called v op taken g low high;
    }
  where
    report : Report
    report = (step b n op).report

    touches : Kept (row_of n op report) (step b n op).node n
    touches = touched v op taken g low high

    -- what one act and the rest leave of the group
    acted : OneAct op → (f : Group → Bool) → f (group_of (finish b (act b n op)).node g) ≡ f (group_of (step b n op).node g)
    acted one f = ap (λ (s : Stepped). f (group_of s.node g)) (sym (step-accepted b n op one taken))

    handed : (step b n op).node.running ≢ n.running → (among node_number running (row_of n op report).node ≡ false) ⊎ ByRunning op → ByRunning op
    handed other (inl none) = absurd (other (touches.node running none))
    handed other (inr e) = e

-- Nothing touched.

module _ (n k : Node) (h : Touched untouched k n) where
  -- two nodes with the same parts agree
  untouched-agrees : Agree k n
  unfolding line in_buffer in_queue waiting
  untouched-agrees =
      let of_node : (p : NodePart) → part p k ≡ part p n = λ p. h.node p Memᴰ.not-nil in
      let of-group : (g : ℕ) → 1 ≤ g → g ≤ group_count → (p : GroupPart) → group_part p (group_of k g) ≡ group_part p (group_of n g) =
      λ g low high p. h.group g low high p Memᴰ.not-nil in
      record {
        running = of_node running;
        timer = of_node timer;
        queue = of_node queue;
        free = of_node free;
        swap = of_node swap;
        entered = of_node entered;
        out = of_node out;
        brought = of_node brought;
        groups = λ g low high.
            let its = of-group g low high in
            record {
              atomic = its atomic;
              pending = its pending;
              force = its force;
              revoked = its revoked;
              used = its used;
              count = its count;
              pages = its pages;
              descriptor = its descriptor;
              messages = rw (its used, its count, its places, of_node queue) refl;
            };
      }

-- The statement.

pub touches : Touches
touches =
    record {
      accepted-step = λ b n v op yes'. kept-touched (step_row v op yes');
      by_name = λ b n v op yes'. named-facts v op (sym (step-answer b n op) ∙ yes');
      refused-step = λ b n op. step-cases b n op (λ s. s.report.answer ≢ accepted → s.node ≡ n) (λ taken no'. absurd (no' (performed-answer b n op)))
          (λ r refuses no'. refl);
      parts_all = λ b n k v w h. dumps.same-node b k n w v (untouched-agrees n k h);
    }
