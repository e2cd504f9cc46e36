-- The private line of a group as a view of the node: settling leaves it, and the upcall rule is the same on both sides. Assumes nothing.
use Prim.Native.Nat.{ℕ, pred, ◌≤◌}
use native.Mathlib.Omega.{arith}
use mathlib.Core.Path.{◌≡◌, refl, sym, ap, ◌∙◌, subst}
use mathlib.Core.Logic.{◌≢◌}
use mathlib.Core.Bool.{Bool, true, false, cond, not, ◌&&◌, ◌||◌, and-true, and-false}
use mathlib.Core.List.{List}
use borrow.Author.Tests.{eqb-true, eqb-false, eq-eqb, ne_eqb}
use lib.Dec.{eqb}
use lib.ListN.{length, length-set}
use Rattle.rules.specs.Lists.{is_empty}
use Rattle.rules.specs.Build.{Build, group_count}
use Rattle.rules.specs.Node.{with_timer, Group, Node, power_on, group_of, with_group, with_flags, with_timer_flags, with_descriptor, waiting, in_buffer, in_queue, line}
use Rattle.rules.specs.Settling.{settle, calls, upcall, upcall_group}
use Rattle.rules.specs.Step.{timer_flagged, flagged, section_begun, section_ended}
use Rattle.rules.specs.Private.{PrivateLine, at_first, with_atomic, is_called, called}
use Rattle.rules.specs.Valid.{Valid}
use Rattle.rules.specs.Sound.{Sound}
use Rattle.rules.proofs.Steps.SoundLaws.{SameFlags, flags-refl}
use Rattle.rules.proofs.Steps.NodeLaws.{group-same, group-other, kept, line_same, reflagged-line}
use Rattle.rules.proofs.Steps.StepLaws.{calls-group, power-on-group}
use Rattle.rules.proofs.Steps.PagingLaws.{Repaged, repaged-line}
use Rattle.rules.proofs.Steps.SettlingLaws.{upcall-cases, settle-line, settle-flags, settle-running}

-- what the private line of group g keeps, read off a node
unfoldable pub view : ℕ → Node → PrivateLine
view g n =
    record {
      has = eqb n.running g;
      atomic = (group_of n g).atomic;
      pending = (group_of n g).pending;
      messages = line n g;
      descriptor = (group_of n g).descriptor;
    }

-- two nodes with the same runner, the same flags and descriptor of g, and the same line of g look the same to g
pub view-same : (g : ℕ) (n k : Node) → n.running ≡ k.running → SameFlags (group_of n g) (group_of k g) → line n g ≡ line k g → view g n ≡ view g k
unfolding view
view-same g n k r f l =
    λ i.
    record {
      has = eqb (r i) g;
      atomic = f.atomic i;
      pending = f.pending i;
      messages = l i;
      descriptor = f.descriptor i;
    }

-- the timer is no part of the view
pub timer-view : (g t : ℕ) (n : Node) → view g (with_timer t n) ≡ view g n
unfolding view with_timer line in_buffer in_queue group_of
timer-view g t n = refl

-- settling is invisible
pub settle-view : {b : Build} {n : Node} → Sound b n → (g : ℕ) → 1 ≤ g → g ≤ group_count → view g (settle b n).node ≡ view g n
settle-view {b} {n} s g lo hi = view-same g (settle b n).node n (settle-running b n) (settle-flags b n g) (settle-line s g lo hi)

-- and so is paging
pub repaged-view : {n' n : Node} → Repaged n' n → (g : ℕ) → view g n' ≡ view g n
repaged-view {n'} {n} r g = view-same g n' n r.running (r.groups g).flags (repaged-line r g)

-- no group is number 0
pub nobody : (g : ℕ) → 1 ≤ g → eqb 0 g ≡ false
nobody g lo = ne_eqb 0 g (λ h. omega arith)

-- at power-on the private line is all off and empty
pub power-on-view : (b : Build) (g : ℕ) → 1 ≤ g → view g (power_on b) ≡ at_first
unfolding view at_first line in_buffer in_queue waiting
power-on-view b g lo = rw (power-on-group b g) (unfold power_on in rw (nobody g lo))

-- in a node no upcall is due
pub valid-quiet : {b : Build} {n : Node} → Valid b n → (g : ℕ) → 1 ≤ g → is_called (view g n) ≡ false
unfolding is_called view
valid-quiet {n = n} v g lo = go (eqb n.running g) refl
  where
    atomic-line : n.running ≡ g → (a e : Bool) → (group_of n g).atomic ≡ a → is_empty (line n g) ≡ e → (not a && not e) ≡ false
    atomic-line r true e p q = refl
    atomic-line r false true p q = refl
    atomic-line r false false p q =
        let t : (group_of n g).atomic ≡ true = subst (λ (x : ℕ). (group_of n x).atomic ≡ true) r (v.running-atomic (omega arith) (subst (λ (x : ℕ). is_empty (line n x) ≡ false) (sym r) q)) in
        cc

    go : (t : Bool) → eqb n.running g ≡ t → (t && (not (group_of n g).atomic && not (is_empty (line n g)))) ≡ false
    go false e = refl
    go true e = atomic-line (eqb-true _ _ e) (group_of n g).atomic (is_empty (line n g)) refl refl

-- an upcall that is due to the runner is due to its private line, and none is due to another's
called-runner : (n : Node) (g : ℕ) → 1 ≤ g → n.running ≡ g → is_called (view g n) ≡ calls n
unfolding calls is_called view
called-runner n g lo r =
    let due : ℕ → Bool = λ x. not (group_of n x).atomic && not (is_empty (line n x)) in
    let z : eqb n.running 0 ≡ false = ne_eqb n.running 0 (λ h. omega arith) in
    ap (λ (t : Bool). t && due g) (eq-eqb n.running g r)
    ∙ sym (ap (λ (t : Bool). not t && due n.running) z ∙ ap due r)

called-other : (n : Node) (g : ℕ) → eqb n.running g ≡ false → is_called (view g n) ≡ false
unfolding is_called view
called-other n g e = ap (λ (t : Bool). t && (not (group_of n g).atomic && not (is_empty (line n g)))) e

-- the report names g exactly where its private line has an upcall
pub upcall-named : (n : Node) (g : ℕ) → 1 ≤ g → eqb (upcall_group n) g ≡ is_called (view g n)
unfolding upcall_group
upcall-named n g lo = go (eqb n.running g) refl
  where
    named : (t : Bool) → eqb n.running g ≡ t → (c : Bool) → eqb (cond c n.running 0) g ≡ (c && t)
    named t e true = e
    named t e false = nobody g lo

    go : (t : Bool) → eqb n.running g ≡ t → eqb (cond (calls n) n.running 0) g ≡ is_called (view g n)
    go false e = named false e (calls n) ∙ and-false (calls n) ∙ sym (called-other n g e)
    go true e = named true e (calls n) ∙ and-true (calls n) ∙ sym (called-runner n g lo (eqb-true _ _ e))

-- a change of the runner's group is invisible to the others
pub regroup-other : (n : Node) (G : Group) (g : ℕ) → 1 ≤ n.running → 1 ≤ g → g ≢ n.running → view g (with_group n.running G n) ≡ view g n
unfolding with_group
regroup-other n G g run lo ne =
    let e : group_of (with_group n.running G n) g ≡ group_of n g = group-other n n.running g G run lo ne in
    view-same g (with_group n.running G n) n refl
    (subst (λ (G : Group). SameFlags G (group_of n g)) (sym e) flags-refl)
    (line_same n (with_group n.running G n) g (ap (λ (x : Group). x.buffer) e) refl)

-- to the runner it shows its flags and descriptor, and the same line where the buffer is the same
pub regroup-own : (n : Node) → length n.groups ≡ group_count → (G : Group) (g : ℕ) → n.running ≡ g → 1 ≤ g → g ≤ group_count
    → G.buffer ≡ (group_of n n.running).buffer
    → view g (with_group n.running G n)
    ≡ record { has = eqb n.running g; atomic = G.atomic; pending = G.pending; messages = line n g; descriptor = G.descriptor }
unfolding view with_group
regroup-own n len G g r lo hi v =
    let k : Node = with_group n.running G n in
    let e : group_of k g ≡ G = subst (λ (x : ℕ). group_of (with_group x G n) g ≡ G) (sym r) (group-same n g G (omega (arith, len))) in
    let l : line k g ≡ line n g = reflagged-line n n.running G v g in
    λ i.
    record {
      has = eqb n.running g;
      atomic = (e i).atomic;
      pending = (e i).pending;
      messages = l i;
      descriptor = (e i).descriptor;
    }

-- the runner's flags changed, as it sees them
pub flags-own : (n : Node) → length n.groups ≡ group_count → (a p : Bool) (g : ℕ) → n.running ≡ g → 1 ≤ g → g ≤ group_count
    → view g (with_group n.running (with_flags a p (group_of n n.running)) n)
    ≡ record { has = (view g n).has; atomic = a; pending = p; messages = (view g n).messages; descriptor = (view g n).descriptor }
unfolding view with_flags
flags-own n len a p g r lo hi =
    regroup-own n len (with_flags a p (group_of n n.running)) g r lo hi refl
    ∙ (λ i. record { has = eqb n.running g; atomic = a; pending = p; messages = line n g; descriptor = (group_of n (r i)).descriptor })

-- force and revoked are invisible to every group
pub timer-flags-view : (g : ℕ) (f r : Bool) (n : Node) → view g (timer_flagged f r n) ≡ view g n
unfolding view timer_flagged with_timer_flags with_group
timer-flags-view g f r n =
    let x = n.running in
    let G = with_timer_flags f r (group_of n x) in
    let atomic = kept (λ K. K.atomic) n x G refl g in
    let pending = kept (λ K. K.pending) n x G refl g in
    let descriptor = kept (λ K. K.descriptor) n x G refl g in
    let l : line (with_group x G n) g ≡ line n g = reflagged-line n x G refl g in
    λ i. record { has = eqb x g; atomic = atomic i; pending = pending i; messages = l i; descriptor = descriptor i }

-- so B and N show in atomic alone
pub begun-own : (n : Node) → length n.groups ≡ group_count → (force : Bool) → 1 ≤ n.running → n.running ≤ group_count
    → view n.running (section_begun force n) ≡ with_atomic true (view n.running n)
unfolding section_begun flagged with_atomic view
begun-own n len force lo hi =
    let G = group_of n n.running in
    timer-flags-view n.running (force || G.force) G.revoked (flagged true G.pending n)
    ∙ flags-own n len true G.pending n.running refl lo hi

pub ended-own : (n : Node) → length n.groups ≡ group_count → 1 ≤ n.running → n.running ≤ group_count
    → view n.running (section_ended n) ≡ with_atomic false (view n.running n)
unfolding section_ended flagged with_atomic timer_flagged with_group view
ended-own n len lo hi =
    let k = timer_flagged false false n in
    let p = (group_of n n.running).pending in
    let long : length k.groups ≡ group_count =
    length-set n.groups (pred n.running) (with_timer_flags false false (group_of n n.running)) ∙ len in
    flags-own k long false p n.running refl lo hi
    ∙ ap (λ (q : PrivateLine). record { has = q.has; atomic = false; pending = p; messages = q.messages; descriptor = q.descriptor })
    (timer-flags-view n.running false false n)

-- the runner's descriptor replaced, as it sees it
pub descriptor-own : (n : Node) → length n.groups ≡ group_count → (d : List ℕ) (g : ℕ) → n.running ≡ g → 1 ≤ g → g ≤ group_count
    → view g (with_group n.running (with_descriptor d (group_of n n.running)) n)
    ≡ record { has = (view g n).has; atomic = (view g n).atomic; pending = (view g n).pending; messages = (view g n).messages; descriptor = d }
unfolding view with_descriptor
descriptor-own n len d g r lo hi =
    regroup-own n len (with_descriptor d (group_of n n.running)) g r lo hi refl
    ∙ (λ i. record { has = eqb n.running g; atomic = (group_of n (r i)).atomic; pending = (group_of n (r i)).pending; messages = line n g; descriptor = d })

-- where none is due, an upcall changes nothing
pub called-quiet : (p : PrivateLine) → is_called p ≡ false → called p ≡ p
unfolding called
called-quiet p e = rw e

-- and where one is due, the flags go on
called-due : (p : PrivateLine) → is_called p ≡ true
    → called p ≡ record { has = p.has; atomic = true; pending = true; messages = p.messages; descriptor = p.descriptor }
unfolding called
called-due p e = rw e

-- so the upcall changes the node as it changes the private line
pub upcall-view : {b : Build} {n : Node} → Sound b n → (g : ℕ) → 1 ≤ g → g ≤ group_count → view g (upcall n) ≡ called (view g n)
upcall-view {n = n} s g lo hi = upcall-cases (λ k. view g k ≡ called (view g n)) n (λ c. due c (eqb n.running g) refl) (λ c. quiet c (eqb n.running g) refl)
  where
    other : eqb n.running g ≡ false → called (view g n) ≡ view g n
    other e = called-quiet (view g n) (called-other n g e)

    mine : eqb n.running g ≡ true → is_called (view g n) ≡ calls n
    mine e = called-runner n g lo (eqb-true _ _ e)

    due : calls n ≡ true → (t : Bool) → eqb n.running g ≡ t
        → view g (with_group n.running (with_flags true true (group_of n n.running)) n) ≡ called (view g n)
    due c false e =
        regroup-other n (with_flags true true (group_of n n.running)) g (calls-group n c) lo (λ h. eqb-false _ _ e (sym h)) ∙ sym (other e)
    due c true e = flags-own n s.group-count true true g (eqb-true _ _ e) lo hi ∙ sym (called-due (view g n) (mine e ∙ c))

    quiet : calls n ≡ false → (t : Bool) → eqb n.running g ≡ t → view g n ≡ called (view g n)
    quiet c false e = sym (other e)
    quiet c true e = sym (called-quiet (view g n) (mine e ∙ c))
