-- Two nodes that are alike but for where their pages are, and perhaps of different builds: a step reports the same of both, and leaves them alike.
-- What is alike is all that reports and steps look at: the runner, the timer, the queue, and of each group its flags, its descriptor, its counts
-- and its waiting messages. Assumes nothing.
use Prim.Native.Nat.{ℕ, suc, pred, ◌+◌, ◌≤◌, ◌<◌}
use mathlib.Core.Path.{◌≡◌, refl, sym, subst, ap, ◌∙◌}
use mathlib.Core.Bool.{Bool, true, false, true≢false, cond, not, ◌&&◌, ◌||◌}
use mathlib.Core.List.{List, [], ◌∷◌, ◌++◌}
use native.Mathlib.Decide.{ℕ_discrete}
use native.Mathlib.Omega.{arith}
use lib.Dec.{eqb, ltb}
use lib.ListN.{length}
use borrow.Author.Tests.{eq-eqb}
use Rattle.rules.specs.Lists.{is_empty}
use Rattle.rules.specs.Build.{Build, group_count}
use Rattle.rules.specs.Node.{Message, Place, Group, Node, group_of, with_running, with_timer, with_queue, with_group, buffer_holds, buffered, forced, timer_runs, place_of, waiting, in_buffer, in_queue, line}
use Rattle.rules.specs.Frames.{pledge, pledges}
use Rattle.rules.specs.Paging.{store}
use Rattle.rules.specs.Settling.{Moved, may_stay, pass, rest_timer, settle, drain, calls, upcall_group, one_more}
use Rattle.rules.specs.Sound.{Sound}
use Rattle.rules.specs.Unseen.{SameButFrames}
use Rattle.rules.proofs.Steps.SoundLaws.{SameFlags, flags-trans}
use Rattle.rules.proofs.Steps.NodeLaws.{group-same, group-other}
use Rattle.rules.proofs.Steps.PagingLaws.{Repaged, pages-waiting}
use Rattle.rules.proofs.Steps.StoreLaws.{head-good, store-sound, store-own, store_other, store-flags}
use Rattle.rules.proofs.Steps.SettlingLaws.{pass-running, store-running, queue-stored, timer-stored}

-- two groups
pub record AlikeGroup (G H : Group) : Type 0 where
  pub flags : SameFlags G H
  pub used : G.buffer.used ≡ H.buffer.used
  pub count : G.buffer.count ≡ H.buffer.count
  pub waits : waiting G.buffer ≡ waiting H.buffer

-- two nodes
pub record Alike (n k : Node) : Type 0 where
  pub running : n.running ≡ k.running
  pub timer : n.timer ≡ k.timer
  pub queue : n.queue ≡ k.queue
  pub groups : (g : ℕ) → 1 ≤ g → g ≤ group_count → AlikeGroup (group_of n g) (group_of k g)

-- flags the other way
pub flags-sym : {G H : Group} → SameFlags G H → SameFlags H G
flags-sym e =
    record {
      atomic = sym e.atomic;
      pending = sym e.pending;
      force = sym e.force;
      revoked = sym e.revoked;
      descriptor = sym e.descriptor;
    }

-- where pages are does not count
pub paged-alike : {n n' k k' : Node} → Repaged n' n → Repaged k' k → Alike n k → Alike n' k'
paged-alike r t a =
    record {
      running = r.running ∙ a.running ∙ sym t.running;
      timer = r.timer ∙ a.timer ∙ sym t.timer;
      queue = r.queue ∙ a.queue ∙ sym t.queue;
      groups = λ g low high.
          let e = a.groups g low high in
          let x = r.groups g in
          let y = t.groups g in
          record {
            flags = flags-trans x.flags (flags-trans e.flags (flags-sym y.flags));
            used = x.used ∙ e.used ∙ sym y.used;
            count = x.count ∙ e.count ∙ sym y.count;
            waits = pages-waiting x ∙ e.waits ∙ sym (pages-waiting y);
          };
    }

module _ {n k : Node} (a : Alike n k) where
  -- the same queue, timer or runner put in
  pub alike-queue : (q : List Message) → Alike (with_queue q n) (with_queue q k)
  unfolding with_queue group_of
  alike-queue q = record { running = a.running; timer = a.timer; queue = refl; groups = a.groups }

  pub alike-timer : (t : ℕ) → Alike (with_timer t n) (with_timer t k)
  unfolding with_timer group_of
  alike-timer t = record { running = a.running; timer = refl; queue = a.queue; groups = a.groups }

  pub alike-running : (r : ℕ) → Alike (with_running r n) (with_running r k)
  unfolding with_running group_of
  alike-running r = record { running = refl; timer = a.timer; queue = a.queue; groups = a.groups }

  -- groups that are alike put in
  pub alike-group : (g : ℕ) → 1 ≤ g → pred g < length n.groups → pred g < length k.groups → (G H : Group) → AlikeGroup G H
      → Alike (with_group g G n) (with_group g H k)
  unfolding with_group
  alike-group g low inside inside' G H e =
      record { running = a.running; timer = a.timer; queue = a.queue; groups = λ h low' high. go h low' high (ℕ_discrete h g) }
    where
      go : (h : ℕ) → 1 ≤ h → h ≤ group_count → Dec (h ≡ g) → AlikeGroup (group_of (with_group g G n) h) (group_of (with_group g H k) h)
      go h low' high (yes same) = rw (same, group-same n g G inside, group-same k g H inside') e
      go h low' high (no other) = rw (group-other n g h G low low' other, group-other k g h H low low' other) (a.groups h low' high)

  module _ (g : ℕ) (low : 1 ≤ g) (high : g ≤ group_count) where
    -- a group's line
    pub alike-line : line n g ≡ line k g
    unfolding line in_buffer in_queue
    alike-line = rw ((a.groups g low high).waits, a.queue)

    -- whether its buffer holds a message, and whether it is buffered
    pub alike-holds : buffer_holds n g ≡ buffer_holds k g
    unfolding buffer_holds
    alike-holds = ap (ltb 0) (a.groups g low high).count

    pub alike-buffered : buffered n g ≡ buffered k g
    unfolding buffered
    alike-buffered =
        ap (λ (t : Bool). t || (group_of n g).revoked) alike-holds ∙ ap (λ (t : Bool). buffer_holds k g || t) (a.groups g low high).flags.revoked

    -- its pledge
    alike-pledge : {b c : Build} → SameButFrames b c → pledge b n g ≡ pledge c k g
    unfolding pledge in_queue
    alike-pledge same = let e = a.groups g low high in rw (e.used, e.count, a.queue, same.per_frame)

  -- the sum of all pledges
  pub alike-pledges : {b c : Build} → SameButFrames b c → pledges b n ≡ pledges c k
  unfolding pledges
  alike-pledges same =
      rw (
        alike-pledge 1 (omega arith) (omega arith) same,
        alike-pledge 2 (omega arith) (omega arith) same,
        alike-pledge 3 (omega arith) (omega arith) same,
        alike-pledge 4 (omega arith) (omega arith) same,
        alike-pledge 5 (omega arith) (omega arith) same,
        alike-pledge 6 (omega arith) (omega arith) same,
        alike-pledge 7 (omega arith) (omega arith) same,
        alike-pledge 8 (omega arith) (omega arith) same,
      )

  -- whether a message may stay
  pub alike-stays : (m : Message) → 1 ≤ m.group → m.group ≤ group_count → may_stay n m ≡ may_stay k m
  unfolding may_stay
  alike-stays m low high =
      ap (λ (r : ℕ). eqb m.group r && not (buffered n m.group)) a.running ∙ ap (λ (t : Bool). eqb m.group k.running && not t) (alike-buffered m.group low high)

-- a message stored in both
pub alike-stored : {b c : Build} (m : Message) (q : List Message) {n k : Node} → Sound b (with_queue (m ∷ q) n) → Sound c (with_queue (m ∷ q) k) → Alike n k
    → Alike (store b m n) (store c m k)
alike-stored {b} {c} m q {n} {k} s t a =
    record {
      running = store-running b m n ∙ a.running ∙ sym (store-running c m k);
      timer = timer-stored b m n ∙ a.timer ∙ sym (timer-stored c m k);
      queue = queue-stored b m n ∙ a.queue ∙ sym (queue-stored c m k);
      groups = λ g low high. go g low high (ℕ_discrete g m.group);
    }
  where
    flags : (g : ℕ) → SameFlags (group_of n g) (group_of k g) → SameFlags (group_of (store b m n) g) (group_of (store c m k) g)
    flags g e = flags-trans (store-flags b m n g) (flags-trans e (flags-sym (store-flags c m k g)))

    go : (g : ℕ) → 1 ≤ g → g ≤ group_count → Dec (g ≡ m.group) → AlikeGroup (group_of (store b m n) g) (group_of (store c m k) g)
    go g low high (yes same) =
        let x = store-own m q n s in
        let y = store-own m q k t in
        let e = a.groups g low high in
        let e' : AlikeGroup (group_of n m.group) (group_of k m.group) = rw same at e in
        rw same
        (record {
          flags = flags m.group e'.flags;
          used = x.used ∙ e'.used ∙ sym y.used;
          count = x.count ∙ ap (λ (i : ℕ). i + 1) e'.count ∙ sym y.count;
          waits = x.waits ∙ ap (λ (ps : List Place). ps ++ (place_of m ∷ [])) e'.waits ∙ sym y.waits;
        })
    go g low high (no other) =
        let x = store_other m q n s g low other in
        let y = store_other m q k t g low other in
        let e = a.groups g low high in
        record {
          flags = flags g e.flags;
          used = x.used ∙ e.used ∙ sym y.used;
          count = x.count ∙ e.count ∙ sym y.count;
          waits = x.waits ∙ e.waits ∙ sym y.waits;
        }

-- a pass over the same queue moves as many, and leaves both alike
pub record AlikeMoved (s t : Moved) : Type 0 where
  pub node : Alike s.node t.node
  pub moved : s.moved ≡ t.moved

alike-pass : {b c : Build} (q : List Message) {n k : Node} → Sound b (with_queue q n) → Sound c (with_queue q k) → Alike n k
    → AlikeMoved (pass b q n) (pass c q k)
unfolding pass one_more
alike-pass [] s t a = record { node = alike-queue a []; moved = refl }
alike-pass {b} {c} (m ∷ q) {n} {k} s t a =
    let good = head-good m q n s in
    go (may_stay n m) (may_stay k m) refl (sym (alike-stays a m good.group-low good.group-high))
    (alike-pass q (store-sound m q n s) (store-sound m q k t) (alike-stored m q s t a))
  where
    go : (u w : Bool) → may_stay n m ≡ u → w ≡ u → AlikeMoved (pass b q (store b m n)) (pass c q (store c m k))
        → AlikeMoved (elim u [ true ↦ record { node = with_queue (m ∷ q) n; moved = 0 } | false ↦ one_more (pass b q (store b m n)) ])
        (elim w [ true ↦ record { node = with_queue (m ∷ q) k; moved = 0 } | false ↦ one_more (pass c q (store c m k)) ])
    go true true e f r = record { node = alike-queue a (m ∷ q); moved = refl }
    go true false e f r = absurd (true≢false (sym f))
    go false true e f r = absurd (true≢false f)
    go false false e f r = record { node = r.node; moved = ap suc r.moved }

-- whether the timer is forced, and whether it runs
pub alike-forced : {n k : Node} → Alike n k → n.running ≤ group_count → forced n ≡ forced k
unfolding forced
alike-forced {n} {k} a high = go (ℕ_discrete n.running 0)
  where
    go : Dec (n.running ≡ 0) → forced n ≡ forced k
    go (yes none) = rw (eq-eqb n.running 0 none, eq-eqb k.running 0 (sym a.running ∙ none))
    go (no some) =
        let f = (a.groups n.running (omega arith) high).flags in
        let G = group_of k n.running in
        ap (λ (t : Bool). not (eqb n.running 0) && (t && (group_of n n.running).atomic)) f.force
        ∙ ap (λ (t : Bool). not (eqb n.running 0) && (G.force && t)) f.atomic
        ∙ ap (λ (r : ℕ). not (eqb r 0) && ((group_of k r).force && (group_of k r).atomic)) a.running

pub alike_runs : {n k : Node} → Alike n k → n.running ≤ group_count → timer_runs n ≡ timer_runs k
unfolding timer_runs
alike_runs {n} {k} a high =
    ap (λ (q : List Message). not (is_empty q) || forced n) a.queue ∙ ap (λ (t : Bool). not (is_empty k.queue) || t) (alike-forced a high)

-- timers put to rest
alike-rested : {x y : Node} → Alike x y → x.running ≤ group_count → Alike (rest_timer x) (rest_timer y)
unfolding rest_timer
alike-rested {x} {y} e high = go (timer_runs x) (timer_runs y) (alike_runs e high)
  where
    go : (u w : Bool) → u ≡ w → Alike (cond u x (with_timer 0 x)) (cond w y (with_timer 0 y))
    go true true same = e
    go true false same = absurd (true≢false same)
    go false true same = absurd (true≢false (sym same))
    go false false same = alike-timer e 0

-- and so does settling
pub alike-settled : {b c : Build} {n k : Node} → Sound b n → Sound c k → Alike n k → AlikeMoved (settle b n) (settle c k)
unfolding settle with_queue
alike-settled {b} {c} {n} {k} s t a =
    let same = a.queue in
    let t' : Sound c (with_queue n.queue k) = subst (λ (q : List Message). Sound c (with_queue q k)) (sym same) t in
    let p = alike-pass n.queue s t' a in
    subst (λ (q : List Message). AlikeMoved (settle b n) (record { node = rest_timer (pass c q k).node; moved = (pass c q k).moved })) same
    (record { node = alike-rested p.node (rw (pass-running b n.queue n) s.running-bound); moved = p.moved })

-- a queue drained
pub alike-drained : {b c : Build} (q : List Message) {n k : Node} → Sound b (with_queue q n) → Sound c (with_queue q k) → Alike n k
    → Alike (drain b q n) (drain c q k)
unfolding drain
alike-drained [] s t a = alike-queue a []
alike-drained (m ∷ q) {n} {k} s t a = alike-drained q (store-sound m q n s) (store-sound m q k t) (alike-stored m q s t a)

-- the runner's line and flags
module _ {n k : Node} (a : Alike n k) (low : 1 ≤ n.running) (high : n.running ≤ group_count) where
  pub runner-alike : AlikeGroup (group_of n n.running) (group_of k k.running)
  runner-alike = subst (λ (r : ℕ). AlikeGroup (group_of n n.running) (group_of k r)) a.running (a.groups n.running low high)

  pub runner-line : line n n.running ≡ line k k.running
  runner-line = alike-line a n.running low high ∙ ap (line k) a.running

  pub runner-holds : buffer_holds n n.running ≡ buffer_holds k k.running
  runner-holds = alike-holds a n.running low high ∙ ap (buffer_holds k) a.running

  pub runner-buffered : buffered n n.running ≡ buffered k k.running
  runner-buffered = alike-buffered a n.running low high ∙ ap (buffered k) a.running

-- whether an upcall is due
pub alike-calls : {n k : Node} → Alike n k → n.running ≤ group_count → calls n ≡ calls k
unfolding calls
alike-calls {n} {k} a high = go (ℕ_discrete n.running 0)
  where
    go : Dec (n.running ≡ 0) → calls n ≡ calls k
    go (yes none) = rw (eq-eqb n.running 0 none, eq-eqb k.running 0 (sym a.running ∙ none))
    go (no some) =
        let low : 1 ≤ n.running = omega arith in
        ap (λ (r : ℕ). not (eqb r 0) && (not (group_of n n.running).atomic && not (is_empty (line n n.running)))) a.running
        ∙ ap (λ (t : Bool). not (eqb k.running 0) && (not t && not (is_empty (line n n.running)))) (runner-alike a low high).flags.atomic
        ∙ ap (λ (l : List Message). not (eqb k.running 0) && (not (group_of k k.running).atomic && not (is_empty l))) (runner-line a low high)

pub alike-named : {n k : Node} → Alike n k → n.running ≤ group_count → upcall_group n ≡ upcall_group k
unfolding upcall_group
alike-named {n} {k} a high = ap (λ (t : Bool). cond t n.running 0) (alike-calls a high) ∙ ap (λ (r : ℕ). cond (calls k) r 0) a.running
