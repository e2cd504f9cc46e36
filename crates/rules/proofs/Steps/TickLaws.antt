-- Single ticks in closed form. Where the timer does not run they do nothing. Otherwise they count on the timer while it stays below the timeout,
-- and the tick that reaches it drains the queue and revokes the running group. From then on the timer runs only where it is forced, and each
-- further timeout finds an empty queue and a revoked group, so that it changes nothing but the timer: ticks in a row leave what one timeout
-- leaves, and the rest of the timer. Assumes nothing.
use Prim.Native.Nat.{ℕ, zero, suc, pred, ◌+◌, ◌%◌, ◌≤◌, ◌<◌}
use mathlib.Core.Path.{◌≡◌, refl, sym, ap, ◌∙◌}
use mathlib.Core.Logic.{◌≢◌}
use mathlib.Core.Bool.{Bool, true, false, cond, not, ◌&&◌}
use mathlib.Core.List.{List, [], ◌∷◌}
use native.Mathlib.Nat.{add-zero, zero-add, mod-eq_of_lt, mod-lt, add-mod_left}
use native.Mathlib.Decide.{ℕ_discrete}
use native.Mathlib.Omega.{arith}
use lib.Dec.{eqb, ltb}
use lib.ListN.{length, get_or, set}
use borrow.Author.Tests.{ltb-true, ltb-false, eq-eqb, ne_eqb}
use Rattle.rules.specs.Build.{Build}
use Rattle.rules.specs.Node.{Message, Group, Node, empty_group, group_of, with_timer, with_queue, with_groups, with_group, with_timer_flags, forced, timer_runs}
use Rattle.rules.specs.Paging.{store}
use Rattle.rules.specs.Operation.{timeout_trap}
use Rattle.rules.specs.Settling.{drain}
use Rattle.rules.specs.Step.{Effect, valued, timer_flagged, revoke, timed_out, counted, one_tick, ticks}
use Rattle.rules.specs.Valid.{Valid}
use Rattle.rules.proofs.Steps.StoreLaws.{store-timer}
use Rattle.rules.proofs.Steps.NodeLaws.{kept}
use Rattle.rules.proofs.Steps.SettlingLaws.{runs-empty, forced-same, drain-queue, drain-running, drain-flags}

-- draining does not look at the timer
drain-timer : (b : Build) (q : List Message) (t : ℕ) (n : Node) → drain b q (with_timer t n) ≡ with_timer t (drain b q n)
unfolding drain with_timer with_queue
drain-timer b [] t n = refl
drain-timer b (m ∷ q) t n = ap (drain b q) (store-timer b m t n) ∙ drain-timer b q t (store b m n)

-- the effect with the timer set
unfoldable pub timed : ℕ → Effect → Effect
timed t e = record { node = with_timer t e.node; value = e.value; trap = e.trap; moved = e.moved; sent = e.sent }

-- a timeout does not look at the timer
timeout-timed : (b : Build) (t : ℕ) (e : Effect) → timed_out b (timed t e) ≡ timed_out b e
unfolding timed_out timed revoke timer_flagged with_timer with_group group_of
timeout-timed b t e =
    λ i.
    record {
      node = with_timer 0 (revoke (drain-timer b e.node.queue t e.node i));
      value = e.value;
      trap = timeout_trap;
      moved = e.moved + length e.node.queue;
      sent = e.sent;
    }

-- ticks where the timer does not run
ticks-none : (b : Build) (k : ℕ) (e : Effect) → timer_runs e.node ≡ false → ticks b k e ≡ e
unfolding ticks one_tick
ticks-none b zero e rests = refl
ticks-none b (suc k) e rests =
    ap (λ (t : Bool). ticks b k (cond t (cond (eqb (e.node.timer + 1) b.timeout) (timed_out b e) (counted e)) e)) rests ∙ ticks-none b k e rests

-- one tick that does not reach the timeout, and one that does
tick-counts : (b : Build) (e : Effect) → timer_runs e.node ≡ true → e.node.timer + 1 ≢ b.timeout → one_tick b e ≡ timed (e.node.timer + 1) e
unfolding one_tick counted timed
tick-counts b e runs before = rw (runs, ne_eqb (e.node.timer + 1) b.timeout before)

tick-reaches : (b : Build) (e : Effect) → timer_runs e.node ≡ true → e.node.timer + 1 ≡ b.timeout → one_tick b e ≡ timed_out b e
unfolding one_tick
tick-reaches b e runs now = rw (runs, eq-eqb (e.node.timer + 1) b.timeout now)

-- ticks that do not reach it
counts : (b : Build) (k : ℕ) (e : Effect) → timer_runs e.node ≡ true → e.node.timer + k < b.timeout
    → ticks b k e ≡ timed (e.node.timer + k) e
unfolding ticks timed with_timer timer_runs forced group_of
counts b zero e runs below = ap (λ (t : ℕ). timed t e) (sym (add-zero e.node.timer))
counts b (suc k) e runs below =
    ap (ticks b k) (tick-counts b e runs (omega arith))
    ∙ counts b k (timed (e.node.timer + 1) e) runs (omega arith)
    ∙ ap (λ (t : ℕ). timed t e) (omega arith)

-- a group revoked stays one when it is revoked again
set_twice : (f : Group → Group) → ((G : Group) → f (f G) ≡ f G) → (Gs : List Group) (i : ℕ) (d : Group)
    → set (set Gs i (f (get_or Gs i d))) i (f (get_or (set Gs i (f (get_or Gs i d))) i d)) ≡ set Gs i (f (get_or Gs i d))
set_twice f same [] i d = refl
set_twice f same (G ∷ Gs) zero d = ap (λ (H : Group). H ∷ Gs) (same G)
set_twice f same (G ∷ Gs) (suc i) d = ap {B = List Group} (λ Hs. G ∷ Hs) (set_twice f same Gs i d)

revoke-twice : (n : Node) → revoke (revoke n) ≡ revoke n
unfolding revoke timer_flagged with_timer_flags with_group with_groups group_of
revoke-twice n =
    ap (λ (Gs : List Group). with_groups Gs n) (set_twice (λ G. with_timer_flags G.force true G) (λ G. refl) n.groups (pred n.running) empty_group)

-- being revoked, and a queue drained, have no part in whether the timer is forced
revoke-forced : (n : Node) → forced (revoke n) ≡ forced n
unfolding forced revoke timer_flagged with_timer_flags with_group
revoke-forced n =
    let r = n.running in
    let G = with_timer_flags (group_of n r).force true (group_of n r) in
    ap (λ (f : Bool). not (eqb r 0) && (f && (group_of (with_group r G n) r).atomic)) (kept (λ K. K.force) n r G refl r)
    ∙ ap (λ (a : Bool). not (eqb r 0) && ((group_of n r).force && a)) (kept (λ K. K.atomic) n r G refl r)

-- after a timeout the timer runs where it is forced
timeout-runs : (b : Build) (e : Effect) → timer_runs (timed_out b e).node ≡ forced e.node
unfolding timed_out with_timer revoke timer_flagged with_group forced group_of
timeout-runs b e =
    let d = drain b e.node.queue e.node in
    runs-empty (timed_out b e).node (drain-queue b e.node.queue e.node)
    ∙ revoke-forced d
    ∙ forced-same d e.node (drain-running b e.node.queue e.node) (drain-flags b e.node.queue e.node)

-- an empty queue drained is nothing
drain-none : (b : Build) (n : Node) → n.queue ≡ [] → drain b n.queue n ≡ n
unfolding drain with_queue
drain-none b n none = ap (λ (q : List Message). drain b q n) none ∙ ap (λ (q : List Message). with_queue q n) (sym none)

-- so another timeout changes nothing more
timeout-twice : (b : Build) (e : Effect) → timed_out b (timed_out b e) ≡ timed_out b e
unfolding timed_out revoke timer_flagged with_timer with_group group_of
timeout-twice b e =
    let n = (timed_out b e).node in
    let empty : n.queue ≡ [] = drain-queue b e.node.queue e.node in
    let node : with_timer 0 (revoke (drain b n.queue n)) ≡ n =
    ap (λ (k : Node). with_timer 0 (revoke k)) (drain-none b n empty) ∙ ap (with_timer 0) (revoke-twice (drain b e.node.queue e.node)) in
    let moved : e.moved + length e.node.queue + length n.queue ≡ e.moved + length e.node.queue =
    ap (λ (q : List Message). e.moved + length e.node.queue + length q) empty ∙ add-zero (e.moved + length e.node.queue) in
    λ i. record { node = node i; value = e.value; trap = timeout_trap; moved = moved i; sent = e.sent }

-- a count that has come round
round : (t k p : ℕ) → t + 1 ≡ p → (0 + k) % p ≡ (t + suc k) % p
round t k p now =
    let over : p + k ≡ t + suc k = omega arith in
    ap (λ (x : ℕ). x % p) (zero-add k) ∙ sym (add-mod_left p k) ∙ ap (λ (x : ℕ). x % p) over

-- ticks after a timeout, with the timer forced
late : (b : Build) (e : Effect) → forced e.node ≡ true → (k t : ℕ) → t < b.timeout
    → ticks b k (timed t (timed_out b e)) ≡ timed ((t + k) % b.timeout) (timed_out b e)
unfolding ticks timed timed_out with_timer timer_runs forced group_of
late b e force zero t below = ap (λ (x : ℕ). timed x (timed_out b e)) (sym (mod-eq_of_lt below) ∙ ap (λ (x : ℕ). x % b.timeout) (sym (add-zero t)))
late b e force (suc k) t below = go (ℕ_discrete (t + 1) b.timeout) (late b e force k)
  where
    runs : timer_runs (timed_out b e).node ≡ true
    runs = timeout-runs b e ∙ force

    go : Dec (t + 1 ≡ b.timeout) → ((s : ℕ) → s < b.timeout → ticks b k (timed s (timed_out b e)) ≡ timed ((s + k) % b.timeout) (timed_out b e))
        → ticks b (suc k) (timed t (timed_out b e)) ≡ timed ((t + suc k) % b.timeout) (timed_out b e)
    go (yes now) later =
        ap (ticks b k) (tick-reaches b (timed t (timed_out b e)) runs now ∙ timeout-timed b t (timed_out b e) ∙ timeout-twice b e)
        ∙ later 0 (omega arith)
        ∙ ap (λ (x : ℕ). timed x (timed_out b e)) (round t k b.timeout now)
    go (no before) later =
        ap (ticks b k) (tick-counts b (timed t (timed_out b e)) runs before)
        ∙ later (t + 1) (omega arith)
        ∙ ap (λ (x : ℕ). timed (x % b.timeout) (timed_out b e)) (omega arith)

-- what is on the timer once k ticks have reached the timeout: the rest of them where it is forced, else nothing
unfoldable pub left_over : Build → ℕ → Node → ℕ
left_over b k n = cond (forced n) ((n.timer + k) % b.timeout) 0

-- ticks that reach the timeout
reaches : (b : Build) (k : ℕ) (e : Effect) → timer_runs e.node ≡ true → e.node.timer < b.timeout → b.timeout ≤ e.node.timer + k
    → ticks b k e ≡ timed (left_over b k e.node) (timed_out b e)
unfolding ticks timed timed_out left_over with_timer timer_runs forced group_of
reaches b zero e runs below reached = absurd (omega arith)
reaches b (suc k) e runs below reached =
    go (ℕ_discrete (e.node.timer + 1) b.timeout) (λ before. reaches b k (timed (e.node.timer + 1) e) runs (omega arith) (omega arith))
  where
    n : Node
    n = e.node

    after : e.node.timer + 1 ≡ b.timeout → (f : Bool) → forced n ≡ f
        → ticks b k (timed_out b e) ≡ timed (cond f ((n.timer + suc k) % b.timeout) 0) (timed_out b e)
    after now true f = late b e f k 0 (omega arith) ∙ ap (λ (x : ℕ). timed x (timed_out b e)) (round n.timer k b.timeout now)
    after now false f = ticks-none b k (timed_out b e) (timeout-runs b e ∙ f)

    go : Dec (n.timer + 1 ≡ b.timeout)
        → (n.timer + 1 ≢ b.timeout → ticks b k (timed (n.timer + 1) e) ≡ timed (left_over b k (with_timer (n.timer + 1) n)) (timed_out b (timed (n.timer + 1) e)))
        → ticks b (suc k) e ≡ timed (left_over b (suc k) n) (timed_out b e)
    go (yes now) later = ap (ticks b k) (tick-reaches b e runs now) ∙ after now (forced n) refl
    go (no before) later =
        let same : n.timer + 1 + k ≡ n.timer + suc k = omega arith in
        ap (ticks b k) (tick-counts b e runs before)
        ∙ later before
        ∙ ap (λ (x : ℕ). timed (cond (forced n) (x % b.timeout) 0) (timed_out b (timed (n.timer + 1) e))) same
        ∙ ap (timed (left_over b (suc k) n)) (timeout-timed b (n.timer + 1) e)

-- where the timer does not run nothing changes
pub ticks-idle : (b : Build) (k : ℕ) (n : Node) → timer_runs n ≡ false → ticks b k (valued 0 n) ≡ valued 0 n
unfolding valued
ticks-idle b k n rests = ticks-none b k (valued 0 n) rests

-- below the timeout the timer is counted on, and nothing else changes
pub ticks-counted : (b : Build) (k : ℕ) (n : Node) → timer_runs n ≡ true → n.timer + k < b.timeout
    → ticks b k (valued 0 n) ≡ valued 0 (with_timer (n.timer + k) n)
unfolding valued timed
ticks-counted b k n runs below = counts b k (valued 0 n) runs below

-- else the queue is drained, the running group revoked, and what is left over is on the timer: as after one timeout
pub ticks-timeout : (b : Build) (k : ℕ) (n : Node) → timer_runs n ≡ true → n.timer < b.timeout → b.timeout ≤ n.timer + k
    → ticks b k (valued 0 n) ≡ timed (left_over b k n) (timed_out b (valued 0 n))
unfolding valued
ticks-timeout b k n runs below reached = reaches b k (valued 0 n) runs below reached

-- what is left over is below the timeout
pub left-over : {b : Build} {n : Node} → Valid b n → (k : ℕ) → left_over b k n < b.timeout
unfolding left_over
left-over {b} {n} v k = go (forced n)
  where
    go : (f : Bool) → cond f ((n.timer + k) % b.timeout) 0 < b.timeout
    go true = mod-lt (n.timer + k) v.sensible.timeout
    go false = v.sensible.timeout

-- so ticks do one of three things to a node: nothing, count, or what a timeout does
pub data Ticked (b : Build) (k : ℕ) (n : Node) : Type 0 where
  idle : timer_runs n ≡ false → ticks b k (valued 0 n) ≡ valued 0 n → Ticked b k n
  counting : timer_runs n ≡ true → n.timer + k < b.timeout → ticks b k (valued 0 n) ≡ valued 0 (with_timer (n.timer + k) n) → Ticked b k n
  timeout : timer_runs n ≡ true → ticks b k (valued 0 n) ≡ timed (left_over b k n) (timed_out b (valued 0 n)) → Ticked b k n

pub ticked-by : {b : Build} {n : Node} → Valid b n → (k : ℕ) → Ticked b k n
ticked-by {b} {n} v k = go (timer_runs n) refl
  where
    some : timer_runs n ≡ true → (t : Bool) → ltb (n.timer + k) b.timeout ≡ t → Ticked b k n
    some runs true t = counting runs (ltb-true _ _ t) (ticks-counted b k n runs (ltb-true _ _ t))
    some runs false t = timeout runs (ticks-timeout b k n runs v.timer-bound (ltb-false _ _ t))

    go : (u : Bool) → timer_runs n ≡ u → Ticked b k n
    go false e = idle e (ticks-idle b k n e)
    go true e = some e (ltb (n.timer + k) b.timeout) refl
