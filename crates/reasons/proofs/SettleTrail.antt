-- The trails of settling, of a drain and of ticks. A pass that goes on while a direct group runs moves other groups' messages alone, each of which became
-- head while that group ran; with nobody running it moves all, each but the first having become head then. Assumes nothing.
use Prim.Native.Nat.{ℕ, zero, suc, ◌+◌, ◌≤◌}
use native.Mathlib.Nat.{add-zero}
use native.Mathlib.Omega.{arith}
use mathlib.Core.Path.{◌≡◌, refl, sym, ap, ◌∙◌, subst, subst₂}
use mathlib.Core.Logic.{◌≢◌}
use mathlib.Core.Bool.{Bool, true, false, true≢false, cond}
use mathlib.Core.List.{List, [], ◌∷◌, ◌++◌}
use lib.Dec.{eqb}
use lib.ListN.{length, replicate, replicate-append-replicate}
use borrow.Author.Tests.{eq-eqb, ne_eqb}
use Rattle.rules.specs.Lists.{Every}
use Rattle.rules.specs.Build.{Build}
use Rattle.rules.specs.Node.{Message, Node, group_of, with_timer, with_queue, with_group, buffer_holds, buffered, timer_runs}
use Rattle.rules.specs.Paging.{store}
use Rattle.rules.specs.Settling.{Moved, one_more, may_stay, pass}
use Rattle.rules.specs.Sound.{Sound}
use Rattle.rules.specs.Step.{Effect, counted, one_tick, revoke, ticks, timed_out, timer_flagged}
use Rattle.rules.specs.Valid.{GoodMessage}
use Rattle.rules.proofs.Steps.LineLaws.{may-stay, neither, stays}
use Rattle.rules.proofs.Steps.SettlingLaws.{drain-queue, store-running}
use Rattle.rules.proofs.Steps.SwitchLaws.{nobody-stays}
use Rattle.rules.proofs.Steps.StoreLaws.{store-flags, store_other, store-sound}
use Rattle.reasons.specs.Moments.{Moment, moved, drain_moments, facts, next_headed, pass_moments, tick_moments, ticks_moments}
use Rattle.reasons.specs.Why.{Heading, moved_for}
use Rattle.reasons.proofs.Trail.{Trail, ends, heads, moves, headed_by, heading, pending, pending-headed, trail-next, trail-then}

-- a pass by cases: a head that may stay ends it, any other moves
stays-ends : (b : Build) (t : Bool) (m : Message) (q : List Message) (n : Node) → may_stay n m ≡ true → pass_moments b t (m ∷ q) n ≡ []
unfolding pass_moments
stays-ends b t m q n e = rw (e, pass_moments)

pub moves-on : (b : Build) (t : Bool) (m : Message) (q : List Message) (n : Node) (r : ℕ) → may_stay n m ≡ false → n.running ≡ r
    → pass_moments b t (m ∷ q) n ≡ moved (facts false t n m) ∷ next_headed r q ++ pass_moments b t q (store b m n)
unfolding pass_moments
moves-on b t m q n r e runs =
    let same : pass_moments b t (m ∷ q) n ≡ moved (facts false t n m) ∷ next_headed n.running q ++ pass_moments b t q (store b m n) = rw (e, pass_moments) in
    same ∙ ap {B = List Moment} (λ k. moved (facts false t n m) ∷ next_headed k q ++ pass_moments b t q (store b m n)) runs

pass-stays : (b : Build) (m : Message) (q : List Message) (n : Node) → may_stay n m ≡ true → pass b (m ∷ q) n ≡ record { node = with_queue (m ∷ q) n; moved = 0 }
unfolding pass
pass-stays b m q n e = rw (e, pass)

pub pass-goes : (b : Build) (m : Message) (q : List Message) (n : Node) → may_stay n m ≡ false → pass b (m ∷ q) n ≡ one_more (pass b q (store b m n))
unfolding pass
pass-goes b m q n e = rw (e, pass)

-- no moment where the head may stay, or there is none
pub pass-quiet : (b : Build) (t : Bool) (q : List Message) (n : Node) → ((m : Message) (r : List Message) → q ≡ m ∷ r → may_stay n m ≡ true) → pass_moments b t q n ≡ []
unfolding pass_moments
pass-quiet b t [] n stays = refl
pass-quiet b t (m ∷ q) n stays = stays-ends b t m q n (stays m q refl)

-- a head whose group didn't run as it became head moves for that, where no timeout moves it
other-ran : (t : Bool) (n : Node) (m : Message) (r : ℕ) → m.group ≢ r → moved_for (facts false t n m) (eqb m.group r) ≡ 3
unfolding moved_for facts
other-ran t n m r other = rw (ne_eqb m.group r other)

-- a head that moves so, and then the rest
other-moves : (b : Build) (t : Bool) (m : Message) (q : List Message) (n : Node) (r : ℕ) {ks : List ℕ} {p : List Heading}
    → may_stay n m ≡ false → n.running ≡ r → m.group ≢ r → Trail (headed_by r q) (pass_moments b t q (store b m n)) ks p
    → Trail (headed_by r (m ∷ q)) (pass_moments b t (m ∷ q) n) (3 ∷ ks) p
unfolding headed_by
other-moves b t m q n r {ks} {p} e runs other later =
    subst (λ (ms : List Moment). Trail (heading m.group r ∷ []) ms (3 ∷ ks) p) (sym (moves-on b t m q n r e runs))
    (moves (facts false t n m) 3 (other-ran t n m r other) (λ seven. absurd (omega arith)) (trail-next r q later))

-- what a pass leaves, where r ran as the head became that
abbrev Passed : Build → ℕ → List Message → Node → Moved → Type 0
Passed b r q n s = Trail (headed_by r q) (pass_moments b false q n) (replicate s.moved 3) (pending s.node.queue)

-- while a direct group runs
pub pass-direct : {b : Build} (r : ℕ) → 1 ≤ r → (q : List Message) (n : Node) → Sound b (with_queue q n) → n.running ≡ r
    → (group_of n r).buffer.count ≡ 0 → (group_of n r).revoked ≡ false → Passed b r q n (pass b q n)
unfolding with_queue one_more headed_by pending pass_moments pass group_of
pass-direct r low [] n s runs none off = ends
pass-direct {b} r low (m ∷ q) n s runs none off =
    go (may_stay n m) refl
    (λ other.
    let stored = store_other m q n s r low (λ same. other (sym same)) in
    pass-direct r low q (store b m n) (store-sound m q n s) (store-running b m n ∙ runs) (stored.count ∙ none) ((store-flags b m n r).revoked ∙ off))
  where
    go : (t : Bool) → may_stay n m ≡ t → (m.group ≢ r → Passed b r q (store b m n) (pass b q (store b m n))) → Passed b r (m ∷ q) n (pass b (m ∷ q) n)
    go true e later =
        subst₂ (λ (ms : List Moment) (s : Moved). Trail (headed_by r (m ∷ q)) ms (replicate s.moved 3) (pending s.node.queue))
        (sym (stays-ends b false m q n e)) (sym (pass-stays b m q n e))
        (subst (λ (p : List Heading). Trail (headed_by r (m ∷ q)) [] [] p) (sym (pending-headed r m q ((stays n m e).0 ∙ runs))) ends)
    go false e later =
        let other : m.group ≢ r = λ same. true≢false (sym (may-stay n m (same ∙ sym runs) (rw runs none) (rw runs off)) ∙ e) in
        subst (Passed b r (m ∷ q) n) (sym (pass-goes b m q n e)) (other-moves b false m q n r e runs other (later other))

-- with nobody running all move; here from a queue of which the head became head then
pub pass-nobody : (b : Build) (t : Bool) (q : List Message) (n : Node) → Every GoodMessage q → n.running ≡ 0
    → Trail (headed_by 0 q) (pass_moments b t q n) (replicate (length q) 3) []
unfolding headed_by pass_moments
pass-nobody b t [] n good nobody = ends
pass-nobody b t (m ∷ q) n good nobody =
    let other : m.group ≢ 0 = λ e. omega (arith, good.0.group-low) in
    other-moves b t m q n 0 (nobody-stays n m nobody good.0) nobody other (pass-nobody b t q (store b m n) good.1 (store-running b m n ∙ nobody))

-- a direct group's message, which became head while it ran, moves for the processor that is taken
taken-for : (n : Node) (m : Message) → buffered n m.group ≡ false → moved_for (facts false true n m) (eqb m.group m.group) ≡ 7
unfolding moved_for facts buffered
taken-for n m direct =
    let off = neither (buffer_holds n m.group) (group_of n m.group).revoked direct in
    rw (eq-eqb m.group m.group refl, off.0, off.1)

-- here from the head of a node from whose running group, which is direct, the processor is taken
pub pass-taken : (b : Build) (m : Message) (q : List Message) (n : Node) → Every GoodMessage (m ∷ q) → n.running ≡ 0 → buffered n m.group ≡ false
    → Trail (pending (m ∷ q)) (pass_moments b true (m ∷ q) n) (7 ∷ replicate (length q) 3) []
unfolding pending
pass-taken b m q n good nobody direct =
    let other : m.group ≢ 0 = λ e. omega (arith, good.0.group-low) in
    subst (λ (ms : List Moment). Trail (pending (m ∷ q)) ms (7 ∷ replicate (length q) 3) []) (sym (moves-on b true m q n 0 (nobody-stays n m nobody good.0) nobody))
    (moves (facts false true n m) 7 (taken-for n m direct) (λ seven. unfold facts in refl)
    (trail-next 0 q (pass-nobody b true q (store b m n) good.1 (store-running b m n ∙ nobody))))

-- a drain moves all for the timeout, whoever ran as they became head
drained : (b : Build) (h : ℕ) (m : Message) (q : List Message) (n : Node)
    → Trail (heading m.group h ∷ []) (drain_moments b (m ∷ q) n) (replicate (length (m ∷ q)) 6) []
unfolding drain_moments moved_for facts next_headed
drained b h m [] n = moves (facts true false n m) 6 refl (λ seven. absurd (omega arith)) ends
drained b h m (m' ∷ q) n =
    moves (facts true false n m) 6 refl (λ seven. absurd (omega arith)) (heads (drained b n.running m' q (store b m n)))

pub drain-trail : (b : Build) (q : List Message) (n : Node) → Trail (pending q) (drain_moments b q n) (replicate (length q) 6) []
unfolding pending drain_moments
drain-trail b [] n = ends
drain-trail b (m ∷ q) n = drained b m.group m q n

-- from one effect to another all that left were moved by a timeout
pub record Drains (e : Effect) (ms : List Moment) (e' : Effect) : Type 0 where
  pub gone : ℕ
  pub counts : e'.moved ≡ e.moved + gone
  pub trail : Trail (pending e.node.queue) ms (replicate gone 6) (pending e'.node.queue)

-- none did
drains-none : {e e' : Effect} → e'.moved ≡ e.moved → e'.node.queue ≡ e.node.queue → Drains e [] e'
drains-none {e} {e'} same queue =
    record {
      gone = 0;
      counts = same ∙ sym (add-zero e.moved);
      trail = subst (λ (q : List Message). Trail (pending e.node.queue) [] [] (pending q)) (sym queue) ends;
    }

-- one after the other
drains-then : {e e' e'' : Effect} {ms ns : List Moment} → Drains e ms e' → Drains e' ns e'' → Drains e (ms ++ ns) e''
drains-then {e} {e'} {e''} {ms} {ns} d d' =
    record {
      gone = d.gone + d'.gone;
      counts = omega (arith, d.counts, d'.counts);
      trail =
          subst (λ (ks : List ℕ). Trail (pending e.node.queue) (ms ++ ns) ks (pending e''.node.queue)) (replicate-append-replicate d.gone d'.gone 6)
          (trail-then d.trail d'.trail);
    }

-- a tick
tick-drains : (b : Build) (e : Effect) → Drains e (tick_moments b e) (one_tick b e)
unfolding tick_moments one_tick counted timed_out revoke timer_flagged with_timer with_group pending
tick-drains b e = go (timer_runs e.node) (eqb (e.node.timer + 1) b.timeout)
  where
    out : Drains e (drain_moments b e.node.queue e.node) (timed_out b e)
    out =
        record {
          gone = length e.node.queue;
          counts = refl;
          trail =
              subst (λ (q : List Message). Trail (pending e.node.queue) (drain_moments b e.node.queue e.node) (replicate (length e.node.queue) 6) (pending q))
              (sym (drain-queue b e.node.queue e.node)) (drain-trail b e.node.queue e.node);
        }

    go : (t u : Bool) → Drains e (cond t (cond u (drain_moments b e.node.queue e.node) []) []) (cond t (cond u (timed_out b e) (counted e)) e)
    go true true = out
    go true false = drains-none refl refl
    go false u = drains-none refl refl

-- ticks
pub ticks-drain : (b : Build) (k : ℕ) (e : Effect) → Drains e (ticks_moments b k e) (ticks b k e)
unfolding ticks_moments ticks
ticks-drain b zero e = drains-none refl refl
ticks-drain b (suc k) e = drains-then (tick-drains b e) (ticks-drain b k (one_tick b e))
