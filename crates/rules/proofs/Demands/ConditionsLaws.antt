-- The refusal of an operation is the first number of the table that is due: a law for each operation goes down its tests. Where a test
-- passes, its number is due, and what is due besides has no smaller number; where all fail, nothing is due. Assumes nothing.
use Prim.Native.Nat.{ℕ, suc, ◌+◌, ◌/◌, ◌≤◌, ◌<◌}
use native.Mathlib.Omega.{arith}
use native.Mathlib.Decide.{ℕ_discrete}
use mathlib.Core.Path.{◌≡◌, refl, sym, ap, ◌∙◌, subst}
use mathlib.Core.Logic.{◌≢◌, ◌↔◌, ◌⊎◌, inl, inr}
use mathlib.Core.Bool.{Bool, true, false, cond, ◌||◌, true≢false, false≢true}
use mathlib.Core.List.{List, [], ◌∷◌, nil≢cons, head-eq_of_cons-eq}
use borrow.Author.Tests.{eqb-false, ltb-false}
use lib.Dec.{eqb, leb, ltb}
use lib.ListN.{length, length-append}
use Rattle.rules.specs.Lists.{filter, is_empty}
use Rattle.rules.specs.Build.{paper01, page_count, group_count, word_limit, last_node, tick_limit}
use Rattle.rules.specs.Node.{Message, Node, group_of, with_queue, is_of, in_queue, line}
use Rattle.rules.specs.Frames.{ceil_div, pledge, pledges}
use Rattle.rules.specs.Operation.{Request, poll, peek, dispose, begin_atomic, end_atomic, describe, launch}
use Rattle.rules.specs.Operation.{Operation, arrive, schedule, preempt, dispatch, tick, turn, user, unknown}
use Rattle.rules.specs.Refusal.{queued, refuse_arrive, refuse_schedule, refuse_dispatch, refuse_tick, refuse_peek, refuse_dispose, refuse_end, refuse_describe, refuse_launch, refuse_request, refusal}
use Rattle.rules.specs.MemoryTest.{is_memory}
use Rattle.rules.specs.Valid.{Valid}
use Rattle.rules.specs.Conditions.{pledge_with, pledges_with, Due, not-node, unreadable, bad-group, bad-words, queue-full, no-frames, nobody-runs, nothing-to-dispose, nothing-to-peek}
use Rattle.rules.specs.Conditions.{past-message, still-pending, descriptor-full, descriptor-empty, bad-node, bad-schedule, bad-dispatch, bad-ticks, already-runs, FirstDue}
use Rattle.rules.proofs.Steps.ListLaws.{filter-append}
use Rattle.rules.proofs.Steps.NodeLaws.{group-good}
use Rattle.rules.proofs.Steps.SoundLaws.{valid-sound}
use Rattle.rules.proofs.Map.TestLaws.{leb_tells, ltb-tells, eqb_tells}

-- Each test tells its condition.

-- "a or b"
either-tells : (t u : Bool) {P Q : Type 0} → (t ≡ true) ↔ P → (u ≡ true) ↔ Q → (t || u ≡ true) ↔ (P ⊎ Q)
either-tells true u p q = (λ e. inl (p.0 refl), λ x. refl)
either-tells false u {P} {Q} p q = (λ e. inr (q.0 e), second)
  where
    second : P ⊎ Q → u ≡ true
    second (inl x) = absurd (false≢true (p.1 x))
    second (inr y) = q.1 y

-- "group not 1 to 8"
group-tells : (g : ℕ) → (eqb g 0 || ltb 8 g ≡ true) ↔ (¬ ((1 ≤ g) × (g ≤ 8)))
group-tells g = (λ e. apart ((either-tells (eqb g 0) (ltb 8 g) (eqb_tells g 0) (ltb-tells 8 g)).0 e), λ not. go (eqb g 0) refl (ltb 8 g) refl not)
  where
    apart : (g ≡ 0) ⊎ (8 < g) → ¬ ((1 ≤ g) × (g ≤ 8))
    apart (inl z) h = omega arith
    apart (inr l) h = omega arith

    go : (t : Bool) → eqb g 0 ≡ t → (u : Bool) → ltb 8 g ≡ u → ¬ ((1 ≤ g) × (g ≤ 8)) → t || u ≡ true
    go true e u f not = refl
    go false e true f not = refl
    go false e false f not = absurd (not (omega (arith, eqb-false g 0 e), ltb-false 8 g f))

-- "no words"
empty-tells : {A : Type 0} (xs : List A) → (is_empty xs ≡ true) ↔ (length xs ≡ 0)
empty-tells [] = (λ e. refl, λ e. refl)
empty-tells (x ∷ xs) = (λ e. absurd (false≢true e), λ e. absurd (omega arith))

-- a count within a bound is at the bound where it is no less
full-tells : (a k : ℕ) → k ≤ a → (leb a k ≡ true) ↔ (k ≡ a)
full-tells a k within = (λ e. omega (arith, (leb_tells a k).0 e), λ e. (leb_tells a k).1 (omega arith))

-- The pledges with a message more.

-- the messages of group g in the hardware queue, once one has arrived for group a
queue-with : (n : Node) (a : ℕ) (ws : List ℕ) (g : ℕ)
    → length (in_queue (queued (record { group = a; words = ws }) n) g) ≡ length (in_queue n g) + cond (eqb a g) 1 0
unfolding in_queue queued with_queue is_of
queue-with n a ws g =
    let one : List Message = record { group = a; words = ws } ∷ [] in
    ap length (filter-append (is_of g) n.queue one) ∙ length-append (filter (is_of g) n.queue) (filter (is_of g) one)
    ∙ ap (λ (k : ℕ). length (filter (is_of g) n.queue) + k) (go (eqb a g))
  where
    go : (t : Bool) → length {A = Message} (elim t [ true ↦ record { group = a; words = ws } ∷ [] | false ↦ [] ]) ≡ cond t 1 0
    go true = refl
    go false = refl

-- a group's pledge with it
pledge-with : (n : Node) (a : ℕ) (ws : List ℕ) (g : ℕ) → pledge paper01 (queued (record { group = a; words = ws }) n) g ≡ pledge_with n a g
unfolding pledge ceil_div pledge_with group_of queued with_queue
pledge-with n a ws g =
    ap (λ (k : ℕ). ((group_of n g).buffer.used + (group_of n g).buffer.count + k + 7) / 8) (queue-with n a ws g)

-- all of them
pledges-with : (n : Node) (a : ℕ) (ws : List ℕ) → pledges paper01 (queued (record { group = a; words = ws }) n) ≡ pledges_with n a
unfolding pledges pledges_with
pledges-with n a ws = simp pledge-with (omega arith)

-- A first number.

module _ {m : List ℕ} {n : Node} {op : Operation} where
  -- nothing is due
  accept : ((k : ℕ) → ¬ Due m n op k) → FirstDue m n op 0
  accept nothing = record { none = λ z. nothing; due = λ not. absurd (not refl); first = λ k l. absurd (omega arith) }

  -- a number is due, and no smaller one
  refuse : {a : ℕ} → Due m n op (suc a) → ((k : ℕ) → Due m n op k → suc a ≤ k) → FirstDue m n op (suc a)
  refuse {a} now least =
      record {
        none = λ z. absurd (omega arith);
        due = λ not. now;
        first = λ k l d. omega (arith, least k d);
      }

  -- the number of a test that passes, or what is decided after it
  decide : (t : Bool) {P : Type 0} {a c : ℕ} → (t ≡ true) ↔ P → (P → FirstDue m n op a) → (¬ P → FirstDue m n op c) → FirstDue m n op (cond t a c)
  decide true told passed failed = passed (told.0 refl)
  decide false told passed failed = failed (λ p. false≢true (told.1 p))

-- What can be due on memory that is a node: P holds of every number that is due where it holds of each that the operation can meet.

module _ (m : List ℕ) (n : Node) (node : is_memory m ≡ true) (P : ℕ → Type 0) where
  -- 1 cannot be due
  no_node : {k : ℕ} → is_memory m ≡ false → P k
  no_node e = absurd (true≢false (sym node ∙ e))

  on-arrive : {g : ℕ} {ws : List ℕ}
      → (¬ ((1 ≤ g) × (g ≤ 8)) → P 3)
      → ((length ws ≡ 0) ⊎ (8 < length ws) → P 4)
      → (length n.queue ≡ 16 → P 5)
      → (96 < pledges_with n g → P 6)
      → (k : ℕ) → Due m n (arrive g ws) k → P k
  on-arrive p3 p4 p5 p6 k (not-node e) = no_node e
  on-arrive p3 p4 p5 p6 k (bad-group x) = p3 x
  on-arrive p3 p4 p5 p6 k (bad-words x) = p4 x
  on-arrive p3 p4 p5 p6 k (queue-full x) = p5 x
  on-arrive p3 p4 p5 p6 k (no-frames x) = p6 x

  on-schedule : {g : ℕ} → (8 < g → P 14) → (k : ℕ) → Due m n (schedule g) k → P k
  on-schedule p k (not-node e) = no_node e
  on-schedule p k (bad-schedule x) = p x

  on-preempt : (k : ℕ) → Due m n preempt k → P k
  on-preempt k (not-node e) = no_node e

  on-dispatch : {g : ℕ} → (¬ ((1 ≤ g) × (g ≤ 8)) → P 14) → (n.running ≢ 0 → P 16) → (k : ℕ) → Due m n (dispatch g) k → P k
  on-dispatch p14 p16 k (not-node e) = no_node e
  on-dispatch p14 p16 k (bad-dispatch x) = p14 x
  on-dispatch p14 p16 k (already-runs x) = p16 x

  on-tick : {i : ℕ} → ((i ≡ 0) ⊎ (65535 < i) → P 15) → (k : ℕ) → Due m n (tick i) k → P k
  on-tick p k (not-node e) = no_node e
  on-tick p k (bad-ticks x) = p x

  on-turn : (k : ℕ) → Due m n turn k → P k
  on-turn k (not-node e) = no_node e

  on-unknown : P 2 → (k : ℕ) → Due m n unknown k → P k
  on-unknown p k (not-node e) = no_node e
  on-unknown p k unreadable = p

  on-poll : (n.running ≡ 0 → P 7) → (k : ℕ) → Due m n (user poll) k → P k
  on-poll p7 k (not-node e) = no_node e
  on-poll p7 k (nobody-runs x) = p7 x

  on-begin : {force : Bool} → (n.running ≡ 0 → P 7) → (k : ℕ) → Due m n (user (begin_atomic force)) k → P k
  on-begin p7 k (not-node e) = no_node e
  on-begin p7 k (nobody-runs x) = p7 x

  on-peek : {i : ℕ}
      → (n.running ≡ 0 → P 7)
      → (line n n.running ≡ [] → P 8)
      → ((x : Message) (xs : List Message) → line n n.running ≡ x ∷ xs → length x.words ≤ i → P 9)
      → (k : ℕ) → Due m n (user (peek i)) k → P k
  on-peek p7 p8 p9 k (not-node e) = no_node e
  on-peek p7 p8 p9 k (nobody-runs x) = p7 x
  on-peek p7 p8 p9 k (nothing-to-peek x) = p8 x
  on-peek p7 p8 p9 k (past-message {first = y} {others = ys} x l) = p9 y ys x l

  on-dispose : (n.running ≡ 0 → P 7) → (line n n.running ≡ [] → P 8) → (k : ℕ) → Due m n (user dispose) k → P k
  on-dispose p7 p8 k (not-node e) = no_node e
  on-dispose p7 p8 k (nobody-runs x) = p7 x
  on-dispose p7 p8 k (nothing-to-dispose x) = p8 x

  on-end : (n.running ≡ 0 → P 7) → ((group_of n n.running).pending ≡ true → P 10) → (k : ℕ) → Due m n (user end_atomic) k → P k
  on-end p7 p10 k (not-node e) = no_node e
  on-end p7 p10 k (nobody-runs x) = p7 x
  on-end p7 p10 k (still-pending x) = p10 x

  on-describe : {w : ℕ}
      → (n.running ≡ 0 → P 7)
      → (length (group_of n n.running).descriptor ≡ 8 → P 11)
      → (k : ℕ) → Due m n (user (describe w)) k → P k
  on-describe p7 p11 k (not-node e) = no_node e
  on-describe p7 p11 k (nobody-runs x) = p7 x
  on-describe p7 p11 k (descriptor-full x) = p11 x

  on-launch : {i : ℕ}
      → (n.running ≡ 0 → P 7)
      → ((group_of n n.running).descriptor ≡ [] → P 12)
      → (63 < i → P 13)
      → (k : ℕ) → Due m n (user (launch i)) k → P k
  on-launch p7 p12 p13 k (not-node e) = no_node e
  on-launch p7 p12 p13 k (nobody-runs x) = p7 x
  on-launch p7 p12 p13 k (descriptor-empty x) = p12 x
  on-launch p7 p12 p13 k (bad-node x) = p13 x

-- The refusal of each operation on memory that is a node.

-- what is due has no smaller number
abbrev from : ℕ → ℕ → Type 0
from a k = a ≤ k

-- nothing is due
abbrev never : ℕ → Type 0
never k = ⊥

module _ (m : List ℕ) (n : Node) (node : is_memory m ≡ true) (v : Valid paper01 n) where
  arrive-first : (g : ℕ) (ws : List ℕ) → FirstDue m n (arrive g ws) (refuse_arrive paper01 n (record { group = g; words = ws }))
  unfolding refuse_arrive
  arrive-first g ws =
      decide (eqb g 0 || ltb group_count g) (group-tells g)
      (λ bad. refuse (bad-group bad) (on-arrive m n node (from 3) (λ x. omega arith) (λ x. omega arith) (λ x. omega arith) (λ x. omega arith)))
      (λ group.
      decide (is_empty ws || ltb word_limit (length ws)) (either-tells (is_empty ws) (ltb word_limit (length ws)) (empty-tells ws) (ltb-tells 8 (length ws)))
      (λ bad. refuse (bad-words bad) (on-arrive m n node (from 4) (λ x. absurd (group x)) (λ x. omega arith) (λ x. omega arith) (λ x. omega arith)))
      (λ words.
      decide (leb paper01.places (length n.queue)) (full-tells 16 (length n.queue) v.queue-length)
      (λ bad. refuse (queue-full bad) (on-arrive m n node (from 5) (λ x. absurd (group x)) (λ x. absurd (words x)) (λ x. omega arith) (λ x. omega arith)))
      (λ place.
      decide (ltb (page_count paper01) (pledges paper01 (queued (record { group = g; words = ws }) n))) (frames-tell g ws)
      (λ bad. refuse (no-frames bad) (on-arrive m n node (from 6) (λ x. absurd (group x)) (λ x. absurd (words x)) (λ x. absurd (place x)) (λ x. omega arith)))
      (λ frames. accept (on-arrive m n node never group words place frames)))))
    where
      frames-tell : (g : ℕ) (ws : List ℕ) → (ltb 96 (pledges paper01 (queued (record { group = g; words = ws }) n)) ≡ true) ↔ (96 < pledges_with n g)
      frames-tell g ws = rw (pledges-with n g ws) (ltb-tells 96 (pledges_with n g))

  schedule-first : (g : ℕ) → FirstDue m n (schedule g) (refuse_schedule g)
  unfolding refuse_schedule
  schedule-first g =
      decide (ltb group_count g) (ltb-tells 8 g) (λ bad. refuse (bad-schedule bad) (on-schedule m n node (from 14) (λ x. omega arith)))
      (λ group. accept (on-schedule m n node never group))

  dispatch-first : (g : ℕ) → FirstDue m n (dispatch g) (refuse_dispatch n.running g)
  unfolding refuse_dispatch
  dispatch-first g =
      decide (eqb g 0 || ltb group_count g) (group-tells g)
      (λ bad. refuse (bad-dispatch bad) (on-dispatch m n node (from 14) (λ x. omega arith) (λ x. omega arith)))
      (λ group.
      decide (eqb n.running 0) (eqb_tells n.running 0) (λ nobody. accept (on-dispatch m n node never group (λ runs. runs nobody)))
      (λ runs. refuse (already-runs runs) (on-dispatch m n node (from 16) (λ x. absurd (group x)) (λ x. omega arith))))

  tick-first : (k : ℕ) → FirstDue m n (tick k) (refuse_tick k)
  unfolding refuse_tick
  tick-first k =
      decide (eqb k 0 || ltb tick_limit k) (either-tells (eqb k 0) (ltb tick_limit k) (eqb_tells k 0) (ltb-tells 65535 k))
      (λ bad. refuse (bad-ticks bad) (on-tick m n node (from 15) (λ x. omega arith)))
      (λ ticks. accept (on-tick m n node never ticks))

  -- "7: nobody runs; before all others here."
  user-least : (r : Request) (k : ℕ) → Due m n (user r) k → 7 ≤ k
  user-least r k (not-node e) = no_node m n node (from 7) e
  user-least r k (nobody-runs x) = omega arith
  user-least r k (nothing-to-dispose x) = omega arith
  user-least r k (nothing-to-peek x) = omega arith
  user-least r k (past-message x l) = omega arith
  user-least r k (still-pending x) = omega arith
  user-least r k (descriptor-full x) = omega arith
  user-least r k (descriptor-empty x) = omega arith
  user-least r k (bad-node x) = omega arith

  module _ (runs : ¬ (n.running ≡ 0)) where
    peek-first : (i : ℕ) (l : List Message) → line n n.running ≡ l → FirstDue m n (user (peek i)) (refuse_peek l i)
    unfolding refuse_peek
    peek-first i [] e =
        refuse (nothing-to-peek e) (on-peek m n node (from 8) (λ x. absurd (runs x)) (λ x. omega arith) (λ y ys x l. omega arith))
    peek-first i (y ∷ ys) e =
        let some : ¬ (line n n.running ≡ []) = λ x. nil≢cons (sym x ∙ e) in
        decide (leb (length y.words) i) (leb_tells (length y.words) i)
        (λ bad. refuse (past-message e bad) (on-peek m n node (from 9) (λ x. absurd (runs x)) (λ x. absurd (some x)) (λ z zs x l. omega arith)))
        (λ within.
        accept (on-peek m n node never runs some (λ z zs x l. within (subst (λ (w : Message). length w.words ≤ i) (head-eq_of_cons-eq (sym x ∙ e)) l))))

    dispose-first : (l : List Message) → line n n.running ≡ l → FirstDue m n (user dispose) (refuse_dispose l)
    unfolding refuse_dispose
    dispose-first [] e = refuse (nothing-to-dispose e) (on-dispose m n node (from 8) (λ x. absurd (runs x)) (λ x. omega arith))
    dispose-first (y ∷ ys) e = accept (on-dispose m n node never runs (λ x. nil≢cons (sym x ∙ e)))

    end-first : FirstDue m n (user end_atomic) (refuse_end (group_of n n.running).pending)
    unfolding refuse_end
    end-first =
        decide (group_of n n.running).pending (λ e. e, λ e. e)
        (λ bad. refuse (still-pending bad) (on-end m n node (from 10) (λ x. absurd (runs x)) (λ x. omega arith)))
        (λ off. accept (on-end m n node never runs off))

    describe-first : (w : ℕ) → FirstDue m n (user (describe w)) (refuse_describe (group_of n n.running).descriptor)
    unfolding refuse_describe
    describe-first w =
        let d : List ℕ = (group_of n n.running).descriptor in
        let bound : length d ≤ word_limit = (group-good (valid-sound v) n.running (omega arith) v.running-bound).descriptor in
        decide (leb word_limit (length d)) (full-tells 8 (length d) bound)
        (λ bad. refuse (descriptor-full bad) (on-describe m n node (from 11) (λ x. absurd (runs x)) (λ x. omega arith)))
        (λ room. accept (on-describe m n node never runs room))

    launch-first : (i : ℕ) (d : List ℕ) → (group_of n n.running).descriptor ≡ d → FirstDue m n (user (launch i)) (refuse_launch d i)
    unfolding refuse_launch
    launch-first i [] e =
        refuse (descriptor-empty e) (on-launch m n node (from 12) (λ x. absurd (runs x)) (λ x. omega arith) (λ x. omega arith))
    launch-first i (w ∷ d) e =
        let some : ¬ ((group_of n n.running).descriptor ≡ []) = λ x. nil≢cons (sym x ∙ e) in
        decide (ltb last_node i) (ltb-tells 63 i)
        (λ bad. refuse (bad-node bad) (on-launch m n node (from 13) (λ x. absurd (runs x)) (λ x. absurd (some x)) (λ x. omega arith)))
        (λ near. accept (on-launch m n node never runs some near))

    request-first : (r : Request) → FirstDue m n (user r) (refuse_request n r)
    unfolding refuse_request
    request-first poll = accept (on-poll m n node never runs)
    request-first (peek i) = peek-first i (line n n.running) refl
    request-first dispose = dispose-first (line n n.running) refl
    request-first (begin_atomic force) = accept (on-begin m n node never runs)
    request-first end_atomic = end-first
    request-first (describe w) = describe-first w
    request-first (launch i) = launch-first i (group_of n n.running).descriptor refl

  -- an operation's refusal is the first number that is due
  pub refusal-first : (op : Operation) → FirstDue m n op (refusal paper01 n op)
  unfolding refusal
  refusal-first (arrive g ws) = arrive-first g ws
  refusal-first preempt = accept (on-preempt m n node never)
  refusal-first (dispatch g) = dispatch-first g
  refusal-first (schedule g) = schedule-first g
  refusal-first (tick k) = tick-first k
  refusal-first turn = accept (on-turn m n node never)
  refusal-first (user r) =
      decide (eqb n.running 0) (eqb_tells n.running 0) (λ nobody. refuse (nobody-runs nobody) (user-least r)) (λ runs. request-first runs r)
  refusal-first unknown = refuse unreadable (on-unknown m n node (from 2) (omega arith))

-- What a number tells where it is due.

-- 1 is for memory that is no node, 2 for an unknown operation, and 16 is the last
data Placed (m : List ℕ) (op : Operation) (k : ℕ) : Type 0 where
  first : k ≡ 1 → is_memory m ≡ false → Placed m op k
  second : k ≡ 2 → op ≡ unknown → Placed m op k
  later : 3 ≤ k → k ≤ 16 → Placed m op k

placed : {m : List ℕ} {n : Node} {op : Operation} {k : ℕ} → Due m n op k → Placed m op k
placed (not-node e) = first refl e
placed unreadable = second refl refl
placed (bad-group x) = later (omega arith) (omega arith)
placed (bad-words x) = later (omega arith) (omega arith)
placed (queue-full x) = later (omega arith) (omega arith)
placed (no-frames x) = later (omega arith) (omega arith)
placed (nobody-runs x) = later (omega arith) (omega arith)
placed (nothing-to-dispose x) = later (omega arith) (omega arith)
placed (nothing-to-peek x) = later (omega arith) (omega arith)
placed (past-message x l) = later (omega arith) (omega arith)
placed (still-pending x) = later (omega arith) (omega arith)
placed (descriptor-full x) = later (omega arith) (omega arith)
placed (descriptor-empty x) = later (omega arith) (omega arith)
placed (bad-node x) = later (omega arith) (omega arith)
placed (bad-schedule x) = later (omega arith) (omega arith)
placed (bad-dispatch x) = later (omega arith) (omega arith)
placed (bad-ticks x) = later (omega arith) (omega arith)
placed (already-runs x) = later (omega arith) (omega arith)

-- memory that is no node
pub no-node-first : (m : List ℕ) (n : Node) (op : Operation) → is_memory m ≡ false → FirstDue m n op 1
no-node-first m n op e = refuse (not-node e) (λ k d. least (placed d))
  where
    least : {k : ℕ} → Placed m op k → 1 ≤ k
    least (first z f) = omega arith
    least (second z f) = omega arith
    least (later l h) = omega arith

module _ {m : List ℕ} {n : Node} {op : Operation} {a : ℕ} (f : FirstDue m n op a) where
  -- the first number that is due is at most one that is
  at_most : {k : ℕ} → Due m n op k → (1 ≤ a) × (a ≤ k)
  at_most {k} d =
      let some : a ≢ 0 = λ z. f.none z k d in
      let least : ¬ (k < a) = λ l. f.first k l d in
      (omega arith, omega arith)

  -- the answer is one of 0 to 16
  pub first-numbered : a ≤ 16
  first-numbered = go (ℕ_discrete a 0)
    where
      last : Placed m op a → a ≤ 16
      last (first e x) = omega arith
      last (second e x) = omega arith
      last (later l h) = h

      go : Dec (a ≡ 0) → a ≤ 16
      go (yes z) = omega arith
      go (no not) = last (placed (f.due not))

  -- it is 1 exactly where the memory is no node
  pub first_one : (a ≡ 1) ↔ (is_memory m ≡ false)
  first_one = (λ e. go e (placed (f.due (omega arith))), λ e. let b = at_most (not-node e) in omega arith)
    where
      go : a ≡ 1 → Placed m op a → is_memory m ≡ false
      go e (first z x) = x
      go e (second z x) = absurd (omega arith)
      go e (later l h) = absurd (omega arith)

  -- on a node it is 2 exactly for an unknown operation
  pub first_two : is_memory m ≡ true → (a ≡ 2) ↔ (op ≡ unknown)
  first_two node = (
    λ e. go e (placed (f.due (omega arith))),
    λ e.
        let b = at_most (subst (λ (o : Operation). Due m n o 2) (sym e) unreadable) in
        let other : a ≢ 1 = λ o. true≢false (sym node ∙ first_one.0 o) in
        omega arith,
  )
    where
      go : a ≡ 2 → Placed m op a → op ≡ unknown
      go e (first z x) = absurd (omega arith)
      go e (second z x) = x
      go e (later l h) = absurd (omega arith)

-- the table leaves no choice: two answers that are first are the same
pub first-unique : {m : List ℕ} {n : Node} {op : Operation} {a b : ℕ} → FirstDue m n op a → FirstDue m n op b → a ≡ b
first-unique {m} {n} {op} {a} {b} f h = go (ℕ_discrete a 0) (ℕ_discrete b 0)
  where
    go : Dec (a ≡ 0) → Dec (b ≡ 0) → a ≡ b
    go (yes y) (yes z) = omega arith
    go (yes y) (no z) = absurd (f.none y b (h.due z))
    go (no y) (yes z) = absurd (h.none z a (f.due y))
    go (no y) (no z) = let p = at_most f (h.due z) in let q = at_most h (f.due y) in omega arith
