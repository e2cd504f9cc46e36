-- The Bool twin of the invariants is the record: a node passes the tests of is_node exactly where it is Valid. Each test and the fact that
-- it computes are one statement, "passes ↔ holds", so that the two halves of the theorem are read off by rewriting the tests to the facts.
-- Assumes nothing.
use Prim.Native.Nat.{ℕ, zero, suc, ◌+◌, ◌≤◌, ◌<◌}
use mathlib.Core.Path.{◌≡◌, refl, sym, subst}
use mathlib.Core.Logic.Iff
use mathlib.Core.Logic.{◌↔◌, ◌⊎◌, inl, inr}
use mathlib.Core.Bool.{Bool, true, false, not, ◌||◌, or_comm, and-eq-true_iff, true≢false, false≢true}
use mathlib.Core.List.{List, [], ◌∷◌, nil≢cons, head-eq_of_cons-eq}
use native.Mathlib.Omega.{arith}
use native.Mathlib.Nat.{eq-or-lt_of_le}
use lib.Dec.{leb, ltb, eqb}
use borrow.Author.Tests.{leb-true, ltb-true, eqb-true, le-leb, lt-ltb, eq-eqb, eqb-false, ne_eqb, not-true}
use Rattle.rules.specs.Lists.{all, Every, passes, is_empty, count_of, up_from}
use Rattle.rules.specs.Build.{Build, Sensible, group_count}
use Rattle.rules.specs.Node.{Message, Place, Buffer, Group, Node, group_of, forced, line}
use Rattle.rules.specs.Paging.{in_frame}
use Rattle.rules.specs.Settling.{may_stay}
use Rattle.rules.specs.Valid.{Zero, GoodMessage, GoodPlace, GoodWaiting, Wiped, GoodBuffer, GoodGroup, IsSwap, FirstInFrame, Valid}
use Rattle.rules.specs.Valid.{is_message, is_place, is_waiting, is_wiped, is_buffer, only_atomic, is_group, pending_has_line, runner_atomic, head_stays, is_swap, first_in_frame, runner_in_frame, stands_once, node_tests, is_node}

-- Tests in general.

module _ {A : Type 0} where
  -- a test of every element tells a fact of every element
  pub all-every : (p : A → Bool) (P : A → Type 0) → ((x : A) → (p x ≡ true) ↔ P x) → (xs : List A) → (all p xs ≡ true) ↔ Every P xs
  all-every p P t [] = (λ e. tt, λ u. refl)
  all-every p P t (x ∷ xs) = Iff.trans (and-eq-true_iff (p x) (all p xs)) (Iff.and (t x) (all-every p P t xs))

  -- all tests of the list pass
  pub passes-every : (ts : List (A → Bool)) (x : A) → (passes ts x ≡ true) ↔ Every (λ t. t x ≡ true) ts
  passes-every [] x = (λ e. tt, λ u. refl)
  passes-every (t ∷ ts) x = go (t x) refl (passes-every ts x)
    where
      go : (b : Bool) → t x ≡ b → (passes ts x ≡ true) ↔ Every (λ s. s x ≡ true) ts → (passes (t ∷ ts) x ≡ true) ↔ Every (λ s. s x ≡ true) (t ∷ ts)
      go true e r = rw e (λ p. (refl, r.0 p), λ q. r.1 q.1)
      go false e r = rw e (λ p. absurd (false≢true p), λ q. absurd (false≢true q.0))

-- a comparison tells the order
pub leb_tells : (a b : ℕ) → (leb a b ≡ true) ↔ (a ≤ b)
leb_tells a b = (leb-true a b, le-leb a b)

-- the strict order
pub ltb-tells : (a b : ℕ) → (ltb a b ≡ true) ↔ (a < b)
ltb-tells a b = (ltb-true a b, lt-ltb a b)

-- or the equation
pub eqb_tells : (a b : ℕ) → (eqb a b ≡ true) ↔ (a ≡ b)
eqb_tells a b = (eqb-true a b, eq-eqb a b)

-- a number that is not 0 is at least 1
pub zero-tells : (a : ℕ) → (eqb a 0 ≡ false) ↔ (1 ≤ a)
zero-tells a = (λ e. omega (arith, eqb-false a 0 e), λ h. ne_eqb a 0 (omega arith))

-- "not a, or b" is an implication
pub implies-tells : (a b : Bool) → (not a || b ≡ true) ↔ (a ≡ true → b ≡ true)
implies-tells true b = (λ e h. e, λ f. f refl)
implies-tells false b = (λ e h. absurd (false≢true h), λ f. refl)

-- "a or b" is one from a's failure
pub or-tells : (a b : Bool) → (a || b ≡ true) ↔ (a ≡ false → b ≡ true)
or-tells true b = (λ e h. absurd (true≢false h), λ f. refl)
or-tells false b = (λ e h. e, λ f. f refl)

-- what follows from "a or b" follows from each
either-tells : (a b : Bool) (P : Type 0) → ((a || b ≡ true) → P) ↔ ((a ≡ true → P) × (b ≡ true → P))
either-tells true b P = (λ f. (f, λ e. f refl), λ p. p.0)
either-tells false b P = (λ f. (λ e. absurd (false≢true e), f), λ p. p.1)

-- and "not a" is that failure
pub not-tells : (a : Bool) → (not a ≡ true) ↔ (a ≡ false)
not-tells a = (not-true a, λ e. rw e)

-- a test of k numbers from a on tells a fact of each of them
pub range-tells : (p : ℕ → Bool) (a k : ℕ) → (all p (up_from a k) ≡ true) ↔ ((i : ℕ) → a ≤ i → i < a + k → p i ≡ true)
range-tells p a zero = (λ e i l h. absurd (omega arith), λ f. refl)
range-tells p a (suc k) = (
  λ e i l h.
      let both = (and-eq-true_iff (p a) (all p (up_from (suc a) k))).0 e in
      let next : (suc a ≤ i → p i ≡ true) = λ l'. (range-tells p (suc a) k).0 both.1 i l' (omega arith) in
      first i both.0 next (eq-or-lt_of_le l),
  λ f.
      let next = (range-tells p (suc a) k).1 (λ i l h. f i (omega arith) (omega arith)) in
      (and-eq-true_iff (p a) (all p (up_from (suc a) k))).1 (f a (omega arith) (omega arith), next),
)
  where
    first : (i : ℕ) → p a ≡ true → (suc a ≤ i → p i ≡ true) → (a ≡ i) ⊎ (a < i) → p i ≡ true
    first i e f (inl q) = subst (λ (j : ℕ). p j ≡ true) q e
    first i e f (inr l) = f l

pub ruleset tells = (and-eq-true_iff, leb_tells, ltb-tells, eqb_tells, implies-tells)

-- The tests of a node's parts.

-- a queued message
message-tells : (m : Message) → (is_message m ≡ true) ↔ GoodMessage m
unfolding is_message
message-tells m = (λ (h : is_message m ≡ true). let k = simp tells at h in search, λ g. simp tells (search))

-- a queue of them
messages-tell : (q : List Message) → (all is_message q ≡ true) ↔ Every GoodMessage q
messages-tell = all-every is_message GoodMessage message-tells

-- a place
place-tells : (p : Place) → (is_place p ≡ true) ↔ GoodPlace p
unfolding is_place
place-tells p = (λ (h : is_place p ≡ true). let k = simp tells at h in search, λ g. simp tells (search))

-- places
places-tell : (ps : List Place) → (all is_place ps ≡ true) ↔ Every GoodPlace ps
places-tell = all-every is_place GoodPlace place-tells

-- words that are 0
pub zeros-tell : (ws : List ℕ) → (all (eqb 0) ws ≡ true) ↔ Every Zero ws
zeros-tell = all-every (eqb 0) Zero (λ w. (λ e. sym (eqb-true 0 w e), λ e. eq-eqb 0 w (sym e)))

-- a place where a message waits
waiting-tells : (p : Place) → (is_waiting p ≡ true) ↔ GoodWaiting p
unfolding is_waiting
waiting-tells p =
    (λ (h : is_waiting p ≡ true). let k = simp (tells, zeros-tell) at h in search, λ g. simp (tells, zeros-tell) (search))

-- such places
waitings-tell : (ps : List Place) → (all is_waiting ps ≡ true) ↔ Every GoodWaiting ps
waitings-tell = all-every is_waiting GoodWaiting waiting-tells

-- a place where none waits
wiped-tells : (p : Place) → (is_wiped p ≡ true) ↔ Wiped p
unfolding is_wiped
wiped-tells p =
    (λ (h : is_wiped p ≡ true). let k = simp (tells, zeros-tell) at h in search, λ g. simp (tells, zeros-tell) (search))

-- such places
all-wiped-tells : (ps : List Place) → (all is_wiped ps ≡ true) ↔ Every Wiped ps
all-wiped-tells = all-every is_wiped Wiped wiped-tells

-- flags that stand only with atomic
flags-tell : (G : Group)
    → (only_atomic G ≡ true)
    ↔ ((G.pending ≡ true → G.atomic ≡ true) × ((G.force ≡ true → G.atomic ≡ true) × (G.revoked ≡ true → G.atomic ≡ true)))
unfolding only_atomic
flags-tell G = rw (or_comm G.atomic) (simp (implies-tells, either-tells) Iff.rfl)

module _ (b : Build) where
  -- a buffer
  buffer-tells : (v : Buffer) → (is_buffer b v ≡ true) ↔ GoodBuffer b v
  unfolding is_buffer
  buffer-tells v = (
    λ (h : is_buffer b v ≡ true). let k = simp (tells, places-tell, waitings-tell, all-wiped-tells) at h in search,
    λ g. simp (tells, places-tell, waitings-tell, all-wiped-tells) (search),
  )

  -- a group
  group-tells : (G : Group) → (is_group b G ≡ true) ↔ GoodGroup b G
  unfolding is_group
  group-tells G = (
    λ (h : is_group b G ≡ true). let k = simp (tells, buffer-tells, flags-tell) at h in search,
    λ g. simp (tells, buffer-tells, flags-tell) (search),
  )

  -- the groups
  groups-tell : (Gs : List Group) → (all (is_group b) Gs ≡ true) ↔ Every (GoodGroup b) Gs
  groups-tell = all-every (is_group b) (GoodGroup b) group-tells

  -- swap pages
  swaps-tell : (ss : List ℕ) → (all (is_swap b) ss ≡ true) ↔ Every (IsSwap b) ss
  unfolding is_swap
  swaps-tell = all-every (is_swap b) (IsSwap b) (leb_tells b.frames)

  -- the first page of a list
  first-tells : (ps : List ℕ) → (first_in_frame b ps ≡ true) ↔ FirstInFrame b ps
  unfolding first_in_frame in_frame
  first-tells [] = (λ e. tt, λ u. refl)
  first-tells (p ∷ ps) = ltb-tells p b.frames

-- each of the k first numbers stands once
once-tells : (fs : List ℕ) (k : ℕ) → (all (stands_once fs) (up_from 0 k) ≡ true) ↔ ((f : ℕ) → f < k → count_of f fs ≡ 1)
unfolding stands_once
once-tells fs k =
    let t = range-tells (stands_once fs) 0 k in
    (λ e f h. eqb-true _ 1 (t.0 e f (omega arith) (omega arith)), λ o. t.1 (λ f l h. eq-eqb _ 1 (o f (omega arith))))

-- pending only with a line
pending-tells : (n : Node)
    → (all (pending_has_line n) (up_from 1 group_count) ≡ true)
    ↔ ((g : ℕ) → 1 ≤ g → g ≤ group_count → (group_of n g).pending ≡ true → is_empty (line n g) ≡ false)
unfolding pending_has_line
pending-tells n =
    let t = range-tells (pending_has_line n) 1 group_count in (
      λ e g l h. simp (implies-tells, not-tells) at (t.0 e g l (omega arith)),
      λ k. t.1 (λ g l h. simp (implies-tells, not-tells) (k g l (omega arith))),
    )

-- a running group with a line is atomic
runner-tells : (n : Node)
    → (runner_atomic n ≡ true) ↔ (1 ≤ n.running → is_empty (line n n.running) ≡ false → (group_of n n.running).atomic ≡ true)
unfolding runner_atomic
runner-tells n = simp (or-tells, zero-tells) Iff.rfl

-- a running group's first page is in a frame
resident-tells : (b : Build) (n : Node) → (runner_in_frame b n ≡ true) ↔ (1 ≤ n.running → FirstInFrame b (group_of n n.running).buffer.frames)
unfolding runner_in_frame
resident-tells b n = simp (or-tells, zero-tells, first-tells) Iff.rfl

-- the head of the queue may stay, and without one the timer is 0 or forced
head-tells : (n : Node) (q : List Message)
    → (head_stays q n ≡ true)
    ↔ (((m : Message) (r : List Message) → q ≡ m ∷ r → may_stay n m ≡ true) × (q ≡ [] → forced n ≡ false → n.timer ≡ 0))
unfolding head_stays
head-tells n [] =
    let idle : (eqb n.timer 0 || forced n ≡ true) ↔ (forced n ≡ false → n.timer ≡ 0) = rw (or_comm (eqb n.timer 0)) (simp (or-tells, eqb_tells) Iff.rfl) in
    (λ e. (λ m r p. absurd (nil≢cons p), λ p. idle.0 e), λ h. idle.1 (h.1 refl))
head-tells n (x ∷ xs) =
    (λ e. (λ m r p. rw (head-eq_of_cons-eq p) at e, λ p. absurd (nil≢cons (sym p))), λ h. h.0 x xs refl)

ruleset node-facts =
    (passes-every, pending-tells, once-tells, runner-tells, resident-tells, head-tells, messages-tell, groups-tell, swaps-tell, leb_tells, ltb-tells, eqb_tells)

-- what passes the tests of a build that makes sense is valid
pub is_node-valid : (b : Build) (n : Node) → Sensible b → is_node b n ≡ true → Valid b n
unfolding is_node node_tests
is_node-valid b n s h = let k = simp node-facts at h in search

-- and what is valid passes them
pub valid-is_node : (b : Build) (n : Node) → Valid b n → is_node b n ≡ true
unfolding is_node node_tests
valid-is_node b n v =
    simp node-facts
    (search, (search, (search, (search, (search, (search, (v.frames-once, (search, (search, (v.entered-once, search))))))))))
