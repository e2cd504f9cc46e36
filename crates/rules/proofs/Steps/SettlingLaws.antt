-- Settling and draining, which are storing again and again: a sound node stays sound, and every line, flag and descriptor and the running
-- group are as they were. Of the queue they take the front: moved counts what is gone, and a head that is left may stay. Assumes nothing.
use Prim.Native.Nat.{ℕ, ◌+◌, ◌≤◌}
use mathlib.Core.Path.{◌≡◌, refl, sym, ap, ◌∙◌}
use mathlib.Core.Bool.{Bool, true, false, true≢false, cond}
use mathlib.Core.List.{List, [], ◌∷◌}
use native.Mathlib.Nat.{zero-add}
use native.Mathlib.Omega.{arith}
use lib.ListN.{length, drop}
use Rattle.rules.specs.Lists.{is_empty}
use Rattle.rules.specs.Build.{Build, group_count}
use Rattle.rules.specs.Node.{Message, Group, Node, group_of, with_timer, with_queue, with_free, with_paging, with_group, with_flags, buffer_holds, buffered, forced, timer_runs, in_buffer, in_queue, line}
use Rattle.rules.specs.Frames.{put, with_stock}
use Rattle.rules.specs.Paging.{store}
use Rattle.rules.specs.Settling.{Moved, one_more, may_stay, pass, rest_timer, settle, drain, calls, upcall}
use Rattle.rules.specs.Sound.{Sound}
use Rattle.rules.proofs.Steps.SoundLaws.{SameFlags, flags-refl, flags-trans}
use Rattle.rules.proofs.Steps.NodeLaws.{sound-timer}
use Rattle.rules.proofs.Steps.PagingLaws.{prepared-repaged}
use Rattle.rules.proofs.Steps.StoreLaws.{store-sound, store_line, store-flags}

-- what holds of a pass that ends and is handed on by a message stored holds of every pass
pub pass-induct : (b : Build) (P : List Message → Node → Moved → Type 0)
    → ((n : Node) → P [] n (record { node = with_queue [] n; moved = 0 }))
    → ((m : Message) (q : List Message) (n : Node) → may_stay n m ≡ true → P (m ∷ q) n (record { node = with_queue (m ∷ q) n; moved = 0 }))
    → ((m : Message) (q : List Message) (n : Node) (s : Moved) → P q (store b m n) s → P (m ∷ q) n (one_more s))
    → (q : List Message) (n : Node) → P q n (pass b q n)
unfolding pass
pass-induct b P done stays moves [] n = done n
pass-induct b P done stays moves (m ∷ q) n = go (may_stay n m) refl (pass-induct b P done stays moves q (store b m n))
  where
    go : (t : Bool) → may_stay n m ≡ t → P q (store b m n) (pass b q (store b m n))
        → P (m ∷ q) n (elim t [ true ↦ record { node = with_queue (m ∷ q) n; moved = 0 } | false ↦ one_more (pass b q (store b m n)) ])
    go true e later = stays m q n e
    go false e later = moves m q n (pass b q (store b m n)) later

-- a pass leaves a sound node
pub pass-sound : {b : Build} (q : List Message) (n : Node) → Sound b (with_queue q n) → Sound b (pass b q n).node
unfolding one_more
pass-sound {b} =
    pass-induct b (λ q n s. Sound b (with_queue q n) → Sound b s.node) (λ n h. h) (λ m q n e h. h) (λ m q n s later h. later (store-sound m q n h))

-- and every line
pub pass-line : {b : Build} (q : List Message) (n : Node) → Sound b (with_queue q n) → (g : ℕ) → 1 ≤ g → g ≤ group_count
    → line (pass b q n).node g ≡ line (with_queue q n) g
unfolding one_more
pass-line {b} =
    pass-induct b (λ q n s. Sound b (with_queue q n) → (g : ℕ) → 1 ≤ g → g ≤ group_count → line s.node g ≡ line (with_queue q n) g)
    (λ n h g low high. refl) (λ m q n e h g low high. refl)
    (λ m q n s later h g low high. later (store-sound m q n h) g low high ∙ store_line m q n h g low high)

-- flags and descriptors
pub pass-flags : (b : Build) (q : List Message) (n : Node) (g : ℕ) → SameFlags (group_of (pass b q n).node g) (group_of n g)
unfolding one_more group_of with_queue
pass-flags b =
    pass-induct b (λ q n s. (g : ℕ) → SameFlags (group_of s.node g) (group_of n g))
    (λ n g. flags-refl) (λ m q n e g. flags-refl) (λ m q n s later g. flags-trans (later g) (store-flags b m n g))

-- storing, and so a pass, leaves the running group
pub store-running : (b : Build) (m : Message) (n : Node) → (store b m n).running ≡ n.running
unfolding store put with_stock with_group with_free with_paging
store-running b m n = (prepared-repaged b m.group n).running

-- and the queue
pub queue-stored : (b : Build) (m : Message) (n : Node) → (store b m n).queue ≡ n.queue
unfolding store put with_stock with_group with_free with_paging
queue-stored b m n = (prepared-repaged b m.group n).queue

pub pass-running : (b : Build) (q : List Message) (n : Node) → (pass b q n).node.running ≡ n.running
unfolding one_more with_queue
pass-running b =
    pass-induct b (λ q n s. s.node.running ≡ n.running) (λ n. refl) (λ m q n e. refl) (λ m q n s later. later ∙ store-running b m n)

-- of the queue it leaves what it has not moved
pub pass-queue : (b : Build) (q : List Message) (n : Node) → (pass b q n).node.queue ≡ drop (pass b q n).moved q
unfolding one_more with_queue
pass-queue b = pass-induct b (λ q n s. s.node.queue ≡ drop s.moved q) (λ n. refl) (λ m q n e. refl) (λ m q n s later. later)

pub pass-moved : (b : Build) (q : List Message) (n : Node) → (pass b q n).moved + length (pass b q n).node.queue ≡ length q
unfolding one_more with_queue
pass-moved b =
    pass-induct b (λ q n s. s.moved + length s.node.queue ≡ length q) (λ n. refl) (λ m q n e. zero-add _) (λ m q n s later. omega arith)

-- a head that it leaves may stay
pub pass-head : (b : Build) (q : List Message) (n : Node) (m : Message) (r : List Message) → (pass b q n).node.queue ≡ m ∷ r → may_stay (pass b q n).node m ≡ true
unfolding one_more with_queue may_stay buffered buffer_holds group_of
pass-head b =
    pass-induct b (λ q n s. (m : Message) (r : List Message) → s.node.queue ≡ m ∷ r → may_stay s.node m ≡ true)
    (λ n m r none. cc) (λ m q n e m' r same. let first : m ≡ m' = cc in rw first at e) (λ m q n s later. later)

-- the timer is no part of a line
pub timer-line : (t : ℕ) (n : Node) (g : ℕ) → line (with_timer t n) g ≡ line n g
unfolding with_timer line in_buffer in_queue group_of
timer-line t n g = refl

-- the timer runs where a message is queued; with an empty queue where it is forced
pub runs-queued : (n : Node) → is_empty n.queue ≡ false → timer_runs n ≡ true
unfolding timer_runs
runs-queued n some = rw some

pub runs-empty : (n : Node) → n.queue ≡ [] → timer_runs n ≡ forced n
unfolding timer_runs
runs-empty n none = rw none

-- it runs for one of these two causes
pub runs-cases : (P : Type 0) (n : Node) → timer_runs n ≡ true → (is_empty n.queue ≡ false → P) → (forced n ≡ true → P) → P
unfolding timer_runs
runs-cases P n runs queued force = go (is_empty n.queue) refl
  where
    go : (t : Bool) → is_empty n.queue ≡ t → P
    go true e = force (sym (rw e) ∙ runs)
    go false e = queued e

-- whether it is forced hangs on the running group's flags alone
pub forced-same : (n k : Node) → n.running ≡ k.running → ((g : ℕ) → SameFlags (group_of n g) (group_of k g)) → forced n ≡ forced k
unfolding forced
forced-same n k same flags = let f = flags n.running in rw (f.force, f.atomic, same)

-- a timer put to rest, or not
pub rest-cases : (P : Node → Type 0) (n : Node) → (timer_runs n ≡ false → P (with_timer 0 n)) → (timer_runs n ≡ true → P n) → P (rest_timer n)
unfolding rest_timer
rest-cases P n rest runs = go (timer_runs n) refl
  where
    go : (t : Bool) → timer_runs n ≡ t → P (cond t n (with_timer 0 n))
    go true e = runs e
    go false e = rest e

-- settling leaves a sound node
pub settle-sound : {b : Build} {n : Node} → Sound b n → Sound b (settle b n).node
unfolding settle with_queue
settle-sound {b} {n} s =
    let p = pass-sound n.queue n s in
    rest-cases (Sound b) (pass b n.queue n).node (λ e. sound-timer p 0 (omega (arith, s.timer-bound))) (λ e. p)

-- every line
pub settle-line : {b : Build} {n : Node} → Sound b n → (g : ℕ) → 1 ≤ g → g ≤ group_count → line (settle b n).node g ≡ line n g
unfolding settle with_queue
settle-line {b} {n} s g low high =
    let p = (pass b n.queue n).node in
    rest-cases (λ r. line r g ≡ line p g) p (λ e. timer-line 0 p g) (λ e. refl) ∙ pass-line n.queue n s g low high

-- flags and descriptors
pub settle-flags : (b : Build) (n : Node) (g : ℕ) → SameFlags (group_of (settle b n).node g) (group_of n g)
unfolding settle group_of with_timer
settle-flags b n g =
    let p = pass-flags b n.queue n g in
    rest-cases (λ r. SameFlags (group_of r g) (group_of n g)) (pass b n.queue n).node (λ e. p) (λ e. p)

-- and the running group
pub settle-running : (b : Build) (n : Node) → (settle b n).node.running ≡ n.running
unfolding settle with_timer
settle-running b n =
    let p = pass-running b n.queue n in
    rest-cases (λ r. r.running ≡ n.running) (pass b n.queue n).node (λ e. p) (λ e. p)

-- of the queue it leaves what it has not moved
settled-queue : (b : Build) (n : Node) → (settle b n).node.queue ≡ (pass b n.queue n).node.queue
unfolding settle with_timer
settled-queue b n =
    let p = (pass b n.queue n).node in
    rest-cases (λ r. r.queue ≡ p.queue) p (λ e. refl) (λ e. refl)

pub settle-queue : (b : Build) (n : Node) → (settle b n).node.queue ≡ drop (settle b n).moved n.queue
unfolding settle
settle-queue b n = settled-queue b n ∙ pass-queue b n.queue n

pub settle-moved : (b : Build) (n : Node) → (settle b n).moved + length (settle b n).node.queue ≡ length n.queue
unfolding settle
settle-moved b n = ap (λ (q : List Message). (pass b n.queue n).moved + length q) (settled-queue b n) ∙ pass-moved b n.queue n

-- a head that it leaves may stay
pub settle-head : (b : Build) (n : Node) (m : Message) (q : List Message) → (settle b n).node.queue ≡ m ∷ q → may_stay (settle b n).node m ≡ true
unfolding settle with_timer may_stay buffered buffer_holds group_of
settle-head b n m q head =
    let stays = pass-head b n.queue n m q (sym (settled-queue b n) ∙ head) in
    rest-cases (λ r. may_stay r m ≡ true) (pass b n.queue n).node (λ e. stays) (λ e. stays)

-- where the timer does not run then, it is 0
pub settle-timer : (b : Build) (n : Node) → timer_runs (settle b n).node ≡ false → (settle b n).node.timer ≡ 0
unfolding settle with_timer
settle-timer b n =
    rest-cases (λ r. timer_runs r ≡ false → r.timer ≡ 0) (pass b n.queue n).node (λ e rests. refl) (λ e rests. absurd (true≢false (sym e ∙ rests)))

-- where it runs, it is left
pub timer-stored : (b : Build) (m : Message) (n : Node) → (store b m n).timer ≡ n.timer
unfolding store put with_stock with_group with_free with_paging
timer-stored b m n = (prepared-repaged b m.group n).timer

pass-timer : (b : Build) (q : List Message) (n : Node) → (pass b q n).node.timer ≡ n.timer
unfolding one_more with_queue
pass-timer b = pass-induct b (λ q n s. s.node.timer ≡ n.timer) (λ n. refl) (λ m q n e. refl) (λ m q n s later. later ∙ timer-stored b m n)

pub settle-keeps : (b : Build) (n : Node) → timer_runs (settle b n).node ≡ true → (settle b n).node.timer ≡ n.timer
unfolding settle with_timer timer_runs forced group_of
settle-keeps b n =
    rest-cases (λ r. timer_runs r ≡ true → r.timer ≡ n.timer) (pass b n.queue n).node
    (λ e runs. absurd (true≢false (sym runs ∙ e))) (λ e runs. pass-timer b n.queue n)

-- a head that may not stay moves
pub pass-moves : (b : Build) (m : Message) (q : List Message) (n : Node) → may_stay n m ≡ false → 1 ≤ (pass b (m ∷ q) n).moved
unfolding pass one_more
pass-moves b m q n e = rw (e, pass) (omega arith)

-- draining leaves a sound node
pub drain-sound : {b : Build} (q : List Message) (n : Node) → Sound b (with_queue q n) → Sound b (drain b q n)
unfolding drain
drain-sound [] n s = s
drain-sound {b} (m ∷ q) n s = drain-sound q (store b m n) (store-sound m q n s)

-- every line
pub drain-line : {b : Build} (q : List Message) (n : Node) → Sound b (with_queue q n) → (g : ℕ) → 1 ≤ g → g ≤ group_count
    → line (drain b q n) g ≡ line (with_queue q n) g
unfolding drain
drain-line [] n s g low high = refl
drain-line {b} (m ∷ q) n s g low high = drain-line q (store b m n) (store-sound m q n s) g low high ∙ store_line m q n s g low high

-- flags and descriptors
pub drain-flags : (b : Build) (q : List Message) (n : Node) (g : ℕ) → SameFlags (group_of (drain b q n) g) (group_of n g)
unfolding drain group_of with_queue
drain-flags b [] n g = flags-refl
drain-flags b (m ∷ q) n g = flags-trans (drain-flags b q (store b m n) g) (store-flags b m n g)

-- and the running group
pub drain-running : (b : Build) (q : List Message) (n : Node) → (drain b q n).running ≡ n.running
unfolding drain with_queue
drain-running b [] n = refl
drain-running b (m ∷ q) n = drain-running b q (store b m n) ∙ store-running b m n

-- the queue is then empty
pub drain-queue : (b : Build) (q : List Message) (n : Node) → (drain b q n).queue ≡ []
unfolding drain with_queue
drain-queue b [] n = refl
drain-queue b (m ∷ q) n = drain-queue b q (store b m n)

-- an upcall changes the running group's flags where one is due, and else nothing
pub upcall-cases : (P : Node → Type 0) (n : Node)
    → (calls n ≡ true → P (with_group n.running (with_flags true true (group_of n n.running)) n))
    → (calls n ≡ false → P n) → P (upcall n)
unfolding upcall
upcall-cases P n due quiet = go (calls n) refl
  where
    go : (t : Bool) → calls n ≡ t → P (cond t (with_group n.running (with_flags true true (group_of n n.running)) n) n)
    go true e = due e
    go false e = quiet e

-- so it leaves what does not look at the groups
pub upcall-kept : {A : Type 0} (f : Node → A) (n : Node) → ((G : Group) → f (with_group n.running G n) ≡ f n) → f (upcall n) ≡ f n
upcall-kept f n same = upcall-cases (λ k. f k ≡ f n) n (λ e. same (with_flags true true (group_of n n.running))) (λ e. refl)
