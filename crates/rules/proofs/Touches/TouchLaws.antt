-- What the pieces of a step touch: one part set, a group exchanged, pages moved, a message stored, and so settling, draining and the upcall, which
-- are the rest of every step. Assumes nothing.
use Prim.Native.Nat.{ℕ, zero, suc, ◌+◌, ◌≤◌}
use mathlib.Core.Bool.{Bool, true, false, true≢false, cond, not}
use mathlib.Core.List.{List, [], ◌∷◌, ◌++◌}
use mathlib.Core.Path.{◌≡◌, refl, sym, ap, ◌∙◌}
use lib.Dec.{eqb, ltb}
use lib.ListN.{length, take}
use borrow.Author.Tests.{eqb-false}
use Rattle.rules.specs.Lists.{Every, all, is_empty}
use Rattle.rules.specs.Build.{Build}
use Rattle.rules.specs.Node.{Message, Buffer, Group, Node, group_of, with_timer, with_running, with_queue, with_free, with_paging, with_entered, with_group, with_buffer, with_flags, is_of}
use Rattle.rules.specs.Frames.{Stock, with_stock, with_room, take_frame, extended, appended, put}
use Rattle.rules.specs.Paging.{runner_resident, store}
use Rattle.rules.specs.Operation.{Operation}
use Rattle.rules.specs.Settling.{pass, rest_timer, settle, drain, upcall, one_more}
use Rattle.rules.specs.Step.{Effect, finish}
use Rattle.rules.specs.Valid.{GoodMessage, Valid}
use Rattle.rules.specs.Private.{own}
use Rattle.rules.specs.Touches.{NodePart, GroupPart, running, timer, queue, free, swap, entered, out, brought, atomic, pending, force, revoked, used, count, places, pages, descriptor, part, group_part, row, stores, when, runs, is_moved, filling, row_of}
use Rattle.rules.proofs.Steps.EveryLaws.{every-mono}
use Rattle.rules.proofs.Steps.ListLaws.{filter-fail, filter-pass}
use Rattle.rules.proofs.Steps.NodeLaws.{kept, group-other}
use Rattle.rules.proofs.Steps.PagingLaws.{runner-repaged, Repaged, prepared-repaged}
use Rattle.rules.proofs.Steps.SettlingLaws.{rest-cases, settle-running, pass-induct, upcall-cases}
use Rattle.rules.proofs.Steps.StepLaws.{calls-group}
use Rattle.rules.proofs.Touches.PartLaws.{node_number, group_number, among, Kept, filling-inside, inside, inside-join, inside-left, inside-right, touched-inside, touched-same, touched-then, when-inside}

-- One part set.

pub timer-touched : (x : ℕ) (n : Node) → Kept (row (timer ∷ []) (λ g. [])) (with_timer x n) n
unfolding with_timer group_of
timer-touched x n = record { node = go; group = λ g low high p none. refl }
  where
    go : (p : NodePart) → among node_number p (timer ∷ []) ≡ false → part p (with_timer x n) ≡ part p n
    go running none = refl
    go timer none = absurd (true≢false none)
    go queue none = refl
    go free none = refl
    go swap none = refl
    go entered none = refl
    go out none = refl
    go brought none = refl

pub queue-touched : (q : List Message) (n : Node) → Kept (row (queue ∷ []) (λ g. [])) (with_queue q n) n
unfolding with_queue group_of
queue-touched q n = record { node = go; group = λ g low high p none. refl }
  where
    go : (p : NodePart) → among node_number p (queue ∷ []) ≡ false → part p (with_queue q n) ≡ part p n
    go running none = refl
    go timer none = refl
    go queue none = absurd (true≢false none)
    go free none = refl
    go swap none = refl
    go entered none = refl
    go out none = refl
    go brought none = refl

pub running-touched : (r : ℕ) (n : Node) → Kept (row (running ∷ []) (λ g. [])) (with_running r n) n
unfolding with_running group_of
running-touched r n = record { node = go; group = λ g low high p none. refl }
  where
    go : (p : NodePart) → among node_number p (running ∷ []) ≡ false → part p (with_running r n) ≡ part p n
    go running none = absurd (true≢false none)
    go timer none = refl
    go queue none = refl
    go free none = refl
    go swap none = refl
    go entered none = refl
    go out none = refl
    go brought none = refl

-- A group exchanged.

-- G has what the old group has but for these parts
abbrev pub Differs : List GroupPart → Group → Group → Type 0
Differs ps G H = (p : GroupPart) → among group_number p ps ≡ false → group_part p G ≡ group_part p H

part-group : (p : NodePart) (g : ℕ) (G : Group) (n : Node) → part p (with_group g G n) ≡ part p n
unfolding with_group
part-group running g G n = refl
part-group timer g G n = refl
part-group queue g G n = refl
part-group free g G n = refl
part-group swap g G n = refl
part-group entered g G n = refl
part-group out g G n = refl
part-group brought g G n = refl

pub group-touched : (ps : List GroupPart) (g : ℕ) (G : Group) (n : Node) → 1 ≤ g → Differs ps G (group_of n g)
    → Kept (row [] (λ h. when (eqb g h) ps)) (with_group g G n) n
group-touched ps g G n low differs = record { node = λ p none. part-group p g G n; group = λ h low' high p. go h low' p (eqb g h) refl }
  where
    go : (h : ℕ) → 1 ≤ h → (p : GroupPart) (t : Bool) → eqb g h ≡ t → among group_number p (when t ps) ≡ false
        → group_part p (group_of (with_group g G n) h) ≡ group_part p (group_of n h)
    go h low' p true e none = kept (group_part p) n g G (differs p none) h
    go h low' p false e none = ap (group_part p) (group-other n g h G low low' (λ same. eqb-false g h e (sym same)))

-- Pages moved.

pub repaged-touched : {k n : Node} → Repaged k n → Kept (row stores (λ g. pages ∷ [])) k n
repaged-touched {k} {n} r = record { node = go; group = λ g low high. each g }
  where
    go : (p : NodePart) → among node_number p stores ≡ false → part p k ≡ part p n
    go running none = r.running
    go timer none = r.timer
    go queue none = r.queue
    go free none = absurd (true≢false none)
    go swap none = absurd (true≢false none)
    go entered none = absurd (true≢false none)
    go out none = absurd (true≢false none)
    go brought none = absurd (true≢false none)

    each : (g : ℕ) (p : GroupPart) → among group_number p (pages ∷ []) ≡ false → group_part p (group_of k g) ≡ group_part p (group_of n g)
    each g atomic none = (r.groups g).flags.atomic
    each g pending none = (r.groups g).flags.pending
    each g force none = (r.groups g).flags.force
    each g revoked none = (r.groups g).flags.revoked
    each g used none = (r.groups g).used
    each g count none = (r.groups g).count
    each g places none = (r.groups g).places
    each g pages none = absurd (true≢false none)
    each g descriptor none = (r.groups g).flags.descriptor

-- A stock put in.

lines-touched : (fs es : List ℕ) (n : Node) → Kept (row (free ∷ entered ∷ []) (λ g. [])) (with_free fs (with_paging (with_entered es n.paging) n)) n
unfolding with_free with_paging with_entered group_of
lines-touched fs es n = record { node = go; group = λ g low high p none. refl }
  where
    go : (p : NodePart) → among node_number p (free ∷ entered ∷ []) ≡ false
        → part p (with_free fs (with_paging (with_entered es n.paging) n)) ≡ part p n
    go running none = refl
    go timer none = refl
    go queue none = refl
    go free none = absurd (true≢false none)
    go swap none = refl
    go entered none = absurd (true≢false none)
    go out none = refl
    go brought none = refl

-- A stock put in.

pub stock-touched : (ps : List GroupPart) (g : ℕ) (t : Stock) (n : Node) → 1 ≤ g → inside group_number ps ps ≡ true
    → Differs ps (with_buffer t.buffer (group_of n g)) (group_of n g)
    → Kept (row (free ∷ entered ∷ []) (λ h. when (eqb g h) ps)) (with_stock g t n) n
unfolding with_stock with_free with_paging with_entered group_of
stock-touched ps g t n low self differs =
    let n' = with_free t.free (with_paging (with_entered t.entered n.paging) n) in
    touched-then
    (touched-inside refl (λ h. when-inside (eqb g h) (eqb g h) ps ps (λ e. e) self) (group-touched ps g (with_buffer t.buffer (group_of n g)) n' low differs))
    (touched-inside refl (λ h. refl) (lines-touched t.free t.entered n))

-- A message stored.

room-used : (b : Build) (fs es : List ℕ) (v : Buffer) → (with_room b fs es v).buffer.used ≡ v.used
unfolding with_room take_frame extended
room-used b fs es v = go fs (ltb (v.used + v.count) (length v.places))
  where
    go : (fs : List ℕ) (t : Bool) → (cond t (record { free = fs; entered = es; buffer = v }) (take_frame b fs es v)).buffer.used ≡ v.used
    go fs true = refl
    go [] false = refl
    go (f ∷ fs) false = refl

put-touched : (b : Build) (m : Message) (n : Node) → 1 ≤ m.group
    → Kept (row (free ∷ entered ∷ []) (λ h. when (eqb m.group h) (count ∷ places ∷ pages ∷ []))) (put b m n) n
unfolding put with_buffer appended
put-touched b m n low =
    stock-touched (count ∷ places ∷ pages ∷ []) m.group _ n low refl differs
  where
    v : Buffer
    v = (group_of n m.group).buffer

    differs : Differs (count ∷ places ∷ pages ∷ []) (with_buffer (appended m (with_room b n.free n.paging.entered v).buffer) (group_of n m.group)) (group_of n m.group)
    differs atomic none = refl
    differs pending none = refl
    differs force none = refl
    differs revoked none = refl
    differs used none = room-used b n.free n.paging.entered v
    differs count none = absurd (true≢false none)
    differs places none = absurd (true≢false none)
    differs pages none = absurd (true≢false none)
    differs descriptor none = refl

own-inside : (t : Bool) → inside group_number (when t (count ∷ places ∷ pages ∷ [])) (filling t) ≡ true
own-inside true = refl
own-inside false = refl

pages-inside : (t : Bool) → inside group_number (pages ∷ []) (filling t) ≡ true
pages-inside true = refl
pages-inside false = refl

pub store-touched : (b : Build) (m : Message) (n : Node) → 1 ≤ m.group → Kept (row stores (λ h. filling (eqb m.group h))) (store b m n) n
unfolding store
store-touched b m n low =
    let k = prepared-repaged b m.group n in
    touched-then
    (touched-inside refl (λ h. own-inside (eqb m.group h)) (put-touched b m _ low))
    (touched-inside refl (λ h. pages-inside (eqb m.group h)) (repaged-touched k))

-- Settling, the drain and the upcall.

-- the message's group is a group
abbrev pub Grouped : Message → Type 0
Grouped m = 1 ≤ m.group

-- a message moved is one of its group's, and those behind it are moved too
moved-first : (g k : ℕ) (m : Message) (q : List Message) → eqb m.group g ≡ true → is_moved g (suc k) (m ∷ q) ≡ true
unfolding is_moved is_of
moved-first g k m q e = ap (λ (ms : List Message). not (is_empty ms)) (filter-pass (is_of g) m (take k q) e)

moved_later : (g k : ℕ) (m : Message) (q : List Message) → is_moved g k q ≡ true → is_moved g (suc k) (m ∷ q) ≡ true
unfolding is_moved is_of
moved_later g k m q e = go (is_of g m) refl
  where
    go : (t : Bool) → is_of g m ≡ t → is_moved g (suc k) (m ∷ q) ≡ true
    go true own = moved-first g k m q own
    go false other = ap (λ (ms : List Message). not (is_empty ms)) (filter-fail (is_of g) m (take k q) other) ∙ e

-- of an empty queue none is moved
pub moved_none : (g k : ℕ) → is_moved g k [] ≡ false
unfolding is_moved
moved_none g zero = refl
moved_none g (suc k) = refl

-- one more
stored-touched : (b : Build) (m : Message) (q : List Message) (n l : Node) (k : ℕ) → Grouped m
    → Kept (row (queue ∷ stores) (λ g. filling (is_moved g k q))) l (store b m n)
    → Kept (row (queue ∷ stores) (λ g. filling (is_moved g (suc k) (m ∷ q)))) l n
stored-touched b m q n l k low later =
    touched-then
    (touched-inside refl (λ g. filling-inside (is_moved g k q) (is_moved g (suc k) (m ∷ q)) (moved_later g k m q)) later)
    (touched-inside refl (λ g. filling-inside (eqb m.group g) (is_moved g (suc k) (m ∷ q)) (moved-first g k m q)) (store-touched b m n low))

pass-touched : (b : Build) (q : List Message) (n : Node) → Every Grouped q
    → Kept (row (queue ∷ stores) (λ g. filling (is_moved g (pass b q n).moved q))) (pass b q n).node n
unfolding one_more
pass-touched b =
    pass-induct b (λ q n s. Every Grouped q → Kept (row (queue ∷ stores) (λ g. filling (is_moved g s.moved q))) s.node n)
    (λ n all. touched-inside refl (λ g. refl) (queue-touched [] n)) (λ m q n e all. touched-inside refl (λ g. refl) (queue-touched (m ∷ q) n))
    (λ m q n s later all. stored-touched b m q n s.node s.moved all.0 (later all.1))

pub drain-touched : (b : Build) (q : List Message) (n : Node) → Every Grouped q
    → Kept (row (queue ∷ stores) (λ g. filling (is_moved g (length q) q))) (drain b q n) n
unfolding drain
drain-touched b [] n all = touched-inside refl (λ g. refl) (queue-touched [] n)
drain-touched b (m ∷ q) n all = stored-touched b m q n (drain b q (store b m n)) (length q) all.0 (drain-touched b q (store b m n) all.1)

pub rest-touched : (n : Node) → Kept (row (timer ∷ []) (λ g. [])) (rest_timer n) n
rest-touched n = rest-cases (λ k. Kept (row (timer ∷ []) (λ g. [])) k n) n (λ e. timer-touched 0 n) (λ e. touched-same refl)

pub settle-touched : (b : Build) (n : Node) → Every Grouped n.queue
    → Kept (row (timer ∷ queue ∷ stores) (λ g. filling (is_moved g (settle b n).moved n.queue))) (settle b n).node n
unfolding settle
settle-touched b n all =
    touched-then (touched-inside refl (λ g. refl) (rest-touched (pass b n.queue n).node))
    (touched-inside refl (λ g. filling-inside (is_moved g (pass b n.queue n).moved n.queue) _ (λ e. e)) (pass-touched b n.queue n all))

pub upcall-touched : (n : Node) → Kept (row [] (λ g. when (runs n g) (atomic ∷ pending ∷ []))) (upcall n) n
unfolding with_flags
upcall-touched n =
    upcall-cases (λ k. Kept (row [] (λ g. when (runs n g) (atomic ∷ pending ∷ []))) k n) n
    (λ e. group-touched (atomic ∷ pending ∷ []) n.running (with_flags true true (group_of n n.running)) n (calls-group n e) differs)
    (λ e. touched-same refl)
  where
    differs : Differs (atomic ∷ pending ∷ []) (with_flags true true (group_of n n.running)) (group_of n n.running)
    differs atomic none = absurd (true≢false none)
    differs pending none = absurd (true≢false none)
    differs force none = refl
    differs revoked none = refl
    differs used none = refl
    differs count none = refl
    differs places none = refl
    differs pages none = refl
    differs descriptor none = refl

-- The rest of a step.

pub finish-touched : (b : Build) (e : Effect) → Every Grouped e.node.queue
    → Kept
    (row (timer ∷ queue ∷ stores)
    (λ g. filling (is_moved g (settle b e.node).moved e.node.queue) ++ when (runs e.node g) (atomic ∷ pending ∷ [])))
    (finish b e).node e.node
unfolding finish
finish-touched b e all =
    let k = (settle b e.node).node in
    let l = runner_resident b k in
    let same : l.running ≡ e.node.running = (runner-repaged b k).running ∙ settle-running b e.node in
    touched-then
    (touched-inside refl
    (λ g. inside-right group_number (when (runs l g) (atomic ∷ pending ∷ [])) (filling (is_moved g (settle b e.node).moved e.node.queue))
    (when (runs e.node g) (atomic ∷ pending ∷ []))
    (when-inside (runs l g) (runs e.node g) (atomic ∷ pending ∷ []) (atomic ∷ pending ∷ []) (λ h. ap (λ (r : ℕ). eqb r g) (sym same) ∙ h) refl))
    (upcall-touched l))
    (touched-then
    (touched-inside refl
    (λ g. inside-left group_number (pages ∷ []) (filling (is_moved g (settle b e.node).moved e.node.queue)) (when (runs e.node g) (atomic ∷ pending ∷ []))
    (pages-inside (is_moved g (settle b e.node).moved e.node.queue)))
    (repaged-touched (runner-repaged b k)))
    (touched-inside refl
    (λ g. let t = is_moved g (settle b e.node).moved e.node.queue in
    inside-left group_number (filling t) (filling t) (when (runs e.node g) (atomic ∷ pending ∷ [])) (filling-inside t t (λ h. h)))
    (settle-touched b e.node all)))

-- what an operation touched before settling, and the rest of its step
module _ (b : Build) (e : Effect) (n : Node) (all : Every Grouped e.node.queue) where
  abbrev fills : ℕ → Bool
  fills g = is_moved g (settle b e.node).moved e.node.queue

  pub finished-touched : (ps : List NodePart) (fs ts : ℕ → List GroupPart)
      → inside node_number (timer ∷ queue ∷ stores) ps ≡ true → inside node_number ps ps ≡ true
      → ((g : ℕ) → inside group_number (fs g) (ts g) ≡ true) → ((g : ℕ) → inside group_number (filling (fills g)) (ts g) ≡ true)
      → Kept (row ps fs) e.node n
      → Kept (row ps (λ g. ts g ++ when (runs e.node g) (atomic ∷ pending ∷ []))) (finish b e).node n
  finished-touched ps fs ts enough self first later h =
      touched-then
      (touched-inside enough
      (λ g. inside-join group_number (filling (fills g)) (up g) (ts g ++ up g) (inside-left group_number (filling (fills g)) (ts g) (up g) (later g))
      (inside-right group_number (up g) (ts g) (up g)
      (when-inside (runs e.node g) (runs e.node g) (atomic ∷ pending ∷ []) (atomic ∷ pending ∷ []) (λ d. d) refl)))
      (finish-touched b e all))
      (touched-inside self (λ g. inside-left group_number (fs g) (ts g) (up g) (first g)) h)
    where
      up : ℕ → List GroupPart
      up g = when (runs e.node g) (atomic ∷ pending ∷ [])

-- the messages in a node's queue are of groups
pub grouped : {b : Build} {n : Node} → Valid b n → Every Grouped n.queue
grouped {n = n} v = every-mono GoodMessage Grouped (λ m good. good.group-low) n.queue v.queue-good

-- the row of an operation with this effect
abbrev pub Rows : Build → Node → Operation → Effect → Type 0
Rows b n op e = Kept (row_of n op (finish b e).report) (finish b e).node n
