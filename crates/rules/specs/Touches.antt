-- What each operation may touch, as a table: for each accepted step the parts of the node, and of each group, that may be others after it. Every
-- part that the table does not name is as it was. It is written from paper 01's table of operations, from settling and the upcall, and from
-- orders 1 to 3. Assumes nothing.
use Rattle.std.specs.Prelude.{ℕ, ◌≤◌, ◌≡◌, ◌≢◌, ◌⊎◌, Bool, true, false, cond, not, ◌&&◌, eqb, take, drop}
use mathlib.Core.List.{List, [], ◌∷◌, ◌++◌, Memᴰ}
use Rattle.rules.specs.Lists.{filter, is_empty}
use Rattle.rules.specs.Build.{Build, group_count}
use Rattle.rules.specs.Node.{Message, Place, Group, Node, group_of, is_of}
use Rattle.rules.specs.Operation.{Request, poll, peek, dispose, begin_atomic, end_atomic, describe, launch}
use Rattle.rules.specs.Operation.{Operation, arrive, schedule, preempt, dispatch, tick, turn, user, unknown, Report, accepted, no_trap, timeout_trap}
use Rattle.rules.specs.Step.{step}
use Rattle.rules.specs.Valid.{Valid}

-- The parts.

-- those of a node beside its groups
pub data NodePart : Type 0 where
  running : NodePart
  timer : NodePart
  queue : NodePart
  -- the free line
  free : NodePart
  -- the swap line
  swap : NodePart
  -- the order of entry
  entered : NodePart
  -- pages sent out
  out : NodePart
  -- pages brought in
  brought : NodePart

-- those of a group
pub data GroupPart : Type 0 where
  atomic : GroupPart
  pending : GroupPart
  force : GroupPart
  revoked : GroupPart
  -- h
  used : GroupPart
  -- n
  count : GroupPart
  -- the places of its pages, one page's after the other's, wherever the pages are
  places : GroupPart
  -- the list of its pages: where they are
  pages : GroupPart
  descriptor : GroupPart

-- what each is made of
abbrev pub Kind : NodePart → Type 0
Kind running = ℕ
Kind timer = ℕ
Kind queue = List Message
Kind free = List ℕ
Kind swap = List ℕ
Kind entered = List ℕ
Kind out = ℕ
Kind brought = ℕ

abbrev pub GroupKind : GroupPart → Type 0
GroupKind atomic = Bool
GroupKind pending = Bool
GroupKind force = Bool
GroupKind revoked = Bool
GroupKind used = ℕ
GroupKind count = ℕ
GroupKind places = List Place
GroupKind pages = List ℕ
GroupKind descriptor = List ℕ

-- the part of a node
abbrev pub part : (p : NodePart) → Node → Kind p
part running n = n.running
part timer n = n.timer
part queue n = n.queue
part free n = n.free
part swap n = n.paging.swap
part entered n = n.paging.entered
part out n = n.paging.out
part brought n = n.paging.brought

-- and of a group
abbrev pub group_part : (p : GroupPart) → Group → GroupKind p
group_part atomic G = G.atomic
group_part pending G = G.pending
group_part force G = G.force
group_part revoked G = G.revoked
group_part used G = G.buffer.used
group_part count G = G.buffer.count
group_part places G = G.buffer.places
group_part pages G = G.buffer.frames
group_part descriptor G = G.descriptor

-- The table.

-- what an accepted step may touch: parts of the node, and of each group by its number
pub record Row : Type 0 where
  pub node : List NodePart
  pub group : ℕ → List GroupPart

abbrev pub row : List NodePart → (ℕ → List GroupPart) → Row
row ps gs = record { node = ps; group = gs }

-- nothing at all
abbrev pub untouched : Row
untouched = row [] (λ g. [])

-- where frames and swap pages stand, and what is counted of them
abbrev pub stores : List NodePart
stores = free ∷ swap ∷ entered ∷ out ∷ brought ∷ []

-- what two rows name
abbrev pub both : Row → Row → Row
both s t = row (s.node ++ t.node) (λ g. s.group g ++ t.group g)

-- these parts where the test passes, else none
abbrev pub when : Bool → List GroupPart → List GroupPart
when t ps = cond t ps []

-- group g runs
abbrev pub runs : Node → ℕ → Bool
runs n g = eqb n.running g

-- a message of group g is among the first k of a queue
unfoldable pub is_moved : ℕ → ℕ → List Message → Bool
is_moved g k q = not (is_empty (filter (is_of g) (take k q)))

-- as messages move to buffers, pages of any group may be sent out and brought in; a group with a message among them has its buffer filled
abbrev pub filling : Bool → List GroupPart
filling own = pages ∷ when own (count ∷ places ∷ [])

-- O: "with nobody running, it changes nothing"; else the whole queue moves
abbrev pub preempt_row : Node → Report → Row
preempt_row n r =
    cond (eqb n.running 0) untouched (row (running ∷ timer ∷ queue ∷ stores) (λ g. filling (is_moved g r.moved n.queue)))

-- I: the new runner's first page may be brought in, for which another may go, and it may be called up
abbrev pub dispatch_row : ℕ → Row
dispatch_row h = row (running ∷ stores) (λ g. pages ∷ when (eqb h g) (atomic ∷ pending ∷ []))

-- the rows of M to L, on node n with report r
unfoldable pub request_row : Node → Request → Report → Row
request_row n poll r = untouched
request_row n (peek i) r = untouched
-- D "removes that message; pending off; timer 0": from the hardware queue, and messages behind it may move; or from the buffer, where a frame may
-- be freed and the group's next page brought in, for which none is sent out
request_row n dispose r =
    cond (eqb r.trap no_trap)
    (row (timer ∷ queue ∷ stores) (λ g. filling (is_moved g r.moved (drop 1 n.queue)) ++ when (runs n g) (pending ∷ [])))
    (row (timer ∷ free ∷ swap ∷ entered ∷ brought ∷ []) (λ g. when (runs n g) (pending ∷ used ∷ count ∷ places ∷ pages ∷ [])))
-- B: "atomic on"; "`B,1` turns force on"
request_row n (begin_atomic f) r = row [] (λ g. when (runs n g) (atomic ∷ force ∷ []))
-- N: "atomic off", force and revoked too; a timer that was forced may come to rest, and an upcall follow
request_row n end_atomic r = row (timer ∷ []) (λ g. when (runs n g) (atomic ∷ pending ∷ force ∷ revoked ∷ []))
-- P "adds to the descriptor", L "empties it"
request_row n (describe w) r = row [] (λ g. when (runs n g) (descriptor ∷ []))
request_row n (launch k) r = row [] (λ g. when (runs n g) (descriptor ∷ []))

-- the row of an accepted operation, on node n with report r
unfoldable pub row_of : Node → Operation → Report → Row
-- A "joins the hardware queue", and its group may be called up; or it moves to its buffer at once
row_of n (arrive h ws) r =
    cond (eqb r.moved 0)
    (row (queue ∷ []) (λ g. when (eqb h g && runs n g) (atomic ∷ pending ∷ [])))
    (row stores (λ g. filling (eqb h g)))
row_of n preempt r = preempt_row n r
row_of n (dispatch h) r = dispatch_row h
-- S: "nothing if g already runs, else O, and I unless g is 0"
row_of n (schedule h) r = cond (eqb h n.running) untouched (both (preempt_row n r) (dispatch_row h))
-- T "adds 1 to the timer"; at a timeout "the whole hardware queue moves to the buffers", and "the running group is marked revoked"
row_of n (tick k) r =
    cond (eqb r.trap no_trap)
    (row (timer ∷ []) (λ g. []))
    (row (timer ∷ queue ∷ stores) (λ g. filling (is_moved g r.moved n.queue) ++ when (runs n g) (revoked ∷ [])))
-- "C changes nothing"
row_of n turn r = untouched
row_of n (user q) r = request_row n q r
row_of n unknown r = untouched

-- each part of node k, and of each of its groups, that the row does not name is that of node n
pub record Touched (t : Row) (k n : Node) : Type 0 where
  pub node : (p : NodePart) → ¬ Memᴰ p t.node → part p k ≡ part p n
  pub group : (g : ℕ) → 1 ≤ g → g ≤ group_count → (p : GroupPart) → ¬ Memᴰ p (t.group g)
      → group_part p (group_of k g) ≡ group_part p (group_of n g)

-- What follows, by name: of an accepted operation, its report, node n before it and node k after it, for one of the groups.

pub record ByName (n k : Node) (op : Operation) (r : Report) (g : ℕ) : Type 0 where
  -- running changes by O, I and S
  pub running-by : k.running ≢ n.running → (op ≡ preempt) ⊎ (((h : ℕ) × (op ≡ dispatch h)) ⊎ ((h : ℕ) × (op ≡ schedule h)))
  -- A leaves the timer
  pub timer-left : (h : ℕ) (ws : List ℕ) → op ≡ arrive h ws → k.timer ≡ n.timer
  -- h changes by D alone
  pub used-by : (group_of k g).buffer.used ≢ (group_of n g).buffer.used → op ≡ user dispose
  -- the descriptor by P and L
  pub descriptor-by : (group_of k g).descriptor ≢ (group_of n g).descriptor
      → ((w : ℕ) × (op ≡ user (describe w))) ⊎ ((d : ℕ) × (op ≡ user (launch d)))
  -- force goes on by B with force, and off by N
  pub force-on : (group_of n g).force ≡ false → (group_of k g).force ≡ true → op ≡ user (begin_atomic true)
  pub force-off : (group_of n g).force ≡ true → (group_of k g).force ≡ false → op ≡ user end_atomic
  -- revoked goes on by T with a timeout, and off by N
  pub revoked-on : (group_of n g).revoked ≡ false → (group_of k g).revoked ≡ true → ((t : ℕ) × (op ≡ tick t)) × (r.trap ≡ timeout_trap)
  pub revoked-off : (group_of n g).revoked ≡ true → (group_of k g).revoked ≡ false → op ≡ user end_atomic
  -- atomic goes off by N alone
  pub atomic-off : (group_of n g).atomic ≡ true → (group_of k g).atomic ≡ false → op ≡ user end_atomic
  -- pending goes off by D alone, and on only with an upcall
  pub pending-off : (group_of n g).pending ≡ true → (group_of k g).pending ≡ false → op ≡ user dispose
  pub pending-on : (group_of n g).pending ≡ false → (group_of k g).pending ≡ true → r.upcall ≡ g

-- The statement.

-- for every build that makes sense, every node and every operation
pub record Touches : Type 0 where
  -- an accepted step touches at most what the table names
  pub accepted-step : (b : Build) (n : Node) → Valid b n → (op : Operation) → (step b n op).report.answer ≡ accepted
      → Touched (row_of n op (step b n op).report) (step b n op).node n
  pub by_name : (b : Build) (n : Node) → Valid b n → (op : Operation) → (step b n op).report.answer ≡ accepted → (g : ℕ) → 1 ≤ g → g ≤ group_count
      → ByName n (step b n op).node op (step b n op).report g
  -- a refused one touches nothing
  pub refused-step : (b : Build) (n : Node) (op : Operation) → (step b n op).report.answer ≢ accepted → (step b n op).node ≡ n
  -- the parts are all of a node: one of which nothing is touched is the same node
  pub parts_all : (b : Build) (n k : Node) → Valid b n → Valid b k → Touched untouched k n → k ≡ n
