-- A head moved to its buffer, one after the other: a pass of the rules, and a drain, are made of such moves. Assumes nothing.
use Prim.Native.Nat.{◌+◌, ◌≤◌}
use native.Mathlib.Omega.{arith}
use mathlib.Core.Bool.{Bool, false, true}
use mathlib.Core.List.{List, [], ◌∷◌}
use mathlib.Core.Path.{◌∙◌, ◌≡◌, ap, refl, subst, sym}
use lib.ListN.{drop, get_or, length, length-drop}
use Rattle.rules.specs.Build.{Build, paper01}
use Rattle.rules.specs.Frames.{put, with_room, with_stock}
use Rattle.rules.specs.Lists.{filter}
use Rattle.rules.specs.Node.{Message, Node, buffer_holds, buffered, group_of, in_queue, is_of, with_entered, with_free, with_group, with_paging, with_queue}
use Rattle.rules.specs.Paging.{store}
use Rattle.rules.specs.Settling.{drain, may_stay, one_more, pass}
use Rattle.rules.specs.Sound.{Sound}
use Rattle.rules.specs.Valid.{GoodMessage}
use Rattle.rules.proofs.Steps.PagingLaws.{prepared-repaged}
use Rattle.rules.proofs.Steps.StoreLaws.{head-good, own-queue, prepared-queue, store-sound}
use Rattle.memory.specs.Holds.{Queued, dropping, blank}
use Rattle.memory.specs.Paging.{Wanting}
use Rattle.node.specs.Steps.{Headed, head_of, moving_head}

-- Neither looks at the node's own queue, but at the messages it is handed.

-- for storing does not
store-queue : (b : Build) (m : Message) (q : List Message) (n : Node) → store b m (with_queue q n) ≡ with_queue q (store b m n)
unfolding store put with_room with_stock with_group with_free with_paging with_entered with_queue group_of
store-queue b m q n = ap (put b m) (prepared-queue b q m.group n)

-- and leaves the queue
store_kept : (b : Build) (m : Message) (n : Node) → (store b m n).queue ≡ n.queue
unfolding store put with_stock with_group with_free with_paging
store_kept b m n = (prepared-repaged b m.group n).queue

pub pass-requeue : (b : Build) (q p : List Message) (n : Node) → pass b q (with_queue p n) ≡ pass b q n
unfolding pass with_queue may_stay buffered buffer_holds group_of
pass-requeue b [] p n = refl
pass-requeue b (m ∷ q) p n =
    go (may_stay n m) refl (ap (pass b q) (store-queue b m p n) ∙ pass-requeue b q p (store b m n))
  where
    go : (t : Bool) → may_stay n m ≡ t → pass b q (store b m (with_queue p n)) ≡ pass b q (store b m n) → pass b (m ∷ q) (with_queue p n) ≡ pass b (m ∷ q) n
    go true e r = rw (e, pass)
    go false e r = rw (e, pass) (ap one_more r)

pub drain-requeue : (b : Build) (q p : List Message) (n : Node) → drain b q (with_queue p n) ≡ drain b q n
unfolding drain with_queue
drain-requeue b [] p n = refl
drain-requeue b (m ∷ q) p n = ap (drain b q) (store-queue b m p n) ∙ drain-requeue b q p (store b m n)

-- The head of a queue that has one.

module _ {n : Node} (h : Headed n) where
  pub head_first : n.queue ≡ head_of n ∷ drop 1 n.queue
  unfolding head_of
  head_first = go n.queue h.some
    where
      go : (q : List Message) → 1 ≤ length q → q ≡ get_or q 0 blank ∷ drop 1 q
      go [] l = absurd (omega arith)
      go (x ∷ q) l = refl

  front-sound : Sound paper01 (with_queue (head_of n ∷ drop 1 n.queue) n)
  unfolding with_queue
  front-sound = subst (λ (q : List Message). Sound paper01 (with_queue q n)) head_first h.sound

  pub head-good-group : GoodMessage (head_of n)
  head-good-group = head-good (head_of n) (drop 1 n.queue) n front-sound

  -- it is a message of its group in the queue, so it can be stored
  pub head-wanting : Wanting (head_of n).group n
  unfolding with_queue in_queue
  head-wanting =
      let some : 1 ≤ length (in_queue (with_queue (head_of n ∷ drop 1 n.queue) n) (head_of n).group) =
      rw (own-queue (head_of n) (drop 1 n.queue) n front-sound) (omega arith) in
      record { sound = h.sound; queued = subst (λ (q : List Message). 1 ≤ length (filter (is_of (head_of n).group) q)) (sym head_first) some }

  -- storing leaves it in the queue
  pub stored-queued : Queued 1 (store paper01 (head_of n) n)
  stored-queued = rw (store_kept paper01 (head_of n) n) h.some

  -- behind it stands what stood behind it
  moving-stored : moving_head n ≡ with_queue (drop 1 n.queue) (store paper01 (head_of n) n)
  unfolding moving_head dropping
  moving-stored = ap (λ (q : List Message). with_queue (drop 1 q) (store paper01 (head_of n) n)) (store_kept paper01 (head_of n) n)

  -- the node after it is as sound
  pub moving-sound : Sound paper01 (moving_head n)
  moving-sound = rw moving-stored (store-sound (head_of n) (drop 1 n.queue) n front-sound)

  -- and has one message less in its queue
  pub moving-queue : (moving_head n).queue ≡ drop 1 n.queue
  unfolding with_queue
  moving-queue = ap (λ (k : Node). k.queue) moving-stored

  pub moving-length : length (moving_head n).queue + 1 ≡ length n.queue
  moving-length = let l = length-drop 1 n.queue in let s = h.some in rw moving-queue (omega arith)

  -- what does not look at the queue goes on behind it as behind the message stored
  moving-on : {A : Type 0} (f : List Message → Node → A) → ((q p : List Message) (k : Node) → f q (with_queue p k) ≡ f q k)
      → f (moving_head n).queue (moving_head n) ≡ f (drop 1 n.queue) (store paper01 (head_of n) n)
  moving-on f requeue =
      (λ i. f (moving-queue i) (moving-stored i)) ∙ requeue (drop 1 n.queue) (drop 1 n.queue) (store paper01 (head_of n) n)

  -- a pass goes on behind a head that may not stay
  pub pass_on : may_stay n (head_of n) ≡ false → pass paper01 n.queue n ≡ one_more (pass paper01 (moving_head n).queue (moving_head n))
  unfolding pass
  pass_on e =
      ap (λ (q : List Message). pass paper01 q n) head_first ∙ rw (e, pass)
      (ap one_more (sym (moving-on (pass paper01) (pass-requeue paper01))))

  -- and ends at one that may
  pub pass-stays : may_stay n (head_of n) ≡ true → pass paper01 n.queue n ≡ record { node = n; moved = 0 }
  unfolding pass with_queue
  pass-stays e =
      ap (λ (q : List Message). pass paper01 q n) head_first ∙ rw (e, pass)
      (λ i. record { node = with_queue (sym head_first i) n; moved = 0 })

  -- a drain goes on behind it
  pub drain-on : drain paper01 n.queue n ≡ drain paper01 (moving_head n).queue (moving_head n)
  unfolding drain
  drain-on =
      ap (λ (q : List Message). drain paper01 q n) head_first
      ∙ sym (moving-on (drain paper01) (drain-requeue paper01))

-- An empty queue ends both.

pub none-queued : (q : List Message) → length q ≡ 0 → q ≡ []
none-queued [] e = refl
none-queued (x ∷ q) e = absurd (omega arith)

pub pass-ends : (n : Node) → length n.queue ≡ 0 → pass paper01 n.queue n ≡ record { node = n; moved = 0 }
unfolding pass with_queue
pass-ends n e =
    let none = none-queued n.queue e in
    ap (λ (q : List Message). pass paper01 q n) none ∙ (λ i. record { node = with_queue (sym none i) n; moved = 0 })

pub drain-ends : (n : Node) → length n.queue ≡ 0 → drain paper01 n.queue n ≡ n
unfolding drain with_queue
drain-ends n e =
    let none = none-queued n.queue e in
    ap (λ (q : List Message). drain paper01 q n) none ∙ (λ i. with_queue (sym none i) n)
