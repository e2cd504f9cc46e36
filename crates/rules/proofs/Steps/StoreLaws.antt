-- Storing a queue's head at the end of its group's buffer, in a node that is prepared for it: it changes no pledge and no line. Assumes nothing.
use Prim.Native.Nat.{ℕ, ◌+◌, ◌≤◌}
use mathlib.Core.Path.{◌≡◌, refl, sym, subst, ap, ◌∙◌}
use mathlib.Core.Logic.{◌≢◌}
use mathlib.Core.List.{List, [], ◌∷◌, ◌++◌, map, map-append}
use native.Mathlib.Nat.{le_of_eq}
use native.Mathlib.Decide.{ℕ_discrete}
use native.Mathlib.Omega.{arith}
use lib.ListN.{length}
use lib.Seq.{append_snoc}
use Rattle.rules.specs.Lists.{filter}
use Rattle.rules.specs.Build.{Build, group_count, word_limit}
use Rattle.rules.specs.Node.{Message, Place, Buffer, Group, Node, group_of, with_timer, with_queue, with_free, with_paging, with_entered, with_group, place_of, message_of, is_of, waiting, in_buffer, in_queue, line}
use Rattle.rules.specs.Frames.{ceil_div, with_room, with_stock, put, pledge}
use Rattle.rules.specs.Paging.{prepared, store}
use Rattle.rules.specs.Valid.{GoodMessage}
use Rattle.rules.specs.Sound.{Sound}
use Rattle.rules.proofs.Steps.SoundLaws.{SameFlags, flags-trans}
use Rattle.rules.proofs.Steps.ListLaws.{filter-pass, filter-fail, take-pad}
use Rattle.rules.proofs.Steps.FrameLaws.{Stored, stocked, stored}
use Rattle.rules.proofs.Steps.NodeLaws.{filled, is-of, not-of, stock-same, stock-other, within, group-good, pledges-le, restocked, restocked-flags}
use Rattle.rules.proofs.Steps.PagingLaws.{pages-waiting, repaged-line, queued-repaged, prepared-repaged, prepared-sound, prepared-left, prepared-fronted}

-- a message kept in a place and read back is the message
kept-message : (m : Message) → GoodMessage m → message_of m.group (place_of m) ≡ m
unfolding message_of place_of
kept-message m good = λ i. record { group = m.group; words = take-pad word_limit m.words good.few_words i }

module _ {b : Build} (m : Message) (q : List Message) (n : Node) (s : Sound b (with_queue (m ∷ q) n)) where
  -- the head is good
  pub head-good : GoodMessage m
  unfolding with_queue
  head-good = s.queue-good.0

  -- it is in the queue of its group, before the rest, and of no other
  pub own-queue : in_queue (with_queue (m ∷ q) n) m.group ≡ m ∷ in_queue (with_queue q n) m.group
  unfolding with_queue in_queue
  own-queue = filter-pass (is_of m.group) m q (is-of m.group m refl)

  other-queue : (h : ℕ) → h ≢ m.group → in_queue (with_queue (m ∷ q) n) h ≡ in_queue (with_queue q n) h
  unfolding with_queue in_queue
  other-queue h other = filter-fail (is_of h) m q (not-of h m (λ same. other (sym same)))

module _ {b : Build} (m : Message) (q : List Message) (n : Node) (s : Sound b (with_queue (m ∷ q) n))
    (left : length (group_of n m.group).buffer.places ≤ filled n m.group → 1 ≤ length n.free) where
  -- what putting does to its group's buffer
  own-stock : Stored b m n.free n.paging.entered (group_of n m.group).buffer (stocked m (with_room b n.free n.paging.entered (group_of n m.group).buffer))
  unfolding with_queue group_of
  own-stock =
      let low = (head-good m q n s).group-low in
      let high = (head-good m q n s).group-high in
      stored (group-good s m.group low high).buffer m (head-good m q n s) n.free n.paging.entered left

  -- the group's buffer afterwards is that stock's
  own-buffer : (group_of (put b m n) m.group).buffer ≡ (stocked m (with_room b n.free n.paging.entered (group_of n m.group).buffer)).buffer
  unfolding with_queue put
  own-buffer =
      stock-same m.group (stocked m (with_room b n.free n.paging.entered (group_of n m.group).buffer)) n
      (within s m.group (head-good m q n s).group-low (head-good m q n s).group-high)

  -- and the other groups' are as they were
  other-buffer : (h : ℕ) → 1 ≤ h → h ≢ m.group → (group_of (put b m n) h).buffer ≡ (group_of n h).buffer
  unfolding put
  other-buffer h low other =
      stock-other m.group h (stocked m (with_room b n.free n.paging.entered (group_of n m.group).buffer)) n (head-good m q n s).group-low low other

  -- no pledge is changed: the buffer has one more, and the queue one less
  own-pledge : pledge b (with_queue q (put b m n)) m.group ≡ pledge b (with_queue (m ∷ q) n) m.group
  unfolding pledge with_queue group_of in_queue
  own-pledge =
      let used = ap (λ (v : Buffer). v.used) own-buffer ∙ own-stock.used in
      let count = ap (λ (v : Buffer). v.count) own-buffer ∙ own-stock.count in
      ap (λ (a : ℕ). ceil_div a b.per_frame) (omega (arith, used, count, ap length (own-queue m q n s)))

  other-pledge : (h : ℕ) → 1 ≤ h → h ≢ m.group → pledge b (with_queue q (put b m n)) h ≡ pledge b (with_queue (m ∷ q) n) h
  unfolding pledge with_queue group_of in_queue
  other-pledge h low other =
      let used = ap (λ (v : Buffer). v.used) (other-buffer h low other) in
      let count = ap (λ (v : Buffer). v.count) (other-buffer h low other) in
      ap (λ (a : ℕ). ceil_div a b.per_frame) (omega (arith, used, count, ap length (other-queue m q n s h other)))

  -- no line is changed: what leaves the queue's front joins the buffer's end
  own_line : line (with_queue q (put b m n)) m.group ≡ line (with_queue (m ∷ q) n) m.group
  unfolding line with_queue in_buffer group_of in_queue
  own_line =
      let g = m.group in
      let v = (group_of n g).buffer in
      ap (λ (w : Buffer). map (message_of g) (waiting w) ++ filter (is_of g) q) own-buffer
      ∙ ap (λ (ps : List Place). map (message_of g) ps ++ filter (is_of g) q) own-stock.waits
      ∙ ap (λ (ms : List Message). ms ++ filter (is_of g) q) (map-append (message_of g) (waiting v) (place_of m ∷ []))
      ∙ append_snoc (map (message_of g) (waiting v)) (message_of g (place_of m)) (filter (is_of g) q)
      ∙ ap (λ (k : Message). map (message_of g) (waiting v) ++ k ∷ filter (is_of g) q) (kept-message m (head-good m q n s))
      ∙ ap (λ (ms : List Message). map (message_of g) (waiting v) ++ ms) (sym (own-queue m q n s))

  other-line : (h : ℕ) → 1 ≤ h → h ≢ m.group → line (with_queue q (put b m n)) h ≡ line (with_queue (m ∷ q) n) h
  unfolding line with_queue in_buffer group_of in_queue
  other-line h low other =
      ap (λ (w : Buffer). map (message_of h) (waiting w) ++ filter (is_of h) q) (other-buffer h low other)
      ∙ ap (λ (ms : List Message). map (message_of h) (waiting (group_of n h).buffer) ++ ms) (sym (other-queue m q n s h other))

-- putting a queue's head at the end of its buffer leaves every group's line as it was
put-line : {b : Build} (m : Message) (q : List Message) (n : Node) → Sound b (with_queue (m ∷ q) n)
    → (length (group_of n m.group).buffer.places ≤ filled n m.group → 1 ≤ length n.free) → (g : ℕ) → 1 ≤ g
    → line (with_queue q (put b m n)) g ≡ line (with_queue (m ∷ q) n) g
put-line {b} m q n s left g low = go (ℕ_discrete g m.group)
  where
    go : Dec (g ≡ m.group) → line (with_queue q (put b m n)) g ≡ line (with_queue (m ∷ q) n) g
    go (yes same) = rw same (own_line m q n s left)
    go (no other) = other-line m q n s left g low other

-- and a sound node sound
put-sound : {b : Build} (m : Message) (q : List Message) (n : Node) → Sound b (with_queue (m ∷ q) n)
    → (length (group_of n m.group).buffer.places ≤ filled n m.group → 1 ≤ length n.free) → Sound b (with_queue q (put b m n))
unfolding with_queue put with_stock with_group with_free with_paging with_entered group_of
put-sound {b} m q n s left =
    let stock = own-stock m q n s left in
    restocked s m.group (head-good m q n s).group-low (head-good m q n s).group-high
    (stocked m (with_room b n.free n.paging.entered (group_of n m.group).buffer)) q stock.traded stock.order s.queue-good.1 (omega arith)
    (pledges-le b (with_queue (m ∷ q) n) (with_queue q (put b m n)) (λ h low high. le_of_eq (go h low (ℕ_discrete h m.group))))
  where
    go : (h : ℕ) → 1 ≤ h → Dec (h ≡ m.group) → pledge b (with_queue q (put b m n)) h ≡ pledge b (with_queue (m ∷ q) n) h
    go h low (yes same) = rw same (own-pledge m q n s left)
    go h low (no other) = other-pledge m q n s left h low other

-- flags and descriptors stay
pub put-flags : (b : Build) (m : Message) (n : Node) (g : ℕ) → SameFlags (group_of (put b m n) g) (group_of n g)
unfolding put
put-flags b m n g = restocked-flags m.group (stocked m (with_room b n.free n.paging.entered (group_of n m.group).buffer)) n g

-- Storing is putting into the node that is prepared for it.

-- preparing does not look at the queue
pub prepared-queue : (b : Build) (q : List Message) (g : ℕ) (n : Node) → prepared b g (with_queue q n) ≡ with_queue q (prepared b g n)
unfolding with_timer with_queue
prepared-queue b q g n = prepared-fronted b n.timer q g n ∙ ap (λ (t : ℕ). with_timer t (with_queue q (prepared b g n))) (sym (prepared-repaged b g n).timer)

-- nor does storing look at the timer
pub store-timer : (b : Build) (m : Message) (t : ℕ) (n : Node) → store b m (with_timer t n) ≡ with_timer t (store b m n)
unfolding store put with_room with_stock with_group with_free with_paging with_entered with_timer with_queue group_of
store-timer b m t n =
    ap (put b m)
    (prepared-fronted b t n.queue m.group n
    ∙ ap (λ (q : List Message). with_timer t (with_queue q (prepared b m.group n))) (sym (prepared-repaged b m.group n).queue))

module _ {b : Build} (m : Message) (q : List Message) (n : Node) (s : Sound b (with_queue (m ∷ q) n)) where
  -- the node that is prepared
  abbrev ready : Node
  ready = prepared b m.group n

  -- is sound
  pub ready-sound : Sound b (with_queue (m ∷ q) ready)
  ready-sound =
      subst (Sound b) (prepared-queue b (m ∷ q) m.group n) (prepared-sound s m.group (head-good m q n s).group-low (head-good m q n s).group-high)

  -- and a full buffer meets a free frame in it
  pub ready-left : length (group_of ready m.group).buffer.places ≤ filled ready m.group → 1 ≤ length ready.free
  unfolding with_queue group_of
  ready-left full =
      let same = (prepared-repaged b m.group n).groups m.group in
      let some : 1 ≤ length (in_queue (with_queue (m ∷ q) n) m.group) = rw (own-queue m q n s) (omega arith) in
      let left = prepared-left s m.group (head-good m q n s).group-low (head-good m q n s).group-high some
      (omega (arith, full, same.used, same.count, ap length same.places)) in
      rw (ap (λ (k : Node). length k.free) (prepared-queue b (m ∷ q) m.group n)) at left

-- moving a queue's head to the end of its buffer leaves every group's line as it was
pub store_line : {b : Build} (m : Message) (q : List Message) (n : Node) → Sound b (with_queue (m ∷ q) n) → (g : ℕ) → 1 ≤ g → g ≤ group_count
    → line (with_queue q (store b m n)) g ≡ line (with_queue (m ∷ q) n) g
unfolding store
store_line {b} m q n s g low high =
    put-line m q (prepared b m.group n) (ready-sound m q n s) (ready-left m q n s) g low ∙ repaged-line (queued-repaged (m ∷ q) (prepared-repaged b m.group n)) g

-- and a sound node sound
pub store-sound : {b : Build} (m : Message) (q : List Message) (n : Node) → Sound b (with_queue (m ∷ q) n) → Sound b (with_queue q (store b m n))
unfolding store
store-sound {b} m q n s = put-sound m q (prepared b m.group n) (ready-sound m q n s) (ready-left m q n s)

-- what storing does to a buffer: its own group has one message more, and the others have what they had
pub record StoredOwn (G H : Group) (m : Message) : Type 0 where
  pub used : G.buffer.used ≡ H.buffer.used
  pub count : G.buffer.count ≡ H.buffer.count + 1
  pub waits : waiting G.buffer ≡ waiting H.buffer ++ (place_of m ∷ [])

pub store-own : {b : Build} (m : Message) (q : List Message) (n : Node) → Sound b (with_queue (m ∷ q) n)
    → StoredOwn (group_of (store b m n) m.group) (group_of n m.group) m
unfolding store
store-own {b} m q n s =
    let y = prepared b m.group n in
    let same = (prepared-repaged b m.group n).groups m.group in
    let buffer = own-buffer m q y (ready-sound m q n s) (ready-left m q n s) in
    let stock = own-stock m q y (ready-sound m q n s) (ready-left m q n s) in
    record {
      used = ap (λ (v : Buffer). v.used) buffer ∙ stock.used ∙ same.used;
      count = ap (λ (v : Buffer). v.count) buffer ∙ stock.count ∙ ap (λ (k : ℕ). k + 1) same.count;
      waits = ap waiting buffer ∙ stock.waits ∙ ap (λ (ps : List Place). ps ++ (place_of m ∷ [])) (pages-waiting same);
    }

pub record StoredOther (G H : Group) : Type 0 where
  pub used : G.buffer.used ≡ H.buffer.used
  pub count : G.buffer.count ≡ H.buffer.count
  pub waits : waiting G.buffer ≡ waiting H.buffer

pub store_other : {b : Build} (m : Message) (q : List Message) (n : Node) → Sound b (with_queue (m ∷ q) n) → (h : ℕ) → 1 ≤ h → h ≢ m.group
    → StoredOther (group_of (store b m n) h) (group_of n h)
unfolding store
store_other {b} m q n s h low other =
    let y = prepared b m.group n in
    let same = (prepared-repaged b m.group n).groups h in
    let buffer = other-buffer m q y (ready-sound m q n s) (ready-left m q n s) h low other in
    record {
      used = ap (λ (v : Buffer). v.used) buffer ∙ same.used;
      count = ap (λ (v : Buffer). v.count) buffer ∙ same.count;
      waits = ap waiting buffer ∙ pages-waiting same;
    }

-- flags and descriptors stay
pub store-flags : (b : Build) (m : Message) (n : Node) (g : ℕ) → SameFlags (group_of (store b m n) g) (group_of n g)
unfolding store
store-flags b m n g = flags-trans (put-flags b m (prepared b m.group n) g) ((prepared-repaged b m.group n).groups g).flags
