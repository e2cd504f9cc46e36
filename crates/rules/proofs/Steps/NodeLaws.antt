-- A node with one group exchanged: what it does to that group and to the others, to the lines, to the pledges and to the frames. A part of
-- the groups that the exchange leaves at one is left at all, so flags do not touch lines, and frames do not touch flags. Assumes nothing.
use Prim.Native.Nat.{ℕ, pred, ◌+◌, ◌≤◌, ◌<◌}
use mathlib.Core.Path.{◌≡◌, refl, sym, ap, ◌∙◌}
use mathlib.Core.Logic.{◌≢◌}
use mathlib.Core.Bool.{true, false}
use mathlib.Core.List.{List, ◌++◌}
use native.Mathlib.Nat.{le_of_eq}
use native.Mathlib.Omega.{arith}
use lib.ListN.{length, get_or, set, length-set, get_or-map}
use lib.Seq.{get_or-set_same, get_or-set_other, map-set_same}
use borrow.Author.Tests.{eq-eqb, ne_eqb}
use Rattle.rules.specs.Lists.{Every, concat_map, count_of}
use Rattle.rules.specs.Build.{Build, page_count, group_count}
use Rattle.rules.specs.Node.{Message, Group, Node, empty_group, group_of, with_running, with_timer, with_queue, with_free, with_paging, with_entered, with_group, with_buffer, is_of, in_buffer, in_queue, line}
use Rattle.rules.specs.Frames.{Stock, with_stock, pledge, pledges}
use Rattle.rules.specs.Valid.{GoodMessage, GoodGroup, frame_list, idle, frame_numbers, frame_order}
use Rattle.rules.specs.Sound.{Sound}
use Rattle.rules.proofs.Steps.SoundLaws.{SameFlags}
use Rattle.rules.proofs.Steps.EveryLaws.{every_set, every-getD}
use Rattle.rules.proofs.Steps.ListLaws.{weight, weight-append, weight-exchange, count-weight, length-weight, hit, unit, sum-le}
use Rattle.rules.proofs.Steps.FrameLaws.{ceil-mono, SameFrames, Traded}

-- the exchanged group is the one given
pub group-same : (n : Node) (g : ℕ) (G : Group) → pred g < length n.groups → group_of (with_group g G n) g ≡ G
unfolding group_of with_group
group-same n g G inside = get_or-set_same n.groups (pred g) G empty_group inside

-- any other is as it was
pub group-other : (n : Node) (g h : ℕ) (G : Group) → 1 ≤ g → 1 ≤ h → h ≢ g → group_of (with_group g G n) h ≡ group_of n h
unfolding group_of with_group
group-other n g h G low low' other = get_or-set_other n.groups (pred g) (pred h) G empty_group (omega arith)

-- what the given group has as the old one is as it was in every group
pub kept : {B : Type 0} (f : Group → B) (n : Node) (g : ℕ) (G : Group) → f G ≡ f (group_of n g) → (h : ℕ)
    → f (group_of (with_group g G n) h) ≡ f (group_of n h)
unfolding group_of with_group
kept {B} f n g G same h =
    sym (get_or-map f (set n.groups (pred g) G) (pred h) empty_group)
    ∙ ap (λ (l : List B). get_or l (pred h) (f empty_group)) (map-set_same f n.groups (pred g) G empty_group same)
    ∙ get_or-map f n.groups (pred h) empty_group

-- a stock put in is the group's buffer
pub stock-same : (g : ℕ) (t : Stock) (n : Node) → pred g < length n.groups → (group_of (with_stock g t n) g).buffer ≡ t.buffer
unfolding with_stock with_buffer with_free with_paging with_entered with_group group_of
stock-same g t n inside = ap (λ (G : Group). G.buffer) (group-same n g (with_buffer t.buffer (group_of n g)) inside)

-- and no other group's
pub stock-other : (g h : ℕ) (t : Stock) (n : Node) → 1 ≤ g → 1 ≤ h → h ≢ g → (group_of (with_stock g t n) h).buffer ≡ (group_of n h).buffer
unfolding with_stock with_free with_paging with_entered with_group group_of
stock-other g h t n low low' other =
    ap (λ (G : Group). G.buffer) (group-other n g h (with_buffer t.buffer (group_of n g)) low low' other)

-- a message is of its group, and of no other
pub is-of : (g : ℕ) (m : Message) → m.group ≡ g → is_of g m ≡ true
unfolding is_of
is-of g m same = eq-eqb m.group g same

pub not-of : (g : ℕ) (m : Message) → m.group ≢ g → is_of g m ≡ false
unfolding is_of
not-of g m other = ne_eqb m.group g other

-- a group of the node is one of the list
pub within : {b : Build} {n : Node} → Sound b n → (g : ℕ) → 1 ≤ g → g ≤ group_count → pred g < length n.groups
within s g low high = omega (arith, s.group-count)

-- and is good
pub group-good : {b : Build} {n : Node} → Sound b n → (g : ℕ) → 1 ≤ g → g ≤ group_count → GoodGroup b (group_of n g)
unfolding group_of
group-good {b} {n} s g low high = every-getD (GoodGroup b) n.groups (pred g) empty_group s.groups-good (within s g low high)

-- the places of a group's buffer up to its last message
abbrev pub filled : Node → ℕ → ℕ
filled n g = (group_of n g).buffer.used + (group_of n g).buffer.count

-- lines follow the buffers and the queue
pub line_same : (n n' : Node) (g : ℕ) → (group_of n' g).buffer ≡ (group_of n g).buffer → n'.queue ≡ n.queue → line n' g ≡ line n g
unfolding line in_buffer in_queue
line_same n n' g buffers queues = rw (buffers, queues)

-- and so do pledges
pledge-same : (b : Build) (n n' : Node) (g : ℕ) → (group_of n' g).buffer ≡ (group_of n g).buffer → n'.queue ≡ n.queue → pledge b n' g ≡ pledge b n g
unfolding pledge in_queue
pledge-same b n n' g buffers queues = rw (buffers, queues)

-- fewer messages in a buffer and the queue make no larger pledge
pub pledge-le : {b : Build} {n : Node} → Sound b n → (n' : Node) (g : ℕ) → 1 ≤ g → g ≤ group_count
    → filled n' g + length (in_queue n' g) ≤ filled n g + length (in_queue n g)
    → pledge b n' g ≤ pledge b n g
unfolding pledge
pledge-le {b} {n} s n' g low high fewer = ceil-mono _ _ b.per_frame (omega (arith, (group-good s g low high).buffer.used-bound)) fewer

-- pledges compared group by group
pub pledges-le : (b : Build) (n n' : Node) → ((g : ℕ) → 1 ≤ g → g ≤ group_count → pledge b n' g ≤ pledge b n g) → pledges b n' ≤ pledges b n
unfolding pledges
pledges-le b n n' each = sum-le (pledge b n') (pledge b n) 1 group_count (λ g low high. each g low (omega arith))

-- the numbers of all pages weigh what the two lines and the lists do
pub numbers-weight : (n : Node) (w : ℕ → ℕ)
    → weight w (frame_numbers n) ≡ weight w n.free + weight w n.paging.swap + weight w (concat_map frame_list n.groups)
unfolding frame_numbers idle
numbers-weight n w =
    omega (
      arith,
      weight-append w (n.free ++ n.paging.swap) (concat_map frame_list n.groups),
      weight-append w n.free n.paging.swap,
    )

-- and those of the frames what the free line and the order of entry do
pub order-weight : (n : Node) (w : ℕ → ℕ) → weight w (frame_order n) ≡ weight w n.free + weight w n.paging.entered
unfolding frame_order
order-weight n w = weight-append w n.free n.paging.entered

-- numbers that weigh the same by every weight stand as often, and are as many
pub weights-count : (xs ys : List ℕ) → ((w : ℕ → ℕ) → weight w ys ≡ weight w xs) → (f : ℕ) → count_of f ys ≡ count_of f xs
weights-count xs ys same f = count-weight f ys ∙ same (hit f) ∙ sym (count-weight f xs)

pub weights-length : (xs ys : List ℕ) → ((w : ℕ → ℕ) → weight w ys ≡ weight w xs) → length ys ≡ length xs
weights-length xs ys same = length-weight ys ∙ same unit ∙ sym (length-weight xs)

-- the node with a group, the free line and the order of entry exchanged
abbrev exchanged : ℕ → Group → List ℕ → List ℕ → Node → Node
exchanged g G fs es n = with_group g G (with_free fs (with_paging (with_entered es n.paging) n))

-- frames that go between the free line and a group's list weigh together what they weighed
pub reweighed : (n : Node) (g : ℕ) (G : Group) (fs es : List ℕ) → pred g < length n.groups
    → SameFrames fs G.buffer.frames n.free (group_of n g).buffer.frames → (w : ℕ → ℕ)
    → weight w (frame_numbers (exchanged g G fs es n)) ≡ weight w (frame_numbers n)
unfolding frame_list group_of with_group with_free with_paging with_entered
reweighed n g G fs es inside even w =
    omega (
      arith,
      even w,
      numbers-weight (exchanged g G fs es n) w,
      numbers-weight n w,
      weight-exchange w frame_list n.groups (pred g) G empty_group inside,
    )

-- and between the free line and the order of entry
reordered : (n : Node) (g : ℕ) (G : Group) (fs es : List ℕ) → SameFrames fs es n.free n.paging.entered → (w : ℕ → ℕ)
    → weight w (frame_order (exchanged g G fs es n)) ≡ weight w (frame_order n)
unfolding with_group with_free with_paging with_entered
reordered n g G fs es even w = omega (arith, even w, order-weight (exchanged g G fs es n) w, order-weight n w)

-- a sound node with a good group, the free line and a good queue exchanged, if frames and pledges allow it, is sound
changed : {b : Build} {n : Node} → Sound b n → (g : ℕ) → 1 ≤ g → g ≤ group_count → (G : Group) (fs es : List ℕ) (q : List Message)
    → GoodGroup b G → Every GoodMessage q → length q ≤ length n.queue
    → SameFrames fs G.buffer.frames n.free (group_of n g).buffer.frames → SameFrames fs es n.free n.paging.entered
    → pledges b (with_queue q (exchanged g G fs es n)) ≤ pledges b n
    → Sound b (with_queue q (exchanged g G fs es n))
unfolding with_queue with_group with_free with_paging with_entered idle frame_numbers frame_order
changed {b} {n} s g low high G fs es q good queue-good shorter even order fewer =
    let n' = exchanged g G fs es n in
    let frames = reweighed n g G fs es (within s g low high) even in
    let orders = reordered n g G fs es order in
    record {
      sensible = s.sensible;
      running-bound = s.running-bound;
      timer-bound = s.timer-bound;
      queue-length = omega arith;
      queue-good = queue-good;
      group-count = length-set n.groups (pred g) G ∙ s.group-count;
      groups-good = every_set (GoodGroup b) n.groups (pred g) G s.groups-good good;
      frames-once = λ f below. weights-count (frame_numbers n) (frame_numbers n') frames f ∙ s.frames-once f below;
      frames-all = weights-length (frame_numbers n) (frame_numbers n') frames ∙ s.frames-all;
      swap-numbers = s.swap-numbers;
      entered-once = λ f below. weights-count (frame_order n) (frame_order n') orders f ∙ s.entered-once f below;
      entered_all = weights-length (frame_order n) (frame_order n') orders ∙ s.entered_all;
      pledged = omega (arith, s.pledged);
    }

-- a sound node with a good queue exchanged, if the pledges allow it, and a running group and a timer within bounds, is sound
pub refronted : {b : Build} {n : Node} → Sound b n → (r t : ℕ) (q : List Message) → r ≤ group_count → t < b.timeout → length q ≤ b.places
    → Every GoodMessage q → pledges b (with_queue q n) ≤ page_count b → Sound b (with_timer t (with_running r (with_queue q n)))
unfolding with_timer with_running with_queue pledges pledge group_of in_queue idle frame_numbers frame_order
refronted s r t q running timer queue-length queue-good pledged =
    record {
      sensible = s.sensible;
      running-bound = running;
      timer-bound = timer;
      queue-length = queue-length;
      queue-good = queue-good;
      group-count = s.group-count;
      groups-good = s.groups-good;
      frames-once = s.frames-once;
      frames-all = s.frames-all;
      swap-numbers = s.swap-numbers;
      entered-once = s.entered-once;
      entered_all = s.entered_all;
      pledged = pledged;
    }

-- the timer alone
pub sound-timer : {b : Build} {n : Node} → Sound b n → (t : ℕ) → t < b.timeout → Sound b (with_timer t n)
unfolding with_timer with_running with_queue
sound-timer {b} {n} s t below = refronted s n.running t n.queue s.running-bound below s.queue-length s.queue-good s.pledged

-- the queue alone
pub requeued : {b : Build} {n : Node} → Sound b n → (q : List Message) → length q ≤ b.places → Every GoodMessage q
    → pledges b (with_queue q n) ≤ page_count b → Sound b (with_queue q n)
unfolding with_timer with_running with_queue
requeued {b} {n} s q short good pledged = refronted s n.running n.timer q s.running-bound s.timer-bound short good pledged

-- frames taken or freed by a group, and the queue exchanged
pub restocked : {b : Build} {n : Node} → Sound b n → (g : ℕ) → 1 ≤ g → g ≤ group_count → (t : Stock) (q : List Message)
    → Traded b n.free (group_of n g).buffer t → SameFrames t.free t.entered n.free n.paging.entered
    → Every GoodMessage q → length q ≤ length n.queue
    → pledges b (with_queue q (with_stock g t n)) ≤ pledges b n → Sound b (with_queue q (with_stock g t n))
unfolding with_stock with_buffer
restocked {b} {n} s g low high t q traded order queue-good shorter fewer =
    let G = group-good s g low high in
    let good : GoodGroup b (with_buffer t.buffer (group_of n g)) =
    record {
      buffer = traded.good;
      descriptor = G.descriptor;
      pending-atomic = G.pending-atomic;
      force-atomic = G.force-atomic;
      revoked-atomic = G.revoked-atomic;
    } in
    changed s g low high (with_buffer t.buffer (group_of n g)) t.free t.entered q good queue-good shorter traded.weights order fewer

-- flags and descriptors stay
pub restocked-flags : (g : ℕ) (t : Stock) (n : Node) (h : ℕ) → SameFlags (group_of (with_stock g t n) h) (group_of n h)
unfolding with_stock with_buffer with_free with_paging with_entered with_group group_of
restocked-flags g t n h =
    let n' = with_free t.free n in
    let G = with_buffer t.buffer (group_of n g) in
    record {
      atomic = kept (λ K. K.atomic) n' g G refl h;
      pending = kept (λ K. K.pending) n' g G refl h;
      force = kept (λ K. K.force) n' g G refl h;
      revoked = kept (λ K. K.revoked) n' g G refl h;
      descriptor = kept (λ K. K.descriptor) n' g G refl h;
    }

-- a group's flags or descriptor changed, and its buffer not: every line is as it was
pub reflagged-line : (n : Node) (g : ℕ) (G : Group) → G.buffer ≡ (group_of n g).buffer → (h : ℕ) → line (with_group g G n) h ≡ line n h
reflagged-line n g G same h = line_same n (with_group g G n) h (kept (λ K. K.buffer) n g G same h) (unfold with_group in refl)

-- and a sound node stays sound
pub reflagged : {b : Build} {n : Node} → Sound b n → (g : ℕ) → 1 ≤ g → g ≤ group_count → (G : Group) → GoodGroup b G → G.buffer ≡ (group_of n g).buffer
    → Sound b (with_group g G n)
unfolding with_queue with_group with_free with_paging with_entered
reflagged {b} {n} s g low high G good same =
    changed s g low high G n.free n.paging.entered n.queue good s.queue-good (omega arith) (λ w. rw same) (λ w. refl)
    (pledges-le b n (with_group g G n) (λ h low' high'. le_of_eq (pledge-same b n (with_group g G n) h (kept (λ K. K.buffer) n g G same h) refl)))
