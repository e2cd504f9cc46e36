-- Paging. Pages sent out, brought in and exchanged change where pages are and nothing else: no line, no pledge, no flag. Told by counts: a
-- page that goes from a list to a line, or from one to the other, leaves each number standing as often as it did. A page to send out is there
-- whenever one is looked for, since no frame is free then and of two frames in use at most one is the running group's first page. Assumes
-- nothing.
use Prim.Native.Nat.{ℕ, zero, suc, pred, ◌+◌, ◌*◌, ◌/◌, ◌≤◌, ◌<◌}
use mathlib.Core.Path.{◌≡◌, refl, sym, subst, ap, ◌∙◌}
use mathlib.Core.Logic.{◌≢◌}
use mathlib.Core.Bool.{Bool, true, false, true≢false, cond, not, and-eq-true_iff}
use mathlib.Core.List.{List, [], ◌∷◌, ◌++◌, map, map-append}
use native.Mathlib.Nat.{zero-add, div-lt_iff_lt-mul}
use native.Mathlib.Decide.{ℕ_discrete}
use native.Mathlib.Omega.{arith}
use lib.Dec.{ltb, eqb}
use lib.ListN.{length, get_or, length-append, length-map, get_or-map}
use borrow.Author.Tests.{ltb-true, ltb-false, lt-ltb, eqb-true, eqb-false, eq-eqb, ne_eqb, not-true, not-false}
use Rattle.rules.specs.Lists.{Every, filter, concat_map, count_of}
use Rattle.rules.specs.Build.{Build, page_count, group_count}
use Rattle.rules.specs.Node.{Message, Group, Paging, Node, empty_group, group_of, with_timer, with_queue, with_free, with_paging, with_groups, with_buffer, buffer_holds, buffered, waiting, unused, in_buffer, in_queue, line}
use Rattle.rules.specs.Frames.{without, pledge, pledges}
use Rattle.rules.specs.Paging.{in_frame, traded, traded_in, trading, stands_first, spared, victim, send_out, freed, exchange, bring_in, resident, next_page, prepared, first_resident, runner_resident}
use Rattle.rules.specs.Valid.{GoodGroup, IsSwap, FirstInFrame, frame_list, frame_numbers, frame_order}
use Rattle.rules.specs.Sound.{Sound, Listed}
use Rattle.rules.proofs.Steps.SoundLaws.{SameFlags, flags-refl}
use Rattle.rules.proofs.Steps.EveryLaws.{every_append, every-mapped}
use Rattle.rules.proofs.Steps.ListLaws.{filter-pass, filter-fail, weight, weight-append, hit, count-weight, count-append, count_at, count-part, every-counted, once-bounded}
use Rattle.rules.proofs.Steps.FrameLaws.{weight-left}
use Rattle.rules.proofs.Steps.NodeLaws.{filled, group-good, within, numbers-weight, order-weight, weights-count, weights-length}
use Rattle.rules.proofs.Steps.RoomLaws.{swap-left}

-- What paging leaves.

-- two groups that differ at most in where their pages are
pub record SamePages (G H : Group) : Type 0 where
  pub flags : SameFlags G H
  pub used : G.buffer.used ≡ H.buffer.used
  pub count : G.buffer.count ≡ H.buffer.count
  pub places : G.buffer.places ≡ H.buffer.places

-- two nodes that differ at most in where pages are, and in the counts of pages
pub record Repaged (n' n : Node) : Type 0 where
  pub running : n'.running ≡ n.running
  pub timer : n'.timer ≡ n.timer
  pub queue : n'.queue ≡ n.queue
  pub groups : (g : ℕ) → SamePages (group_of n' g) (group_of n g)

pub pages-refl : {G : Group} → SamePages G G
pages-refl = record { flags = flags-refl; used = refl; count = refl; places = refl }

-- so their waiting messages are the same
pub pages-waiting : {G H : Group} → SamePages G H → waiting G.buffer ≡ waiting H.buffer
unfolding waiting
pages-waiting e = rw (e.used, e.count, e.places)

pub repaged-refl : {n : Node} → Repaged n n
repaged-refl = record { running = refl; timer = refl; queue = refl; groups = λ g. pages-refl }

-- whatever queue both have
pub queued-repaged : {n' n : Node} (q : List Message) → Repaged n' n → Repaged (with_queue q n') (with_queue q n)
unfolding with_queue group_of
queued-repaged q r = record { running = r.running; timer = r.timer; queue = refl; groups = r.groups }

-- trading two numbers changes the lists of pages and nothing else
pub traded-group : (p q : ℕ) (n : Node) (g : ℕ) → group_of (trading p q n) g ≡ traded_in p q (group_of n g)
unfolding group_of trading with_groups traded_in with_buffer
traded-group p q n g = get_or-map (traded_in p q) n.groups (pred g) empty_group

traded-pages : (p q : ℕ) (G : Group) → SamePages (traded_in p q G) G
unfolding traded_in with_buffer
traded-pages p q G =
    record {
      flags = record { atomic = refl; pending = refl; force = refl; revoked = refl; descriptor = refl };
      used = refl;
      count = refl;
      places = refl;
    }

-- a node that differs from another in the free line and in paging, with two numbers traded
repaged-trading : (p q : ℕ) (fs : List ℕ) (s : Paging) (n : Node) → Repaged (trading p q (with_free fs (with_paging s n))) n
unfolding trading with_groups with_free with_paging group_of
repaged-trading p q fs s n =
    record {
      running = refl;
      timer = refl;
      queue = refl;
      groups = λ g. subst (λ (G : Group). SamePages G (group_of n g)) (sym (traded-group p q n g)) (traded-pages p q (group_of n g));
    }

-- a page sent out
send-repaged : (f : ℕ) (ss : List ℕ) (n : Node) → Repaged (send_out f ss n) n
unfolding send_out
send-repaged f [] n = repaged-refl
send-repaged f (s ∷ ss) n = repaged-trading f s _ _ n

-- pages exchanged
exchange-repaged : (f p : ℕ) (n : Node) → Repaged (exchange f p n) n
unfolding exchange trading with_groups with_free with_paging
exchange-repaged f p n = repaged-trading f p n.free _ n

-- a page brought in
pub bring-repaged : (p : ℕ) (fs : List ℕ) (n : Node) → Repaged (bring_in p fs n) n
unfolding bring_in
bring-repaged p [] n = exchange-repaged (victim n) p n
bring-repaged p (f ∷ fs) n = repaged-trading f p fs _ n

-- a page in swap is brought in, one in a frame stays
pub resident-cases : (P : Node → Type 0) (b : Build) (p : ℕ) (n : Node) → (in_frame b p ≡ true → P n) → (in_frame b p ≡ false → P (bring_in p n.free n))
    → P (resident b p n)
unfolding resident
resident-cases P b p n here brought = go (in_frame b p) refl
  where
    go : (t : Bool) → in_frame b p ≡ t → P (cond t n (bring_in p n.free n))
    go true e = here e
    go false e = brought e

pub resident-repaged : (b : Build) (p : ℕ) (n : Node) → Repaged (resident b p n) n
resident-repaged b p n = resident-cases (λ k. Repaged k n) b p n (λ e. repaged-refl) (λ e. bring-repaged p n.free n)

-- a frame made free
freed-repaged : (fs : List ℕ) (n : Node) → Repaged (freed fs n) n
unfolding freed
freed-repaged [] n = send-repaged (victim n) n.paging.swap n
freed-repaged (f ∷ fs) n = repaged-refl

-- what a message needs first: its page in a frame, or a frame made free
pub prepared-cases : (P : Node → Type 0) (b : Build) (g : ℕ) (n : Node)
    → (filled n g < length (group_of n g).buffer.places → P (resident b (next_page b (group_of n g).buffer) n))
    → (length (group_of n g).buffer.places ≤ filled n g → P (freed n.free n)) → P (prepared b g n)
unfolding prepared
prepared-cases P b g n room full = go (ltb (filled n g) (length (group_of n g).buffer.places)) refl
  where
    go : (t : Bool) → ltb (filled n g) (length (group_of n g).buffer.places) ≡ t
        → P (cond t (resident b (next_page b (group_of n g).buffer) n) (freed n.free n))
    go true e = room (ltb-true _ _ e)
    go false e = full (ltb-false _ _ e)

pub prepared-repaged : (b : Build) (g : ℕ) (n : Node) → Repaged (prepared b g n) n
prepared-repaged b g n =
    prepared-cases (λ k. Repaged k n) b g n (λ e. resident-repaged b (next_page b (group_of n g).buffer) n) (λ e. freed-repaged n.free n)

-- the running group's first page
first-repaged : (b : Build) (ps : List ℕ) (n : Node) → Repaged (first_resident b ps n) n
unfolding first_resident
first-repaged b [] n = repaged-refl
first-repaged b (p ∷ ps) n = resident-repaged b p n

pub runner-repaged : (b : Build) (n : Node) → Repaged (runner_resident b n) n
unfolding runner_resident
runner-repaged b n = go (eqb n.running 0)
  where
    go : (t : Bool) → Repaged (cond t n (first_resident b (group_of n n.running).buffer.frames n)) n
    go true = repaged-refl
    go false = first-repaged b (group_of n n.running).buffer.frames n

-- What does not look at where pages are is as it was.

module _ {n' n : Node} (r : Repaged n' n) (g : ℕ) where
  -- a group's line
  pub repaged-line : line n' g ≡ line n g
  unfolding line in_buffer in_queue waiting
  repaged-line = let e = r.groups g in rw (e.used, e.count, e.places, r.queue)

  -- its pledge
  pub repaged-pledge : (b : Build) → pledge b n' g ≡ pledge b n g
  unfolding pledge in_queue
  repaged-pledge b = let e = r.groups g in rw (e.used, e.count, r.queue)

  -- whether it is buffered
  pub repaged-buffered : buffered n' g ≡ buffered n g
  unfolding buffered buffer_holds
  repaged-buffered = let e = r.groups g in rw (e.count, e.flags.revoked)

-- the sum of all pledges
pub repaged-pledges : {n' n : Node} → Repaged n' n → (b : Build) → pledges b n' ≡ pledges b n
unfolding pledges
repaged-pledges r b =
    rw (repaged-pledge r 1 b, repaged-pledge r 2 b, repaged-pledge r 3 b, repaged-pledge r 4 b, repaged-pledge r 5 b, repaged-pledge r 6 b, repaged-pledge r 7 b, repaged-pledge r 8 b)

-- Numbers traded.

pub traded-first : (p q x : ℕ) → x ≡ p → traded p q x ≡ q
unfolding traded
traded-first p q x e = rw (eq-eqb x p e)

pub traded-second : (p q x : ℕ) → x ≢ p → x ≡ q → traded p q x ≡ p
unfolding traded
traded-second p q x d e = rw (ne_eqb x p d, eq-eqb x q e)

pub traded-other : (p q x : ℕ) → x ≢ p → x ≢ q → traded p q x ≡ x
unfolding traded
traded-other p q x d e = rw (ne_eqb x p d, ne_eqb x q e)

-- numbers traded that do not stand in a list
pub traded-none : (p q : ℕ) (xs : List ℕ) → count_of p xs ≡ 0 → count_of q xs ≡ 0 → map (traded p q) xs ≡ xs
traded-none p q [] e d = refl
traded-none p q (x ∷ xs) e d = go (ℕ_discrete x p) (ℕ_discrete x q) (traded-none p q xs)
  where
    go : Dec (x ≡ p) → Dec (x ≡ q) → (count_of p xs ≡ 0 → count_of q xs ≡ 0 → map (traded p q) xs ≡ xs) → traded p q x ∷ map (traded p q) xs ≡ x ∷ xs
    go (yes same) u later = absurd (omega (arith, rw (eq-eqb x p same) at e))
    go (no other) (yes same) later = absurd (omega (arith, rw (eq-eqb x q same) at d))
    go (no other) (no another) later =
        let rest = later (sym (zero-add (count_of p xs)) ∙ rw (ne_eqb x p other) at e) (sym (zero-add (count_of q xs)) ∙ rw (ne_eqb x q another) at d) in
        let first = traded-other p q x other another in
        cc

-- a group in whose list neither stands
pub untraded : (p q : ℕ) (G : Group) → map (traded p q) G.buffer.frames ≡ G.buffer.frames → traded_in p q G ≡ G
unfolding traded_in with_buffer
untraded p q G same =
    ap (λ (ps : List ℕ). with_buffer (record { used = G.buffer.used; count = G.buffer.count; frames = ps; places = G.buffer.places }) G) same

-- numbers of which two are traded weigh what they weighed, but for these
weight-traded : (w : ℕ → ℕ) (p q : ℕ) → p ≢ q → (xs : List ℕ)
    → weight w (map (traded p q) xs) + count_of p xs * w p + count_of q xs * w q ≡ weight w xs + count_of p xs * w q + count_of q xs * w p
weight-traded w p q other [] = omega arith
weight-traded w p q other (x ∷ xs) = go (ℕ_discrete x p) (ℕ_discrete x q) (weight-traded w p q other xs)
  where
    go : Dec (x ≡ p) → Dec (x ≡ q) → weight w (map (traded p q) xs) + count_of p xs * w p + count_of q xs * w q ≡ weight w xs + count_of p xs * w q + count_of q xs * w p
        → weight w (map (traded p q) (x ∷ xs)) + count_of p (x ∷ xs) * w p + count_of q (x ∷ xs) * w q
        ≡ weight w (x ∷ xs) + count_of p (x ∷ xs) * w q + count_of q (x ∷ xs) * w p
    go (yes e) d r = rw (traded-first p q x e, eq-eqb x p e, ne_eqb x q (λ f. other (sym e ∙ f))) (omega (arith, ap w e))
    go (no d) (yes e) r = rw (traded-second p q x d e, ne_eqb x p d, eq-eqb x q e) (omega (arith, ap w e))
    go (no d) (no e) r = rw (traded-other p q x d e, ne_eqb x p d, ne_eqb x q e) (omega arith)

-- the lists of groups with two numbers traded
pub lists-traded : (p q : ℕ) (Gs : List Group) → concat_map frame_list (map (traded_in p q) Gs) ≡ map (traded p q) (concat_map frame_list Gs)
unfolding frame_list traded_in with_buffer
lists-traded p q [] = refl
lists-traded p q (G ∷ Gs) =
    let r = lists-traded p q Gs in
    cc r ∙ sym (map-append (traded p q) G.buffer.frames (concat_map frame_list Gs))

-- Counts.

-- what no element has is not counted
count-out : (P : ℕ → Type 0) (k : ℕ) (xs : List ℕ) → Every P xs → (P k → ⊥) → count_of k xs ≡ 0
count-out P k xs e never = go (count_of k xs) refl
  where
    go : (c : ℕ) → count_of k xs ≡ c → count_of k xs ≡ 0
    go zero h = h
    go (suc c) h = absurd (never (every-counted P k xs e (omega arith)))

-- the first that passes a test is one of the numbers, and passes
first_passes : (t : ℕ → Bool) (xs : List ℕ) → 1 ≤ length (filter t xs)
    → (1 ≤ count_of (get_or (filter t xs) 0 0) xs) × (t (get_or (filter t xs) 0 0) ≡ true)
first_passes t [] some = absurd (omega arith)
first_passes t (x ∷ xs) some = go (t x) refl (first_passes t xs)
  where
    more : (a k : ℕ) → 1 ≤ k → 1 ≤ a + k
    more a k some = omega arith

    go : (u : Bool) → t x ≡ u → (1 ≤ length (filter t xs) → (1 ≤ count_of (get_or (filter t xs) 0 0) xs) × (t (get_or (filter t xs) 0 0) ≡ true))
        → (1 ≤ count_of (get_or (filter t (x ∷ xs)) 0 0) (x ∷ xs)) × (t (get_or (filter t (x ∷ xs)) 0 0) ≡ true)
    go true e later = rw (filter-pass t x xs e) (rw (eq-eqb x x refl) (omega arith), e)
    go false e later =
        let r = later (rw (filter-fail t x xs e) at some) in
        subst (λ (ys : List ℕ). (1 ≤ count_of (get_or ys 0 0) (x ∷ xs)) × (t (get_or ys 0 0) ≡ true)) (sym (filter-fail t x xs e))
        (more (cond (eqb x (get_or (filter t xs) 0 0)) 1 0) (count_of (get_or (filter t xs) 0 0) xs) r.0, r.1)

-- where only the number k fails, no fewer pass than there are others
pass-many : (t : ℕ → Bool) (k : ℕ) → ((x : ℕ) → t x ≡ false → x ≡ k) → (xs : List ℕ) → length xs ≤ length (filter t xs) + count_of k xs
pass-many t k only [] = omega arith
pass-many t k only (x ∷ xs) = go (t x) refl (pass-many t k only xs)
  where
    go : (u : Bool) → t x ≡ u → length xs ≤ length (filter t xs) + count_of k xs → suc (length xs) ≤ length (filter t (x ∷ xs)) + count_of k (x ∷ xs)
    go true e r = rw (filter-pass t x xs e) (omega arith)
    go false e r = rw (filter-fail t x xs e, eq-eqb x k (only x e)) (omega arith)

-- the running group's first page is the only one spared
spared-first : (n : Node) (x : ℕ) → spared n x ≡ true → x ≡ get_or (group_of n n.running).buffer.frames 0 0
unfolding spared stands_first
spared-first n x e = go (group_of n n.running).buffer.frames ((and-eq-true_iff (not (eqb n.running 0)) _).0 e).1
  where
    go : (ps : List ℕ) → stands_first x ps ≡ true → x ≡ get_or ps 0 0
    go [] h = absurd (true≢false (sym h))
    go (p ∷ ps) h = sym (eqb-true p x h)

-- A sound node.

module _ {b : Build} {n : Node} (s : Sound b n) where
  -- how often a number stands: in the two lines and in the lists
  pub counted : (k : ℕ)
      → count_of k (frame_numbers n) ≡ count_of k n.free + count_of k n.paging.swap + count_of k (concat_map frame_list n.groups)
  counted k =
      omega (
        arith,
        numbers-weight n (hit k),
        count-weight k (frame_numbers n),
        count-weight k n.free,
        count-weight k n.paging.swap,
        count-weight k (concat_map frame_list n.groups),
      )

  -- and in the free line and the order of entry
  pub ordered : (k : ℕ) → count_of k (frame_order n) ≡ count_of k n.free + count_of k n.paging.entered
  unfolding frame_order
  ordered k = count-append k n.free n.paging.entered

  order_below : Every (λ k. k < b.frames) n.free × Every (λ k. k < b.frames) n.paging.entered
  unfolding frame_order
  order_below =
      (every_append (λ k. k < b.frames) n.free n.paging.entered).0
      (once-bounded b.frames (frame_order n) s.entered-once s.entered_all)

  -- the free line has frames
  pub free-below : Every (λ k. k < b.frames) n.free
  free-below = order_below.0

  -- and so has the order of entry
  pub entered_below : Every (λ k. k < b.frames) n.paging.entered
  entered_below = order_below.1

  -- no frame stands in the swap line
  pub swap-none : (k : ℕ) → k < b.frames → count_of k n.paging.swap ≡ 0
  swap-none k below = count-out (IsSwap b) k n.paging.swap s.swap-numbers (λ h. omega arith)

  -- a page that a group has is one of all pages
  pub listed_below : (p : ℕ) → Listed p n → p < page_count b
  listed_below p listed =
      every-counted (λ k. k < page_count b) p (frame_numbers n) (once-bounded (page_count b) (frame_numbers n) s.frames-once s.frames-all) (omega (arith, counted p))

  -- it stands in no line, and once in the lists
  pub listed-once : (p : ℕ) → Listed p n
      → (count_of p n.free ≡ 0) × ((count_of p n.paging.swap ≡ 0) × (count_of p (concat_map frame_list n.groups) ≡ 1))
  listed-once p listed =
      let once = s.frames-once p (listed_below p listed) in
      let all = counted p in
      (omega arith, (omega arith, omega arith))

  -- one that stands in a line is no group's
  pub idle-unlisted : (p : ℕ) → 1 ≤ count_of p n.free + count_of p n.paging.swap → count_of p (concat_map frame_list n.groups) ≡ 0
  idle-unlisted p idle =
      let below = every-counted (λ k. k < page_count b) p (frame_numbers n) (once-bounded (page_count b) (frame_numbers n) s.frames-once s.frames-all) (omega (arith, counted p)) in
      omega (arith, s.frames-once p below, counted p)

  -- a frame in the order of entry stands in it once, and is a group's page
  pub entered-once : (f : ℕ) → 1 ≤ count_of f n.paging.entered → (count_of f n.paging.entered ≡ 1) × Listed f n
  entered-once f some =
      let below = every-counted (λ k. k < b.frames) f n.paging.entered entered_below some in
      let once = s.entered-once f below in
      let order = ordered f in
      (omega arith, omega (arith, s.frames-once f (omega arith), counted f, swap-none f below))

  -- no number stands twice in the order of entry
  entered-few : (k : ℕ) → count_of k n.paging.entered ≤ 1
  entered-few k = go (count_of k n.paging.entered) refl
    where
      go : (c : ℕ) → count_of k n.paging.entered ≡ c → count_of k n.paging.entered ≤ 1
      go zero e = omega arith
      go (suc c) e = omega (arith, (entered-once k (omega arith)).0)

  -- where no frame is free, there is a page to send out: it stands once in the order of entry, is a group's, and is not spared
  pub victim-stands : n.free ≡ [] → (count_of (victim n) n.paging.entered ≡ 1) × (Listed (victim n) n × (spared n (victim n) ≡ false))
  unfolding victim frame_order
  victim-stands none =
      let t : ℕ → Bool = λ f. not (spared n f) in
      let first = get_or (group_of n n.running).buffer.frames 0 0 in
      let only : (x : ℕ) → t x ≡ false → x ≡ first = λ x e. spared-first n x (not-false (spared n x) e) in
      let all : length n.paging.entered ≡ b.frames =
      omega (arith, length-append n.free n.paging.entered, ap length none, s.entered_all) in
      let many = pass-many t first only n.paging.entered in
      let passes = first_passes t n.paging.entered (omega (arith, entered-few first, s.sensible.frames)) in
      let once = entered-once (victim n) passes.0 in
      (once.0, (once.1, not-true (spared n (victim n)) passes.1))

-- a group with numbers traded is good
traded-good : {b : Build} (p q : ℕ) (G : Group) → GoodGroup b G → GoodGroup b (traded_in p q G)
unfolding traded_in with_buffer waiting unused
traded-good p q G g =
    let v = g.buffer in
    let l = length-map G.buffer.frames (traded p q) in
    record {
      buffer = record {
        used-bound = v.used-bound;
        used-empty = v.used-empty;
        list_length = l ∙ v.list_length;
        whole = rw l v.whole;
        places = v.places;
        waiting-good = v.waiting-good;
        unused-wiped = v.unused-wiped;
      };
      descriptor = g.descriptor;
      pending-atomic = g.pending-atomic;
      force-atomic = g.force-atomic;
      revoked-atomic = g.revoked-atomic;
    }

-- a sound node with other lines and an other order of entry, and two numbers traded, is sound where numbers stand as often as they did
trade-sound : {b : Build} {n : Node} → Sound b n → (p q : ℕ) (fs : List ℕ) (t : Paging)
    → Every (IsSwap b) t.swap
    → ((w : ℕ → ℕ) → weight w fs + weight w t.swap + weight w (map (traded p q) (concat_map frame_list n.groups))
    ≡ weight w n.free + weight w n.paging.swap + weight w (concat_map frame_list n.groups))
    → ((w : ℕ → ℕ) → weight w fs + weight w t.entered ≡ weight w n.free + weight w n.paging.entered)
    → Sound b (trading p q (with_free fs (with_paging t n)))
unfolding trading with_groups with_free with_paging
trade-sound {b} {n} s p q fs t swap-numbers even order =
    let n' = trading p q (with_free fs (with_paging t n)) in
    let lists = lists-traded p q n.groups in
    let frames : (w : ℕ → ℕ) → weight w (frame_numbers n') ≡ weight w (frame_numbers n) =
    λ w. omega (arith, numbers-weight n' w, numbers-weight n w, even w, ap (weight w) lists) in
    let orders : (w : ℕ → ℕ) → weight w (frame_order n') ≡ weight w (frame_order n) = λ w. omega (arith, order-weight n' w, order-weight n w, order w) in
    record {
      sensible = s.sensible;
      running-bound = s.running-bound;
      timer-bound = s.timer-bound;
      queue-length = s.queue-length;
      queue-good = s.queue-good;
      group-count = length-map n.groups (traded_in p q) ∙ s.group-count;
      groups-good = every-mapped (GoodGroup b) (GoodGroup b) (traded_in p q) (traded-good p q) n.groups s.groups-good;
      frames-once = λ f below. weights-count (frame_numbers n) (frame_numbers n') frames f ∙ s.frames-once f below;
      frames-all = weights-length (frame_numbers n) (frame_numbers n') frames ∙ s.frames-all;
      swap-numbers = swap-numbers;
      entered-once = λ f below. weights-count (frame_order n) (frame_order n') orders f ∙ s.entered-once f below;
      entered_all = weights-length (frame_order n) (frame_order n') orders ∙ s.entered_all;
      pledged = omega (arith, repaged-pledges (repaged-trading p q fs t n) b, s.pledged);
    }

-- numbers traded of which the first stands once, and the second not
traded-to : (w : ℕ → ℕ) (p q : ℕ) → p ≢ q → (xs : List ℕ) → count_of p xs ≡ 1 → count_of q xs ≡ 0 → weight w (map (traded p q) xs) + w p ≡ weight w xs + w q
traded-to w p q other xs one none = let r = rw (one, none) at (weight-traded w p q other xs) in omega arith

-- the second once, and the first not
traded-from : (w : ℕ → ℕ) (p q : ℕ) → p ≢ q → (xs : List ℕ) → count_of p xs ≡ 0 → count_of q xs ≡ 1 → weight w (map (traded p q) xs) + w q ≡ weight w xs + w p
traded-from w p q other xs none one = let r = rw (one, none) at (weight-traded w p q other xs) in omega arith

-- and each once
traded-both : (w : ℕ → ℕ) (p q : ℕ) → p ≢ q → (xs : List ℕ) → count_of p xs ≡ 1 → count_of q xs ≡ 1 → weight w (map (traded p q) xs) ≡ weight w xs
traded-both w p q other xs one once = let r = rw (one, once) at (weight-traded w p q other xs) in omega arith

-- a list of pages with two numbers traded
list-traded : (p q g x : ℕ) (xs : List ℕ) (n : Node) → (group_of n g).buffer.frames ≡ x ∷ xs
    → (group_of (trading p q n) g).buffer.frames ≡ traded p q x ∷ map (traded p q) xs
unfolding traded_in with_buffer
list-traded p q g x xs n e = ap (λ (G : Group). G.buffer.frames) (traded-group p q n g) ∙ ap (map (traded p q)) e

module _ {b : Build} {n : Node} (s : Sound b n) where
  -- a frame in the order of entry is below the frames' count
  entered_frame : (f : ℕ) → 1 ≤ count_of f n.paging.entered → f < b.frames
  entered_frame f some = every-counted (λ k. k < b.frames) f n.paging.entered (entered_below s) some

  -- and so is the front of the free line
  free-below-first : (x : ℕ) (fs : List ℕ) → n.free ≡ x ∷ fs → x < b.frames
  free-below-first x fs e =
      let below : Every (λ k. k < b.frames) (x ∷ fs) = rw e at (free-below s) in
      below.0

  -- a page sent out leaves a sound node
  pub send-sound : n.free ≡ [] → Sound b (send_out (victim n) n.paging.swap n)
  unfolding send_out
  send-sound none = go n.paging.swap refl
    where
      go : (ss : List ℕ) → n.paging.swap ≡ ss → Sound b (send_out (victim n) ss n)
      go [] e = s
      go (x ∷ ss) e =
          let f = victim n in
          let v = victim-stands s none in
          let below = entered_frame f (omega (arith, v.0)) in
          let lists = concat_map frame_list n.groups in
          let numbers : Every (IsSwap b) (x ∷ ss) = rw e at s.swap-numbers in
          let other : f ≢ x = λ same. omega (arith, numbers.0) in
          let here : 1 ≤ count_of x n.paging.swap = rw (e, eq-eqb x x refl) (omega arith) in
          let unlisted = idle-unlisted s x (omega arith) in
          let listed = (listed-once s f v.1.0).1.1 in
          trade-sound s f x (n.free ++ (f ∷ [])) _ numbers.1
          (λ w. omega (arith, ap (weight w) e, weight-append w n.free (f ∷ []), traded-to w f x other lists listed unlisted))
          (λ w. omega (arith, weight-append w n.free (f ∷ []), weight-left w f n.paging.entered v.0))

  -- and so does a page exchanged with one to send out
  exchange-sound : n.free ≡ [] → (p : ℕ) → b.frames ≤ p → Listed p n → Sound b (exchange (victim n) p n)
  unfolding exchange trading with_groups with_free with_paging
  exchange-sound none p high listed =
      let f = victim n in
      let v = victim-stands s none in
      let below = entered_frame f (omega (arith, v.0)) in
      let lists = concat_map frame_list n.groups in
      trade-sound s f p n.free _ s.swap-numbers
      (λ w. omega (arith, traded-both w f p (λ same. omega arith) lists (listed-once s f v.1.0).1.1 (listed-once s p listed).1.1))
      (λ w. omega (arith, weight-append w (without f n.paging.entered) (f ∷ []), weight-left w f n.paging.entered v.0))

  -- a page brought in, either way
  pub bring-sound : (p : ℕ) → b.frames ≤ p → Listed p n → Sound b (bring_in p n.free n)
  unfolding bring_in
  bring-sound p high listed = go n.free refl
    where
      go : (fs : List ℕ) → n.free ≡ fs → Sound b (bring_in p fs n)
      go [] e = exchange-sound e p high listed
      go (x ∷ fs) e =
          let below : Every (λ k. k < b.frames) (x ∷ fs) = rw e at (free-below s) in
          let here : 1 ≤ count_of x n.free = rw (e, eq-eqb x x refl) (omega arith) in
          let unlisted = idle-unlisted s x (omega arith) in
          let once = (listed-once s p listed).1.1 in
          trade-sound s x p fs _ ((every_append (IsSwap b) n.paging.swap (p ∷ [])).1 (s.swap-numbers, (high, tt)))
          (λ w. rw e
          (omega (
            arith,
            weight-append w n.paging.swap (p ∷ []),
            traded-from w x p (λ same. omega (arith, below.0)) (concat_map frame_list n.groups) unlisted once,
          )))
          (λ w. rw e (omega (arith, weight-append w n.paging.entered (x ∷ []))))

  -- a page made resident
  pub resident-sound : (p : ℕ) → Listed p n → Sound b (resident b p n)
  unfolding in_frame
  resident-sound p listed = resident-cases (Sound b) b p n (λ e. s) (λ e. bring-sound p (ltb-false p b.frames e) listed)

  -- a frame made free
  freed-sound : Sound b (freed n.free n)
  unfolding freed
  freed-sound = go n.free refl
    where
      go : (fs : List ℕ) → n.free ≡ fs → Sound b (freed fs n)
      go [] e = send-sound e
      go (x ∷ fs) e = s

  -- a page of a group's list is a group's page
  pub listed_at : (g : ℕ) → 1 ≤ g → g ≤ group_count → (i : ℕ) → i < length (group_of n g).buffer.frames → Listed (get_or (group_of n g).buffer.frames i 0) n
  unfolding group_of frame_list
  listed_at g low high i inside =
      let p = get_or (group_of n g).buffer.frames i 0 in
      let here = count_at p (group_of n g).buffer.frames i inside refl in
      omega (arith, here, count-part p frame_list empty_group n.groups (pred g) (within s g low high))

  -- the page that a message is written to is one
  pub next-listed : (g : ℕ) → 1 ≤ g → g ≤ group_count → filled n g < length (group_of n g).buffer.places → Listed (next_page b (group_of n g).buffer) n
  unfolding next_page
  next-listed g low high room =
      let good = (group-good s g low high).buffer in
      listed_at g low high (filled n g / b.per_frame) ((div-lt_iff_lt-mul (omega (arith, good.used-bound))).1 (omega (arith, good.whole)))

  -- what a message needs first leaves a sound node
  pub prepared-sound : (g : ℕ) → 1 ≤ g → g ≤ group_count → Sound b (prepared b g n)
  prepared-sound g low high =
      prepared-cases (Sound b) b g n (λ room. resident-sound (next_page b (group_of n g).buffer) (next-listed g low high room)) (λ full. freed-sound)

  -- and in it a full buffer with a message in the queue meets a free frame
  pub prepared-left : (g : ℕ) → 1 ≤ g → g ≤ group_count → 1 ≤ length (in_queue n g) → length (group_of n g).buffer.places ≤ filled n g
      → 1 ≤ length (prepared b g n).free
  unfolding freed send_out trading with_groups with_free with_paging
  prepared-left g low high queued full =
      prepared-cases (λ k. 1 ≤ length k.free) b g n (λ room. absurd (omega arith)) (λ e. go n.free refl)
    where
      sent : (ss : List ℕ) → n.free ≡ [] → 1 ≤ length ss → 1 ≤ length (send_out (victim n) ss n).free
      sent [] e some = absurd (omega arith)
      sent (x ∷ ss) e some = omega (arith, length-append n.free (victim n ∷ []))

      go : (fs : List ℕ) → n.free ≡ fs → 1 ≤ length (freed fs n).free
      go [] e = sent n.paging.swap e (swap-left s g low high queued full e)
      go (x ∷ fs) e = rw e (omega arith)

  -- the first page of a group's list is a group's page
  first-listed : (g : ℕ) → 1 ≤ g → g ≤ group_count → (p : ℕ) (ps : List ℕ) → (group_of n g).buffer.frames ≡ p ∷ ps → Listed p n
  first-listed g low high p ps e =
      let first : get_or (group_of n g).buffer.frames 0 0 ≡ p = ap (λ (l : List ℕ). get_or l 0 0) e in
      subst (λ (k : ℕ). Listed k n) first (listed_at g low high 0 (omega (arith, ap length e)))

  -- where it is in a frame, it stands once in the order of entry
  pub first-entered : (g : ℕ) → 1 ≤ g → g ≤ group_count → 1 ≤ length (group_of n g).buffer.frames → FirstInFrame b (group_of n g).buffer.frames
      → count_of (get_or (group_of n g).buffer.frames 0 0) n.paging.entered ≡ 1
  first-entered g low high some here = go (group_of n g).buffer.frames refl some here
    where
      go : (ps : List ℕ) → (group_of n g).buffer.frames ≡ ps → 1 ≤ length ps → FirstInFrame b ps → count_of (get_or ps 0 0) n.paging.entered ≡ 1
      go [] e some here = absurd (omega arith)
      go (p ∷ ps) e some here =
          omega (arith, s.entered-once p here, ordered s p, (listed-once s p (first-listed g low high p ps e)).0)

  -- of a list with a page in swap brought in, the page is in a frame
  bring-first : (g : ℕ) (p : ℕ) (ps : List ℕ) → b.frames ≤ p → (group_of n g).buffer.frames ≡ p ∷ ps
      → FirstInFrame b (group_of (bring_in p n.free n) g).buffer.frames
  unfolding bring_in exchange trading with_groups with_free with_paging group_of
  bring-first g p ps high e = go n.free refl
    where
      traded-into : (f : ℕ) → f < b.frames → FirstInFrame b (group_of (trading f p n) g).buffer.frames
      traded-into f below =
          let first : traded f p p ≡ f = traded-second f p p (λ same. omega arith) refl in
          rw (list-traded f p g p ps n e, first) below

      go : (fs : List ℕ) → n.free ≡ fs → FirstInFrame b (group_of (bring_in p fs n) g).buffer.frames
      go [] none = traded-into (victim n) (entered_frame (victim n) (omega (arith, (victim-stands s none).0)))
      go (x ∷ fs) some = traded-into x (free-below-first x fs some)

  -- the running group's first page made resident
  pub runner-sound : Sound b (runner_resident b n)
  unfolding runner_resident first_resident
  runner-sound = go (eqb n.running 0) refl
    where
      first : (ps : List ℕ) → 1 ≤ n.running → (group_of n n.running).buffer.frames ≡ ps → Sound b (first_resident b ps n)
      first [] low e = s
      first (p ∷ ps) low e = resident-sound p (first-listed n.running low s.running-bound p ps e)

      go : (t : Bool) → eqb n.running 0 ≡ t → Sound b (cond t n (first_resident b (group_of n n.running).buffer.frames n))
      go true e = s
      go false e = first (group_of n n.running).buffer.frames (let d = eqb-false n.running 0 e in omega arith) refl

  -- is in a frame
  pub runner-first : 1 ≤ n.running → FirstInFrame b (group_of (runner_resident b n) n.running).buffer.frames
  unfolding runner_resident first_resident in_frame
  runner-first low = go (eqb n.running 0) refl
    where
      first : (ps : List ℕ) → (group_of n n.running).buffer.frames ≡ ps → FirstInFrame b (group_of (first_resident b ps n) n.running).buffer.frames
      first [] e = rw e tt
      first (p ∷ ps) e =
          resident-cases (λ k. FirstInFrame b (group_of k n.running).buffer.frames) b p n (λ here. rw e (ltb-true p b.frames here))
          (λ away. bring-first n.running p ps (ltb-false p b.frames away) e)

      go : (t : Bool) → eqb n.running 0 ≡ t
          → FirstInFrame b (group_of (cond t n (first_resident b (group_of n n.running).buffer.frames n)) n.running).buffer.frames
      go true e = absurd (omega (arith, eqb-true n.running 0 e))
      go false e = first (group_of n n.running).buffer.frames refl

-- where a running group's first page is in a frame already, nothing changes
pub runner-quiet : (b : Build) (n : Node) → (1 ≤ n.running → FirstInFrame b (group_of n n.running).buffer.frames) → runner_resident b n ≡ n
unfolding runner_resident first_resident resident in_frame
runner-quiet b n here = go (eqb n.running 0) refl
  where
    first : (ps : List ℕ) → FirstInFrame b ps → first_resident b ps n ≡ n
    first [] h = refl
    first (p ∷ ps) h = rw (lt-ltb p b.frames h)

    go : (t : Bool) → eqb n.running 0 ≡ t → cond t n (first_resident b (group_of n n.running).buffer.frames n) ≡ n
    go true e = refl
    go false e = first (group_of n n.running).buffer.frames (here (let d = eqb-false n.running 0 e in omega arith))

-- Paging does not look at the queue or the timer.

module _ (b : Build) (t : ℕ) (q : List Message) where
  -- the node with this timer and this queue
  abbrev fronted : Node → Node
  fronted n = with_timer t (with_queue q n)

  send-fronted : (f : ℕ) (ss : List ℕ) (n : Node) → send_out f ss (fronted n) ≡ fronted (send_out f ss n)
  unfolding send_out trading with_groups with_free with_paging with_timer with_queue
  send-fronted f [] n = refl
  send-fronted f (s ∷ ss) n = refl

  bring-fronted : (p : ℕ) (fs : List ℕ) (n : Node) → bring_in p fs (fronted n) ≡ fronted (bring_in p fs n)
  unfolding bring_in exchange victim spared trading with_groups with_free with_paging with_timer with_queue group_of
  bring-fronted p [] n = refl
  bring-fronted p (f ∷ fs) n = refl

  resident-fronted : (p : ℕ) (n : Node) → resident b p (fronted n) ≡ fronted (resident b p n)
  unfolding resident with_timer with_queue
  resident-fronted p n = go (in_frame b p)
    where
      go : (u : Bool) → cond u (fronted n) (bring_in p n.free (fronted n)) ≡ fronted (cond u n (bring_in p n.free n))
      go true = refl
      go false = bring-fronted p n.free n

  freed-fronted : (fs : List ℕ) (n : Node) → freed fs (fronted n) ≡ fronted (freed fs n)
  unfolding freed victim spared with_timer with_queue group_of
  freed-fronted [] n = send-fronted (victim n) n.paging.swap n
  freed-fronted (f ∷ fs) n = refl

  pub prepared-fronted : (g : ℕ) (n : Node) → prepared b g (fronted n) ≡ fronted (prepared b g n)
  unfolding prepared with_timer with_queue group_of
  prepared-fronted g n = go (next_page b (group_of n g).buffer) (ltb (filled n g) (length (group_of n g).buffer.places))
    where
      go : (p : ℕ) (u : Bool)
          → cond u (resident b p (fronted n)) (freed n.free (fronted n)) ≡ fronted (cond u (resident b p n) (freed n.free n))
      go p true = resident-fronted p n
      go p false = freed-fronted n.free n
