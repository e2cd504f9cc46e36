-- Order 3's promise to readers holds. That a node's memory has no old words is MapClean's, and a step leaves a node. The places of a good buffer
-- are h empty ones, then its messages as they are kept, then empty ones to the end of its last page: its counts, its list and its messages say
-- all of them. Two nodes with the same queue and the same line of a group have the same of its messages in the buffer; so nodes that agree are
-- the same. A node's dump is its map, and is read back from any memory that begins with it. Assumes nothing.
use Prim.Native.Nat.{ℕ, suc, ◌+◌, ◌-◌, ◌*◌, ◌≤◌}
use mathlib.Core.Path.{◌≡◌, refl, sym, ap, ◌∙◌, subst}
use mathlib.Core.Bool.{true}
use mathlib.Core.List.{List, [], ◌∷◌, ◌++◌, map, append_cancel_right}
use native.Mathlib.Omega.{arith}
use lib.ListN.{length, take, drop, replicate, length-drop, take-append-drop}
use lib.Seq.{drop-drop, length-take-le, take_at, ext_get_or}
use Rattle.rules.specs.Lists.{Every, pad}
use Rattle.rules.specs.Build.{Build, group_count, word_limit}
use Rattle.rules.specs.Node.{Message, Place, Buffer, Node, empty_place, empty_group, group_of, place_of, message_of, waiting, in_buffer, in_queue, line}
use Rattle.rules.specs.Valid.{GoodPlace, GoodWaiting, GoodBuffer, Valid}
use Rattle.rules.specs.Memory.{size, words, node_at}
use Rattle.rules.specs.MemoryTest.{is_memory, step_memory, power_on_memory}
use Rattle.rules.specs.Dumps.{dump, Agree, Dumps}
use Rattle.rules.proofs.Steps.EveryLaws.{every-same, every_take, every_drop}
use Rattle.rules.proofs.Steps.ListLaws.{pad-fits}
use Rattle.rules.proofs.Steps.SoundLaws.{valid-sound, valid-mapped}
use Rattle.rules.proofs.Steps.FrameLaws.{fits, wiped-places, both-wiped}
use Rattle.rules.proofs.Steps.NodeLaws.{group-good}
use Rattle.rules.proofs.Map.MapRead.{words-length}
use Rattle.rules.proofs.Map.MapLaws.{read_back, test-written, test-valid, test_words}
use Rattle.rules.proofs.Map.MapClean.{clean}
use Rattle.rules.proofs.Demands.DemandOneLaws.{demand-one}

-- Places.

-- the place of a waiting message is the message as it is kept
waiting_kept : (g : ℕ) (p : Place) → GoodPlace p → GoodWaiting p → place_of (message_of g p) ≡ p
unfolding place_of message_of
waiting_kept g p good w =
    let len : length (take p.len p.words) ≡ p.len = length-take-le p.len p.words (omega (arith, good.eight, w.few_words)) in
    let zeros : drop p.len p.words ≡ replicate (word_limit - p.len) 0 =
    rw (length-drop, good.eight) at (every-same 0 (drop p.len p.words) w.rest-zero) in
    let short : length (take p.len p.words) ≤ word_limit = omega (arith, w.few_words) in
    let same : pad word_limit (take p.len p.words) ≡ p.words =
    pad-fits word_limit (take p.len p.words) short ∙ rw (len, ← zeros) (take-append-drop p.len p.words) in
    λ i. record { len = len i; words = same i }

-- and so with all of them
waitings-kept : (g : ℕ) (ps : List Place) → Every GoodPlace ps → Every GoodWaiting ps → map place_of (map (message_of g) ps) ≡ ps
waitings-kept g [] good w = refl
waitings-kept g (p ∷ ps) good w =
    let one = waiting_kept g p good.0 w.0 in
    let rest = waitings-kept g ps good.1 w.1 in
    cc

-- the places of a good buffer: its counts, its list and its messages say all of them
places-told : {b : Build} (v : Buffer) (g : ℕ) → GoodBuffer b v
    → v.places
    ≡ replicate v.used empty_place
    ++ (map place_of (map (message_of g) (waiting v)) ++ replicate (length v.frames * b.per_frame - (v.used + v.count)) empty_place)
unfolding waiting
places-told {b} v g good =
    let ps = v.places in
    let up : take v.used ps ≡ replicate v.used empty_place =
    rw (length-take-le v.used ps (omega (arith, fits good))) at
    (wiped-places (take v.used ps) (every_take GoodPlace v.used ps good.places) (both-wiped good).0) in
    let end : drop (v.used + v.count) ps ≡ replicate (length v.frames * b.per_frame - (v.used + v.count)) empty_place =
    rw (length-drop, good.whole) at
    (wiped-places (drop (v.used + v.count) ps) (every_drop GoodPlace (v.used + v.count) ps good.places) (both-wiped good).1) in
    let kept : map place_of (map (message_of g) (waiting v)) ≡ waiting v =
    waitings-kept g (waiting v) (every_take GoodPlace v.count (drop v.used ps) (every_drop GoodPlace v.used ps good.places)) good.waiting-good in
    rw (← up, ← end, kept, ← drop-drop v.count v.used ps, take-append-drop v.count (drop v.used ps)) (sym (take-append-drop v.used ps))

-- Nodes that agree.

module _ {b : Build} (n k : Node) (v : Valid b n) (w : Valid b k) (a : Agree n k) where
  module _ (g : ℕ) (low : 1 ≤ g) (high : g ≤ group_count) where
    -- they have the same messages of a group in its buffer
    same-messages : in_buffer n g ≡ in_buffer k g
    unfolding line in_queue
    same-messages =
        let queues : in_queue k g ≡ in_queue n g = rw a.queue in
        append_cancel_right (in_buffer n g) (in_buffer k g) (in_queue n g) ((a.groups g low high).messages ∙ ap (λ (q : List Message). in_buffer k g ++ q) queues)

    -- and so the same places
    same-places : (group_of n g).buffer.places ≡ (group_of k g).buffer.places
    unfolding in_buffer
    same-places =
        let its = a.groups g low high in
        let same = same-messages in
        let one = places-told (group_of n g).buffer g (group-good (valid-sound v) g low high).buffer in
        let other = places-told (group_of k g).buffer g (group-good (valid-sound w) g low high).buffer in
        one ∙ rw (its.used, its.count, its.pages, same) (sym other)

    -- the same group
    same-group : group_of n g ≡ group_of k g
    same-group =
        let its = a.groups g low high in
        λ i. record {
          atomic = its.atomic i;
          pending = its.pending i;
          force = its.force i;
          revoked = its.revoked i;
          buffer = record { used = its.used i; count = its.count i; frames = its.pages i; places = same-places i };
          descriptor = its.descriptor i;
        }

  -- and all of them
  same-groups : n.groups ≡ k.groups
  unfolding group_of
  same-groups =
      let count = v.group-count in
      ext_get_or empty_group n.groups k.groups (v.group-count ∙ sym w.group-count) (λ i h. same-group (suc i) (omega arith) (omega arith))

  -- they are the same node
  same-node : n ≡ k
  same-node = λ i. record {
    running = a.running i;
    timer = a.timer i;
    queue = a.queue i;
    free = a.free i;
    paging = record { swap = a.swap i; entered = a.entered i; out = a.out i; brought = a.brought i };
    groups = same-groups i;
  }

-- Dumps.

-- a node's dump is its map
dump-map : (m : List ℕ) → is_memory m ≡ true → dump m ≡ words (node_at m)
dump-map m h =
    let n = node_at m in
    ap dump (sym (test_words m h)) ∙ take_at (words n) (drop size m) size (words-length n (valid-mapped (test-valid m h)))

-- so memory with an equal dump is that map too, with what stands behind it
dump-words : (m m' : List ℕ) → is_memory m ≡ true → dump m ≡ dump m' → words (node_at m) ++ drop size m' ≡ m'
dump-words m m' h e = rw (← dump-map m h, e) (take-append-drop size m')

-- the promise
pub dumps : Dumps
dumps =
    record {
      clean = clean;
      step-clean = λ m op h. clean (step_memory m op).memory ((demand-one.any_step m op).stays-node h);
      power-on-clean = λ m long. clean (power_on_memory m).memory ((demand-one.any-power-on m).makes-node long);
      same-node = λ b n k. same-node n k;
      same-dump = λ m m' h h' a.
          dump-map m h ∙ ap words (same-node (node_at m) (node_at m') (test-valid m h) (test-valid m' h') a) ∙ sym (dump-map m' h');
      node-by-dump = λ m m' h e.
          subst (λ (k : List ℕ). is_memory k ≡ true) (dump-words m m' h e) (test-written (node_at m) (drop size m') (test-valid m h));
      same-by-dump = λ m m' h e.
          sym (subst (λ (k : List ℕ). node_at k ≡ node_at m) (dump-words m m' h e) (read_back (node_at m) (drop size m') (test-valid m h)));
    }
