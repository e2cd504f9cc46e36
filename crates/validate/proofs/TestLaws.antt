-- The clauses in the order in which they are tested are the rules' own: a message of the queue, a group and a frame are read where the map
-- puts them, and what the rules ask besides holds of any that is read. Assumes nothing.
use Prim.Native.Nat.{ℕ, zero, suc, ◌+◌, ◌*◌, ◌≤◌, ◌<◌}
use mathlib.Core.Path.{◌≡◌, refl, sym, ap, ◌∙◌}
use mathlib.Core.Logic.Iff
use mathlib.Core.Logic.{◌↔◌}
use mathlib.Core.Bool.{Bool, true, false, ◌&&◌, and-eq-true_iff, true≢false}
use mathlib.Core.List.{List}
use native.Mathlib.Omega.{arith}
use native.Mathlib.Nat.{mul-suc}
use lib.Dec.{eqb, leb, ltb}
use lib.ListN.{length}
use borrow.Author.Tests.{le-leb, eq-eqb}
use Rattle.rules.specs.Lists.{Every, all, up_from}
use Rattle.rules.specs.Build.{paper01, group_count, word_limit}
use Rattle.rules.specs.Node.{unused}
use Rattle.rules.specs.Frames.{pledges}
use Rattle.rules.specs.Valid.{is_message, is_place, is_buffer, is_group, is_swap, frame_numbers, frame_order, pending_has_line, runner_atomic, head_stays, runner_in_frame, node_tests, is_node}
use Rattle.rules.specs.Memory.{running_at, timer_at, queued_at, swap_at, swap_count_at, queue_at, groups_at, held_offset, described_offset, descriptor_offset, list_offset, size, word, words_at, place_at, frame_places, frame_address, list_at, buffer_at, group_at, groups_from, group_address, paging_from, node_at}
use Rattle.rules.specs.MemoryTest.{counts_in_bounds, group_flags, flags_are_flags, unused_are_zero, idle_are_wiped, memory_tests, is_memory}
use Rattle.rules.proofs.Map.TestLaws.{all-every, passes-every, range-tells}
use Rattle.rules.proofs.Steps.EveryLaws.{every_of, every-concat}
use Rattle.rules.proofs.Map.MapWords.{Records, length-words_at, length-records, every-record}
use Rattle.rules.proofs.Map.MapParts.{messages, places, groups}
use Rattle.validate.specs.Clauses.{flags_atomic, flags_good, message_good, buffer_good, waiting_good, used_up_wiped, behind_wiped, places_good, pages_once, swap_page, entered_once, numbers_good, frames_good, lines_good}
use Rattle.validate.specs.Known.{Counted}
use Rattle.validate.proofs.RangeLaws.{all_append, all_words, fails}
use Rattle.validate.proofs.frames.PlaceLaws.{places-all}

-- a test of every element, element by element
each : {A : Type 0} (p : A → Bool) (xs : List A) → (all p xs ≡ true) ↔ Every (λ x. p x ≡ true) xs
each p xs = all-every p (λ x. p x ≡ true) (λ x. Iff.rfl) xs

-- a test of records is one of their places
all-records : {X : Type 0} {at : ℕ → X} {s : ℕ} {from : ℕ → ℕ → List X} → Records at s from → (p : X → Bool) (a j k : ℕ)
    → all p (from (a + s * j) k) ≡ all (λ i. p (at (a + s * i))) (up_from j k)
all-records r p a j zero = rw (r.none _)
all-records {at = at} {s = s} {from = from} r p a j (suc k) =
    let e : a + s * j + s ≡ a + s * suc j = omega (arith, mul-suc s j) in
    rw (r.more (a + s * j) k, e) (ap (λ (t : Bool). p (at (a + s * j)) && t) (all-records r p a (suc j) k))

-- two tests that pass together are equal
pub same_test : (a b : Bool) → (a ≡ true) ↔ (b ≡ true) → a ≡ b
same_test true b h = sym (h.0 refl)
same_test false true h = h.1 refl
same_test false false h = refl

-- a test and others behind it
and-tells : {a b : Bool} {Q : Type 0} → ((b ≡ true) ↔ Q) → (a && b ≡ true) ↔ ((a ≡ true) × Q)
and-tells {a} {b} q = Iff.trans (and-eq-true_iff a b) (Iff.and Iff.rfl q)

module _ (m : List ℕ) where
  -- the messages of the queue
  queue-tested : all is_message (node_at m).queue ≡ all (message_good m) (up_from 0 (word m queued_at))
  unfolding node_at message_good
  queue-tested = all-records (messages m) is_message queue_at 0 (word m queued_at)

  -- any place that is read has eight words
  place-eight : (a : ℕ) → is_place (place_at m a) ≡ true
  unfolding is_place place_at
  place-eight a = eq-eqb (length (words_at m (a + 1) word_limit)) word_limit (length-words_at m (a + 1) word_limit)

  -- and so have all of a frame
  frame-eights : (f : ℕ) → Every (λ p. is_place p ≡ true) (frame_places m f)
  unfolding frame_places
  frame-eights f = every-record (places m) (λ p. is_place p ≡ true) place-eight (frame_address f) 8

  -- the numbers of the swap line
  swap-numbered : all (is_swap paper01) (node_at m).paging.swap ≡ all (swap_page m) (up_from 0 (word m swap_count_at))
  unfolding node_at paging_from is_swap swap_page
  swap-numbered = all_words (is_swap paper01) m swap_at 0 (word m swap_count_at)

  -- the first numbers
  running-tested : leb (node_at m).running group_count ≡ leb (word m running_at) group_count
  unfolding node_at
  running-tested = refl

  timer-tested : ltb (node_at m).timer 256 ≡ ltb (word m timer_at) 256
  unfolding node_at
  timer-tested = refl

  -- as many messages as are counted
  queue-length : length (node_at m).queue ≡ word m queued_at
  unfolding node_at
  queue-length = length-records (messages m) queue_at (word m queued_at)

  -- eight groups
  groups-length : length (node_at m).groups ≡ 8
  unfolding node_at
  groups-length = length-records (groups m) groups_at group_count

  -- the groups
  groups-tested : all (is_group paper01) (node_at m).groups ≡ all (λ g. is_group paper01 (group_at m (group_address g))) (up_from 1 group_count)
  unfolding node_at groups_from group_address
  groups-tested = refl

  -- one group
  group-tested : Counted m → (g : ℕ) → 1 ≤ g → g ≤ group_count
      → (is_group paper01 (group_at m (group_address g)) ≡ true) ↔ ((buffer_good m g ≡ true) × ((flags_atomic m g ≡ true) × (places_good m g ≡ true)))
  unfolding is_group is_buffer unused group_at buffer_at list_at buffer_good flags_atomic places_good waiting_good used_up_wiped behind_wiped
  group-tested c g low high =
      let a = group_address g in
      let list = length-words_at m (a + list_offset) (word m (a + held_offset)) in
      let whole = eq-eqb (length (buffer_at m a).places) (word m (a + held_offset) * 8) (omega (arith, places-all m a)) in
      let frames = every_of (λ f. Every (λ p. is_place p ≡ true) (frame_places m f)) (list_at m a) (λ f h. frame-eights f) in
      let eights = (each is_place (buffer_at m a).places).1 ((every-concat (λ p. is_place p ≡ true) (frame_places m) (list_at m a)).1 frames) in
      let words = length-words_at m (a + descriptor_offset) (word m (a + described_offset)) in
      let few = le-leb (word m (a + described_offset)) 8 (c.described g low high) in
      simp (and-eq-true_iff, all_append, list, words) (
        λ h. ((h.0.0, (h.0.1.0, h.0.1.1.0)), (h.1.1, h.0.1.1.1.1.1)),
        λ h. ((h.0.0, (h.0.1.0, (h.0.1.1, (whole, (eights, h.1.1))))), (few, h.1.0)),
      )

  -- all of them
  groups-tell : Counted m
      → (all (is_group paper01) (node_at m).groups ≡ true)
      ↔ ((all (buffer_good m) (up_from 1 group_count) ≡ true)
      × ((all (flags_atomic m) (up_from 1 group_count) ≡ true) × (all (places_good m) (up_from 1 group_count) ≡ true)))
  groups-tell c =
      let all8 = range-tells (λ g. is_group paper01 (group_at m (group_address g))) 1 group_count in
      let buffers = range-tells (buffer_good m) 1 group_count in
      let flags = range-tells (flags_atomic m) 1 group_count in
      let contents = range-tells (places_good m) 1 group_count in
      rw groups-tested (
        λ h.
            let one : ((g : ℕ) → 1 ≤ g → g < 9 → (buffer_good m g ≡ true) × ((flags_atomic m g ≡ true) × (places_good m g ≡ true))) =
            λ g low high. (group-tested c g low (omega arith)).0 (all8.0 h g low high) in (
              buffers.1 (λ g low high. (one g low high).0),
              (flags.1 (λ g low high. (one g low high).1.0), contents.1 (λ g low high. (one g low high).1.1)),
            ),
        λ h.
            let one : ((g : ℕ) → 1 ≤ g → g < 9 → (buffer_good m g ≡ true) × ((flags_atomic m g ≡ true) × (places_good m g ≡ true))) =
            λ g low high. (buffers.0 h.0 g low high, (flags.0 h.1.0 g low high, contents.0 h.1.1 g low high)) in
            all8.1 (λ g low high. (group-tested c g low (omega arith)).1 (one g low high)),
      )

  -- The flags: those of the words, and those of the groups.
  pub flags-tell : (all (flags_good m) (up_from 1 group_count) ≡ true)
      ↔ ((flags_are_flags m ≡ true) × (all (flags_atomic m) (up_from 1 group_count) ≡ true))
  unfolding flags_good flags_are_flags
  flags-tell =
      let both = range-tells (flags_good m) 1 group_count in
      let words = range-tells (group_flags m) 1 group_count in
      let atomic = range-tells (flags_atomic m) 1 group_count in (
        λ h. (
          words.1 (λ g low high. ((and-eq-true_iff (group_flags m g) (flags_atomic m g)).0 (both.0 h g low high)).0),
          atomic.1 (λ g low high. ((and-eq-true_iff (group_flags m g) (flags_atomic m g)).0 (both.0 h g low high)).1),
        ),
        λ h. both.1 (λ g low high. (and-eq-true_iff _ _).1 (words.0 h.0 g low high, atomic.0 h.1 g low high)),
      )

  -- The three parts, clause by clause.

  pub numbers-tell : (numbers_good m ≡ true)
      ↔ ((leb (word m running_at) group_count ≡ true)
      × ((ltb (word m timer_at) 256 ≡ true)
      × ((all (message_good m) (up_from 0 (word m queued_at)) ≡ true) × (all (buffer_good m) (up_from 1 group_count) ≡ true))))
  unfolding numbers_good
  numbers-tell = and-tells (and-tells (and-tells Iff.rfl))

  pub frames-tell : (frames_good m ≡ true)
      ↔ ((eqb (length (frame_numbers (node_at m))) 96 ≡ true)
      × ((pages_once m ≡ true)
      × ((all (swap_page m) (up_from 0 (word m swap_count_at)) ≡ true)
      × ((eqb (length (frame_order (node_at m))) 32 ≡ true)
      × ((entered_once m ≡ true) × ((idle_are_wiped m ≡ true) × (all (places_good m) (up_from 1 group_count) ≡ true)))))))
  unfolding frames_good
  frames-tell = and-tells (and-tells (and-tells (and-tells (and-tells (and-tells Iff.rfl)))))

  lines-tell : (lines_good m ≡ true)
      ↔ ((leb (pledges paper01 (node_at m)) 96 ≡ true)
      × ((all (pending_has_line (node_at m)) (up_from 1 group_count) ≡ true)
      × ((runner_atomic (node_at m) ≡ true)
      × ((head_stays (node_at m).queue (node_at m) ≡ true) × (runner_in_frame paper01 (node_at m) ≡ true)))))
  unfolding lines_good
  lines-tell = and-tells (and-tells (and-tells (and-tells Iff.rfl)))

  -- the clauses of a node, and the one on the pages that no buffer holds, are those of its words
  pub node-tested : Counted m
      → (idle_are_wiped m && is_node paper01 (node_at m) ≡ true)
      ↔ ((all (flags_atomic m) (up_from 1 group_count) ≡ true) × ((numbers_good m ≡ true) × ((frames_good m ≡ true) × (lines_good m ≡ true))))
  unfolding is_node node_tests pages_once entered_once
  node-tested c = (
    λ h.
        let both = (and-eq-true_iff (idle_are_wiped m) _).0 h in
        let t = (passes-every (node_tests paper01) (node_at m)).0 both.1 in
        let Gs = (groups-tell c).0 t.1.1.1.1.1.0 in
        let fs = t.1.1.1.1.1.1 in
        let ls = fs.1.1.1.1.1 in (
          Gs.1.0,
          (
            numbers-tell.1 (sym running-tested ∙ t.0, (sym timer-tested ∙ t.1.0, (sym queue-tested ∙ t.1.1.1.0, Gs.0))),
            (
              frames-tell.1 (
                fs.1.0,
                (fs.0, (sym swap-numbered ∙ fs.1.1.0, (fs.1.1.1.1.0, (fs.1.1.1.0, (both.0, Gs.1.1))))),
              ),
              lines-tell.1 (ls.0, (ls.1.0, (ls.1.1.0, (ls.1.1.1.0, ls.1.1.1.1.0)))),
            ),
          ),
        ),
    λ h.
        let ns = numbers-tell.0 h.1.0 in
        let fs = frames-tell.0 h.1.1.0 in
        let ls = lines-tell.0 h.1.1.1 in
        let places = le-leb (length (node_at m).queue) 16 (omega (arith, c.queued, queue-length)) in
        let eight = eq-eqb (length (node_at m).groups) 8 groups-length in
        let Gs = (groups-tell c).1 (ns.1.1.1, (h.0, fs.1.1.1.1.1.1)) in
        let node = (passes-every (node_tests paper01) (node_at m)).1 (
          running-tested ∙ ns.0,
          (
            timer-tested ∙ ns.1.0,
            (
              places,
              (
                queue-tested ∙ ns.1.1.0,
                (
                  eight,
                  (
                    Gs,
                    (
                      fs.1.0,
                      (
                        fs.0,
                        (
                          swap-numbered ∙ fs.1.1.0,
                          (
                            fs.1.1.1.1.0,
                            (fs.1.1.1.0, (ls.0, (ls.1.0, (ls.1.1.0, (ls.1.1.1.0, (ls.1.1.1.1, tt)))))),
                          ),
                        ),
                      ),
                    ),
                  ),
                ),
              ),
            ),
          ),
        ) in
        (and-eq-true_iff (idle_are_wiped m) _).1 (fs.1.1.1.1.1.0, node),
  )

  -- Part by part.

  module _ (c : Counted m) where
    -- a number that fails
    pub numbers-fail : numbers_good m ≡ false → idle_are_wiped m && is_node paper01 (node_at m) ≡ false
    numbers-fail e = fails _ (λ h. true≢false (sym ((node-tested c).0 h).1.0 ∙ e))

    -- a frame that does
    pub frames-fail : frames_good m ≡ false → idle_are_wiped m && is_node paper01 (node_at m) ≡ false
    frames-fail e = fails _ (λ h. true≢false (sym ((node-tested c).0 h).1.1.0 ∙ e))

    -- else the lines decide
    pub lines-decide : (t : Bool) → all (flags_atomic m) (up_from 1 group_count) ≡ true → numbers_good m ≡ true → frames_good m ≡ true
        → lines_good m ≡ t → idle_are_wiped m && is_node paper01 (node_at m) ≡ t
    lines-decide t a n f l =
        same_test _ t (λ h. sym l ∙ ((node-tested c).0 h).1.1.1, λ h. (node-tested c).1 (a, (n, (f, l ∙ h))))

-- the memory test, clause by clause
pub memory-tested : (m : List ℕ)
    → is_memory m
    ≡ (leb size (length m) && (counts_in_bounds m && (flags_are_flags m && (unused_are_zero m && (idle_are_wiped m && is_node paper01 (node_at m))))))
unfolding is_memory memory_tests
memory-tested m =
    let both : (leb size (length m) && (counts_in_bounds m && (flags_are_flags m && (unused_are_zero m && (idle_are_wiped m && is_node paper01 (node_at m))))) ≡ true)
    ↔ ((leb size (length m) ≡ true)
    × ((counts_in_bounds m ≡ true)
    × ((flags_are_flags m ≡ true)
    × ((unused_are_zero m ≡ true) × ((idle_are_wiped m ≡ true) × (is_node paper01 (node_at m) ≡ true)))))) =
    and-tells (and-tells (and-tells (and-tells (and-tells Iff.rfl)))) in
    same_test (is_memory m) _ (
      λ h.
          let t = (passes-every memory_tests m).0 h in
          both.1 (t.0, (t.1.0, (t.1.1.0, (t.1.1.1.0, (t.1.1.1.1.0, t.1.1.1.1.1.0))))),
      λ h.
          let t = both.0 h in
          (passes-every memory_tests m).1 (t.0, (t.1.0, (t.1.1.0, (t.1.1.1.0, (t.1.1.1.1.0, (t.1.1.1.1.1, tt)))))),
    )
