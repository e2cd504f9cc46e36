-- "Memory is a node when": the sentence's clauses that speak of a node, first as named invariants, then as tests that compute. A clause
-- that speaks of words alone is in MemoryTest. Assumes nothing.
use Rattle.std.specs.Prelude.{ℕ, ◌+◌, ◌*◌, ◌≤◌, ◌<◌, ◌≡◌, Bool, true, false, not, ◌&&◌, ◌||◌, List, [], ◌∷◌, ◌++◌, eqb, leb, ltb, length, drop}
use Rattle.rules.specs.Lists.{Every, all, passes, is_empty, concat_map, count_of, up_from}
use Rattle.rules.specs.Build.{Build, Sensible, page_count, group_count, word_limit}
use Rattle.rules.specs.Node.{Message, Place, Buffer, Group, Node, group_of, forced, waiting, unused, line}
use Rattle.rules.specs.Frames.{ceil_div, pledges}
use Rattle.rules.specs.Paging.{in_frame}
use Rattle.rules.specs.Settling.{may_stay}

-- a group's list of pages, by their numbers
unfoldable pub frame_list : Group → List ℕ
frame_list G = G.buffer.frames

-- the frames and swap pages that no buffer holds: the free line, then the swap line
unfoldable pub idle : Node → List ℕ
idle n = n.free ++ n.paging.swap

-- the numbers of all frames and swap pages: those of the two lines, then each group's list
unfoldable pub frame_numbers : Node → List ℕ
frame_numbers n = idle n ++ concat_map frame_list n.groups

-- the numbers of the frames, the free ones and then those in use in the order of entry
unfoldable pub frame_order : Node → List ℕ
frame_order n = n.free ++ n.paging.entered

-- a queued message: "A message has a group and 1 to 8 words", "Groups are 1 to 8."
pub record GoodMessage (m : Message) : Type 0 where
  pub group-low : 1 ≤ m.group
  pub group-high : m.group ≤ group_count
  pub some_words : 1 ≤ length m.words
  pub few_words : length m.words ≤ word_limit

-- a place has eight words
pub record GoodPlace (p : Place) : Type 0 where
  pub eight : length p.words ≡ word_limit

-- a word is 0
abbrev pub Zero : ℕ → Type 0
Zero w = w ≡ 0

-- the place of a waiting message: its length is 1 to 8; "a waiting message's words past its length are 0"
pub record GoodWaiting (p : Place) : Type 0 where
  pub some_words : 1 ≤ p.len
  pub few_words : p.len ≤ word_limit
  pub rest-zero : Every Zero (drop p.len p.words)

-- a place where none waits is 0: "Memory is no node (1) if a frame or swap page has a word or kept length other than 0 that is no part of a
-- waiting message."
pub record Wiped (p : Place) : Type 0 where
  pub len-zero : p.len ≡ 0
  pub words-zero : Every Zero p.words

-- a buffer: "h the used-up places before the first (0 to 7; 0 if n is 0)"; "It holds (h + n) / 8 frames, rounded up."
pub record GoodBuffer (b : Build) (v : Buffer) : Type 0 where
  pub used-bound : v.used < b.per_frame
  pub used-empty : v.count ≡ 0 → v.used ≡ 0
  pub list_length : length v.frames ≡ ceil_div (v.used + v.count) b.per_frame
  pub whole : length v.places ≡ length v.frames * b.per_frame
  pub places : Every GoodPlace v.places
  pub waiting-good : Every GoodWaiting (waiting v)
  pub unused-wiped : Every Wiped (unused v)

-- a group: its buffer, "a descriptor of 0 to 8 words", "pending only with atomic", and "force and revoked stand only with atomic"
pub record GoodGroup (b : Build) (G : Group) : Type 0 where
  pub buffer : GoodBuffer b G.buffer
  pub descriptor : length G.descriptor ≤ word_limit
  pub pending-atomic : G.pending ≡ true → G.atomic ≡ true
  pub force-atomic : G.force ≡ true → G.atomic ≡ true
  pub revoked-atomic : G.revoked ≡ true → G.atomic ≡ true

-- a swap page is numbered behind the frames
abbrev pub IsSwap : Build → ℕ → Type 0
IsSwap b s = b.frames ≤ s

-- the first page of a list is in a frame
abbrev pub FirstInFrame : Build → List ℕ → Type 0
FirstInFrame b [] = Unit {0}
FirstInFrame b (p ∷ ps) = p < b.frames

-- a node of a build that makes sense
pub record Valid (b : Build) (n : Node) : Type 0 where
  pub sensible : Sensible b
  -- "running is 0 to 8"
  pub running-bound : n.running ≤ group_count
  -- "counts, groups, waiting messages' lengths, h and timer are within the bounds above"
  pub timer-bound : n.timer < b.timeout
  pub queue-length : length n.queue ≤ b.places
  pub queue-good : Every GoodMessage n.queue
  pub group-count : length n.groups ≡ group_count
  pub groups-good : Every (GoodGroup b) n.groups
  -- "each frame stands once, in the free line or in one list"; "swap pages and their line meet what 01 asks of frames and the free line"
  pub frames-once : (f : ℕ) → f < page_count b → count_of f (frame_numbers n) ≡ 1
  pub frames-all : length (frame_numbers n) ≡ page_count b
  pub swap-numbers : Every (IsSwap b) n.paging.swap
  -- "this order holds each frame in use once": each frame stands once, in the free line or in the order of entry
  pub entered-once : (f : ℕ) → f < b.frames → count_of f (frame_order n) ≡ 1
  pub entered_all : length (frame_order n) ≡ b.frames
  -- "pledges sum to at most 32", which now reads 96
  pub pledged : pledges b n ≤ page_count b
  -- "pending only with atomic and a line not empty" (with atomic: GoodGroup)
  pub pending-line : (g : ℕ) → 1 ≤ g → g ≤ group_count → (group_of n g).pending ≡ true → is_empty (line n g) ≡ false
  -- "a running group with a line not empty is atomic"
  pub running-atomic : 1 ≤ n.running → is_empty (line n n.running) ≡ false → (group_of n n.running).atomic ≡ true
  -- "if the hardware queue isn't empty its head is the running group's, and that group is direct"
  pub head-stays : (m : Message) (q : List Message) → n.queue ≡ m ∷ q → may_stay n m ≡ true
  -- "an empty queue has a timer above 0 only where the running group has force on"
  pub timer-idle : n.queue ≡ [] → forced n ≡ false → n.timer ≡ 0
  -- "a running group's first page is in a frame"
  pub runner-resident : 1 ≤ n.running → FirstInFrame b (group_of n n.running).buffer.frames

-- The same as tests.

-- GoodMessage
unfoldable pub is_message : Message → Bool
is_message m = leb 1 m.group && (leb m.group group_count && (leb 1 (length m.words) && leb (length m.words) word_limit))

-- GoodPlace
unfoldable pub is_place : Place → Bool
is_place p = eqb (length p.words) word_limit

-- GoodWaiting
unfoldable pub is_waiting : Place → Bool
is_waiting p = leb 1 p.len && (leb p.len word_limit && all (eqb 0) (drop p.len p.words))

-- Wiped
unfoldable pub is_wiped : Place → Bool
is_wiped p = eqb p.len 0 && all (eqb 0) p.words

-- GoodBuffer
unfoldable pub is_buffer : Build → Buffer → Bool
is_buffer b v =
    ltb v.used b.per_frame
    && ((not (eqb v.count 0) || eqb v.used 0)
    && (eqb (length v.frames) (ceil_div (v.used + v.count) b.per_frame)
    && (eqb (length v.places) (length v.frames * b.per_frame)
    && (all is_place v.places && (all is_waiting (waiting v) && all is_wiped (unused v))))))

-- "pending only with atomic"; "force and revoked stand only with atomic"
unfoldable pub only_atomic : Group → Bool
only_atomic G = G.atomic || not (G.pending || (G.force || G.revoked))

-- GoodGroup
unfoldable pub is_group : Build → Group → Bool
is_group b G = is_buffer b G.buffer && (leb (length G.descriptor) word_limit && only_atomic G)

-- "pending only with .. a line not empty"
unfoldable pub pending_has_line : Node → ℕ → Bool
pending_has_line n g = not (group_of n g).pending || not (is_empty (line n g))

-- "a running group with a line not empty is atomic"
unfoldable pub runner_atomic : Node → Bool
runner_atomic n = eqb n.running 0 || (is_empty (line n n.running) || (group_of n n.running).atomic)

-- "its head is the running group's, and that group is direct"; "an empty queue has a timer above 0 only where the running group has force on"
unfoldable pub head_stays : List Message → Node → Bool
head_stays [] n = eqb n.timer 0 || forced n
head_stays (m ∷ q) n = may_stay n m

-- IsSwap
unfoldable pub is_swap : Build → ℕ → Bool
is_swap b s = leb b.frames s

-- FirstInFrame
unfoldable pub first_in_frame : Build → List ℕ → Bool
first_in_frame b [] = true
first_in_frame b (p ∷ ps) = in_frame b p

-- "a running group's first page is in a frame"
unfoldable pub runner_in_frame : Build → Node → Bool
runner_in_frame b n = eqb n.running 0 || first_in_frame b (group_of n n.running).buffer.frames

-- "each frame stands once"
unfoldable pub stands_once : List ℕ → ℕ → Bool
stands_once fs f = eqb (count_of f fs) 1

-- the clauses, in the order of the record
unfoldable pub node_tests : Build → List (Node → Bool)
node_tests b =
    (λ n. leb n.running group_count)
    ∷ (λ n. ltb n.timer b.timeout)
    ∷ (λ n. leb (length n.queue) b.places)
    ∷ (λ n. all is_message n.queue)
    ∷ (λ n. eqb (length n.groups) group_count)
    ∷ (λ n. all (is_group b) n.groups)
    ∷ (λ n. all (stands_once (frame_numbers n)) (up_from 0 (page_count b)))
    ∷ (λ n. eqb (length (frame_numbers n)) (page_count b))
    ∷ (λ n. all (is_swap b) n.paging.swap)
    ∷ (λ n. all (stands_once (frame_order n)) (up_from 0 b.frames))
    ∷ (λ n. eqb (length (frame_order n)) b.frames)
    ∷ (λ n. leb (pledges b n) (page_count b))
    ∷ (λ n. all (pending_has_line n) (up_from 1 group_count))
    ∷ runner_atomic
    ∷ (λ n. head_stays n.queue n)
    ∷ runner_in_frame b
    ∷ []

-- a node passes them all
unfoldable pub is_node : Build → Node → Bool
is_node b n = passes (node_tests b) n
