-- What holds of a node also in the middle of a step: the clauses of Valid but those that settling and the upcall bring about; and the less that
-- the memory map asks for. Contracts of functions that do a part of a step speak of them. Assumes nothing.
use Rattle.std.specs.Prelude.{ℕ, ◌*◌, ◌≤◌, ◌<◌, ◌≡◌, length}
use Rattle.rules.specs.Lists.{Every, concat_map, count_of}
use Rattle.rules.specs.Build.{Build, Sensible, paper01, page_count, group_count, word_limit}
use Rattle.rules.specs.Node.{Group, Node}
use Rattle.rules.specs.Frames.{pledges}
use Rattle.rules.specs.Valid.{GoodMessage, GoodPlace, GoodGroup, IsSwap, frame_list, frame_numbers, frame_order}

-- the bounds, the parts and the frames of a node
pub record Sound (b : Build) (n : Node) : Type 0 where
  pub sensible : Sensible b
  pub running-bound : n.running ≤ group_count
  pub timer-bound : n.timer < b.timeout
  pub queue-length : length n.queue ≤ b.places
  pub queue-good : Every GoodMessage n.queue
  pub group-count : length n.groups ≡ group_count
  pub groups-good : Every (GoodGroup b) n.groups
  pub frames-once : (f : ℕ) → f < page_count b → count_of f (frame_numbers n) ≡ 1
  pub frames-all : length (frame_numbers n) ≡ page_count b
  pub swap-numbers : Every (IsSwap b) n.paging.swap
  pub entered-once : (f : ℕ) → f < b.frames → count_of f (frame_order n) ≡ 1
  pub entered_all : length (frame_order n) ≡ b.frames
  pub pledged : pledges b n ≤ page_count b

-- page p is one of a group's
abbrev pub Listed : ℕ → Node → Type 0
Listed p n = 1 ≤ count_of p (concat_map frame_list n.groups)

-- What the memory map asks of a node: less than Sound, so that it also holds where a buffer has a frame more than its messages need, and
-- where a message stands in a buffer and still in the queue.

-- a group whose descriptor fits its record, and which has eight places for each page
pub record WholeGroup (G : Group) : Type 0 where
  pub descriptor : length G.descriptor ≤ word_limit
  pub whole : length G.buffer.places ≡ length G.buffer.frames * paper01.per_frame
  pub places : Every GoodPlace G.buffer.places

-- a node that the map reads back
pub record Mapped (n : Node) : Type 0 where
  pub queue-length : length n.queue ≤ paper01.places
  pub queue-good : Every GoodMessage n.queue
  pub group-count : length n.groups ≡ group_count
  pub groups-whole : Every WholeGroup n.groups
  pub frames-once : (f : ℕ) → f < page_count paper01 → count_of f (frame_numbers n) ≡ 1
  pub frames-all : length (frame_numbers n) ≡ page_count paper01
  pub free-short : length n.free ≤ paper01.frames
  pub swap-short : length n.paging.swap ≤ paper01.swap
  pub entered-short : length n.paging.entered ≤ paper01.frames
