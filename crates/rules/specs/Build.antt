-- A build of the node: the sizes that the rules are stated over, and those of paper 01 with order 1's swap pages as one value. Assumes nothing.
use Rattle.std.specs.Prelude.{ℕ, ◌+◌, ◌≤◌}

-- the sizes of one build
pub record Build : Type 0 where
  -- page frames
  pub frames : ℕ
  -- swap pages
  pub swap : ℕ
  -- messages that a frame holds
  pub per_frame : ℕ
  -- messages that the hardware queue holds
  pub places : ℕ
  -- ticks to a timeout
  pub timeout : ℕ

-- "The hardware queue holds at most 16 messages"; "There are 32 page frames. A frame holds 8 messages."; "At 256: timeout"; "there are now 64
-- swap pages"
abbrev pub paper01 : Build
paper01 = record { frames = 32; swap = 64; per_frame = 8; places = 16; timeout = 256 }

-- frames and swap pages together: "Answer 6 and the memory test now read 96 for 32"
abbrev pub page_count : Build → ℕ
page_count b = b.frames + b.swap

-- "Groups are 1 to 8."
abbrev pub group_count : ℕ
group_count = 8

-- "A message has a group and 1 to 8 words of 32 bits."; "a descriptor of 0 to 8 words"
abbrev pub word_limit : ℕ
word_limit = 8

-- "node 0 to 63"
abbrev pub last_node : ℕ
last_node = 63

-- "n single ticks, 1 to 65,535"
abbrev pub tick_limit : ℕ
tick_limit = 65535

-- a build that makes sense: at least one of each of its parts but swap pages, and two frames. With one frame the running group's first page,
-- which is never sent out, could stand in it, and no other page could be written; with two there is always a page to send out. Without swap
-- pages none ever is.
pub record Sensible (b : Build) : Type 0 where
  pub frames : 2 ≤ b.frames
  pub per_frame : 1 ≤ b.per_frame
  pub places : 1 ≤ b.places
  pub timeout : 1 ≤ b.timeout
