-- Order 4, "Reading a word copies no message": what E reports, told by the part of the memory that the head call shows. E is defined by the running
-- group's line (Refusal, Step) and the part by addresses (MemoryTest); "It is proved that an accepted E's value is word i of the part that 01's
-- library call shows." Assumes nothing.
use Rattle.std.specs.Prelude.{ℕ, ◌+◌, ◌*◌, ◌≤◌, ◌<◌, ◌≡◌, ◌↔◌, true, List, length, get_or}
use Rattle.rules.specs.Build.{paper01}
use Rattle.rules.specs.Operation.{peek, user, Report}
use Rattle.rules.specs.Memory.{running_at, queue_at, place_stride, word, frame_address}
use Rattle.rules.specs.MemoryTest.{is_memory, step_memory, Part, head_part, head_words}

-- "from queue place or frame place": the part begins behind the group and the length that are kept at the queue's first place, or behind the
-- length that is kept at a place of a frame. A swap page is not among them.
pub data InPlace (p : Part) : Type 0 where
  in-queue : p.start ≡ queue_at + 2 → InPlace p
  in-frame : (f place : ℕ) → f < paper01.frames → place < paper01.per_frame → p.start ≡ frame_address f + place_stride * place + 1 → InPlace p

-- what E with i answers on memory m, and with which value, where the head call on the same memory shows part p, and hands back the words ws
pub record Reads (m : List ℕ) (i answer value : ℕ) (p : Part) (ws : List ℕ) : Type 0 where
  -- E is accepted exactly where i is below the part's length
  pub accepted : (answer ≡ 0) ↔ (i < p.len)
  -- "an accepted E's value is word i of the part": by its address, and by the words handed back, whatever stands for one that is not there
  pub by_address : answer ≡ 0 → value ≡ word m (p.start + i)
  pub by_word : answer ≡ 0 → (d : ℕ) → value ≡ get_or ws i d
  -- "where it stands"
  pub in_place : answer ≡ 0 → InPlace p
  pub inside : p.start + p.len ≤ length m
  -- "9: E with i not below the message's length.": exactly an i not below the length of a part that is not empty
  pub past-message : (answer ≡ 9) ↔ ((1 ≤ p.len) × (p.len ≤ i))
  -- "8: D or E with an empty line.": exactly an empty part while a group of a node runs
  pub no-message : (answer ≡ 8) ↔ ((is_memory m ≡ true) × ((1 ≤ word m running_at) × (p.len ≡ 0)))

-- what E with i reports on memory m
abbrev pub peeked : List ℕ → ℕ → Report
peeked m i = (step_memory m (user (peek i))).report

-- the same of the rules' own step and head call
abbrev pub AnyPeek : List ℕ → ℕ → Type 0
AnyPeek m i = Reads m i (peeked m i).answer (peeked m i).value (head_part m) (head_words m)

-- on any memory, with any i
pub record Reading : Type 0 where
  pub any-peek : (m : List ℕ) (i : ℕ) → AnyPeek m i
