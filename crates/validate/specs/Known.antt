-- What the clauses tested so far establish of a memory, for those behind them: functions of the memory test require it, so that no address is
-- followed out of the memory. Assumes nothing.
use Rattle.std.specs.Prelude.{ℕ, ◌+◌, ◌*◌, ◌≤◌, ◌<◌, ◌≡◌, true, List, length, get_or}
use Rattle.rules.specs.Lists.{filter}
use Rattle.rules.specs.Build.{paper01, page_count, group_count, word_limit}
use Rattle.rules.specs.Node.{is_of}
use Rattle.rules.specs.Frames.{ceil_div}
use Rattle.rules.specs.Memory.{running_at, queued_at, free_count_at, queue_at, queue_stride, list_offset, atomic_offset, force_offset, used_offset, count_offset, held_offset, described_offset, swap_count_at, entered_count_at, size, word, messages_at, flag_at, group_address}
use Rattle.validate.specs.Clauses.{list_start, list_count}

-- what the size and the first clause establish, so that every count can be followed within the memory
pub record Counted (m : List ℕ) : Type 0 where
  pub long : size ≤ length m
  pub queued : word m queued_at ≤ paper01.places
  pub free : word m free_count_at ≤ paper01.frames
  pub swap : word m swap_count_at ≤ paper01.swap
  pub entered : word m entered_count_at ≤ paper01.frames
  pub held : (g : ℕ) → 1 ≤ g → g ≤ group_count → word m (group_address g + held_offset) ≤ page_count paper01
  pub described : (g : ℕ) → 1 ≤ g → g ≤ group_count → word m (group_address g + described_offset) ≤ word_limit
  pub lengths : (i : ℕ) → i < word m queued_at → word m (queue_at + queue_stride * i + 1) ≤ word_limit

-- what the counts and the clause on the pages establish of a list of page numbers: it stands within the memory, and names frames and swap pages
pub record Paged (m : List ℕ) (l : ℕ) : Type 0 where
  pub counted : Counted m
  pub high : l < 11
  pub numbers : (i : ℕ) → i < list_count m l → word m (list_start l + i) < page_count paper01

-- what the clauses on its numbers and on the frames establish of group g: its list has its length, and names frames and swap pages
pub record Framed (m : List ℕ) (g : ℕ) : Type 0 where
  pub long : size ≤ length m
  pub low : 1 ≤ g
  pub high : g ≤ group_count
  pub used : word m (group_address g + used_offset) < paper01.per_frame
  pub held : word m (group_address g + held_offset)
      ≡ ceil_div (word m (group_address g + used_offset) + word m (group_address g + count_offset)) paper01.per_frame
  pub few : word m (group_address g + held_offset) ≤ page_count paper01
  pub numbers : (i : ℕ) → i < word m (group_address g + held_offset) → word m (group_address g + list_offset + i) < page_count paper01

-- how many messages of group g are in the first i places of the queue
unfoldable pub queued_of : List ℕ → ℕ → ℕ → ℕ
queued_of m i g = length (filter (is_of g) (messages_at m queue_at i))

-- the counts are, by group, how many messages are in the first i places of the queue
pub record QueueCounts (m : List ℕ) (i : ℕ) (counts : List ℕ) : Type 0 where
  pub sized : length counts ≡ 9
  pub each : (g : ℕ) → g < 9 → get_or counts g 0 ≡ queued_of m i g

-- what the clauses on the flags, the queue, the buffers and the frames establish, so that lines can be told
pub record Lined (m : List ℕ) : Type 0 where
  pub counted : Counted m
  pub running : word m running_at ≤ group_count
  pub groups : (i : ℕ) → i < word m queued_at → (1 ≤ word m (queue_at + queue_stride * i)) × (word m (queue_at + queue_stride * i) ≤ group_count)
  pub framed : (g : ℕ) → 1 ≤ g → g ≤ group_count → Framed m g
  pub forced : (g : ℕ) → 1 ≤ g → g ≤ group_count → flag_at m (group_address g + force_offset) ≡ true → flag_at m (group_address g + atomic_offset) ≡ true
