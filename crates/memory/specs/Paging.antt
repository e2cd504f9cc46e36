-- What paging does to memory, word by word: numbers traded in the lists of pages, a page copied, two pages exchanged; and the nodes that
-- pages are sent out of and brought into. Assumes nothing.
use Rattle.std.specs.Prelude.{ℕ, ◌+◌, ◌≤◌, ◌<◌, ◌≡◌, List, [], map, length, replicate}
use Rattle.rules.specs.Build.{paper01, page_count, group_count}
use Rattle.rules.specs.Memory.{size, frame_stride, held_offset, list_offset, word, words_at, list_at, group_address, frame_address}
use Rattle.rules.specs.Node.{Node, in_queue}
use Rattle.rules.specs.Paging.{traded, victim, send_out, bring_in}
use Rattle.rules.specs.Sound.{Sound, Listed}
use Rattle.memory.specs.Writes.{Wrote, Swapped}
use Rattle.memory.specs.Holds.{Holds}

-- the memory is long enough, and no group's list is longer than the pages are many
pub record Listing (m : List ℕ) : Type 0 where
  pub long : size ≤ length m
  pub short : (g : ℕ) → 1 ≤ g → g ≤ group_count → word m (group_address g + held_offset) ≤ page_count paper01

-- m' is m with p and q traded in the list of group g
abbrev pub ListTraded : List ℕ → List ℕ → ℕ → ℕ → ℕ → Type 0
ListTraded m m' p q g = Wrote m m' (group_address g + list_offset) (map (traded p q) (list_at m (group_address g)))

-- address b is one of the list of group g
pub record InList (m : List ℕ) (g b : ℕ) : Type 0 where
  pub low : group_address g + list_offset ≤ b
  pub high : b < group_address g + list_offset + word m (group_address g + held_offset)

-- m' is m with p and q traded in the lists of the first k groups, and every other word as it was
pub record Traded (m m' : List ℕ) (p q k : ℕ) : Type 0 where
  pub same_length : length m' ≡ length m
  pub lists : (g : ℕ) → 1 ≤ g → g ≤ k → words_at m' (group_address g + list_offset) (word m (group_address g + held_offset)) ≡ map (traded p q) (list_at m (group_address g))
  pub else : (b : ℕ) → ((g : ℕ) → 1 ≤ g → g ≤ k → InList m g b → ⊥) → word m' b ≡ word m b

-- the page in p is copied to q, what it leaves is wiped, and the lists name q for p
pub record PageMoved (m m' : List ℕ) (p q : ℕ) : Type 0 where
  -- the memory in which the page stands twice
  pub twice : List ℕ
  pub copied : Wrote m twice (frame_address q) (words_at m (frame_address p) frame_stride)
  -- and that in which it stands once again
  pub once : List ℕ
  pub wiped : Wrote twice once (frame_address p) (replicate frame_stride 0)
  pub lists : Traded once m' p q group_count

-- the pages in p and q are exchanged, and so are their numbers in the lists
pub record PagesSwapped (m m' : List ℕ) (p q : ℕ) : Type 0 where
  pub between : List ℕ
  pub swapped : Swapped m between (frame_address p) (frame_address q) frame_stride
  pub lists : Traded between m' p q group_count

-- a sound node without a free frame
pub record Crowded (n : Node) : Type 0 where
  pub sound : Sound paper01 n
  pub full : n.free ≡ []

-- f is the victim of the node that m holds
abbrev pub Chosen : List ℕ → ℕ → Type 0
Chosen m f = (n : Node) (r : List ℕ) → Holds m n r → Crowded n → f ≡ victim n

-- such a node with a free swap page
pub record Sending (n : Node) : Type 0 where
  pub crowded : Crowded n
  pub some : 1 ≤ length n.paging.swap

-- a sound node in which page p is a group's
pub record Owned (p : ℕ) (n : Node) : Type 0 where
  pub sound : Sound paper01 n
  pub listed : Listed p n

-- and in swap
pub record Away (p : ℕ) (n : Node) : Type 0 where
  pub owned : Owned p n
  pub high : paper01.frames ≤ p

-- with a frame free
pub record Fetching (p : ℕ) (n : Node) : Type 0 where
  pub away : Away p n
  pub some : 1 ≤ length n.free

-- or none
pub record Exchanging (p : ℕ) (n : Node) : Type 0 where
  pub away : Away p n
  pub full : n.free ≡ []

-- a sound node with a message for group g in the queue
pub record Wanting (g : ℕ) (n : Node) : Type 0 where
  pub sound : Sound paper01 n
  pub queued : 1 ≤ length (in_queue n g)

-- the victim is sent out
abbrev pub sending : Node → Node
sending n = send_out (victim n) n.paging.swap n

-- page p is brought in
abbrev pub bringing : ℕ → Node → Node
bringing p n = bring_in p n.free n
