-- Order 3's promise to readers, who "compare memory dumps and stumble over old words in free frames": a frame or swap page has no old words, so
-- a dump has nothing in it that the node does not tell. Two nodes with the same lines, lists, orders, flags and counts have the same dump.
-- Assumes nothing.
use Rattle.std.specs.Prelude.{ℕ, ◌+◌, ◌*◌, ◌≤◌, ◌<◌, ◌≡◌, true, List, length, take, get_or}
use Rattle.rules.specs.Build.{Build, paper01, page_count, group_count}
use Rattle.rules.specs.Node.{Buffer, Node, group_of, line}
use Rattle.rules.specs.Operation.{Operation}
use Rattle.rules.specs.Valid.{Valid}
use Rattle.rules.specs.Memory.{place_stride, size, word, frame_address, node_at}
use Rattle.rules.specs.MemoryTest.{is_memory, step_memory, power_on_memory}

-- No old words.

-- a message of this buffer waits at place i of the frame or swap page with number p: the list names p, and counted over its pages the place is
-- one of the n behind the h used-up ones
pub record WaitsIn (v : Buffer) (p i : ℕ) : Type 0 where
  pub index : ℕ
  pub listed : index < length v.frames
  pub number : get_or v.frames index 0 ≡ p
  pub behind-used : v.used ≤ paper01.per_frame * index + i
  pub before-end : paper01.per_frame * index + i < v.used + v.count

-- a message of some group waits there
pub record WaitsAt (n : Node) (p i : ℕ) : Type 0 where
  pub group : ℕ
  pub group-low : 1 ≤ group
  pub group-high : group ≤ group_count
  pub waits : WaitsIn (group_of n group).buffer p i

-- word k of that place is "part of a waiting message": the kept length is word 0, and as many words follow as it says
pub record PartOf (m : List ℕ) (p i k : ℕ) : Type 0 where
  pub waits : WaitsAt (node_at m) p i
  pub within : k ≤ word m (frame_address p + place_stride * i)

-- no frame or swap page has "a word or kept length other than 0 that is no part of a waiting message"
pub record Clean (m : List ℕ) : Type 0 where
  pub others-zero : (p i k : ℕ)
      → p < page_count paper01
      → i < paper01.per_frame
      → k < place_stride
      → ¬ PartOf m p i k
      → word m (frame_address p + place_stride * i + k) ≡ 0

-- Dumps compared.

-- a dump: the words of the node, without what stands behind them
abbrev pub dump : List ℕ → List ℕ
dump m = take size m

-- two nodes agree in group g: its flags, its counts h and n, its list of pages, its descriptor, its line
pub record AgreeIn (n k : Node) (g : ℕ) : Type 0 where
  pub atomic : (group_of n g).atomic ≡ (group_of k g).atomic
  pub pending : (group_of n g).pending ≡ (group_of k g).pending
  pub force : (group_of n g).force ≡ (group_of k g).force
  pub revoked : (group_of n g).revoked ≡ (group_of k g).revoked
  pub used : (group_of n g).buffer.used ≡ (group_of k g).buffer.used
  pub count : (group_of n g).buffer.count ≡ (group_of k g).buffer.count
  pub pages : (group_of n g).buffer.frames ≡ (group_of k g).buffer.frames
  pub descriptor : (group_of n g).descriptor ≡ (group_of k g).descriptor
  pub messages : line n g ≡ line k g

-- they agree in all that a reader can tell of a node
pub record Agree (n k : Node) : Type 0 where
  pub running : n.running ≡ k.running
  pub timer : n.timer ≡ k.timer
  pub queue : n.queue ≡ k.queue
  pub free : n.free ≡ k.free
  pub swap : n.paging.swap ≡ k.paging.swap
  pub entered : n.paging.entered ≡ k.paging.entered
  pub out : n.paging.out ≡ k.paging.out
  pub brought : n.paging.brought ≡ k.paging.brought
  pub groups : (g : ℕ) → 1 ≤ g → g ≤ group_count → AgreeIn n k g

-- The promise.

pub record Dumps : Type 0 where
  -- a node's memory has no old words
  pub clean : (m : List ℕ) → is_memory m ≡ true → Clean m
  -- nor has it after any step, accepted or refused
  pub step-clean : (m : List ℕ) (op : Operation) → is_memory m ≡ true → Clean (step_memory m op).memory
  -- nor after power-on, whatever stood there
  pub power-on-clean : (m : List ℕ) → size ≤ length m → Clean (power_on_memory m).memory
  -- nodes that agree are the same node, in every build
  pub same-node : (b : Build) (n k : Node) → Valid b n → Valid b k → Agree n k → n ≡ k
  -- so their dumps are equal
  pub same-dump : (m m' : List ℕ) → is_memory m ≡ true → is_memory m' ≡ true → Agree (node_at m) (node_at m') → dump m ≡ dump m'
  -- and memory with the dump of a node is a node, the same one
  pub node-by-dump : (m m' : List ℕ) → is_memory m ≡ true → dump m ≡ dump m' → is_memory m' ≡ true
  pub same-by-dump : (m m' : List ℕ) → is_memory m ≡ true → dump m ≡ dump m' → node_at m ≡ node_at m'
