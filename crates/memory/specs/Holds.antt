-- Memory that holds a node, and what a function over it makes of the node. Assumes nothing.
use Rattle.std.specs.Prelude.{ℕ, ◌+◌, ◌-◌, ◌≤◌, ◌<◌, Bool, List, ◌∷◌, ◌++◌, [], ◌≡◌, length, take, drop, get_or, set}
use Rattle.rules.specs.Build.{paper01}
use Rattle.rules.specs.Lists.{Every, count_of}
use Rattle.rules.specs.Frames.{take_frame, appended, without, free_first, remove_first, with_stock}
use Rattle.rules.specs.Memory.{words, place_words}
use Rattle.rules.specs.Node.{Message, Place, Buffer, Group, Node, empty_place, empty_page, unused, group_of, with_queue, with_free, with_paging, with_entered, with_buffer, place_of, with_flags, with_timer_flags, with_group}
use Rattle.rules.specs.Sound.{Mapped}
use Rattle.rules.specs.Valid.{Wiped}

-- the memory m is the map of the node n, with the rest behind it
pub record Holds (m : List ℕ) (n : Node) (rest : List ℕ) : Type 0 where
  pub mapped : Mapped n
  pub map : m ≡ words n ++ rest

-- m holds some node of which P holds
pub record Some (m : List ℕ) (P : Node → Type 0) : Type 0 where
  pub node : Node
  pub rest : List ℕ
  pub holds : Holds m node rest
  pub fact : P node

-- whatever node of which P holds m held, m' holds what f makes of it, with the same rest
abbrev pub Becomes : List ℕ → List ℕ → (Node → Type 0) → (Node → Node) → Type 0
Becomes m m' P f = (n : Node) (r : List ℕ) → Holds m n r → P n → Holds m' (f n) r

-- the order of entry has a place left
abbrev pub OrderRoom : Node → Type 0
OrderRoom n = length n.paging.entered < paper01.frames

-- frame f stands once in the order of entry
abbrev pub InOrder : ℕ → Node → Type 0
InOrder f n = count_of f n.paging.entered ≡ 1

-- a frame is free, and the free frames and those in use are no more than there are
pub record FrameLeft (n : Node) : Type 0 where
  pub some : 1 ≤ length n.free
  pub order : length n.free + length n.paging.entered ≤ paper01.frames

-- the buffer of group g has a place behind its last message
abbrev pub Room : ℕ → Node → Type 0
Room g n = (group_of n g).buffer.used + (group_of n g).buffer.count < length (group_of n g).buffer.places

-- frame f is the last in the order of entry
unfoldable pub entering : ℕ → Node → Node
entering f n = with_paging (with_entered (n.paging.entered ++ (f ∷ [])) n.paging) n

-- frame f leaves the order of entry
unfoldable pub departing : ℕ → Node → Node
departing f n = with_paging (with_entered (without f n.paging.entered) n.paging) n

-- the node in which this is the free line and this the buffer of group g
unfoldable pub with_both : ℕ → List ℕ → Buffer → Node → Node
with_both g fs v n = with_group g (with_buffer v (group_of n g)) (with_free fs n)

-- group g takes the front of the free line
unfoldable pub taking : ℕ → Node → Node
taking g n = with_stock g (take_frame paper01 n.free n.paging.entered (group_of n g).buffer) n

-- the same but for the order of entry
unfoldable pub granting : ℕ → Node → Node
granting g n =
    let s = take_frame paper01 n.free n.paging.entered (group_of n g).buffer in
    with_both g s.free s.buffer n

-- the message is put behind the last of its group's buffer
unfoldable pub putting : Message → Node → Node
putting x n = with_group x.group (with_buffer (appended x (group_of n x.group).buffer) (group_of n x.group)) n

-- the buffer of group g has such a place, or is full and a frame is free
abbrev pub Storable : ℕ → Node → Type 0
Storable g n =
    ((group_of n g).buffer.used + (group_of n g).buffer.count ≤ length (group_of n g).buffer.places)
    × (length (group_of n g).buffer.places ≤ (group_of n g).buffer.used + (group_of n g).buffer.count → FrameLeft n)

-- a length and eight words are those that a message of group g is kept by
pub record Kept (g len : ℕ) (ws : List ℕ) (x : Message) : Type 0 where
  pub group : x.group ≡ g
  pub words : place_words (place_of x) ≡ len ∷ ws

-- any message, for a place that has none
abbrev pub blank : Message
blank = record { group = 0; words = [] }

-- at least i messages are in the queue
abbrev pub Queued : ℕ → Node → Type 0
Queued i n = i ≤ length n.queue

-- the queue without its first i messages
unfoldable pub dropping : ℕ → Node → Node
dropping i n = with_queue (drop i n.queue) n

-- the buffer of group g has a message, behind used-up places of its first page, which is in a frame
pub record Waits (g : ℕ) (n : Node) : Type 0 where
  pub some : 1 ≤ (group_of n g).buffer.count
  pub used : (group_of n g).buffer.used < paper01.per_frame
  pub held : 1 ≤ length (group_of n g).buffer.frames
  -- that frame stands once in the order of entry
  pub entered : InOrder (get_or (group_of n g).buffer.frames 0 0) n
  -- the free frames and those in use are no more than there are
  pub order : length n.free + length n.paging.entered ≤ paper01.frames
  -- its other places are wiped
  pub wiped : Every Wiped (unused (group_of n g).buffer)

-- the same, and all of its first page is wiped: that of the first message too
pub record Emptied (g : ℕ) (n : Node) : Type 0 where
  pub waits : Waits g n
  pub page : take paper01.per_frame (group_of n g).buffer.places ≡ empty_page paper01

-- the group with a place of its buffer set
unfoldable pub placed : ℕ → Place → Group → Group
placed i x G =
    with_buffer
    (record { used = G.buffer.used; count = G.buffer.count; frames = G.buffer.frames; places = set G.buffer.places i x }) G

-- with these of h and n
unfoldable pub with_counts : ℕ → ℕ → Group → Group
with_counts used count G =
    with_buffer (record { used = used; count = count; frames = G.buffer.frames; places = G.buffer.places }) G

-- the place of group g's first message is wiped
unfoldable pub wiping : ℕ → Node → Node
wiping g n = with_group g (placed (group_of n g).buffer.used empty_place (group_of n g)) n

-- that place counts as used up
unfoldable pub using_up : ℕ → Node → Node
using_up g n = with_group g (with_counts ((group_of n g).buffer.used + 1) ((group_of n g).buffer.count - 1) (group_of n g)) n

-- the first frame of group g's buffer is freed
unfoldable pub freeing : ℕ → Node → Node
freeing g n = with_stock g (free_first paper01 n.free n.paging.entered (group_of n g).buffer) n

-- the same but for the order of entry
unfoldable pub releasing : ℕ → Node → Node
releasing g n =
    let s = free_first paper01 n.free n.paging.entered (group_of n g).buffer in
    with_both g s.free s.buffer n

-- the first message of group g's buffer goes
unfoldable pub removing : ℕ → Node → Node
removing g n = with_stock g (remove_first paper01 n.free n.paging.entered (group_of n g).buffer) n

-- the queue has a place left
abbrev pub QueueRoom : Node → Type 0
QueueRoom n = length n.queue < 16

-- nothing is asked
abbrev pub Any : Node → Type 0
Any n = Unit {0}

-- the flags atomic and pending of group g are set
unfoldable pub flagging : ℕ → Bool → Bool → Node → Node
flagging g a p n = with_group g (with_flags a p (group_of n g)) n

-- its timer's flags, force and revoked
unfoldable pub timer_flagging : ℕ → Bool → Bool → Node → Node
timer_flagging g f r n = with_group g (with_timer_flags f r (group_of n g)) n
