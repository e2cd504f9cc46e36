-- "The memory is of 32-bit words; docs/ fixes once its size and where each number stands." The map at paper 01's sizes, as a function from
-- a node to words and one back. docs/MEMORY.md is its prose. Assumes nothing.
use Rattle.std.specs.Prelude.{ℕ, zero, suc, ◌+◌, ◌-◌, ◌*◌, Bool, true, false, List, [], ◌∷◌, ◌++◌, eqb, length, take, drop, get_or}
use Rattle.rules.specs.Lists.{concat_map, up_from, pad}
use Rattle.rules.specs.Build.{Build, paper01, page_count, group_count, word_limit}
use Rattle.rules.specs.Node.{Message, Place, Buffer, Group, Paging, Node, empty_page}

-- the running group
abbrev pub running_at : ℕ
running_at = 0

-- the timer
abbrev pub timer_at : ℕ
timer_at = 1

-- how many messages are in the hardware queue
abbrev pub queued_at : ℕ
queued_at = 2

-- how many frames are in the free line
abbrev pub free_count_at : ℕ
free_count_at = 3

-- the hardware queue: 16 places of a group, a length and eight words
abbrev pub queue_at : ℕ
queue_at = 4

-- the words of one place
abbrev pub queue_stride : ℕ
queue_stride = 10

-- the free line: 32 numbers
abbrev pub free_at : ℕ
free_at = 164

-- the groups: 8 records of 112 words, and what stands where in one
abbrev pub groups_at : ℕ
groups_at = 196

-- the words of one record
abbrev pub group_stride : ℕ
group_stride = 112

-- the flag atomic
abbrev pub atomic_offset : ℕ
atomic_offset = 0

-- the flag pending
abbrev pub pending_offset : ℕ
pending_offset = 1

-- the flag force
abbrev pub force_offset : ℕ
force_offset = 2

-- the flag revoked
abbrev pub revoked_offset : ℕ
revoked_offset = 3

-- h
abbrev pub used_offset : ℕ
used_offset = 4

-- n
abbrev pub count_offset : ℕ
count_offset = 5

-- how many pages are in the list
abbrev pub held_offset : ℕ
held_offset = 6

-- how many words are in the descriptor
abbrev pub described_offset : ℕ
described_offset = 7

-- the descriptor's eight words
abbrev pub descriptor_offset : ℕ
descriptor_offset = 8

-- the list's 96 numbers: those below 32 are frames, the others swap pages, 32 for the first
abbrev pub list_offset : ℕ
list_offset = 16

-- the 32 frames and behind them the 64 swap pages: each has eight places, and each place a kept length and eight words
abbrev pub frames_at : ℕ
frames_at = 1092

-- the words of one place
abbrev pub place_stride : ℕ
place_stride = 9

-- the words of one frame or swap page
abbrev pub frame_stride : ℕ
frame_stride = 72

-- swap space and the order of entry
abbrev pub paging_at : ℕ
paging_at = 8004

-- how many swap pages are in the swap line
abbrev pub swap_count_at : ℕ
swap_count_at = 8004

-- how many frames are in the order of entry
abbrev pub entered_count_at : ℕ
entered_count_at = 8005

-- pages sent out
abbrev pub out_at : ℕ
out_at = 8006

-- pages brought in
abbrev pub brought_at : ℕ
brought_at = 8007

-- the swap line: 64 numbers
abbrev pub swap_at : ℕ
swap_at = 8008

-- the order of entry: 32 numbers
abbrev pub entered_at : ℕ
entered_at = 8072

-- the size of a node
abbrev pub size : ℕ
size = 8104

-- where the frame or swap page with number f stands
unfoldable pub frame_address : ℕ → ℕ
frame_address f = frames_at + frame_stride * f

-- where the record of group g stands
unfoldable pub group_address : ℕ → ℕ
group_address g = groups_at + group_stride * (g - 1)

-- From a node to words.

-- a flag
unfoldable pub flag_word : Bool → ℕ
flag_word true = 1
flag_word false = 0

-- a message in the queue: its group, its length, its words, 0 past them
unfoldable pub message_words : Message → List ℕ
message_words m = m.group ∷ length m.words ∷ pad word_limit m.words

-- "The queue, the free line and each list of frames stand head first. The queue's unused places .. are 0."
unfoldable pub queue_words : List Message → List ℕ
queue_words q = pad (paper01.places * queue_stride) (concat_map message_words q)

-- the free line, or the order of entry
unfoldable pub line_words : List ℕ → List ℕ
line_words fs = pad paper01.frames fs

-- a list of pages
unfoldable pub list_words : List ℕ → List ℕ
list_words ps = pad (page_count paper01) ps

-- a group's record
unfoldable pub group_words : Group → List ℕ
group_words G =
    flag_word G.atomic
    ∷ flag_word G.pending
    ∷ flag_word G.force
    ∷ flag_word G.revoked
    ∷ G.buffer.used
    ∷ G.buffer.count
    ∷ length G.buffer.frames
    ∷ length G.descriptor
    ∷ pad word_limit G.descriptor ++ list_words G.buffer.frames

-- a place of a frame
unfoldable pub place_words : Place → List ℕ
place_words p = p.len ∷ p.words

-- a page of a buffer: the number of the frame or swap page that it is in, and its places
pub record Page : Type 0 where
  pub number : ℕ
  pub places : List Place

-- the pages of a buffer, each with its share of the places
unfoldable pub pages_from : Build → List ℕ → List Place → List Page
pages_from b [] ps = []
pages_from b (f ∷ fs) ps = record { number = f; places = take b.per_frame ps } ∷ pages_from b fs (drop b.per_frame ps)

-- the pages of a group
unfoldable pub pages_of : Build → Group → List Page
pages_of b G = pages_from b G.buffer.frames G.buffer.places

-- the places of the frame or swap page with number f: those of the page that is in it; "left by its page" it is wiped
unfoldable pub places_of : Build → ℕ → List Page → List Place
places_of b f [] = empty_page b
places_of b f (x ∷ xs) = elim (eqb x.number f) [ true ↦ x.places | false ↦ places_of b f xs ]

-- the pages of all buffers
unfoldable pub all_pages : Node → List Page
all_pages n = concat_map (pages_of paper01) n.groups

-- the words of the frame or swap page with number f
unfoldable pub frame_words : List Page → ℕ → List ℕ
frame_words xs f = concat_map place_words (places_of paper01 f xs)

-- swap space and the order of entry
unfoldable pub paging_words : Paging → List ℕ
paging_words s =
    length s.swap
    ∷ length s.entered
    ∷ s.out
    ∷ s.brought
    ∷ pad paper01.swap s.swap ++ line_words s.entered

-- the node's words
unfoldable pub words : Node → List ℕ
words n =
    n.running
    ∷ n.timer
    ∷ length n.queue
    ∷ length n.free
    ∷ queue_words n.queue
    ++ (line_words n.free
    ++ (concat_map group_words n.groups
    ++ (concat_map (frame_words (all_pages n)) (up_from 0 (page_count paper01)) ++ paging_words n.paging)))

-- From words to a node.

-- the word at an address
unfoldable pub word : List ℕ → ℕ → ℕ
word m a = get_or m a 0

-- k words from an address on
unfoldable pub words_at : List ℕ → ℕ → ℕ → List ℕ
words_at m a zero = []
words_at m a (suc k) = word m a ∷ words_at m (a + 1) k

-- the message in the queue place at address a
unfoldable pub message_at : List ℕ → ℕ → Message
message_at m a = record { group = word m a; words = take (word m (a + 1)) (words_at m (a + 2) word_limit) }

-- k queue places from address a on
unfoldable pub messages_at : List ℕ → ℕ → ℕ → List Message
messages_at m a zero = []
messages_at m a (suc k) = message_at m a ∷ messages_at m (a + queue_stride) k

-- the place of a frame at address a
unfoldable pub place_at : List ℕ → ℕ → Place
place_at m a = record { len = word m a; words = words_at m (a + 1) word_limit }

-- k places of a frame from address a on
unfoldable pub places_at : List ℕ → ℕ → ℕ → List Place
places_at m a zero = []
places_at m a (suc k) = place_at m a ∷ places_at m (a + place_stride) k

-- the places of the frame or swap page with number f
unfoldable pub frame_places : List ℕ → ℕ → List Place
frame_places m f = places_at m (frame_address f) paper01.per_frame

-- the flag at address a
unfoldable pub flag_at : List ℕ → ℕ → Bool
flag_at m a = eqb (word m a) 1

-- From here to group_at, a is the address of a group's record.

-- a buffer's list
unfoldable pub list_at : List ℕ → ℕ → List ℕ
list_at m a = words_at m (a + list_offset) (word m (a + held_offset))

-- a buffer, with the contents of its pages
unfoldable pub buffer_at : List ℕ → ℕ → Buffer
buffer_at m a =
    record {
      used = word m (a + used_offset);
      count = word m (a + count_offset);
      frames = list_at m a;
      places = concat_map (frame_places m) (list_at m a);
    }

-- a group
unfoldable pub group_at : List ℕ → ℕ → Group
group_at m a =
    record {
      atomic = flag_at m (a + atomic_offset);
      pending = flag_at m (a + pending_offset);
      force = flag_at m (a + force_offset);
      revoked = flag_at m (a + revoked_offset);
      buffer = buffer_at m a;
      descriptor = words_at m (a + descriptor_offset) (word m (a + described_offset));
    }

-- k groups from address a on
unfoldable pub groups_from : List ℕ → ℕ → ℕ → List Group
groups_from m a zero = []
groups_from m a (suc k) = group_at m a ∷ groups_from m (a + group_stride) k

-- swap space and the order of entry
unfoldable pub paging_from : List ℕ → Paging
paging_from m =
    record {
      swap = words_at m swap_at (word m swap_count_at);
      entered = words_at m entered_at (word m entered_count_at);
      out = word m out_at;
      brought = word m brought_at;
    }

-- the node that the words hold
unfoldable pub node_at : List ℕ → Node
node_at m =
    record {
      running = word m running_at;
      timer = word m timer_at;
      queue = messages_at m queue_at (word m queued_at);
      free = words_at m free_at (word m free_count_at);
      paging = paging_from m;
      groups = groups_from m groups_at group_count;
    }
