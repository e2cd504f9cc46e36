-- The node as records and lists. A buffer carries the contents of its pages, and no two parts of a node name the same storage; the frames and
-- swap pages that no buffer holds are wiped, so their numbers say all of them. Swap pages are numbered behind the frames, so that one number
-- says where a page is. Assumes nothing.
use Rattle.std.specs.Prelude.{ℕ, pred, ◌+◌, Bool, false, not, ◌&&◌, ◌||◌, List, [], ◌++◌, map, ltb, eqb, length, take, drop, get_or, set, replicate}
use Rattle.rules.specs.Lists.{filter, is_empty, up_from, pad}
use Rattle.rules.specs.Build.{Build, group_count, word_limit}

-- "A message has a group and 1 to 8 words of 32 bits."
pub record Message : Type 0 where
  pub group : ℕ
  pub words : List ℕ

-- a place of a frame or swap page: the length kept with the message that waits there, and its eight words; all 0 where none waits
pub record Place : Type 0 where
  pub len : ℕ
  pub words : List ℕ

-- "Each group has a virtual buffer: a list of frames, filled in order. Let n be its messages, h the used-up places before the first". A page of
-- it may be in a swap page; where its pages are changes nothing of its places. Frame f has number f, and swap page s the number of frames and s
-- more
pub record Buffer : Type 0 where
  -- h
  pub used : ℕ
  -- n
  pub count : ℕ
  -- the numbers of the frames and swap pages that its pages are in, the first message's first
  pub frames : List ℕ
  -- the places of its pages, one page's after the other's
  pub places : List Place

-- "Each group has a flag atomic, a flag pending and a descriptor of 0 to 8 words."; order 2's flags are force and revoked
pub record Group : Type 0 where
  pub atomic : Bool
  pub pending : Bool
  -- ticks count with an empty queue too while the group runs
  pub force : Bool
  -- a timeout came while it ran, and no N since
  pub revoked : Bool
  pub buffer : Buffer
  pub descriptor : List ℕ

-- swap space, "the order of entry into frames" and the "pages sent out and brought in so far"
pub record Paging : Type 0 where
  -- the numbers of the free swap pages: "swap pages are taken and freed in a line, as frames are"
  pub swap : List ℕ
  -- the numbers of the frames in use, the one whose page entered first first
  pub entered : List ℕ
  pub out : ℕ
  pub brought : ℕ

-- the running group is 0 for nobody; the queue stands in order of arrival; "Free frames stand in a line", by their numbers; group g is the g-th of
-- the groups
pub record Node : Type 0 where
  pub running : ℕ
  pub timer : ℕ
  pub queue : List Message
  pub free : List ℕ
  pub paging : Paging
  pub groups : List Group

-- "every queue, buffer, flag and descriptor is empty or off, all message words are 0": an empty place
abbrev pub empty_place : Place
empty_place = record { len = 0; words = pad word_limit [] }

-- a page of them: a frame or swap page that no buffer holds is wiped
unfoldable pub empty_page : Build → List Place
empty_page b = replicate b.per_frame empty_place

-- a buffer with no message and no frame
abbrev pub empty_buffer : Buffer
empty_buffer = record { used = 0; count = 0; frames = []; places = [] }

-- a group with nothing waiting, its flags off and its descriptor empty
abbrev pub empty_group : Group
empty_group = record { atomic = false; pending = false; force = false; revoked = false; buffer = empty_buffer; descriptor = [] }

-- no page is in a frame, none was sent out or brought in, and every swap page is free, the first in front
unfoldable pub empty_paging : Build → Paging
empty_paging b = record { swap = up_from b.frames b.swap; entered = []; out = 0; brought = 0 }

-- "At power-on nobody runs"; "Free frames stand in a line, at power-on 0 to 31."
unfoldable pub power_on : Build → Node
power_on b =
    record {
      running = 0;
      timer = 0;
      queue = [];
      free = up_from 0 b.frames;
      paging = empty_paging b;
      groups = replicate group_count empty_group;
    }

-- the group of that number
unfoldable pub group_of : Node → ℕ → Group
group_of n g = get_or n.groups (pred g) empty_group

-- the node with this running group
unfoldable pub with_running : ℕ → Node → Node
with_running g n = record { running = g; timer = n.timer; queue = n.queue; free = n.free; paging = n.paging; groups = n.groups }

-- with this timer
unfoldable pub with_timer : ℕ → Node → Node
with_timer t n = record { running = n.running; timer = t; queue = n.queue; free = n.free; paging = n.paging; groups = n.groups }

-- with this hardware queue
unfoldable pub with_queue : List Message → Node → Node
with_queue q n = record { running = n.running; timer = n.timer; queue = q; free = n.free; paging = n.paging; groups = n.groups }

-- with this free line
unfoldable pub with_free : List ℕ → Node → Node
with_free fs n = record { running = n.running; timer = n.timer; queue = n.queue; free = fs; paging = n.paging; groups = n.groups }

-- with this paging
unfoldable pub with_paging : Paging → Node → Node
with_paging s n = record { running = n.running; timer = n.timer; queue = n.queue; free = n.free; paging = s; groups = n.groups }

-- with these groups
unfoldable pub with_groups : List Group → Node → Node
with_groups Gs n = record { running = n.running; timer = n.timer; queue = n.queue; free = n.free; paging = n.paging; groups = Gs }

-- with this group under number g
unfoldable pub with_group : ℕ → Group → Node → Node
with_group g G n =
    record {
      running = n.running;
      timer = n.timer;
      queue = n.queue;
      free = n.free;
      paging = n.paging;
      groups = set n.groups (pred g) G;
    }

-- the paging with this order of entry
unfoldable pub with_entered : List ℕ → Paging → Paging
with_entered es s = record { swap = s.swap; entered = es; out = s.out; brought = s.brought }

-- the group with these of the flags atomic and pending
unfoldable pub with_flags : Bool → Bool → Group → Group
with_flags a p G =
    record { atomic = a; pending = p; force = G.force; revoked = G.revoked; buffer = G.buffer; descriptor = G.descriptor }

-- with these of the timer's flags, force and revoked
unfoldable pub with_timer_flags : Bool → Bool → Group → Group
with_timer_flags f r G =
    record { atomic = G.atomic; pending = G.pending; force = f; revoked = r; buffer = G.buffer; descriptor = G.descriptor }

-- with this buffer
unfoldable pub with_buffer : Buffer → Group → Group
with_buffer v G =
    record { atomic = G.atomic; pending = G.pending; force = G.force; revoked = G.revoked; buffer = v; descriptor = G.descriptor }

-- with this descriptor
unfoldable pub with_descriptor : List ℕ → Group → Group
with_descriptor d G =
    record { atomic = G.atomic; pending = G.pending; force = G.force; revoked = G.revoked; buffer = G.buffer; descriptor = d }

-- messages of group g wait in its buffer: "n is above 0"
unfoldable pub buffer_holds : Node → ℕ → Bool
buffer_holds n g = ltb 0 (group_of n g).buffer.count

-- "A group is buffered while n is above 0, else direct."; a revoked one "counts as buffered, empty or not"
unfoldable pub buffered : Node → ℕ → Bool
buffered n g = buffer_holds n g || (group_of n g).revoked

-- "With force on and the group running and atomic"
unfoldable pub forced : Node → Bool
forced n = not (eqb n.running 0) && ((group_of n n.running).force && (group_of n n.running).atomic)

-- what makes a tick count: "A tick adds 1 to the timer if the hardware queue isn't empty."; with the timer forced "ticks count with an empty
-- queue too"
unfoldable pub timer_runs : Node → Bool
timer_runs n = not (is_empty n.queue) || forced n

-- a message as it is kept in a place: its length, its words, 0 past them
unfoldable pub place_of : Message → Place
place_of m = record { len = length m.words; words = pad word_limit m.words }

-- and back, as a message of group g
unfoldable pub message_of : ℕ → Place → Message
message_of g p = record { group = g; words = take p.len p.words }

-- the places of a buffer's waiting messages: n of them behind the h used-up ones
unfoldable pub waiting : Buffer → List Place
waiting v = take v.count (drop v.used v.places)

-- its other places: the used-up ones, and those behind the last message
unfoldable pub unused : Buffer → List Place
unused v = take v.used v.places ++ drop (v.used + v.count) v.places

-- the messages of group g in its buffer
unfoldable pub in_buffer : Node → ℕ → List Message
in_buffer n g = map (message_of g) (waiting (group_of n g).buffer)

-- the message is of group g
unfoldable pub is_of : ℕ → Message → Bool
is_of g m = eqb m.group g

-- "its messages in the hardware queue"
unfoldable pub in_queue : Node → ℕ → List Message
in_queue n g = filter (is_of g) n.queue

-- "Its line is its buffer, then its messages in the hardware queue."
unfoldable pub line : Node → ℕ → List Message
line n g = in_buffer n g ++ in_queue n g
