-- The clauses of "Memory is a node when" on the node that the words hold, in the order in which they are tested. A group's clause is parted in
-- three: its flags are tested in one pass with what is asked of their words, and its places can be looked at only where its pages are known.
-- Assumes nothing.
use Rattle.std.specs.Prelude.{ℕ, zero, suc, ◌+◌, ◌*◌, ◌/◌, ◌%◌, Bool, not, ◌&&◌, ◌||◌, List, eqb, leb, ltb, length, take, drop}
use Rattle.rules.specs.Lists.{all, concat_map, up_from}
use Rattle.rules.specs.Build.{paper01, page_count, group_count}
use Rattle.rules.specs.Node.{waiting}
use Rattle.rules.specs.Frames.{ceil_div, pledges}
use Rattle.rules.specs.Valid.{is_message, is_waiting, is_wiped, only_atomic, frame_numbers, frame_order, stands_once, pending_has_line, runner_atomic, head_stays, runner_in_frame}
use Rattle.rules.specs.Memory.{running_at, timer_at, queued_at, free_count_at, queue_at, queue_stride, free_at, list_offset, used_offset, count_offset, held_offset, place_stride, swap_count_at, entered_count_at, swap_at, entered_at, word, words_at, message_at, place_at, frame_address, buffer_at, group_at, group_address, node_at}
use Rattle.rules.specs.MemoryTest.{group_flags, idle_are_wiped}

-- pending, force and revoked "only with atomic": of one group
unfoldable pub flags_atomic : List ℕ → ℕ → Bool
flags_atomic m g = only_atomic (group_at m (group_address g))

-- the same, and "flags are 0 or 1"
unfoldable pub flags_good : List ℕ → ℕ → Bool
flags_good m g = group_flags m g && flags_atomic m g

-- "groups, waiting messages' lengths .. are within the bounds above": those of the i-th in the queue
unfoldable pub message_good : List ℕ → ℕ → Bool
message_good m i = is_message (message_at m (queue_at + queue_stride * i))

-- "h .. within the bounds above"; "h is 0 where n is 0"; "each list has its rounded-up length": those of one group
unfoldable pub buffer_good : List ℕ → ℕ → Bool
buffer_good m g =
    let h = word m (group_address g + used_offset) in
    let n = word m (group_address g + count_offset) in
    ltb h paper01.per_frame
    && ((not (eqb n 0) || eqb h 0) && eqb (word m (group_address g + held_offset)) (ceil_div (h + n) paper01.per_frame))

-- "waiting messages' lengths"; "a waiting message's words past its length are 0": of those in the buffer of one group
unfoldable pub waiting_good : List ℕ → ℕ → Bool
waiting_good m g = all is_waiting (waiting (buffer_at m (group_address g)))

-- "Memory is no node (1) if a frame or swap page has a word or kept length other than 0 that is no part of a waiting message.": the used-up places
-- of the buffer of one group
unfoldable pub used_up_wiped : List ℕ → ℕ → Bool
used_up_wiped m g =
    let v = buffer_at m (group_address g) in
    all is_wiped (take v.used v.places)

-- those behind its last message
unfoldable pub behind_wiped : List ℕ → ℕ → Bool
behind_wiped m g =
    let v = buffer_at m (group_address g) in
    all is_wiped (drop (v.used + v.count) v.places)

-- all its places: where a message waits, and where none does
unfoldable pub places_good : List ℕ → ℕ → Bool
places_good m g = waiting_good m g && (used_up_wiped m g && behind_wiped m g)

-- place i of frame or swap page f: whether a message waits there as it must
unfoldable pub waiting_in : List ℕ → ℕ → ℕ → Bool
waiting_in m f i = is_waiting (place_at m (frame_address f + place_stride * i))

-- place p of the list of group g, counted through its pages: the same
unfoldable pub waiting_at : List ℕ → ℕ → ℕ → Bool
waiting_at m g p = waiting_in m (word m (group_address g + list_offset + p / paper01.per_frame)) (p % paper01.per_frame)

-- The order of entry, the free line, the swap line and the groups' lists as eleven lists of page numbers: lists 0 and 1 have the frames, and
-- those from 1 on all pages. The list of group g is list g + 2.

-- where list l begins
unfoldable pub list_start : ℕ → ℕ
list_start zero = entered_at
list_start (suc zero) = free_at
list_start (suc (suc zero)) = swap_at
list_start (suc (suc (suc g))) = group_address (suc g) + list_offset

-- how many numbers it has
unfoldable pub list_count : List ℕ → ℕ → ℕ
list_count m zero = word m entered_count_at
list_count m (suc zero) = word m free_count_at
list_count m (suc (suc zero)) = word m swap_count_at
list_count m (suc (suc (suc g))) = word m (group_address (suc g) + held_offset)

-- the numbers
unfoldable pub list_numbers : List ℕ → ℕ → List ℕ
list_numbers m l = words_at m (list_start l) (list_count m l)

-- the numbers of k lists from list l on
unfoldable pub listed : List ℕ → ℕ → ℕ → List ℕ
listed m l k = concat_map (list_numbers m) (up_from l k)

-- "each frame stands once, in the free line or in one list", and each swap page in its line or in one list
unfoldable pub pages_once : List ℕ → Bool
pages_once m = all (stands_once (frame_numbers (node_at m))) (up_from 0 (page_count paper01))

-- "this order holds each frame in use once"
unfoldable pub entered_once : List ℕ → Bool
entered_once m = all (stands_once (frame_order (node_at m))) (up_from 0 paper01.frames)

-- the i-th in the swap line is a swap page
unfoldable pub swap_page : List ℕ → ℕ → Bool
swap_page m i = leb paper01.frames (word m (swap_at + i))

-- The clauses on the node that the words hold, but for the flags, in three parts.

-- those on the numbers that stand where they are read
unfoldable pub numbers_good : List ℕ → Bool
numbers_good m =
    leb (word m running_at) group_count
    && (ltb (word m timer_at) paper01.timeout
    && (all (message_good m) (up_from 0 (word m queued_at)) && all (buffer_good m) (up_from 1 group_count)))

-- those on the frames and swap pages and on what is in them
unfoldable pub frames_good : List ℕ → Bool
frames_good m =
    eqb (length (frame_numbers (node_at m))) (page_count paper01)
    && (pages_once m
    && (all (swap_page m) (up_from 0 (word m swap_count_at))
    && (eqb (length (frame_order (node_at m))) paper01.frames && (entered_once m && (idle_are_wiped m && all (places_good m) (up_from 1 group_count))))))

-- those on the groups' lines, and on the running group
unfoldable pub lines_good : List ℕ → Bool
lines_good m =
    leb (pledges paper01 (node_at m)) (page_count paper01)
    && (all (pending_has_line (node_at m)) (up_from 1 group_count)
    && (runner_atomic (node_at m) && (head_stays (node_at m).queue (node_at m) && runner_in_frame paper01 (node_at m))))
