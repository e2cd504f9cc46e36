-- "Who can cause a refusal": for each operation the number it is refused with, decided in the paper's order, or 0. Assumes nothing.
use Rattle.std.specs.Prelude.{ℕ, Bool, cond, ◌||◌, List, [], ◌∷◌, ◌++◌, ltb, leb, eqb, length}
use Rattle.rules.specs.Lists.{is_empty}
use Rattle.rules.specs.Build.{Build, page_count, group_count, word_limit, last_node, tick_limit}
use Rattle.rules.specs.Node.{Message, Node, group_of, with_queue, line}
use Rattle.rules.specs.Frames.{pledges}
use Rattle.rules.specs.Operation.{Request, poll, peek, dispose, begin_atomic, end_atomic, describe, launch}
use Rattle.rules.specs.Operation.{Operation, arrive, schedule, preempt, dispatch, tick, turn, user, unknown}
use Rattle.rules.specs.Operation.{accepted, unreadable, bad_group, bad_words, queue_full, no_frames, nobody_runs, no_message, past_message}
use Rattle.rules.specs.Operation.{still_pending, descriptor_full, descriptor_empty, bad_node, bad_schedule, bad_ticks, already_runs}

-- the node with a message more at the end of the hardware queue
unfoldable pub queued : Message → Node → Node
queued m n = with_queue (n.queue ++ (m ∷ [])) n

-- "The network, on A, in this order": 3, 4, 5, 6
unfoldable pub refuse_arrive : Build → Node → Message → ℕ
refuse_arrive b n m =
    cond (eqb m.group 0 || ltb group_count m.group) bad_group
    (cond (is_empty m.words || ltb word_limit (length m.words)) bad_words
    (cond (leb b.places (length n.queue)) queue_full
    (cond (ltb (page_count b) (pledges b (queued m n))) no_frames
    accepted)))

-- "14: S above 8."
unfoldable pub refuse_schedule : ℕ → ℕ
refuse_schedule g = cond (ltb group_count g) bad_schedule accepted

-- I: "16 when a group already runs, after 14 for a group outside 1 to 8"
unfoldable pub refuse_dispatch : ℕ → ℕ → ℕ
refuse_dispatch running g =
    cond (eqb g 0 || ltb group_count g) bad_schedule
    (cond (eqb running 0) accepted already_runs)

-- "15: T with 0 or above 65,535."
unfoldable pub refuse_tick : ℕ → ℕ
refuse_tick k = cond (eqb k 0 || ltb tick_limit k) bad_ticks accepted

-- "8: D or E with an empty line."; "9: E with i not below the message's length."
unfoldable pub refuse_peek : List Message → ℕ → ℕ
refuse_peek [] i = no_message
refuse_peek (m ∷ ms) i = cond (leb (length m.words) i) past_message accepted

-- "8: D or E with an empty line."
unfoldable pub refuse_dispose : List Message → ℕ
refuse_dispose [] = no_message
refuse_dispose (m ∷ ms) = accepted

-- "10: N while pending."
unfoldable pub refuse_end : Bool → ℕ
refuse_end pending = cond pending still_pending accepted

-- "11: P with 8 words in the descriptor."
unfoldable pub refuse_describe : List ℕ → ℕ
refuse_describe d = cond (leb word_limit (length d)) descriptor_full accepted

-- "12: L with an empty descriptor; 13, after it: node above 63."
unfoldable pub refuse_launch : List ℕ → ℕ → ℕ
refuse_launch [] k = descriptor_empty
refuse_launch (w ∷ d) k = cond (ltb last_node k) bad_node accepted

-- the user's refusals but 7, for the running group
unfoldable pub refuse_request : Node → Request → ℕ
refuse_request n poll = accepted
refuse_request n (peek i) = refuse_peek (line n n.running) i
refuse_request n dispose = refuse_dispose (line n n.running)
refuse_request n (begin_atomic force) = accepted
refuse_request n end_atomic = refuse_end (group_of n n.running).pending
refuse_request n (describe w) = refuse_describe (group_of n n.running).descriptor
refuse_request n (launch k) = refuse_launch (group_of n n.running).descriptor k

-- the number an operation is refused with, 0 where it is accepted; "7: nobody runs; before all others here."; "2: unknown operation"
unfoldable pub refusal : Build → Node → Operation → ℕ
refusal b n (arrive g ws) = refuse_arrive b n (record { group = g; words = ws })
refusal b n preempt = accepted
refusal b n (dispatch g) = refuse_dispatch n.running g
refusal b n (schedule g) = refuse_schedule g
refusal b n (tick k) = refuse_tick k
-- C is for everyone, "whoever runs"
refusal b n turn = accepted
refusal b n (user r) = cond (eqb n.running 0) nobody_runs (refuse_request n r)
refusal b n unknown = unreadable
