-- The memory: where each number stands, what power-on and a step do to words, answer 1, and for each clause of "Memory is a node when" a
-- memory that differs from a node's in that clause and is none. Another clause fails with it only where it must, as with a count above its line's
-- room. Addresses are docs/MEMORY.md's. Assumes nothing.
use Rattle.std.specs.Prelude.{ℕ, zero, suc, ◌+◌, ◌-◌, ◌≡◌, true, false, List, [], ◌∷◌, ◌++◌, length, take, drop, replicate}
use Rattle.rules.specs.Lists.{concat_map, up_from}
use Rattle.rules.specs.Operation.{Report, schedule, tick, user, dispose, unknown}
use Rattle.rules.specs.Text.{bytes}
use Rattle.rules.specs.MemoryTest.{MemoryStep, is_memory, step_memory, power_on_memory, head_part, head_words, page_counts}
use Rattle.rules.specs.Cases.Case.{copies, memory_after, Stands, Stretch, ◌holds◌, Leaves, crowded, LeavesFrom}

-- memory with these words from address a on
abbrev pub put : ℕ → List ℕ → List ℕ → List ℕ
put zero ws m = ws ++ drop (length ws) m
put (suc a) ws [] = ws
put (suc a) ws (x ∷ m) = x ∷ put a ws m

-- memory but for the words from address a on and before address b
abbrev pub cut : ℕ → ℕ → List ℕ → List ℕ
cut a b m = take a m ++ drop b m

-- "A refused step reports its number and zeros"; 0 is accepted
abbrev pub number_and_zeros : ℕ → Report
number_and_zeros a = record { answer = a; value = 0; trap = 0; upcall = 0; moved = 0; sent = [] }

-- that report, and this memory
abbrev pub answered : ℕ → List ℕ → MemoryStep
answered a m = record { report = number_and_zeros a; memory = m }

-- memory with these stretches, in the order of their addresses, and else 0; its words are those from address a on
abbrev pub laid : ℕ → List Stretch → List ℕ
laid a [] = replicate (8104 - a) 0
laid a (p ∷ ps) = replicate (p.start - a) 0 ++ (p.held ++ laid (p.start + length p.held) ps)

-- a node at power-on: nothing but the free line and the swap line, and how many are in them
abbrev pub fresh : List ℕ
fresh = laid 0 (3 holds (32 ∷ []) ∷ 164 holds up_from 0 32 ∷ 8004 holds (64 ∷ 0 ∷ 0 ∷ 0 ∷ up_from 32 64) ∷ [])

-- group 1 runs in a section with force on, at tick 255 of its timer, and is revoked; there is no message
abbrev pub forced : List ℕ
forced = put 0 (1 ∷ 255 ∷ []) (put 196 (1 ∷ 0 ∷ 1 ∷ 1 ∷ []) fresh)

-- a busy node: group 1 runs, with a descriptor of two words and two messages in the queue, one of group 2 between them, at tick 5; group 3
-- has 8 messages behind 2 used-up places in the frames 0 and 1, and is atomic, revoked and has force on
abbrev pub busy : List ℕ
busy =
    laid 0
    (0 holds (1 ∷ 5 ∷ 3 ∷ 30 ∷ [])
    ∷ 4 holds (1 ∷ 1 ∷ 7 ∷ [])
    ∷ 14 holds (2 ∷ 2 ∷ 5 ∷ 6 ∷ [])
    ∷ 24 holds (1 ∷ 3 ∷ 4 ∷ 4 ∷ 4 ∷ [])
    ∷ 164 holds up_from 2 30
    ∷ 196 holds (1 ∷ 1 ∷ 0 ∷ 0 ∷ 0 ∷ 0 ∷ 0 ∷ 2 ∷ 9 ∷ 8 ∷ [])
    ∷ 420 holds (1 ∷ 0 ∷ 1 ∷ 1 ∷ 2 ∷ 8 ∷ 2 ∷ 0 ∷ [])
    ∷ 436 holds (0 ∷ 1 ∷ [])
    ∷ 1110 holds (2 ∷ 30 ∷ 31 ∷ [])
    ∷ 1119 holds concat_map (λ w. 1 ∷ w ∷ replicate 7 0) (40 ∷ 50 ∷ 60 ∷ 70 ∷ 80 ∷ 90 ∷ 100 ∷ [])
    ∷ 8004 holds (64 ∷ 2 ∷ 0 ∷ 0 ∷ up_from 32 64)
    ∷ 8072 holds (0 ∷ 1 ∷ [])
    ∷ [])

-- group 3 has 16 messages of 8 words in the frames 0 and 1, none used up
abbrev pub sixteen : List ℕ
sixteen =
    laid 0
    (3 holds (30 ∷ [])
    ∷ 164 holds up_from 2 30
    ∷ 424 holds (0 ∷ 16 ∷ 2 ∷ [])
    ∷ 436 holds (0 ∷ 1 ∷ [])
    ∷ 1092 holds concat_map (λ w. 8 ∷ replicate 8 w) (up_from 1 16)
    ∷ 8004 holds (64 ∷ 2 ∷ 0 ∷ 0 ∷ up_from 32 64)
    ∷ 8072 holds (0 ∷ 1 ∷ [])
    ∷ [])

-- group 3 runs, its list the frames 1 and 0, 7 places of the first used up
abbrev pub seven_used : List ℕ
seven_used = put 0 (3 ∷ []) (put 420 (1 ∷ 0 ∷ 0 ∷ 0 ∷ 7 ∷ 9 ∷ []) (put 436 (1 ∷ 0 ∷ []) (put 1164 (replicate 63 0) sixteen)))

-- group 1 runs in a section with 16 messages of 8 words in the queue; the free line begins with the frames 1 and 8
abbrev pub full_queue : List ℕ
full_queue =
    laid 0
    (0 holds (1 ∷ 0 ∷ 16 ∷ 32 ∷ concat_map (λ w. 1 ∷ 8 ∷ replicate 8 w) (up_from 1 16))
    ∷ 164 holds (1 ∷ 8 ∷ up_from 2 6 ++ (0 ∷ up_from 9 23))
    ∷ 196 holds (1 ∷ [])
    ∷ 8004 holds (64 ∷ 0 ∷ 0 ∷ 0 ∷ up_from 32 64)
    ∷ [])

-- group 2 has all frames and swap pages, full of its 768 messages of 8 words, each of them 8
abbrev pub full_pages : List ℕ
full_pages =
    laid 0
    (312 holds (0 ∷ 768 ∷ 96 ∷ [])
    ∷ 324 holds up_from 0 96
    ∷ 1092 holds replicate 6912 8
    ∷ 8004 holds (0 ∷ 32 ∷ 64 ∷ 0 ∷ [])
    ∷ 8072 holds up_from 0 32
    ∷ [])

-- group 3 runs and has two messages: one in the last place of its first page, in frame 4, and one in its second page, which has number 37 and
-- is in swap; 3 pages were sent out and 2 brought in
abbrev pub swapped : List ℕ
swapped =
    laid 0
    (0 holds (3 ∷ 0 ∷ 0 ∷ 31 ∷ [])
    ∷ 164 holds (up_from 0 4 ++ up_from 5 27)
    ∷ 420 holds (1 ∷ 0 ∷ 0 ∷ 0 ∷ 7 ∷ 2 ∷ 2 ∷ [])
    ∷ 436 holds (4 ∷ 37 ∷ [])
    ∷ 1443 holds (1 ∷ 5 ∷ [])
    ∷ 3756 holds (2 ∷ 6 ∷ 7 ∷ [])
    ∷ 8004 holds (63 ∷ 1 ∷ 3 ∷ 2 ∷ up_from 32 5 ++ up_from 38 58)
    ∷ 8072 holds (4 ∷ [])
    ∷ [])

-- nobody runs, and the first page of group 3 is in swap and its second in frame 4; both counts of pages are at their last number
abbrev pub first_swapped : List ℕ
first_swapped =
    laid 0
    (3 holds (31 ∷ [])
    ∷ 164 holds (up_from 0 4 ++ up_from 5 27)
    ∷ 424 holds (7 ∷ 2 ∷ 2 ∷ [])
    ∷ 436 holds (37 ∷ 4 ∷ [])
    ∷ 1380 holds (1 ∷ 5 ∷ [])
    ∷ 3819 holds (1 ∷ 6 ∷ [])
    ∷ 8004 holds (63 ∷ 1 ∷ 4294967295 ∷ 4294967295 ∷ up_from 32 5 ++ up_from 38 58)
    ∷ 8072 holds (4 ∷ [])
    ∷ [])

-- the same, but that group 1 has the pages, and group 3 none
abbrev pub nobodys : List ℕ
nobodys = put 200 (7 ∷ 2 ∷ 2 ∷ []) (put 212 (37 ∷ 4 ∷ []) (put 424 (0 ∷ 0 ∷ 0 ∷ []) (put 436 (0 ∷ 0 ∷ []) first_swapped)))

-- where each number stands
pub record MapCases : Type 0 where
  -- "At power-on nobody runs, every queue, buffer, flag and descriptor is empty or off, all message words are 0."; "at power-on 0 to 31"
  pub fresh-words : memory_after [] ≡ fresh
  -- the size
  pub fresh-size : length fresh ≡ 8104
  -- every kind of number at its place
  pub busy-words : memory_after (bytes "A,3,10,11\nA,3,20,21\nA,3,30,31\nA,3,40\nA,3,50\nA,3,60\nA,3,70\nA,3,80\nA,3,90\nA,3,100\nS,3\nD\nD\nB,1\nT,256\nS,1\nP,9\nP,8\nA,1,7\nA,2,5,6\nA,1,4,4,4\nT,5\n") ≡ busy
  -- the last group's list, as long as there are frames; the last place of the last frame; the order of entry, which is the memory's end
  pub last_frame : Leaves (copies 256 "A,8,1,2,3,4,5,6,7,8\n")
      (980 holds (0 ∷ 0 ∷ 0 ∷ 0 ∷ 0 ∷ 256 ∷ 32 ∷ 0 ∷ replicate 8 0 ++ (up_from 0 32 ++ replicate 64 0))
      ∷ 3387 holds (8 ∷ 1 ∷ 2 ∷ 3 ∷ 4 ∷ 5 ∷ 6 ∷ 7 ∷ 8 ∷ 0 ∷ [])
      ∷ 8071 holds (95 ∷ up_from 0 32)
      ∷ [])
  -- a list of 96 pages, full; the last place of the last swap page; the two counts of pages in line, and the pages sent out
  pub last-page : LeavesFrom (crowded 96) []
      (308 holds (0 ∷ 0 ∷ 0 ∷ 0 ∷ 0 ∷ 768 ∷ 96 ∷ 0 ∷ replicate 8 0 ++ (up_from 32 64 ++ (up_from 0 32 ++ (0 ∷ []))))
      ∷ 7995 holds (1 ∷ 7 ∷ 0 ∷ 0 ∷ 0 ∷ 0 ∷ 0 ∷ 0 ∷ 0 ∷ 0 ∷ 32 ∷ 64 ∷ 0 ∷ replicate 64 0 ++ up_from 0 32)
      ∷ [])
  -- the queue's last place, and a descriptor's last word
  pub last-queued : Stands (bytes "S,1\nB\n" ++ copies 16 "A,1,1,2,3,4,5,6,7,8\n") 154 (1 ∷ 8 ∷ 1 ∷ 2 ∷ 3 ∷ 4 ∷ 5 ∷ 6 ∷ 7 ∷ 8 ∷ 0 ∷ 1 ∷ [])
  pub last-described : Stands (bytes "S,8\nP,1\nP,2\nP,3\nP,4\nP,5\nP,6\nP,7\nP,8\n") 987 (8 ∷ 1 ∷ 2 ∷ 3 ∷ 4 ∷ 5 ∷ 6 ∷ 7 ∷ 8 ∷ 0 ∷ [])

-- power-on and steps on words; "1: memory too short, or not a node. Tested first, at every step; power-on tests only the size."
pub record StepOnMemoryCases : Type 0 where
  -- power-on on whatever words, as many as a node has
  pub power-on-report : (power_on_memory (replicate 8104 7)).report ≡ number_and_zeros 0
  pub power-on-words : (power_on_memory (replicate 8104 7)).memory ≡ fresh
  -- "Memory past the node's size is never touched."
  pub power-on-longer : (power_on_memory (replicate 8106 7)).memory ≡ fresh ++ (7 ∷ 7 ∷ [])
  -- one word too few: 1, and the words stay
  pub power-on-short : power_on_memory (replicate 8103 7) ≡ answered 1 (replicate 8103 7)
  pub power-on-none : power_on_memory [] ≡ answered 1 []
  -- a step on a node of exactly its size, and on one word less
  pub step-report : (step_memory fresh (schedule 1)).report ≡ number_and_zeros 0
  pub step_words : take 1092 (step_memory fresh (schedule 1)).memory ≡ take 1092 (put 0 (1 ∷ []) fresh)
  pub step-short : step_memory (take 8103 fresh) (schedule 1) ≡ answered 1 (take 8103 fresh)
  -- on memory that is no node; before 2, 7, 14 and 15 too
  pub step-no-node : step_memory (put 0 (9 ∷ []) fresh) (schedule 1) ≡ answered 1 (put 0 (9 ∷ []) fresh)
  pub before-unknown : step_memory (put 0 (9 ∷ []) fresh) unknown ≡ answered 1 (put 0 (9 ∷ []) fresh)
  pub before-nobody : step_memory (put 1 (1 ∷ []) fresh) (user dispose) ≡ answered 1 (put 1 (1 ∷ []) fresh)
  pub before-schedule : step_memory (put 0 (9 ∷ []) fresh) (schedule 9) ≡ answered 1 (put 0 (9 ∷ []) fresh)
  pub before-ticks : step_memory (take 8103 fresh) (tick 0) ≡ answered 1 (take 8103 fresh)
  -- on a node an unknown operation is 2
  pub unknown-two : (step_memory fresh unknown).report ≡ number_and_zeros 2
  -- D on the busy node: its head goes, the message of group 2 moves to frame 2, pending and timer are 0
  pub dispose-report :
      (step_memory (busy ++ (7 ∷ [])) (user dispose)).report
      ≡ record { answer = 0; value = 0; trap = 0; upcall = 0; moved = 1; sent = [] }
  -- it is "written straight into the frame's part of the memory"; frame 2 is the last in "the order of entry into frames". "Memory past the node's
  -- size is never touched."
  pub dispose-memory :
      cut 1245 8004 (step_memory (busy ++ (7 ∷ [])) (user dispose)).memory
      ≡ take 1245
      (put 0 (1 ∷ 0 ∷ 1 ∷ 29 ∷ 1 ∷ 3 ∷ 4 ∷ 4 ∷ 4 ∷ replicate 25 0)
      (put 164 (up_from 3 29 ++ (0 ∷ 0 ∷ 0 ∷ []))
      (put 197 (0 ∷ [])
      (put 313 (1 ∷ 1 ∷ [])
      (put 324 (2 ∷ [])
      (put 1236 (2 ∷ 5 ∷ 6 ∷ [])
      busy))))))
      ++ (64 ∷ 3 ∷ 0 ∷ 0 ∷ up_from 32 64 ++ (0 ∷ 1 ∷ 2 ∷ replicate 29 0 ++ (7 ∷ [])))

-- memories that are nodes, at the edges of the clauses
pub record NodeCases : Type 0 where
  pub fresh-node : is_memory fresh ≡ true
  -- memory longer than a node is a node by its first words, whatever stands behind them; used-up places that are 0
  pub busy-node : is_memory (busy ++ (7 ∷ [])) ≡ true
  -- 16 messages in the queue, the free line not in order
  pub full-queue-node : is_memory full_queue ≡ true
  -- "h the used-up places before the first (0 to 7 ..)"; a list in any order
  pub seven-used : is_memory seven_used ≡ true
  -- the timer at 255, a queued message of group 8 and one of 8 words, a buffered one of 8 words, a descriptor of 8 words; group 5 atomic, with
  -- force on and revoked, with no line, group 3 pending with a line in its buffer, group 8 with one in the queue
  pub edges :
      is_memory
      (put 1 (255 ∷ [])
      (put 14 (8 ∷ [])
      (put 25 (8 ∷ [])
      (put 421 (1 ∷ [])
      (put 644 (1 ∷ 0 ∷ 1 ∷ 1 ∷ [])
      (put 980 (1 ∷ 1 ∷ [])
      (put 987 (8 ∷ [])
      (put 1173 (8 ∷ [])
      busy))))))))
      ≡ true
  -- a page in swap, and the first page of the group, which runs, in a frame
  pub swapped-node : is_memory swapped ≡ true
  -- the first page of a group that does not run, in swap, and the group not atomic; "each count staying at 4,294,967,295 once there"
  pub first-swapped : is_memory first_swapped ≡ true
  -- nothing is asked of the counts: none was sent out or brought in, with a page in swap
  pub nothing-sent-out : is_memory (put 8006 (0 ∷ 0 ∷ []) swapped) ≡ true
  -- nobody runs, and so group 1 does not: it has a line and is not atomic, and its first page is in swap
  pub nobodys-node : is_memory nobodys ≡ true
  -- "an empty queue has a timer above 0 only where the running group has force on", up to 255; a revoked group with nothing in its buffer
  pub forced-timer : is_memory forced ≡ true

-- "Memory is a node when", clause by clause: each of these would be a node but for a clause, and what must fail with it
pub record NoNodeCases : Type 0 where
  -- the size
  pub too_short : is_memory (take 8103 fresh) ≡ false
  pub no_words : is_memory [] ≡ false
  -- "running is 0 to 8"
  pub running-nine : is_memory (put 0 (9 ∷ []) fresh) ≡ false
  -- "counts .. are within the bounds above": a 17th message where the free line stands, a 9th word where the list stands
  pub queue-seventeen : is_memory (put 2 (17 ∷ []) full_queue) ≡ false
  pub descriptor-nine : is_memory (put 987 (9 ∷ []) fresh) ≡ false
  -- a 33rd free frame, a 97th page of a list, a 65th free swap page, a 33rd frame in the order of entry
  pub free-33 : is_memory (put 3 (33 ∷ []) fresh) ≡ false
  pub list-97 : is_memory (put 314 (97 ∷ []) full_pages) ≡ false
  pub swap-65 : is_memory (put 8004 (65 ∷ []) fresh) ≡ false
  pub entered-33 : is_memory (put 8005 (33 ∷ []) full_pages) ≡ false
  -- "groups": 0 and 9 behind the head
  pub group-zero : is_memory (put 14 (0 ∷ []) busy) ≡ false
  pub group-nine : is_memory (put 14 (9 ∷ []) busy) ≡ false
  -- "waiting messages' lengths": 0 and 9, in the queue, in a frame and in a swap page
  pub length-zero : is_memory (put 25 (0 ∷ 0 ∷ 0 ∷ 0 ∷ []) busy) ≡ false
  pub length-nine : is_memory (put 25 (9 ∷ []) busy) ≡ false
  pub length-zero-buffered : is_memory (put 1110 (0 ∷ 0 ∷ 0 ∷ []) busy) ≡ false
  pub length-nine-buffered : is_memory (put 1173 (9 ∷ []) busy) ≡ false
  pub length-zero-swapped : is_memory (put 3756 (0 ∷ 0 ∷ 0 ∷ []) swapped) ≡ false
  pub length-nine-swapped : is_memory (put 3756 (9 ∷ []) swapped) ≡ false
  -- "h"
  pub eight-used : is_memory (put 424 (8 ∷ 8 ∷ []) (put 1092 (replicate 72 0) sixteen)) ≡ false
  -- "timer"
  pub timer-256 : is_memory (put 1 (256 ∷ []) busy) ≡ false
  -- "each frame stands once, in the free line or in one list": twice in the line, none, in the line and in a list, in two lists. In the last
  -- three the order of entry holds what the free line lacks
  pub frame-twice : is_memory (put 164 (1 ∷ []) fresh) ≡ false
  pub frame-missing : is_memory (put 3 (31 ∷ []) (put 195 (0 ∷ []) (put 8005 (1 ∷ []) (put 8072 (31 ∷ []) fresh)))) ≡ false
  pub frame-listed-and-free : is_memory (put 164 (0 ∷ []) (put 8072 (2 ∷ []) busy)) ≡ false
  pub frame-listed-twice :
      is_memory (put 3 (29 ∷ []) (put 193 (0 ∷ []) (put 649 (8 ∷ 1 ∷ []) (put 660 (1 ∷ []) (put 8005 (3 ∷ []) (put 8074 (31 ∷ []) sixteen)))))) ≡ false
  -- "swap pages and their line meet what 01 asks of frames and the free line": the same of swap pages
  pub swap-twice : is_memory (put 8008 (33 ∷ []) fresh) ≡ false
  pub swap-missing : is_memory (put 8004 (63 ∷ []) (put 8071 (0 ∷ []) fresh)) ≡ false
  pub swap-listed-and-free : is_memory (put 8008 (37 ∷ []) swapped) ≡ false
  pub swap-listed-twice :
      is_memory (put 649 (1 ∷ 1 ∷ []) (put 660 (37 ∷ []) (put 8004 (62 ∷ []) (put 8070 (0 ∷ []) swapped)))) ≡ false
  -- a number that is no page's, in a page's stead
  pub page-96 : is_memory (put 8071 (96 ∷ []) fresh) ≡ false
  -- and beside all 96: it stands in the swap line for swap page 5, which group 3 holds
  pub page-97th : is_memory (put 8004 (64 ∷ []) (put 8071 (96 ∷ []) swapped)) ≡ false
  -- a number above 96: in the swap line, in the free line, and in the list of group 5, whose message stands where page 98 would be, past the node's size
  pub swap-97 : is_memory (put 8004 (64 ∷ []) (put 8071 (97 ∷ []) swapped)) ≡ false
  pub free-97 : is_memory (put 3 (32 ∷ []) (put 195 (97 ∷ []) swapped)) ≡ false
  pub listed-98 : is_memory (put 649 (1 ∷ 1 ∷ []) (put 660 (98 ∷ []) swapped) ++ (replicate 44 0 ++ (1 ∷ 5 ∷ replicate 70 0))) ≡ false
  -- a frame in the swap line, and in no other: swap page 0 is in its stead in the list of group 3, which has one message
  pub frame-in-swap-line :
      is_memory (put 0 (0 ∷ []) (put 424 (0 ∷ 1 ∷ 1 ∷ []) (put 436 (32 ∷ 0 ∷ []) (put 1443 (0 ∷ 0 ∷ []) (put 3396 (1 ∷ 5 ∷ []) (put 3756 (0 ∷ 0 ∷ 0 ∷ []) (put 8004 (64 ∷ 1 ∷ 3 ∷ 2 ∷ 4 ∷ up_from 33 63) swapped)))))))
      ≡ false
  -- a swap page in the free line, and in no other: it stands for frame 4, which group 3 holds
  pub swap-in-free-line : is_memory (put 3 (32 ∷ []) (put 195 (32 ∷ []) (put 8004 (62 ∷ []) (put 8008 (up_from 33 4 ++ (up_from 38 58 ++ (0 ∷ []))) swapped)))) ≡ false
  -- "this order holds each frame in use once": a frame in use is missing, another in its stead; it stands there twice; and with a frame that
  -- is free, with a swap page
  pub entered-missing : is_memory (put 8005 (0 ∷ []) (put 8072 (0 ∷ []) swapped)) ≡ false
  pub entered-another : is_memory (put 8072 (5 ∷ []) swapped) ≡ false
  pub entered-twice : is_memory (put 8005 (2 ∷ []) (put 8073 (4 ∷ []) swapped)) ≡ false
  pub entered-free : is_memory (put 8005 (2 ∷ []) (put 8073 (5 ∷ []) swapped)) ≡ false
  pub entered-swap : is_memory (put 8005 (2 ∷ []) (put 8073 (37 ∷ []) swapped)) ≡ false
  -- with a number above 96
  pub entered-97 : is_memory (put 8005 (2 ∷ []) (put 8073 (97 ∷ []) swapped)) ≡ false
  -- frame 0 is missing, or frame 31, and a swap page stands there
  pub entered-first : is_memory (put 8072 (37 ∷ []) full_pages) ≡ false
  pub entered-last : is_memory (put 8103 (37 ∷ []) full_pages) ≡ false
  -- "each list has its rounded-up length": one frame too many, one too few
  pub list-too-long : is_memory (put 425 (6 ∷ []) (put 1164 (replicate 18 0) busy)) ≡ false
  pub list-too-short : is_memory (put 424 (2 ∷ 15 ∷ []) (put 1092 (replicate 18 0) sixteen)) ≡ false
  pub list-of-none :
      is_memory (put 3 (31 ∷ []) (put 195 (0 ∷ []) (put 650 (1 ∷ []) (put 660 (31 ∷ []) (put 8005 (1 ∷ []) (put 8072 (31 ∷ []) fresh)))))) ≡ false
  -- "flags are 0 or 1": atomic, pending, force, revoked
  pub atomic-two : is_memory (put 644 (2 ∷ []) fresh) ≡ false
  pub pending-two : is_memory (put 645 (2 ∷ []) fresh) ≡ false
  pub force-two : is_memory (put 646 (2 ∷ []) fresh) ≡ false
  pub revoked-two : is_memory (put 647 (2 ∷ []) fresh) ≡ false
  pub atomic-two-first : is_memory (put 196 (2 ∷ []) fresh) ≡ false
  pub pending-two-last : is_memory (put 981 (2 ∷ []) fresh) ≡ false
  -- "unused places of the queue .. are 0": the first word behind the messages, its length, the last word of the last place
  pub queue-unused : is_memory (put 34 (1 ∷ []) busy) ≡ false
  pub queue-unused-length : is_memory (put 35 (1 ∷ []) busy) ≡ false
  pub queue-unused-last : is_memory (put 163 (1 ∷ []) busy) ≡ false
  -- of the "free line"
  pub free-unused : is_memory (put 194 (1 ∷ []) busy) ≡ false
  pub free-unused-last : is_memory (put 195 (1 ∷ []) busy) ≡ false
  -- of the swap line: the first place of one that is empty, the last of one that has 63
  pub swap-unused : is_memory (put 8008 (1 ∷ []) full_pages) ≡ false
  pub swap-unused-last : is_memory (put 8071 (1 ∷ []) swapped) ≡ false
  -- the order of entry, "its unused places 0"
  pub entered-unused : is_memory (put 8073 (1 ∷ []) swapped) ≡ false
  pub entered-unused-last : is_memory (put 8103 (1 ∷ []) swapped) ≡ false
  -- of the "lists"
  pub list-unused : is_memory (put 438 (1 ∷ []) busy) ≡ false
  pub list-unused-first : is_memory (put 212 (1 ∷ []) busy) ≡ false
  pub list-unused-last : is_memory (put 1091 (1 ∷ []) busy) ≡ false
  -- "unused descriptor words"
  pub descriptor-unused : is_memory (put 206 (1 ∷ []) busy) ≡ false
  pub descriptor-unused-first : is_memory (put 988 (1 ∷ []) busy) ≡ false
  pub descriptor-unused-last : is_memory (put 995 (1 ∷ []) busy) ≡ false
  -- "a waiting message's words past its length are 0": in the queue, the head and the last; in a frame, the first and the last; in a swap page
  pub words-past : is_memory (put 7 (1 ∷ []) busy) ≡ false
  pub words-past-last : is_memory (put 33 (1 ∷ []) busy) ≡ false
  pub words-past-buffered : is_memory (put 1113 (1 ∷ []) busy) ≡ false
  pub words-past-buffered-last : is_memory (put 1181 (1 ∷ []) busy) ≡ false
  pub words-past-swapped : is_memory (put 3764 (1 ∷ []) swapped) ≡ false
  -- "Memory is no node (1) if a frame or swap page has a word or kept length other than 0 that is no part of a waiting message.": of a free frame the
  -- first kept length, and the last word; of a free swap page
  pub free-frame-length : is_memory (put 1236 (1 ∷ []) busy) ≡ false
  pub free-frame-word : is_memory (put 3395 (1 ∷ []) busy) ≡ false
  pub free-swap-length : is_memory (put 3396 (1 ∷ []) busy) ≡ false
  pub free-swap-word : is_memory (put 8003 (1 ∷ []) busy) ≡ false
  -- of the used-up places, and of those behind the last message
  pub used-up-length : is_memory (put 1092 (1 ∷ []) busy) ≡ false
  pub used-up-word : is_memory (put 1109 (1 ∷ []) busy) ≡ false
  pub behind-length : is_memory (put 1182 (1 ∷ []) busy) ≡ false
  pub behind-word : is_memory (put 1235 (1 ∷ []) busy) ≡ false
  -- in a swap page
  pub used-up-swapped : is_memory (put 3756 (1 ∷ []) first_swapped) ≡ false
  pub behind-swapped : is_memory (put 3827 (1 ∷ []) swapped) ≡ false
  -- "pledges sum to at most 32", which now reads 96: all pages full, and a message of the runner's queued
  pub pledges-97 : is_memory (put 0 (1 ∷ 0 ∷ 1 ∷ 0 ∷ 1 ∷ 1 ∷ 7 ∷ []) (put 196 (1 ∷ []) full_pages)) ≡ false
  -- "h is 0 where n is 0": group 5 with a frame for its one used-up place
  pub used-of-none :
      is_memory (put 3 (31 ∷ []) (put 195 (0 ∷ []) (put 648 (1 ∷ 0 ∷ 1 ∷ []) (put 660 (31 ∷ []) (put 8005 (1 ∷ []) (put 8072 (31 ∷ []) fresh)))))) ≡ false
  -- "pending only with atomic"
  pub pending-not-atomic : is_memory (put 420 (0 ∷ 1 ∷ 0 ∷ 0 ∷ []) busy) ≡ false
  pub pending-not-atomic-queued : is_memory (put 308 (0 ∷ 1 ∷ []) busy) ≡ false
  -- "force and revoked stand only with atomic": of a group that does not run, of the one that runs
  pub force-not-atomic : is_memory (put 646 (1 ∷ []) fresh) ≡ false
  pub revoked-not-atomic : is_memory (put 647 (1 ∷ []) fresh) ≡ false
  pub force-not-atomic-runner : is_memory (put 0 (8 ∷ []) (put 982 (1 ∷ []) fresh)) ≡ false
  pub revoked-not-atomic-runner : is_memory (put 0 (8 ∷ []) (put 983 (1 ∷ []) fresh)) ≡ false
  -- "and a line not empty": of the running group, of others
  pub pending-no-line-runner : is_memory (put 0 (5 ∷ []) (put 644 (1 ∷ 1 ∷ []) fresh)) ≡ false
  pub pending-no-line : is_memory (put 644 (1 ∷ 1 ∷ []) fresh) ≡ false
  pub pending-no-line-first : is_memory (put 196 (1 ∷ 1 ∷ []) fresh) ≡ false
  pub pending-no-line-last : is_memory (put 980 (1 ∷ 1 ∷ []) fresh) ≡ false
  -- "a running group with a line not empty is atomic": direct, and buffered
  pub runner-not-atomic : is_memory (put 196 (0 ∷ 0 ∷ []) busy) ≡ false
  pub runner-not-atomic-buffered : is_memory (put 0 (3 ∷ []) sixteen) ≡ false
  -- "if the hardware queue isn't empty its head is the running group's": nobody runs, another runs
  pub head-of-nobody : is_memory (put 0 (0 ∷ []) busy) ≡ false
  pub head-of-another : is_memory (put 0 (4 ∷ []) busy) ≡ false
  -- "and that group is direct": group 1 with a message in frame 31
  pub head-group-buffered :
      is_memory (put 3 (29 ∷ []) (put 193 (0 ∷ []) (put 201 (1 ∷ 1 ∷ []) (put 212 (31 ∷ []) (put 3324 (1 ∷ 5 ∷ []) (put 8005 (3 ∷ []) (put 8074 (31 ∷ []) busy))))))) ≡ false
  -- a revoked group "counts as buffered, empty or not"
  pub head-group-revoked : is_memory (put 199 (1 ∷ []) busy) ≡ false
  -- a timer of 0 does not excuse it
  pub head-of-nobody-rested : is_memory (put 0 (0 ∷ 0 ∷ []) busy) ≡ false
  pub head-of-another-rested : is_memory (put 0 (4 ∷ 0 ∷ []) busy) ≡ false
  pub head-group-revoked-rested : is_memory (put 1 (0 ∷ []) (put 199 (1 ∷ []) busy)) ≡ false
  -- "if it is empty the timer is 0", now but for "where the running group has force on": nobody has, the runner has not, nobody runs, another runs
  pub timer-idle : is_memory (put 1 (1 ∷ []) fresh) ≡ false
  pub timer-force-off : is_memory (put 198 (0 ∷ []) forced) ≡ false
  pub timer-of-nobody : is_memory (put 0 (0 ∷ []) forced) ≡ false
  pub timer-of-another : is_memory (put 0 (2 ∷ []) forced) ≡ false
  -- "a running group's first page is in a frame"
  pub runner-swapped : is_memory (put 0 (3 ∷ []) (put 420 (1 ∷ []) first_swapped)) ≡ false

-- "the words of the head message as a part of the lent memory": where they begin, and how many they are
pub record HeadCases : Type 0 where
  -- from the queue's place
  pub head-direct : head_part (busy ++ (7 ∷ [])) ≡ record { start = 6; len = 1 }
  -- from a frame's: in the list's first, behind the used-up places
  pub head-buffered : head_part seven_used ≡ record { start = 1228; len = 8 }
  pub head-words : head_words seven_used ≡ replicate 8 16
  -- "the running group's first, an empty part if there is none": nobody runs, and group 3 has messages, or group 1; or a group with no line runs,
  -- which counts as buffered
  pub head-nobody : head_part first_swapped ≡ record { start = 0; len = 0 }
  pub head-nobodys : head_part nobodys ≡ record { start = 0; len = 0 }
  pub head-no-line : head_part forced ≡ record { start = 0; len = 0 }
  -- "or the memory is no node"
  pub head-no-node : head_part (put 1 (256 ∷ []) busy) ≡ record { start = 0; len = 0 }

-- "A separate call gives pages sent out and brought in so far"
pub record CountCases : Type 0 where
  pub counts-fresh : page_counts fresh ≡ record { out = 0; brought = 0 }
  pub counts-told : page_counts swapped ≡ record { out = 3; brought = 2 }
  -- zeros where the memory is no node
  pub counts-no-node : page_counts (put 1 (1 ∷ []) swapped) ≡ record { out = 0; brought = 0 }
