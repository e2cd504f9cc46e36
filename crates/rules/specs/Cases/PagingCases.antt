-- Order 1, swap space: which page is where, as words in memory after a script, from power-on or from a node of Case that has no free frame.
-- Addresses are docs/MEMORY.md's: the count of free frames is at 3 and the free line at 164; groups 1 to 5 have h, n and the count of their pages
-- from 200, 312, 424, 536 and 648 on, and their lists from 212, 324, 436, 548 and 660 on; frame 0 is at 1092, frame 1 at 1164, the first swap page,
-- number 32, at 3396; from 8004 on stand the counts of free swap pages, of frames in use, of pages sent out and of pages brought in, from 8008 on
-- the swap line, from 8072 on the order of entry. Assumes nothing.
use Rattle.std.specs.Prelude.{ℕ, ◌≡◌, [], ◌∷◌, ◌++◌, replicate}
use Rattle.rules.specs.Lists.{concat_map, up_from}
use Rattle.rules.specs.Node.{Node, with_paging}
use Rattle.rules.specs.Memory.{words}
use Rattle.rules.specs.Text.{bytes}
use Rattle.rules.specs.Cases.Case.{copies, memory_after, ◌holds◌, Leaves, kept, crowded, packed, LeavesFrom}

-- the node, with these counts of pages sent out and brought in
abbrev pub counting : ℕ → ℕ → Node → Node
counting out brought n = with_paging (record { swap = n.paging.swap; entered = n.paging.entered; out = out; brought = brought }) n

-- a new page
pub record SendCases : Type 0 where
  -- "A page needed when no frame is free": as long as one is, none is sent out, and the node is as Case says
  pub crowded-words : memory_after (copies 256 "A,2,7\n") ≡ words (crowded 32)
  pub packed-words : memory_after (bytes "A,2,5\n" ++ copies 248 "A,1,7\n") ≡ words (packed 1 (5 ∷ []))
  -- "sends out the page that has been in a frame longest": the one in frame 0, which the new page has now
  pub first_out : LeavesFrom (crowded 32) (bytes "A,2,7\n")
      (3 holds (0 ∷ [])
      ∷ 312 holds (0 ∷ 257 ∷ 33 ∷ [])
      ∷ 324 holds (32 ∷ up_from 1 31 ++ (0 ∷ 0 ∷ []))
      ∷ 8004 holds (63 ∷ 32 ∷ 1 ∷ 0 ∷ up_from 33 63 ++ (0 ∷ up_from 1 31 ++ (0 ∷ [])))
      ∷ [])
  -- "swap pages are taken .. in a line, as frames are"
  pub third-out : LeavesFrom (crowded 32) (copies 17 "A,2,7\n")
      (312 holds (0 ∷ 273 ∷ 35 ∷ [])
      ∷ 324 holds (32 ∷ 33 ∷ 34 ∷ up_from 3 29 ++ (0 ∷ 1 ∷ 2 ∷ 0 ∷ []))
      ∷ 8004 holds (61 ∷ 32 ∷ 3 ∷ 0 ∷ up_from 35 61 ++ (0 ∷ 0 ∷ 0 ∷ up_from 3 29 ++ (0 ∷ 1 ∷ 2 ∷ [])))
      ∷ [])
  -- "has been in a frame longest": group 2's page was written last, and is the first to go
  pub not-renewed-by-writing : LeavesFrom (packed 1 (5 ∷ [])) (bytes "A,2,6\nA,3,3\n")
      (212 holds (up_from 1 31 ++ (0 ∷ []))
      ∷ 312 holds (0 ∷ 2 ∷ 1 ∷ [])
      ∷ 324 holds (32 ∷ 0 ∷ [])
      ∷ 436 holds (0 ∷ 0 ∷ [])
      ∷ 8006 holds (1 ∷ 0 ∷ [])
      ∷ 8072 holds (up_from 1 31 ++ (0 ∷ []))
      ∷ [])
  -- and so it is after every operation of its own that changes nothing of its list of pages
  pub not-renewed-by-reading : LeavesFrom (packed 1 (5 ∷ 6 ∷ [])) (bytes "S,2\nM\nE,0\nB\nP,1\nL,0\nT,1\nD\nN\nS,2\nS,0\nA,3,3\n")
      (324 holds (32 ∷ 0 ∷ [])
      ∷ 436 holds (0 ∷ 0 ∷ [])
      ∷ 8072 holds (1 ∷ 2 ∷ [])
      ∷ [])
  -- "except the running group's first page": frame 0 is group 2's, which runs; frame 1 is sent out
  pub runner-spared : LeavesFrom (packed 1 (5 ∷ [])) (bytes "S,2\nA,3,3\n")
      (212 holds (32 ∷ up_from 2 30 ++ (0 ∷ []))
      ∷ 324 holds (0 ∷ 0 ∷ [])
      ∷ 436 holds (1 ∷ 0 ∷ [])
      ∷ 8072 holds (0 ∷ up_from 2 30 ++ (1 ∷ []))
      ∷ [])
  -- its second page is sent out
  pub second-not-spared : LeavesFrom (crowded 32) (bytes "S,2\nA,3,3\n")
      (324 holds (0 ∷ 32 ∷ up_from 2 30 ++ (0 ∷ []))
      ∷ 436 holds (1 ∷ 0 ∷ [])
      ∷ 8072 holds (0 ∷ up_from 2 30 ++ (1 ∷ []))
      ∷ [])
  -- and so is the first page of a group that does not run
  pub other-not-spared : LeavesFrom (crowded 32) (bytes "S,1\nA,3,3\n")
      (324 holds (32 ∷ up_from 1 31 ++ (0 ∷ []))
      ∷ 436 holds (0 ∷ 0 ∷ [])
      ∷ 8072 holds (up_from 1 31 ++ (0 ∷ []))
      ∷ [])
  -- whatever its flags: group 2 is atomic and pending, has force on and is revoked
  pub other-flags-not-spared : LeavesFrom (packed 1 (5 ∷ [])) (bytes "S,2\nB,1\nT,256\nS,3\nA,1,7\n")
      (308 holds (1 ∷ 1 ∷ 1 ∷ 1 ∷ [])
      ∷ 324 holds (32 ∷ 0 ∷ [])
      ∷ 8004 holds (63 ∷ 32 ∷ 1 ∷ 0 ∷ [])
      ∷ [])
  -- with nobody running the first page of group 1 goes too, and does not come back
  pub nobodys-first-not-spared : LeavesFrom (packed 0 []) (bytes "A,3,3\n")
      (212 holds (32 ∷ up_from 1 31 ++ (0 ∷ []))
      ∷ 436 holds (0 ∷ 0 ∷ [])
      ∷ 8004 holds (63 ∷ 32 ∷ 1 ∷ 0 ∷ [])
      ∷ [])
  -- "and the page being written" is the new one: the group's last page before it, full, goes
  pub own-last-not-spared : LeavesFrom (packed 1 (replicate 8 5)) (bytes "A,2,6\n")
      (324 holds (32 ∷ 0 ∷ 0 ∷ [])
      ∷ 8004 holds (63 ∷ 32 ∷ 1 ∷ 0 ∷ [])
      ∷ [])
  -- while S takes the processor nobody runs, and nobody's first page is spared: that of the new runner goes out for group 3's message, and comes in as
  -- S gives the processor
  pub new-runner-out-and-in : LeavesFrom (packed 1 (5 ∷ [])) (bytes "S,3\nA,3,3\nS,2\n")
      (212 holds (32 ∷ up_from 2 30 ++ (0 ∷ []))
      ∷ 324 holds (1 ∷ 0 ∷ [])
      ∷ 436 holds (0 ∷ 0 ∷ [])
      ∷ 8004 holds (63 ∷ 32 ∷ 2 ∷ 1 ∷ [])
      ∷ 8072 holds (up_from 2 30 ++ (0 ∷ 1 ∷ []))
      ∷ [])
  -- at a timeout the queue's messages need pages too
  pub timeout-sends : LeavesFrom (packed 1 (5 ∷ [])) (bytes "S,3\nB\nA,3,3\nA,4,4\nA,3,2\nT,256\n")
      (212 holds (33 ∷ up_from 2 30 ++ (0 ∷ []))
      ∷ 324 holds (32 ∷ 0 ∷ [])
      ∷ 424 holds (0 ∷ 2 ∷ 1 ∷ [])
      ∷ 436 holds (0 ∷ 0 ∷ [])
      ∷ 548 holds (1 ∷ 0 ∷ [])
      ∷ 8004 holds (62 ∷ 32 ∷ 2 ∷ 0 ∷ [])
      ∷ 8072 holds (up_from 2 30 ++ (0 ∷ 1 ∷ []))
      ∷ [])
  -- "Pages go whole": behind its used-up place the message, and the list names the swap page
  pub whole : LeavesFrom (packed 1 (5 ∷ 6 ∷ [])) (bytes "S,2\nD\nS,0\nA,1,7\n")
      (312 holds (1 ∷ 1 ∷ 1 ∷ [])
      ∷ 324 holds (32 ∷ 0 ∷ [])
      ∷ 3396 holds (replicate 9 0 ++ (kept 6 ++ replicate 54 0))
      ∷ [])

-- a page in swap that is needed
pub record BringCases : Type 0 where
  -- "A swapped-out page is brought in before it is written", here to frame 1, which is free: the whole page, and it is the last in the order of
  -- entry. The swap page joins the end of its line
  pub write-brings : LeavesFrom (packed 1 (5 ∷ [])) (bytes "A,1,7\nS,1\n" ++ (copies 8 "D\n" ++ bytes "S,0\nA,2,6\n"))
      (3 holds (0 ∷ [])
      ∷ 312 holds (0 ∷ 2 ∷ 1 ∷ [])
      ∷ 324 holds (1 ∷ 0 ∷ [])
      ∷ 1164 holds (kept 5 ++ (kept 6 ++ replicate 54 0))
      ∷ 8004 holds (64 ∷ 32 ∷ 1 ∷ 1 ∷ up_from 33 63 ++ (32 ∷ up_from 2 30 ++ (0 ∷ 1 ∷ [])))
      ∷ [])
  -- "freed in a line, as frames are": the next page sent out takes the front, number 33
  pub freed-to-the-end : LeavesFrom (packed 1 (5 ∷ [])) (bytes "A,1,7\nS,1\n" ++ (copies 8 "D\n" ++ bytes "S,0\nA,2,6\nA,3,3\n"))
      (212 holds (33 ∷ up_from 3 29 ++ (0 ∷ 0 ∷ []))
      ∷ 436 holds (2 ∷ 0 ∷ [])
      ∷ 8004 holds (63 ∷ 32 ∷ 2 ∷ 1 ∷ up_from 34 62 ++ (32 ∷ 0 ∷ up_from 3 29 ++ (0 ∷ 1 ∷ 2 ∷ [])))
      ∷ [])
  -- "exchanged with the one so chosen if no frame is free": "in an exchange the two trade places", whole; no swap page is taken or freed, and
  -- frame 1 is the last in the order of entry
  pub write-exchanges : LeavesFrom (packed 1 (5 ∷ [])) (bytes "A,1,7\nA,2,6\n")
      (3 holds (0 ∷ [])
      ∷ 212 holds (32 ∷ up_from 2 30 ++ (0 ∷ 0 ∷ []))
      ∷ 312 holds (0 ∷ 2 ∷ 1 ∷ [])
      ∷ 324 holds (1 ∷ 0 ∷ [])
      ∷ 1164 holds (kept 5 ++ (kept 6 ++ replicate 54 0))
      ∷ 3396 holds concat_map kept (replicate 8 7)
      ∷ 8004 holds (63 ∷ 32 ∷ 2 ∷ 1 ∷ up_from 33 63 ++ (0 ∷ up_from 2 30 ++ (0 ∷ 1 ∷ [])))
      ∷ [])
  -- "before it is written", its last place too
  pub last-place-written : LeavesFrom (packed 1 (replicate 7 5)) (bytes "A,1,7\nA,2,6\n")
      (212 holds (32 ∷ 2 ∷ 3 ∷ [])
      ∷ 312 holds (0 ∷ 8 ∷ 1 ∷ [])
      ∷ 324 holds (1 ∷ 0 ∷ [])
      ∷ 8004 holds (63 ∷ 32 ∷ 2 ∷ 1 ∷ [])
      ∷ [])
  -- the page is that of the place written, used-up places counted: behind three of them and seven messages it is the second
  pub written-behind-used : LeavesFrom (packed 2 (replicate 10 5)) (bytes "S,2\nD\nD\nD\nA,1,7\nA,2,6\n")
      (212 holds (32 ∷ 3 ∷ 4 ∷ [])
      ∷ 312 holds (3 ∷ 8 ∷ 2 ∷ [])
      ∷ 324 holds (0 ∷ 2 ∷ 0 ∷ [])
      ∷ 8004 holds (63 ∷ 32 ∷ 2 ∷ 1 ∷ [])
      ∷ [])
  -- a message that begins a page is not written to the one before it, which is full and stays in swap, whether its group runs or not
  pub last-stays-in-swap : LeavesFrom (packed 1 (replicate 8 5)) (bytes "A,1,7\nA,2,6\n")
      (212 holds (33 ∷ 2 ∷ 3 ∷ [])
      ∷ 312 holds (0 ∷ 9 ∷ 2 ∷ [])
      ∷ 324 holds (32 ∷ 1 ∷ 0 ∷ [])
      ∷ 8004 holds (62 ∷ 32 ∷ 2 ∷ 0 ∷ [])
      ∷ [])
  pub last-stays-as-it-runs : LeavesFrom (packed 2 (replicate 16 5)) (bytes "S,2\nA,1,7\nA,2,6\n")
      (212 holds (33 ∷ 3 ∷ 4 ∷ [])
      ∷ 312 holds (0 ∷ 17 ∷ 3 ∷ [])
      ∷ 324 holds (0 ∷ 32 ∷ 2 ∷ 0 ∷ [])
      ∷ 8004 holds (62 ∷ 32 ∷ 2 ∷ 0 ∷ [])
      ∷ [])
  -- the running group writes to its second page, in swap: its first is spared again, though it has been in a frame longest
  pub runner-writes : LeavesFrom (packed 2 (replicate 9 5)) (bytes "S,2\nA,1,7\nA,2,6\n")
      (212 holds (32 ∷ up_from 3 29 ++ (1 ∷ 0 ∷ []))
      ∷ 312 holds (0 ∷ 10 ∷ 2 ∷ [])
      ∷ 324 holds (0 ∷ 2 ∷ 0 ∷ [])
      ∷ 1236 holds (kept 5 ++ (kept 6 ++ replicate 54 0))
      ∷ 8072 holds (0 ∷ up_from 3 29 ++ (1 ∷ 2 ∷ []))
      ∷ [])
  -- with nobody running it is not: the first page of the group that is written to goes for its second
  pub own-first-not-spared : LeavesFrom (packed 2 (replicate 9 5)) (bytes "S,2\nA,1,7\nS,0\nA,2,6\n")
      (324 holds (32 ∷ 0 ∷ 0 ∷ [])
      ∷ 8004 holds (63 ∷ 32 ∷ 2 ∷ 1 ∷ [])
      ∷ [])
  -- "and, once settling is done, a running group's first page", with frame 1 free
  pub runner-brought : LeavesFrom (packed 1 (5 ∷ [])) (bytes "A,1,7\nS,1\n" ++ (copies 8 "D\n" ++ bytes "S,2\n"))
      (3 holds (0 ∷ [])
      ∷ 324 holds (1 ∷ 0 ∷ [])
      ∷ 1164 holds (kept 5 ++ replicate 63 0)
      ∷ 8004 holds (64 ∷ 32 ∷ 1 ∷ 1 ∷ up_from 33 63 ++ (32 ∷ up_from 2 30 ++ (0 ∷ 1 ∷ [])))
      ∷ [])
  -- and with none
  pub runner-exchanged : LeavesFrom (packed 1 (5 ∷ [])) (bytes "A,1,7\nS,2\n")
      (212 holds (32 ∷ up_from 2 30 ++ (0 ∷ 0 ∷ []))
      ∷ 324 holds (1 ∷ 0 ∷ [])
      ∷ 8004 holds (63 ∷ 32 ∷ 2 ∷ 1 ∷ up_from 33 63 ++ (0 ∷ up_from 2 30 ++ (0 ∷ 1 ∷ [])))
      ∷ [])
  -- an exchange needs no free swap page
  pub exchanged-full : LeavesFrom (crowded 96) (bytes "S,2\n")
      (324 holds (0 ∷ up_from 33 63 ++ (32 ∷ up_from 1 31))
      ∷ 8004 holds (0 ∷ 32 ∷ 65 ∷ 1 ∷ replicate 64 0 ++ (up_from 1 31 ++ (0 ∷ [])))
      ∷ [])
  -- "the page that has been in a frame longest", by its last entry: after an exchange into frame 1 the next to go is the page in frame 2
  pub renewed-by-exchange : LeavesFrom (crowded 32) (bytes "A,2,7\nS,2\nS,0\nA,1,5\n")
      (212 holds (2 ∷ 0 ∷ [])
      ∷ 324 holds (1 ∷ 32 ∷ 33 ∷ up_from 3 29 ++ (0 ∷ 0 ∷ []))
      ∷ 8004 holds (62 ∷ 32 ∷ 3 ∷ 1 ∷ up_from 34 62 ++ (0 ∷ 0 ∷ up_from 3 29 ++ (0 ∷ 1 ∷ 2 ∷ [])))
      ∷ [])
  -- of all pages: the one in frame 0, spared while its group ran, goes for group 1's
  pub longest-of-all : LeavesFrom (packed 1 (5 ∷ [])) (bytes "S,2\nA,3,3\nS,1\n")
      (212 holds (0 ∷ 2 ∷ 3 ∷ [])
      ∷ 324 holds (32 ∷ 0 ∷ [])
      ∷ 8004 holds (63 ∷ 32 ∷ 2 ∷ 1 ∷ [])
      ∷ [])
  -- "once settling is done": as S takes the processor group 3's message has frame 1, then, as S gives it, group 2's page is exchanged into frame 2
  pub after-settling : LeavesFrom (packed 1 (5 ∷ [])) (bytes "A,1,7\nS,3\nA,3,3\nS,2\n")
      (212 holds (33 ∷ 32 ∷ up_from 3 29 ++ (0 ∷ 0 ∷ []))
      ∷ 324 holds (2 ∷ 0 ∷ [])
      ∷ 436 holds (1 ∷ 0 ∷ [])
      ∷ 8004 holds (62 ∷ 32 ∷ 3 ∷ 1 ∷ up_from 34 62 ++ (0 ∷ 0 ∷ up_from 3 29 ++ (0 ∷ 1 ∷ 2 ∷ [])))
      ∷ [])
  -- "the page being written" is so no more: group 2's, written as S took the processor, goes for group 1's
  pub written-not-spared : Leaves (bytes "A,1,1\nA,5,5\nA,2,2\n" ++ (copies 233 "A,4,4\n" ++ bytes "S,3\nA,3,3\nA,2,9\nS,1\n"))
      (212 holds (2 ∷ 0 ∷ [])
      ∷ 312 holds (0 ∷ 2 ∷ 1 ∷ [])
      ∷ 324 holds (32 ∷ 0 ∷ [])
      ∷ 436 holds (1 ∷ 0 ∷ [])
      ∷ 548 holds (up_from 3 29 ++ (0 ∷ 0 ∷ []))
      ∷ 660 holds (33 ∷ 0 ∷ [])
      ∷ 8072 holds (up_from 3 29 ++ (0 ∷ 1 ∷ 2 ∷ []))
      ∷ [])
  -- "a running group's first page" after D: the seventh leaves the second page in swap, the eighth uses up the page before it, whose frame it has
  pub second-stays : LeavesFrom (crowded 32) (bytes "A,2,7\nS,2\n" ++ copies 7 "D\n")
      (312 holds (7 ∷ 250 ∷ 33 ∷ [])
      ∷ 324 holds (1 ∷ 32 ∷ up_from 2 30 ++ (0 ∷ 0 ∷ []))
      ∷ 8004 holds (63 ∷ 32 ∷ 2 ∷ 1 ∷ [])
      ∷ [])
  pub second-brought : LeavesFrom (crowded 32) (bytes "A,2,7\nS,2\n" ++ copies 8 "D\n")
      (3 holds (0 ∷ [])
      ∷ 312 holds (0 ∷ 249 ∷ 32 ∷ [])
      ∷ 324 holds (up_from 1 31 ++ (0 ∷ 0 ∷ []))
      ∷ 8004 holds (64 ∷ 32 ∷ 2 ∷ 2 ∷ up_from 33 63 ++ (32 ∷ up_from 2 30 ++ (0 ∷ 1 ∷ [])))
      ∷ [])
  -- with frame 3 free, the frame just freed, 2, joins the end of the line, and the page comes into the front
  pub into-the-front : LeavesFrom (packed 1 (2 ∷ 2 ∷ [])) (copies 16 "A,1,7\n" ++ (bytes "S,1\nS,2\nD\nD\nS,1\n" ++ copies 8 "D\n"))
      (3 holds (1 ∷ [])
      ∷ 164 holds (2 ∷ 0 ∷ [])
      ∷ 212 holds (3 ∷ 32 ∷ up_from 4 28 ++ (0 ∷ 1 ∷ 0 ∷ []))
      ∷ 8004 holds (63 ∷ 31 ∷ 4 ∷ 3 ∷ up_from 34 62 ++ (33 ∷ 0 ∷ up_from 4 28 ++ (0 ∷ 1 ∷ 3 ∷ 0 ∷ [])))
      ∷ [])
  -- a page that is neither written nor "a running group's first" stays in swap: frame 1 is free, and group 2 does not run
  pub not-before-needed : LeavesFrom (packed 1 (5 ∷ [])) (bytes "A,1,7\nS,1\n" ++ copies 8 "D\n")
      (3 holds (1 ∷ [])
      ∷ 164 holds (1 ∷ 0 ∷ [])
      ∷ 324 holds (32 ∷ 0 ∷ [])
      ∷ 8004 holds (63 ∷ 31 ∷ 1 ∷ 0 ∷ [])
      ∷ [])
  -- it runs, and it is its second page, whatever it asks
  pub later-stay-in-swap : LeavesFrom (packed 2 (replicate 9 5)) (bytes "S,2\nA,1,7\nA,3,1\nS,2\nM\nE,0\nB\nB,1\nP,1\nL,0\nT,1\nD\nN\n")
      (324 holds (0 ∷ 32 ∷ 0 ∷ [])
      ∷ 8004 holds (62 ∷ 32 ∷ 2 ∷ 0 ∷ [])
      ∷ [])
  -- the same with frames 3 and 4 free, and a message written to its third page
  pub no-page-moves : LeavesFrom (packed 3 (replicate 17 5)) (bytes "S,2\nA,1,7\nS,1\n" ++ (copies 16 "D\n" ++ bytes "S,2\nD\nM\nE,0\nB\nB,1\nP,1\nL,0\nT,1\nS,2\nN\nA,2,6\n"))
      (3 holds (2 ∷ [])
      ∷ 164 holds (3 ∷ 4 ∷ 0 ∷ [])
      ∷ 212 holds (5 ∷ 6 ∷ 7 ∷ [])
      ∷ 312 holds (1 ∷ 17 ∷ 3 ∷ [])
      ∷ 324 holds (0 ∷ 32 ∷ 2 ∷ 0 ∷ [])
      ∷ 8004 holds (63 ∷ 30 ∷ 1 ∷ 0 ∷ [])
      ∷ 8008 holds (33 ∷ 34 ∷ 35 ∷ [])
      ∷ 8072 holds (0 ∷ 2 ∷ 5 ∷ 6 ∷ [])
      ∷ [])

-- "pages sent out and brought in so far .. , each count staying at 4,294,967,295 once there"
pub record PageCountCases : Type 0 where
  -- the last number is reached by one page sent out, and stays with the next
  pub out_stays : LeavesFrom (counting 4294967294 5 (crowded 32)) (bytes "A,1,5\nA,3,5\n") (8006 holds (4294967295 ∷ 5 ∷ []) ∷ [])
  -- "an exchange is one of each"
  pub both-counted : LeavesFrom (counting 4294967294 4294967293 (crowded 64)) (bytes "S,2\n") (8006 holds (4294967295 ∷ 4294967294 ∷ []) ∷ [])
  -- both stay, in an exchange
  pub both-stay : LeavesFrom (counting 4294967295 4294967295 (crowded 64)) (bytes "S,2\n") (8006 holds (4294967295 ∷ 4294967295 ∷ []) ∷ [])
  -- and where a page is brought in with a frame free: group 2 uses up its first page, now in frame 0, and its next comes there
  pub brought-stays : LeavesFrom (counting 7 4294967295 (crowded 64)) (bytes "S,2\n" ++ copies 8 "D\n")
      (3 holds (0 ∷ []) ∷ 324 holds (0 ∷ 34 ∷ []) ∷ 8006 holds (8 ∷ 4294967295 ∷ []) ∷ [])
