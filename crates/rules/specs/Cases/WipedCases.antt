-- Order 3, wiped frames: what D and a page that goes leave in memory; what the memory test then asks is among the cases of the memory. Addresses are
-- docs/MEMORY.md's: the count of free frames is at 3 and the free line at 164; groups 1, 2 and 3 have h, n and the count of their pages from 200, 312 and
-- 424 on, and their lists from 212, 324 and 436 on; frame 0 is at 1092, frame 1 at 1164, the first swap page, number 32, at 3396; the swap line is at
-- 8008. Assumes nothing.
use Rattle.std.specs.Prelude.{[], ◌∷◌, ◌++◌, replicate}
use Rattle.rules.specs.Lists.{concat_map, up_from}
use Rattle.rules.specs.Text.{bytes}
use Rattle.rules.specs.Cases.Case.{copies, ◌holds◌, Leaves, kept, packed, LeavesFrom}

-- "Disposing of a message now leaves its place 0, kept length too"
pub record PlaceCases : Type 0 where
  -- the places of those that wait stay
  pub place-wiped : Leaves (bytes "A,3,5,6\nA,3,7\nA,3,8,9\nS,3\nD\n")
      (424 holds (1 ∷ 2 ∷ 1 ∷ [])
      ∷ 1092 holds (replicate 9 0 ++ (kept 7 ++ (2 ∷ 8 ∷ 9 ∷ replicate 51 0)))
      ∷ [])
  -- the next one's, behind it
  pub next-wiped : Leaves (bytes "A,3,5,6\nA,3,7\nA,3,8,9\nS,3\nD\nD\n")
      (424 holds (2 ∷ 1 ∷ 1 ∷ [])
      ∷ 1092 holds (replicate 18 0 ++ (2 ∷ 8 ∷ 9 ∷ replicate 51 0))
      ∷ [])
  -- the last message's, in the middle of its frame, which is free with it
  pub last-wiped : Leaves (bytes "A,3,5,6\nA,3,7\nS,3\nD\nD\n")
      (3 holds (32 ∷ [])
      ∷ 164 holds (up_from 1 31 ++ (0 ∷ []))
      ∷ 424 holds (0 ∷ 0 ∷ 0 ∷ [])
      ∷ 1092 holds replicate 72 0
      ∷ [])
  -- the last of a frame, which is free with it, and the group's next page stays
  pub eighth-wiped : Leaves (copies 8 "A,3,5\n" ++ (bytes "A,3,9\nS,3\n" ++ copies 8 "D\n"))
      (164 holds (up_from 2 30 ++ (0 ∷ 0 ∷ []))
      ∷ 424 holds (0 ∷ 1 ∷ 1 ∷ [])
      ∷ 436 holds (1 ∷ 0 ∷ [])
      ∷ 1092 holds (replicate 72 0 ++ (kept 9 ++ replicate 63 0))
      ∷ [])
  -- frame 0, freed by group 2 and taken by group 1, has the new message and nothing of before
  pub taken-again : LeavesFrom (packed 1 (5 ∷ 6 ∷ [])) (bytes "S,2\nD\nD\nS,0\nA,1,3\n")
      (212 holds (up_from 1 31 ++ (0 ∷ 0 ∷ []))
      ∷ 1092 holds (kept 3 ++ replicate 63 0)
      ∷ [])

-- "a frame or swap page left by its page is wiped"
pub record LeftCases : Type 0 where
  -- sent out: frame 0 has nothing but the message of the new page, and the swap page has the whole page
  pub sent-out : LeavesFrom (packed 1 (5 ∷ 6 ∷ [])) (bytes "A,1,7\n")
      (324 holds (32 ∷ 0 ∷ [])
      ∷ 1092 holds (kept 7 ++ replicate 63 0)
      ∷ 3396 holds (kept 5 ++ (kept 6 ++ replicate 54 0))
      ∷ [])
  -- brought in before it is written, to frame 1, which is free: the swap page is 0, at the end of its line
  pub brought-in : LeavesFrom (packed 1 (5 ∷ [])) (bytes "A,1,7\nS,1\n" ++ (copies 8 "D\n" ++ bytes "S,0\nA,2,6\n"))
      (324 holds (1 ∷ 0 ∷ [])
      ∷ 1164 holds (kept 5 ++ (kept 6 ++ replicate 54 0))
      ∷ 3396 holds replicate 72 0
      ∷ 8008 holds (up_from 33 63 ++ (32 ∷ []))
      ∷ [])
  -- brought in as the running group's first page
  pub runner-brought-in : LeavesFrom (packed 1 (5 ∷ 6 ∷ [])) (bytes "A,1,7\nS,1\n" ++ (copies 8 "D\n" ++ bytes "S,2\n"))
      (324 holds (1 ∷ 0 ∷ [])
      ∷ 1164 holds (kept 5 ++ (kept 6 ++ replicate 54 0))
      ∷ 3396 holds replicate 72 0
      ∷ [])
  -- exchanged: each page comes to where the other was, whole, and nothing is left by its page
  pub exchanged : LeavesFrom (packed 1 (5 ∷ 6 ∷ [])) (bytes "A,1,7\nS,2\n")
      (212 holds (32 ∷ up_from 2 30 ++ (0 ∷ 0 ∷ []))
      ∷ 324 holds (1 ∷ 0 ∷ [])
      ∷ 1092 holds (kept 7 ++ (replicate 63 0 ++ (kept 5 ++ (kept 6 ++ replicate 54 0))))
      ∷ 3396 holds concat_map kept (replicate 8 7)
      ∷ [])
