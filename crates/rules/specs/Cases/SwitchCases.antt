-- Order 5, two operations for S: O takes the processor, I gives it, and S is a line of these two acts. Each sentence of it and each of its readings is
-- seen by a later report or by words in memory. Addresses are docs/MEMORY.md's: the running group, the timer and the counts of the queue and of the
-- free frames are at 0, 1, 2 and 3; groups 1 to 3 have their lists of pages from 212, 324 and 436 on, and group 3 its flags, counts and descriptor from
-- 420 on; frame 0 is at 1092; the counts of pages sent out and brought in are at 8006. Which numbers refuse I is among the answers. Assumes nothing.
use Rattle.std.specs.Prelude.{ℕ, ◌≡◌, List, [], ◌∷◌, ◌++◌, map, replicate}
use Rattle.rules.specs.Lists.{up_from}
use Rattle.rules.specs.Build.{paper01}
use Rattle.rules.specs.Memory.{words}
use Rattle.rules.specs.Text.{bytes}
use Rattle.rules.specs.Script.{script_lines}
use Rattle.rules.specs.Run.{script_line, play}
use Rattle.rules.specs.Cases.Case.{◌gives◌, times, Lists, memory_after, Stands, ◌holds◌, Leaves, kept, packed, LeavesFrom}

-- O
pub record PreemptCases : Type 0 where
  -- O "takes it from whoever runs": then nobody does, and nobody has a line
  pub taken : Lists
      ("S,8\n" gives "1,0,0,0,0,0\n"
      ∷ "A,8,7\n" gives "2,0,0,0,8,0\n"
      ∷ "M\n" gives "3,0,1,0,0,0\n"
      ∷ "O\n" gives "4,0,0,0,0,1\n"
      ∷ "M\n" gives "5,7,0,0,0,0\n"
      ∷ "A,8,9\n" gives "6,0,0,0,0,1\n"
      ∷ [])
  -- "O zeroes the timer.", and the queue is empty
  pub taken-words : Stands (bytes "S,8\nA,8,7\nT,9\nO\n") 0
      (0 ∷ 0 ∷ 0 ∷ 31 ∷ replicate 160 0)
  -- the timer of a section that force is on for, too: as its group gets the processor again it begins at 0
  pub taken-forced : Lists
      ("I,1\n" gives "1,0,0,0,0,0\n"
      ∷ "B,1\n" gives "2,0,0,0,0,0\n"
      ∷ "T,200\n" gives "3,0,0,0,0,0\n"
      ∷ "O\n" gives "4,0,0,0,0,0\n"
      ∷ "I,1\n" gives "5,0,0,0,0,0\n"
      ∷ "T,56\n" gives "6,0,0,0,0,0\n"
      ∷ "T,199\n" gives "7,0,0,0,0,0\n"
      ∷ "T,1\n" gives "8,0,0,3,0,0\n"
      ∷ [])
  -- "(with nobody running, it changes nothing)": at power-on, with mail for somebody, and behind another O
  pub taken-from-nobody : Lists
      ("O\n" gives "1,0,0,0,0,0\n"
      ∷ "A,1,7\n" gives "2,0,0,0,0,1\n"
      ∷ "O\n" gives "3,0,0,0,0,0\n"
      ∷ "O\n" gives "4,0,0,0,0,0\n"
      ∷ "I,1\n" gives "5,0,0,0,1,0\n"
      ∷ "O\n" gives "6,0,0,0,0,0\n"
      ∷ "T,256\n" gives "7,0,0,0,0,0\n"
      ∷ "A,1,8\n" gives "8,0,0,0,0,1\n"
      ∷ "I,1\n" gives "9,0,0,0,0,0\n"
      ∷ "D\n" gives "10,0,0,1,0,0\n"
      ∷ "D\n" gives "11,0,0,1,0,0\n"
      ∷ "D\n" gives "12,8,0,0,0,0\n"
      ∷ "O\n" gives "13,0,0,0,0,0\n"
      ∷ "D\n" gives "14,7,0,0,0,0\n"
      ∷ [])
  -- no word in memory
  pub taken-from-nobody-words : memory_after (bytes "A,1,7\nO\n") ≡ memory_after (bytes "A,1,7\n")
  -- while O settles nobody runs: no head may stay, and the whole queue moves, of all groups, head first. Group 1's messages are in frame 0, group 2's in
  -- frame 1, group 3's in frame 2, each group's in its order
  pub taken-in-order : Leaves (bytes "I,1\nA,1,1\nA,2,2\nA,3,3\nA,2,4\nA,1,5\nO\n")
      (2 holds (0 ∷ 29 ∷ [])
      ∷ 212 holds (0 ∷ 0 ∷ [])
      ∷ 324 holds (1 ∷ 0 ∷ [])
      ∷ 436 holds (2 ∷ 0 ∷ [])
      ∷ 1092 holds (kept 1 ++ (kept 5 ++ (replicate 54 0 ++ (kept 2 ++ (kept 4 ++ (replicate 54 0 ++ (kept 3 ++ replicate 63 0)))))))
      ∷ [])
  -- sixteen messages, and the ones that come behind them
  pub taken-full : Lists
      ("I,1\n" gives "1,0,0,0,0,0\n"
      ∷ "B\n" gives "2,0,0,0,0,0\n"
      ∷ times 16 3 "A,1,7\n" ",0,0,0,0,0\n"
      ++ ("A,1,7\n" gives "19,5,0,0,0,0\n"
      ∷ "O\n" gives "20,0,0,0,0,16\n"
      ∷ "A,1,8\n" gives "21,0,0,0,0,1\n"
      ∷ "I,1\n" gives "22,0,0,0,0,0\n"
      ∷ "A,1,9\n" gives "23,0,0,0,0,1\n"
      ∷ times 18 24 "D\n" ",0,0,1,0,0\n"
      ++ ("D\n" gives "42,8,0,0,0,0\n"
      ∷ [])))
  -- nobody's first page is spared: group 2's, in frame 0, goes out for group 3's message, and stays out as long as nobody runs
  pub taken-none-spared : LeavesFrom (packed 1 (5 ∷ [])) (bytes "I,3\nA,3,3\nO\n")
      (212 holds (up_from 1 31 ++ (0 ∷ []))
      ∷ 324 holds (32 ∷ 0 ∷ [])
      ∷ 436 holds (0 ∷ 0 ∷ [])
      ∷ 8006 holds (1 ∷ 0 ∷ [])
      ∷ [])
  -- "All survive the loss of the processor.": atomic, pending, force, revoked and the descriptor, in memory
  pub taken-flags : Stands (bytes "A,3,7\nS,3\nP,5\nB,1\nT,256\nO\n") 420
      (1 ∷ 1 ∷ 1 ∷ 1 ∷ 0 ∷ 1 ∷ 1 ∷ 1 ∷ 5 ∷ replicate 7 0 ++ (0 ∷ 0 ∷ []))

-- I
pub record DispatchCases : Type 0 where
  -- "`I,g` gives it to g"
  pub given_word : Stands (bytes "I,8\n") 0
      (8 ∷ 0 ∷ 0 ∷ 32 ∷ [])
  -- a whole step: a group that has mail has its upcall with I, once, and what comes for it then is direct where its buffer is empty
  pub given-upcall : Lists
      ("A,1,7\n" gives "1,0,0,0,0,1\n"
      ∷ "A,2,8\n" gives "2,0,0,0,0,1\n"
      ∷ "I,1\n" gives "3,0,0,0,1,0\n"
      ∷ "D\n" gives "4,0,0,1,0,0\n"
      ∷ "N\n" gives "5,0,0,0,0,0\n"
      ∷ "O\n" gives "6,0,0,0,0,0\n"
      ∷ "I,2\n" gives "7,0,0,0,2,0\n"
      ∷ "O\n" gives "8,0,0,0,0,0\n"
      ∷ "I,2\n" gives "9,0,0,0,0,0\n"
      ∷ "D\n" gives "10,0,0,1,0,0\n"
      ∷ "N\n" gives "11,0,0,0,0,0\n"
      ∷ "O\n" gives "12,0,0,0,0,0\n"
      ∷ "I,1\n" gives "13,0,0,0,0,0\n"
      ∷ "A,1,9\n" gives "14,0,0,0,1,0\n"
      ∷ "N\n" gives "15,10,0,0,0,0\n"
      ∷ "O\n" gives "16,0,0,0,0,1\n"
      ∷ "I,1\n" gives "17,0,0,0,0,0\n"
      ∷ [])
  -- and its first page is brought in: the one that O sent out comes in to frame 1, from which group 1's goes
  pub given-brought : LeavesFrom (packed 1 (5 ∷ [])) (bytes "I,3\nA,3,3\nO\nI,2\n")
      (212 holds (32 ∷ up_from 2 30 ++ (0 ∷ []))
      ∷ 324 holds (1 ∷ 0 ∷ [])
      ∷ 436 holds (0 ∷ 0 ∷ [])
      ∷ 8006 holds (2 ∷ 1 ∷ [])
      ∷ [])
  -- what survives O survives I: the flags, which no other group's I touches, and each group's own descriptor
  pub given-flags : Stands (bytes "A,3,7\nS,3\nP,5\nB,1\nT,256\nO\nI,1\nO\nI,3\n") 420
      (1 ∷ 1 ∷ 1 ∷ 1 ∷ 0 ∷ 1 ∷ 1 ∷ 1 ∷ 5 ∷ replicate 7 0 ++ (0 ∷ 0 ∷ []))
  -- pending and the descriptor, by their answers
  pub given-again : Lists
      ("I,1\n" gives "1,0,0,0,0,0\n"
      ∷ "P,5\n" gives "2,0,1,0,0,0\n"
      ∷ "A,1,7\n" gives "3,0,0,0,1,0\n"
      ∷ "O\n" gives "4,0,0,0,0,1\n"
      ∷ "I,2\n" gives "5,0,0,0,0,0\n"
      ∷ "L,3\n" gives "6,12,0,0,0,0\n"
      ∷ "P,6\n" gives "7,0,1,0,0,0\n"
      ∷ "O\n" gives "8,0,0,0,0,0\n"
      ∷ "I,1\n" gives "9,0,0,0,0,0\n"
      ∷ "N\n" gives "10,10,0,0,0,0\n"
      ∷ "L,3\n" gives "11,0,1,0,0,0,3,1,5\n"
      ∷ "D\n" gives "12,0,0,1,0,0\n"
      ∷ "N\n" gives "13,0,0,0,0,0\n"
      ∷ "O\n" gives "14,0,0,0,0,0\n"
      ∷ "I,2\n" gives "15,0,0,0,0,0\n"
      ∷ "L,63\n" gives "16,0,1,0,0,0,63,2,6\n"
      ∷ [])
  -- revoked: it counts as buffered until N
  pub given-revoked : Lists
      ("S,1\n" gives "1,0,0,0,0,0\n"
      ∷ "B,1\n" gives "2,0,0,0,0,0\n"
      ∷ "T,256\n" gives "3,0,0,3,0,0\n"
      ∷ "O\n" gives "4,0,0,0,0,0\n"
      ∷ "I,1\n" gives "5,0,0,0,0,0\n"
      ∷ "A,1,7\n" gives "6,0,0,0,0,1\n"
      ∷ "O\n" gives "7,0,0,0,0,0\n"
      ∷ "I,2\n" gives "8,0,0,0,0,0\n"
      ∷ "I,1\n" gives "9,16,0,0,0,0\n"
      ∷ "O\n" gives "10,0,0,0,0,0\n"
      ∷ "I,1\n" gives "11,0,0,0,0,0\n"
      ∷ "N\n" gives "12,0,0,2,1,0\n"
      ∷ [])
  -- a refused I changes nothing: the messages are still queued, and one more tick is the timeout
  pub given-refused : Lists
      ("I,1\n" gives "1,0,0,0,0,0\n"
      ∷ "A,1,7\n" gives "2,0,0,0,1,0\n"
      ∷ "A,2,5\n" gives "3,0,0,0,0,0\n"
      ∷ "T,255\n" gives "4,0,0,0,0,0\n"
      ∷ "I,2\n" gives "5,16,0,0,0,0\n"
      ∷ "I,1\n" gives "6,16,0,0,0,0\n"
      ∷ "I,0\n" gives "7,14,0,0,0,0\n"
      ∷ "T,1\n" gives "8,0,0,3,0,2\n"
      ∷ [])

-- with five messages of three groups in the queue the processor goes from group 1 to 2, later to 3, and back to 1: each switch as one line, and as two
abbrev pub one_line : List ℕ
one_line = bytes "S,1\nA,1,1\nA,2,2\nA,3,3\nA,2,4\nA,1,5\nS,2\nM\nD\nD\nS,3\nD\nS,1\nD\n"

abbrev pub two_lines : List ℕ
two_lines = bytes "I,1\nA,1,1\nA,2,2\nA,3,3\nA,2,4\nA,1,5\nO\nI,2\nM\nD\nD\nO\nI,3\nD\nO\nI,1\nD\n"

-- S
pub record SwitchCases : Type 0 where
  -- S is "O, and I unless g is 0, with the moved counts summed"
  pub moved-summed : Lists
      ("S,1\n" gives "1,0,0,0,0,0\n"
      ∷ "A,1,1\n" gives "2,0,0,0,1,0\n"
      ∷ "A,2,2\n" gives "3,0,0,0,0,0\n"
      ∷ "A,3,3\n" gives "4,0,0,0,0,0\n"
      ∷ "A,2,4\n" gives "5,0,0,0,0,0\n"
      ∷ "A,1,5\n" gives "6,0,0,0,0,0\n"
      ∷ "S,2\n" gives "7,0,0,0,2,5\n"
      ∷ "M\n" gives "8,0,1,0,0,0\n"
      ∷ "D\n" gives "9,0,0,1,0,0\n"
      ∷ "D\n" gives "10,0,0,1,0,0\n"
      ∷ "S,3\n" gives "11,0,0,0,3,0\n"
      ∷ "D\n" gives "12,0,0,1,0,0\n"
      ∷ "S,1\n" gives "13,0,0,0,0,0\n"
      ∷ "D\n" gives "14,0,0,1,0,0\n"
      ∷ "D\n" gives "15,0,0,1,0,0\n"
      ∷ "D\n" gives "16,8,0,0,0,0\n"
      ∷ [])
  -- the same as two lines each: moved is O's, the upcall I's
  pub as-two-lines : Lists
      ("I,1\n" gives "1,0,0,0,0,0\n"
      ∷ "A,1,1\n" gives "2,0,0,0,1,0\n"
      ∷ "A,2,2\n" gives "3,0,0,0,0,0\n"
      ∷ "A,3,3\n" gives "4,0,0,0,0,0\n"
      ∷ "A,2,4\n" gives "5,0,0,0,0,0\n"
      ∷ "A,1,5\n" gives "6,0,0,0,0,0\n"
      ∷ "O\n" gives "7,0,0,0,0,5\n"
      ∷ "I,2\n" gives "8,0,0,0,2,0\n"
      ∷ "M\n" gives "9,0,1,0,0,0\n"
      ∷ "D\n" gives "10,0,0,1,0,0\n"
      ∷ "D\n" gives "11,0,0,1,0,0\n"
      ∷ "O\n" gives "12,0,0,0,0,0\n"
      ∷ "I,3\n" gives "13,0,0,0,3,0\n"
      ∷ "D\n" gives "14,0,0,1,0,0\n"
      ∷ "O\n" gives "15,0,0,0,0,0\n"
      ∷ "I,1\n" gives "16,0,0,0,0,0\n"
      ∷ "D\n" gives "17,0,0,1,0,0\n"
      ∷ "D\n" gives "18,0,0,1,0,0\n"
      ∷ "D\n" gives "19,8,0,0,0,0\n"
      ∷ [])
  -- and both leave the same words in memory
  pub same-words-left : memory_after one_line ≡ memory_after two_lines
  -- also where pages go out and come in
  pub same-pages-left :
      words (play paper01 (packed 1 (5 ∷ [])) (map script_line (script_lines (bytes "S,3\nA,3,3\nS,2\n")))).node
      ≡ words (play paper01 (packed 1 (5 ∷ [])) (map script_line (script_lines (bytes "I,3\nA,3,3\nO\nI,2\n")))).node
  -- "unless g is 0": S to nobody is O
  pub switch-to-nobody : Lists
      ("S,1\n" gives "1,0,0,0,0,0\n"
      ∷ "A,1,7\n" gives "2,0,0,0,1,0\n"
      ∷ "A,2,5\n" gives "3,0,0,0,0,0\n"
      ∷ "S,0\n" gives "4,0,0,0,0,2\n"
      ∷ "M\n" gives "5,7,0,0,0,0\n"
      ∷ "S,0\n" gives "6,0,0,0,0,0\n"
      ∷ "S,2\n" gives "7,0,0,0,2,0\n"
      ∷ "D\n" gives "8,0,0,1,0,0\n"
      ∷ "D\n" gives "9,8,0,0,0,0\n"
      ∷ "S,1\n" gives "10,0,0,0,0,0\n"
      ∷ "N\n" gives "11,10,0,0,0,0\n"
      ∷ "D\n" gives "12,0,0,1,0,0\n"
      ∷ "N\n" gives "13,0,0,0,0,0\n"
      ∷ [])
  -- with nobody running S is I
  pub switch-from-nobody : Lists
      ("A,1,7\n" gives "1,0,0,0,0,1\n"
      ∷ "A,2,8\n" gives "2,0,0,0,0,1\n"
      ∷ "S,2\n" gives "3,0,0,0,2,0\n"
      ∷ "E,0\n" gives "4,0,8,0,0,0\n"
      ∷ "D\n" gives "5,0,0,1,0,0\n"
      ∷ [])
  pub switch-from-nobody-words : memory_after (bytes "A,1,7\nA,2,8\nS,2\n") ≡ memory_after (bytes "A,1,7\nA,2,8\nI,2\n")
  -- "nothing if g already runs": the messages of both groups are still queued, and one more tick is the timeout
  pub switch-to-runner : Lists
      ("S,1\n" gives "1,0,0,0,0,0\n"
      ∷ "A,1,7\n" gives "2,0,0,0,1,0\n"
      ∷ "A,2,5\n" gives "3,0,0,0,0,0\n"
      ∷ "A,1,8\n" gives "4,0,0,0,0,0\n"
      ∷ "S,1\n" gives "5,0,0,0,0,0\n"
      ∷ "D\n" gives "6,0,0,0,0,1\n"
      ∷ "T,255\n" gives "7,0,0,0,0,0\n"
      ∷ "S,1\n" gives "8,0,0,0,0,0\n"
      ∷ "T,1\n" gives "9,0,0,3,0,1\n"
      ∷ [])
  -- no word in memory, and none where S is to nobody and nobody runs
  pub switch-to-runner-words : memory_after (bytes "S,1\nA,1,7\nA,2,5\nT,9\nS,1\n") ≡ memory_after (bytes "S,1\nA,1,7\nA,2,5\nT,9\n")
  pub switch-nobody-to-nobody : memory_after (bytes "A,1,7\nS,0\n") ≡ memory_after (bytes "A,1,7\n")
  -- the timer of a section that force is on for: S to the one running leaves it, a switch and back does not
  pub switch-forced : Lists
      ("S,1\n" gives "1,0,0,0,0,0\n"
      ∷ "B,1\n" gives "2,0,0,0,0,0\n"
      ∷ "T,200\n" gives "3,0,0,0,0,0\n"
      ∷ "S,1\n" gives "4,0,0,0,0,0\n"
      ∷ "T,55\n" gives "5,0,0,0,0,0\n"
      ∷ "S,2\n" gives "6,0,0,0,0,0\n"
      ∷ "S,1\n" gives "7,0,0,0,0,0\n"
      ∷ "T,255\n" gives "8,0,0,0,0,0\n"
      ∷ "T,1\n" gives "9,0,0,3,0,0\n"
      ∷ [])
  -- "above 8 it is refused as before": neither act is done, and the messages are still queued
  pub switch-refused : Lists
      ("S,1\n" gives "1,0,0,0,0,0\n"
      ∷ "A,1,7\n" gives "2,0,0,0,1,0\n"
      ∷ "A,2,5\n" gives "3,0,0,0,0,0\n"
      ∷ "S,9\n" gives "4,14,0,0,0,0\n"
      ∷ "D\n" gives "5,0,0,0,0,1\n"
      ∷ [])
