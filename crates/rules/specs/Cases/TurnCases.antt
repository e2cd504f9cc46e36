-- Order 7, whose turn: C's value for every runner and every kind of mail, and that it changes nothing. Addresses are docs/MEMORY.md's: the running
-- group, the timer and the count of the queue are at 0, 1 and 2, group 1's flags from 196 on. What is told of C is in RunCases. Assumes nothing.
use Rattle.std.specs.Prelude.{ℕ, ◌≡◌, List, [], ◌∷◌, ◌++◌, map}
use Rattle.rules.specs.Lists.{up_from}
use Rattle.rules.specs.Turn.{turn_order}
use Rattle.rules.specs.Text.{bytes}
use Rattle.rules.specs.Cases.Case.{◌gives◌, Lists, memory_after, Stands, crowded, ListsFrom}

-- group 1 is in a section that force is on for, with a word in its descriptor; the timer stands at 9, and two groups' messages are queued
abbrev pub midway : List ℕ
midway = bytes "I,1\nP,5\nA,1,7\nA,2,5\nB,1\nT,9\n"

pub record TurnCases : Type 0 where
  -- "the first group after the running one, upward and round from 8 to 1, the running one last"; "With nobody running it starts at 1."
  pub orders : map turn_order (up_from 0 9)
      ≡ (1 ∷ 2 ∷ 3 ∷ 4 ∷ 5 ∷ 6 ∷ 7 ∷ 8 ∷ [])
      ∷ (2 ∷ 3 ∷ 4 ∷ 5 ∷ 6 ∷ 7 ∷ 8 ∷ 1 ∷ [])
      ∷ (3 ∷ 4 ∷ 5 ∷ 6 ∷ 7 ∷ 8 ∷ 1 ∷ 2 ∷ [])
      ∷ (4 ∷ 5 ∷ 6 ∷ 7 ∷ 8 ∷ 1 ∷ 2 ∷ 3 ∷ [])
      ∷ (5 ∷ 6 ∷ 7 ∷ 8 ∷ 1 ∷ 2 ∷ 3 ∷ 4 ∷ [])
      ∷ (6 ∷ 7 ∷ 8 ∷ 1 ∷ 2 ∷ 3 ∷ 4 ∷ 5 ∷ [])
      ∷ (7 ∷ 8 ∷ 1 ∷ 2 ∷ 3 ∷ 4 ∷ 5 ∷ 6 ∷ [])
      ∷ (8 ∷ 1 ∷ 2 ∷ 3 ∷ 4 ∷ 5 ∷ 6 ∷ 7 ∷ [])
      ∷ (1 ∷ 2 ∷ 3 ∷ 4 ∷ 5 ∷ 6 ∷ 7 ∷ 8 ∷ [])
      ∷ []
  -- every runner, nobody first and last, where groups 1, 4 and 8 have mail
  pub turn-every-runner : Lists
      ("A,1,1\n" gives "1,0,0,0,0,1\n"
      ∷ "A,4,4\n" gives "2,0,0,0,0,1\n"
      ∷ "A,8,8\n" gives "3,0,0,0,0,1\n"
      ∷ "C\n" gives "4,0,1,0,0,0\n"
      ∷ "S,1\n" gives "5,0,0,0,1,0\n"
      ∷ "C\n" gives "6,0,4,0,0,0\n"
      ∷ "S,2\n" gives "7,0,0,0,0,0\n"
      ∷ "C\n" gives "8,0,4,0,0,0\n"
      ∷ "S,3\n" gives "9,0,0,0,0,0\n"
      ∷ "C\n" gives "10,0,4,0,0,0\n"
      ∷ "S,4\n" gives "11,0,0,0,4,0\n"
      ∷ "C\n" gives "12,0,8,0,0,0\n"
      ∷ "S,5\n" gives "13,0,0,0,0,0\n"
      ∷ "C\n" gives "14,0,8,0,0,0\n"
      ∷ "S,6\n" gives "15,0,0,0,0,0\n"
      ∷ "C\n" gives "16,0,8,0,0,0\n"
      ∷ "S,7\n" gives "17,0,0,0,0,0\n"
      ∷ "C\n" gives "18,0,8,0,0,0\n"
      ∷ "S,8\n" gives "19,0,0,0,8,0\n"
      ∷ "C\n" gives "20,0,1,0,0,0\n"
      ∷ "O\n" gives "21,0,0,0,0,0\n"
      ∷ "C\n" gives "22,0,1,0,0,0\n"
      ∷ [])
  -- all groups have mail, later all but 8, 7 and 6
  pub all-have-mail : Lists
      ("A,1,1\n" gives "1,0,0,0,0,1\n"
      ∷ "A,2,2\n" gives "2,0,0,0,0,1\n"
      ∷ "A,3,3\n" gives "3,0,0,0,0,1\n"
      ∷ "A,4,4\n" gives "4,0,0,0,0,1\n"
      ∷ "A,5,5\n" gives "5,0,0,0,0,1\n"
      ∷ "A,6,6\n" gives "6,0,0,0,0,1\n"
      ∷ "A,7,7\n" gives "7,0,0,0,0,1\n"
      ∷ "A,8,8\n" gives "8,0,0,0,0,1\n"
      ∷ "C\n" gives "9,0,1,0,0,0\n"
      ∷ "S,1\n" gives "10,0,0,0,1,0\n"
      ∷ "C\n" gives "11,0,2,0,0,0\n"
      ∷ "S,4\n" gives "12,0,0,0,4,0\n"
      ∷ "C\n" gives "13,0,5,0,0,0\n"
      ∷ "S,7\n" gives "14,0,0,0,7,0\n"
      ∷ "C\n" gives "15,0,8,0,0,0\n"
      ∷ "S,8\n" gives "16,0,0,0,8,0\n"
      ∷ "C\n" gives "17,0,1,0,0,0\n"
      ∷ "D\n" gives "18,0,0,1,0,0\n"
      ∷ "C\n" gives "19,0,1,0,0,0\n"
      ∷ "S,7\n" gives "20,0,0,0,0,0\n"
      ∷ "C\n" gives "21,0,1,0,0,0\n"
      ∷ "D\n" gives "22,0,0,1,0,0\n"
      ∷ "C\n" gives "23,0,1,0,0,0\n"
      ∷ "S,6\n" gives "24,0,0,0,6,0\n"
      ∷ "D\n" gives "25,0,0,1,0,0\n"
      ∷ "C\n" gives "26,0,1,0,0,0\n"
      ∷ [])
  -- one has, whoever runs, and then none: "0 if there is none"
  pub one-has-mail : Lists
      ("A,5,1\n" gives "1,0,0,0,0,1\n"
      ∷ "C\n" gives "2,0,5,0,0,0\n"
      ∷ "S,1\n" gives "3,0,0,0,0,0\n"
      ∷ "C\n" gives "4,0,5,0,0,0\n"
      ∷ "S,4\n" gives "5,0,0,0,0,0\n"
      ∷ "C\n" gives "6,0,5,0,0,0\n"
      ∷ "S,5\n" gives "7,0,0,0,5,0\n"
      ∷ "C\n" gives "8,0,5,0,0,0\n"
      ∷ "S,6\n" gives "9,0,0,0,0,0\n"
      ∷ "C\n" gives "10,0,5,0,0,0\n"
      ∷ "S,8\n" gives "11,0,0,0,0,0\n"
      ∷ "C\n" gives "12,0,5,0,0,0\n"
      ∷ "S,5\n" gives "13,0,0,0,0,0\n"
      ∷ "D\n" gives "14,0,0,1,0,0\n"
      ∷ "C\n" gives "15,0,0,0,0,0\n"
      ∷ "S,8\n" gives "16,0,0,0,0,0\n"
      ∷ "C\n" gives "17,0,0,0,0,0\n"
      ∷ "O\n" gives "18,0,0,0,0,0\n"
      ∷ "C\n" gives "19,0,0,0,0,0\n"
      ∷ [])
  -- at power-on
  pub none-has-mail : Lists
      ("C\n" gives "1,0,0,0,0,0\n"
      ∷ [])
  -- "the running one last"
  pub own-last : Lists
      ("S,4\n" gives "1,0,0,0,0,0\n"
      ∷ "A,4,1\n" gives "2,0,0,0,4,0\n"
      ∷ "C\n" gives "3,0,4,0,0,0\n"
      ∷ "A,2,1\n" gives "4,0,0,0,0,0\n"
      ∷ "C\n" gives "5,0,2,0,0,0\n"
      ∷ "D\n" gives "6,0,0,0,0,1\n"
      ∷ "C\n" gives "7,0,2,0,0,0\n"
      ∷ "S,2\n" gives "8,0,0,0,2,0\n"
      ∷ "C\n" gives "9,0,2,0,0,0\n"
      ∷ [])
  -- mail is the line: messages of others in the hardware queue count, and are the same once buffered
  pub queued-of-others : Lists
      ("S,3\n" gives "1,0,0,0,0,0\n"
      ∷ "B\n" gives "2,0,0,0,0,0\n"
      ∷ "A,3,1\n" gives "3,0,0,0,0,0\n"
      ∷ "A,8,1\n" gives "4,0,0,0,0,0\n"
      ∷ "A,1,1\n" gives "5,0,0,0,0,0\n"
      ∷ "C\n" gives "6,0,8,0,0,0\n"
      ∷ "A,4,1\n" gives "7,0,0,0,0,0\n"
      ∷ "C\n" gives "8,0,4,0,0,0\n"
      ∷ "D\n" gives "9,0,0,0,0,3\n"
      ∷ "C\n" gives "10,0,4,0,0,0\n"
      ∷ "O\n" gives "11,0,0,0,0,0\n"
      ∷ "C\n" gives "12,0,1,0,0,0\n"
      ∷ [])
  -- mail in swap is mail: group 2's first page is out, and C brings none in
  pub mail-in-swap : ListsFrom (crowded 33)
      ("C\n" gives "1,0,2,0,0,0\n"
      ∷ "S,3\n" gives "2,0,0,0,0,0\n"
      ∷ "C\n" gives "3,0,2,0,0,0\n"
      ∷ [])
  -- a mark is no mail: a revoked group with an empty line has none
  pub revoked-is-no-mail : Lists
      ("S,1\n" gives "1,0,0,0,0,0\n"
      ∷ "B,1\n" gives "2,0,0,0,0,0\n"
      ∷ "T,256\n" gives "3,0,0,3,0,0\n"
      ∷ "C\n" gives "4,0,0,0,0,0\n"
      ∷ "S,2\n" gives "5,0,0,0,0,0\n"
      ∷ "C\n" gives "6,0,0,0,0,0\n"
      ∷ "A,1,7\n" gives "7,0,0,0,0,1\n"
      ∷ "C\n" gives "8,0,1,0,0,0\n"
      ∷ "S,1\n" gives "9,0,0,0,0,0\n"
      ∷ "C\n" gives "10,0,1,0,0,0\n"
      ∷ "D\n" gives "11,0,0,1,0,0\n"
      ∷ "C\n" gives "12,0,0,0,0,0\n"
      ∷ [])
  -- "C changes nothing": neither the timer, nor revoked, nor pending, as later reports tell
  pub changes-nothing : Lists
      ("S,1\n" gives "1,0,0,0,0,0\n"
      ∷ "B,1\n" gives "2,0,0,0,0,0\n"
      ∷ "T,200\n" gives "3,0,0,0,0,0\n"
      ∷ "C\n" gives "4,0,0,0,0,0\n"
      ∷ "T,55\n" gives "5,0,0,0,0,0\n"
      ∷ "C\n" gives "6,0,0,0,0,0\n"
      ∷ "T,1\n" gives "7,0,0,3,0,0\n"
      ∷ "C\n" gives "8,0,0,0,0,0\n"
      ∷ "A,1,7\n" gives "9,0,0,0,0,1\n"
      ∷ "C\n" gives "10,0,1,0,0,0\n"
      ∷ "D\n" gives "11,0,0,1,0,0\n"
      ∷ "C\n" gives "12,0,0,0,0,0\n"
      ∷ "N\n" gives "13,0,0,2,0,0\n"
      ∷ "C\n" gives "14,0,0,0,0,0\n"
      ∷ "A,1,8\n" gives "15,0,0,0,1,0\n"
      ∷ "C\n" gives "16,0,1,0,0,0\n"
      ∷ "N\n" gives "17,10,0,0,0,0\n"
      ∷ "C\n" gives "18,0,1,0,0,0\n"
      ∷ [])
  -- nor any word in memory: where those words are not all as at power-on
  pub midway-words : Stands midway 0 (1 ∷ 9 ∷ 2 ∷ 32 ∷ [])
  pub midway-flags : Stands midway 196 (1 ∷ 1 ∷ 1 ∷ 0 ∷ [])
  pub no-word-changed : memory_after (midway ++ bytes "C\n") ≡ memory_after midway
