-- "Who can cause a refusal": for each answer 2 to 16 the last that is accepted and the first that is refused, and which comes first.
-- Answer 1 is in MemoryCases. Assumes nothing.
use Rattle.std.specs.Prelude.{[], ◌∷◌, ◌++◌}
use Rattle.rules.specs.Cases.Case.{◌gives◌, times, Lists, crowded, ListsFrom}

-- the cases of each answer, in the paper's order
pub record AnswerCasesHold : Type 0 where
  -- "2: unknown operation or unreadable line. Next after 1, before all below.": before 3, 4, 7, 14, 15 and 16
  pub unreadable : Lists
      ("R\n" gives "1,2,0,0,0,0\n"
      ∷ "X,1\n" gives "2,2,0,0,0,0\n"
      ∷ "A,9,x\n" gives "3,2,0,0,0,0\n"
      ∷ "A,1,x\n" gives "4,2,0,0,0,0\n"
      ∷ "D,1\n" gives "5,2,0,0,0,0\n"
      ∷ "S,9,1\n" gives "6,2,0,0,0,0\n"
      ∷ "S,x\n" gives "7,2,0,0,0,0\n"
      ∷ "T,0,0\n" gives "8,2,0,0,0,0\n"
      ∷ "I,9,1\n" gives "9,2,0,0,0,0\n"
      ∷ "I,x\n" gives "10,2,0,0,0,0\n"
      ∷ "S,1\n" gives "11,0,0,0,0,0\n"
      ∷ "I,1,1\n" gives "12,2,0,0,0,0\n"
      ∷ [])
  -- "3: group not 1 to 8."
  pub bad-group : Lists
      ("A,0,7\n" gives "1,3,0,0,0,0\n"
      ∷ "A,1,7\n" gives "2,0,0,0,0,1\n"
      ∷ "A,8,7\n" gives "3,0,0,0,0,1\n"
      ∷ "A,9,7\n" gives "4,3,0,0,0,0\n"
      ∷ "A,4294967295,7\n" gives "5,3,0,0,0,0\n"
      ∷ [])
  -- "4: no words, or more than 8."
  pub bad-words : Lists
      ("A,1\n" gives "1,4,0,0,0,0\n"
      ∷ "A,1,7\n" gives "2,0,0,0,0,1\n"
      ∷ "A,1,1,2,3,4,5,6,7,8\n" gives "3,0,0,0,0,1\n"
      ∷ "A,1,1,2,3,4,5,6,7,8,9\n" gives "4,4,0,0,0,0\n"
      ∷ "A,1,1,2,3,4,5,6,7,8,9,10\n" gives "5,4,0,0,0,0\n"
      ∷ [])
  -- "5: 16 messages already in the hardware queue.", "of all groups": sixteen of the eight groups, and room again after one has gone
  pub queue-full : Lists
      ("S,1\n" gives "1,0,0,0,0,0\n"
      ∷ "A,1,7\n" gives "2,0,0,0,1,0\n"
      ∷ "A,2,7\n" gives "3,0,0,0,0,0\n"
      ∷ "A,3,7\n" gives "4,0,0,0,0,0\n"
      ∷ "A,4,7\n" gives "5,0,0,0,0,0\n"
      ∷ "A,5,7\n" gives "6,0,0,0,0,0\n"
      ∷ "A,6,7\n" gives "7,0,0,0,0,0\n"
      ∷ "A,7,7\n" gives "8,0,0,0,0,0\n"
      ∷ "A,8,7\n" gives "9,0,0,0,0,0\n"
      ∷ times 7 10 "A,2,7\n" ",0,0,0,0,0\n"
      ++ ("A,1,7\n" gives "17,0,0,0,0,0\n"
      ∷ "A,8,7\n" gives "18,5,0,0,0,0\n"
      ∷ "A,1,7\n" gives "19,5,0,0,0,0\n"
      ∷ "D\n" gives "20,0,0,0,0,14\n"
      ∷ "A,1,7\n" gives "21,0,0,0,0,0\n"
      ∷ []))
  -- "The network, on A, in this order": 3 before 4, 5 and 6, 4 before 5 and 6, 5 before 6
  pub arrival-order : ListsFrom (crowded 94)
      ("A,0\n" gives "1,3,0,0,0,0\n"
      ∷ "A,9,1,2,3,4,5,6,7,8,9\n" gives "2,3,0,0,0,0\n"
      ∷ "S,1\n" gives "3,0,0,0,0,0\n"
      ∷ "B\n" gives "4,0,0,0,0,0\n"
      ∷ times 16 5 "A,1,7\n" ",0,0,0,0,0\n"
      ++ ("A,9,7\n" gives "21,3,0,0,0,0\n"
      ∷ "A,3\n" gives "22,4,0,0,0,0\n"
      ∷ "A,3,7\n" gives "23,5,0,0,0,0\n"
      ∷ "S,0\n" gives "24,0,0,0,0,16\n"
      ∷ "A,9,7\n" gives "25,3,0,0,0,0\n"
      ∷ "A,3\n" gives "26,4,0,0,0,0\n"
      ∷ "A,3,7\n" gives "27,6,0,0,0,0\n"
      ∷ []))
  -- "6: with this message the pledges would sum to above 32.", now 96: each pledge is rounded up by itself, that of group 1 as that of group 8
  pub frames-rounded : ListsFrom (crowded 89)
      ("A,1,7\n" gives "1,0,0,0,0,1\n"
      ∷ "A,3,7\n" gives "2,0,0,0,0,1\n"
      ∷ "A,4,7\n" gives "3,0,0,0,0,1\n"
      ∷ "A,5,7\n" gives "4,0,0,0,0,1\n"
      ∷ "A,6,7\n" gives "5,0,0,0,0,1\n"
      ∷ "A,7,7\n" gives "6,0,0,0,0,1\n"
      ∷ "A,8,7\n" gives "7,0,0,0,0,1\n"
      ∷ times 7 8 "A,1,7\n" ",0,0,0,0,1\n"
      ++ (times 7 15 "A,8,7\n" ",0,0,0,0,1\n"
      ++ ("A,1,7\n" gives "22,6,0,0,0,0\n"
      ∷ "A,8,7\n" gives "23,6,0,0,0,0\n"
      ∷ "A,2,7\n" gives "24,6,0,0,0,0\n"
      ∷ "A,7,7\n" gives "25,0,0,0,0,1\n"
      ∷ [])))
  -- "(h + n + k) / 8 rounded up": with 3 places used up of a group's one page, as many messages are accepted as its other places hold
  pub frames-used-up : ListsFrom (crowded 95)
      (times 5 1 "A,1,7\n" ",0,0,0,0,1\n"
      ++ ("S,1\n" gives "6,0,0,0,1,0\n"
      ∷ times 3 7 "D\n" ",0,0,1,0,0\n"
      ++ (times 3 10 "A,1,7\n" ",0,0,0,0,1\n"
      ++ ("A,1,7\n" gives "13,6,0,0,0,0\n"
      ∷ "A,2,7\n" gives "14,6,0,0,0,0\n"
      ∷ "D\n" gives "15,0,0,1,0,0\n"
      ∷ "A,1,7\n" gives "16,6,0,0,0,0\n"
      ∷ []))))
  -- with 7 places used up and one message: the next needs a second page, which is there once and then not
  pub frames-last-place : ListsFrom (crowded 94)
      (times 8 1 "A,1,7\n" ",0,0,0,0,1\n"
      ++ ("S,1\n" gives "9,0,0,0,1,0\n"
      ∷ times 7 10 "D\n" ",0,0,1,0,0\n"
      ++ (times 8 17 "A,1,7\n" ",0,0,0,0,1\n"
      ++ ("A,1,7\n" gives "25,6,0,0,0,0\n"
      ∷ "A,3,7\n" gives "26,6,0,0,0,0\n"
      ∷ []))))
  -- k is counted with h and n: seven buffered and one queued fill one page, with a second queued they are pledged two
  pub frames-queued : ListsFrom (crowded 94)
      (times 7 1 "A,3,7\n" ",0,0,0,0,1\n"
      ++ ("S,1\n" gives "8,0,0,0,0,0\n"
      ∷ "A,1,7\n" gives "9,0,0,0,1,0\n"
      ∷ "A,3,7\n" gives "10,0,0,0,0,0\n"
      ∷ "A,3,7\n" gives "11,6,0,0,0,0\n"
      ∷ "A,1,7\n" gives "12,0,0,0,0,0\n"
      ∷ "A,2,7\n" gives "13,6,0,0,0,0\n"
      ∷ []))
  -- "7: nobody runs; before all others here.": before 8, 12 and 13, and again after S,0, with mail for group 1
  pub nobody-runs : Lists
      ("M\n" gives "1,7,0,0,0,0\n"
      ∷ "E,0\n" gives "2,7,0,0,0,0\n"
      ∷ "D\n" gives "3,7,0,0,0,0\n"
      ∷ "B\n" gives "4,7,0,0,0,0\n"
      ∷ "N\n" gives "5,7,0,0,0,0\n"
      ∷ "P,1\n" gives "6,7,0,0,0,0\n"
      ∷ "L,0\n" gives "7,7,0,0,0,0\n"
      ∷ "L,64\n" gives "8,7,0,0,0,0\n"
      ∷ "S,1\n" gives "9,0,0,0,0,0\n"
      ∷ "M\n" gives "10,0,0,0,0,0\n"
      ∷ "B\n" gives "11,0,0,0,0,0\n"
      ∷ "N\n" gives "12,0,0,0,0,0\n"
      ∷ "P,1\n" gives "13,0,1,0,0,0\n"
      ∷ "L,0\n" gives "14,0,1,0,0,0,0,1,1\n"
      ∷ "S,0\n" gives "15,0,0,0,0,0\n"
      ∷ "A,1,7\n" gives "16,0,0,0,0,1\n"
      ∷ "M\n" gives "17,7,0,0,0,0\n"
      ∷ "E,0\n" gives "18,7,0,0,0,0\n"
      ∷ "D\n" gives "19,7,0,0,0,0\n"
      ∷ "B\n" gives "20,7,0,0,0,0\n"
      ∷ "N\n" gives "21,7,0,0,0,0\n"
      ∷ "P,1\n" gives "22,7,0,0,0,0\n"
      ∷ "L,0\n" gives "23,7,0,0,0,0\n"
      ∷ [])
  -- A, S, O, I and T are refused by no number of the user's
  pub not-the-user : Lists
      ("A,1,7\n" gives "1,0,0,0,0,1\n"
      ∷ "T,1\n" gives "2,0,0,0,0,0\n"
      ∷ "S,0\n" gives "3,0,0,0,0,0\n"
      ∷ "O\n" gives "4,0,0,0,0,0\n"
      ∷ "I,1\n" gives "5,0,0,0,1,0\n"
      ∷ "O\n" gives "6,0,0,0,0,0\n"
      ∷ "S,1\n" gives "7,0,0,0,0,0\n"
      ∷ [])
  -- "8: D or E with an empty line.", for any i; M has its value 0
  pub no-message : Lists
      ("S,1\n" gives "1,0,0,0,0,0\n"
      ∷ "D\n" gives "2,8,0,0,0,0\n"
      ∷ "E,0\n" gives "3,8,0,0,0,0\n"
      ∷ "E,9\n" gives "4,8,0,0,0,0\n"
      ∷ "M\n" gives "5,0,0,0,0,0\n"
      ∷ "A,1,7\n" gives "6,0,0,0,1,0\n"
      ∷ "E,0\n" gives "7,0,7,0,0,0\n"
      ∷ "D\n" gives "8,0,0,0,0,0\n"
      ∷ "D\n" gives "9,8,0,0,0,0\n"
      ∷ "E,0\n" gives "10,8,0,0,0,0\n"
      ∷ "M\n" gives "11,0,0,0,0,0\n"
      ∷ [])
  -- the same of a line that is in the buffer; another group's messages are none of it
  pub no-message-buffered : Lists
      ("A,2,7\n" gives "1,0,0,0,0,1\n"
      ∷ "S,1\n" gives "2,0,0,0,0,0\n"
      ∷ "D\n" gives "3,8,0,0,0,0\n"
      ∷ "E,0\n" gives "4,8,0,0,0,0\n"
      ∷ "S,2\n" gives "5,0,0,0,2,0\n"
      ∷ "E,0\n" gives "6,0,7,0,0,0\n"
      ∷ "D\n" gives "7,0,0,1,0,0\n"
      ∷ "D\n" gives "8,8,0,0,0,0\n"
      ∷ "E,0\n" gives "9,8,0,0,0,0\n"
      ∷ [])
  -- "9: E with i not below the message's length."
  pub past-message : Lists
      ("S,1\n" gives "1,0,0,0,0,0\n"
      ∷ "A,1,7\n" gives "2,0,0,0,1,0\n"
      ∷ "E,0\n" gives "3,0,7,0,0,0\n"
      ∷ "E,1\n" gives "4,9,0,0,0,0\n"
      ∷ "E,4294967295\n" gives "5,9,0,0,0,0\n"
      ∷ "A,1,5,6,8\n" gives "6,0,0,0,0,0\n"
      ∷ "D\n" gives "7,0,0,0,0,0\n"
      ∷ "E,0\n" gives "8,0,5,0,0,0\n"
      ∷ "E,2\n" gives "9,0,8,0,0,0\n"
      ∷ "E,3\n" gives "10,9,0,0,0,0\n"
      ∷ [])
  -- the same of a message in the buffer: the length kept with it
  pub past-message-buffered : Lists
      ("A,1,5,6,8\n" gives "1,0,0,0,0,1\n"
      ∷ "A,1,9\n" gives "2,0,0,0,0,1\n"
      ∷ "S,1\n" gives "3,0,0,0,1,0\n"
      ∷ "E,2\n" gives "4,0,8,0,0,0\n"
      ∷ "E,3\n" gives "5,9,0,0,0,0\n"
      ∷ "D\n" gives "6,0,0,1,0,0\n"
      ∷ "E,0\n" gives "7,0,9,0,0,0\n"
      ∷ "E,1\n" gives "8,9,0,0,0,0\n"
      ∷ [])
  -- "10: N while pending."; after D, and where nothing was pending, it is accepted
  pub still-pending : Lists
      ("S,1\n" gives "1,0,0,0,0,0\n"
      ∷ "N\n" gives "2,0,0,0,0,0\n"
      ∷ "B\n" gives "3,0,0,0,0,0\n"
      ∷ "N\n" gives "4,0,0,0,0,0\n"
      ∷ "A,1,7\n" gives "5,0,0,0,1,0\n"
      ∷ "N\n" gives "6,10,0,0,0,0\n"
      ∷ "D\n" gives "7,0,0,0,0,0\n"
      ∷ "N\n" gives "8,0,0,0,0,0\n"
      ∷ "N\n" gives "9,0,0,0,0,0\n"
      ∷ "B\n" gives "10,0,0,0,0,0\n"
      ∷ "A,1,8\n" gives "11,0,0,0,0,0\n"
      ∷ "N\n" gives "12,0,0,0,1,0\n"
      ∷ "N\n" gives "13,10,0,0,0,0\n"
      ∷ [])
  -- refused while buffered it has no trap
  pub still-pending-buffered : Lists
      ("A,1,7\n" gives "1,0,0,0,0,1\n"
      ∷ "S,1\n" gives "2,0,0,0,1,0\n"
      ∷ "N\n" gives "3,10,0,0,0,0\n"
      ∷ "D\n" gives "4,0,0,1,0,0\n"
      ∷ "N\n" gives "5,0,0,0,0,0\n"
      ∷ [])
  -- "11: P with 8 words in the descriptor."; after L there is room again
  pub descriptor-full : Lists
      ("S,1\n" gives "1,0,0,0,0,0\n"
      ∷ "P,1\n" gives "2,0,1,0,0,0\n"
      ∷ "P,2\n" gives "3,0,2,0,0,0\n"
      ∷ "P,3\n" gives "4,0,3,0,0,0\n"
      ∷ "P,4\n" gives "5,0,4,0,0,0\n"
      ∷ "P,5\n" gives "6,0,5,0,0,0\n"
      ∷ "P,6\n" gives "7,0,6,0,0,0\n"
      ∷ "P,7\n" gives "8,0,7,0,0,0\n"
      ∷ "P,8\n" gives "9,0,8,0,0,0\n"
      ∷ "P,9\n" gives "10,11,0,0,0,0\n"
      ∷ "P,9\n" gives "11,11,0,0,0,0\n"
      ∷ "L,0\n" gives "12,0,8,0,0,0,0,1,1,2,3,4,5,6,7,8\n"
      ∷ "P,9\n" gives "13,0,1,0,0,0\n"
      ∷ [])
  -- "12: L with an empty descriptor; 13, after it: node above 63.", and a refused L keeps the descriptor
  pub descriptor-empty : Lists
      ("S,1\n" gives "1,0,0,0,0,0\n"
      ∷ "L,0\n" gives "2,12,0,0,0,0\n"
      ∷ "L,64\n" gives "3,12,0,0,0,0\n"
      ∷ "P,5\n" gives "4,0,1,0,0,0\n"
      ∷ "L,64\n" gives "5,13,0,0,0,0\n"
      ∷ "L,4294967295\n" gives "6,13,0,0,0,0\n"
      ∷ "L,63\n" gives "7,0,1,0,0,0,63,1,5\n"
      ∷ "L,63\n" gives "8,12,0,0,0,0\n"
      ∷ "L,64\n" gives "9,12,0,0,0,0\n"
      ∷ "P,6\n" gives "10,0,1,0,0,0\n"
      ∷ "L,0\n" gives "11,0,1,0,0,0,0,1,6\n"
      ∷ [])
  -- "14: S above 8."
  pub bad-schedule : Lists
      ("S,1\n" gives "1,0,0,0,0,0\n"
      ∷ "S,8\n" gives "2,0,0,0,0,0\n"
      ∷ "S,9\n" gives "3,14,0,0,0,0\n"
      ∷ "S,10\n" gives "4,14,0,0,0,0\n"
      ∷ "S,4294967295\n" gives "5,14,0,0,0,0\n"
      ∷ "S,0\n" gives "6,0,0,0,0,0\n"
      ∷ [])
  -- I: "14 for a group outside 1 to 8", whoever runs: 0 too
  pub bad-dispatch : Lists
      ("I,0\n" gives "1,14,0,0,0,0\n"
      ∷ "I,9\n" gives "2,14,0,0,0,0\n"
      ∷ "I,4294967295\n" gives "3,14,0,0,0,0\n"
      ∷ "I,8\n" gives "4,0,0,0,0,0\n"
      ∷ "I,0\n" gives "5,14,0,0,0,0\n"
      ∷ "I,9\n" gives "6,14,0,0,0,0\n"
      ∷ "I,4294967295\n" gives "7,14,0,0,0,0\n"
      ∷ "O\n" gives "8,0,0,0,0,0\n"
      ∷ "I,0\n" gives "9,14,0,0,0,0\n"
      ∷ "I,1\n" gives "10,0,0,0,0,0\n"
      ∷ [])
  -- "15: T with 0 or above 65,535."
  pub bad-ticks : Lists
      ("T,0\n" gives "1,15,0,0,0,0\n"
      ∷ "T,1\n" gives "2,0,0,0,0,0\n"
      ∷ "T,65535\n" gives "3,0,0,0,0,0\n"
      ∷ "T,65536\n" gives "4,15,0,0,0,0\n"
      ∷ "T,4294967295\n" gives "5,15,0,0,0,0\n"
      ∷ [])
  -- "16 when a group already runs, after 14 for a group outside 1 to 8": the one running too; with nobody running I is accepted
  pub already-runs : Lists
      ("I,1\n" gives "1,0,0,0,0,0\n"
      ∷ "I,1\n" gives "2,16,0,0,0,0\n"
      ∷ "I,2\n" gives "3,16,0,0,0,0\n"
      ∷ "I,8\n" gives "4,16,0,0,0,0\n"
      ∷ "I,0\n" gives "5,14,0,0,0,0\n"
      ∷ "I,9\n" gives "6,14,0,0,0,0\n"
      ∷ "S,8\n" gives "7,0,0,0,0,0\n"
      ∷ "I,1\n" gives "8,16,0,0,0,0\n"
      ∷ "O\n" gives "9,0,0,0,0,0\n"
      ∷ "I,1\n" gives "10,0,0,0,0,0\n"
      ∷ "S,0\n" gives "11,0,0,0,0,0\n"
      ∷ "I,8\n" gives "12,0,0,0,0,0\n"
      ∷ [])
