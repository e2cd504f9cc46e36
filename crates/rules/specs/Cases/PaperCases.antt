-- "Edges of queue, frame and timer": the paper's K cases, the other cases of that section and one for each misreading, as scripts with
-- their listings. Assumes nothing.
use Rattle.std.specs.Prelude.{[], ◌∷◌, ◌++◌}
use Rattle.rules.specs.Cases.Case.{◌gives◌, times, Lists, crowded, ListsFrom}

-- "The K cases are proved from the definitions as one collected table"
pub record CasesHold : Type 0 where
  -- K1: "the whole case"; "Line 8 of the whole case therefore now has trap 2."
  pub k1 : Lists
      ("S,1\n" gives "1,0,0,0,0,0\n"
      ∷ "A,1,7\n" gives "2,0,0,0,1,0\n"
      ∷ "A,2,5,6\n" gives "3,0,0,0,0,0\n"
      ∷ "N\n" gives "4,10,0,0,0,0\n"
      ∷ "E,0\n" gives "5,0,7,0,0,0\n"
      ∷ "T,256\n" gives "6,0,0,3,0,2\n"
      ∷ "D\n" gives "7,0,0,1,0,0\n"
      ∷ "N\n" gives "8,0,0,2,0,0\n"
      ∷ "S,2\n" gives "9,0,0,0,2,0\n"
      ∷ "M\n" gives "10,0,2,0,0,0\n"
      ∷ "D\n" gives "11,0,0,1,0,0\n"
      ∷ "P,9\n" gives "12,0,1,0,0,0\n"
      ∷ "L,3\n" gives "13,0,1,0,0,0,3,2,9\n"
      ∷ [])
  -- K2: "T,255: trap 0. T,1: trap 3, moved 1."
  pub k2 : Lists
      ("S,1\n" gives "1,0,0,0,0,0\n"
      ∷ "B\n" gives "2,0,0,0,0,0\n"
      ∷ "A,1,7\n" gives "3,0,0,0,0,0\n"
      ∷ "T,255\n" gives "4,0,0,0,0,0\n"
      ∷ "T,1\n" gives "5,0,0,3,0,1\n"
      ∷ [])
  -- K3: "16 times A,1,7: accepted; the next: 5."
  pub k3 : Lists
      ("S,1\n" gives "1,0,0,0,0,0\n"
      ∷ "B\n" gives "2,0,0,0,0,0\n"
      ∷ times 16 3 "A,1,7\n" ",0,0,0,0,0\n"
      ++ ("A,1,7\n" gives "19,5,0,0,0,0\n"
      ∷ []))
  -- K4: "upcall 2, moved 1; then D: trap 0.", and "Case K4 now has moved 2 on its `S,2` and trap 1 on its D". So S is not as it was: a switch
  -- empties the whole queue, and "the misreading that 01 shows by K4 falls away"
  pub k4 : Lists
      ("S,1\n" gives "1,0,0,0,0,0\n"
      ∷ "A,1,7\n" gives "2,0,0,0,1,0\n"
      ∷ "A,2,5\n" gives "3,0,0,0,0,0\n"
      ∷ "S,2\n" gives "4,0,0,0,2,2\n"
      ∷ "D\n" gives "5,0,0,1,0,0\n"
      ∷ [])
  -- K5: "B B N A,1,7: upcall 1."
  pub k5 : Lists
      ("S,1\n" gives "1,0,0,0,0,0\n"
      ∷ "B\n" gives "2,0,0,0,0,0\n"
      ∷ "B\n" gives "3,0,0,0,0,0\n"
      ∷ "N\n" gives "4,0,0,0,0,0\n"
      ∷ "A,1,7\n" gives "5,0,0,0,1,0\n"
      ∷ [])
  -- K6: "8 words accepted, E,7 read, E,8: 9; 9 words: 4."
  pub k6 : Lists
      ("S,1\n" gives "1,0,0,0,0,0\n"
      ∷ "A,1,11,12,13,14,15,16,17,18\n" gives "2,0,0,0,1,0\n"
      ∷ "E,7\n" gives "3,0,18,0,0,0\n"
      ∷ "E,8\n" gives "4,9,0,0,0,0\n"
      ∷ "A,1,1,2,3,4,5,6,7,8,9\n" gives "5,4,0,0,0,0\n"
      ∷ [])
  -- K7: "L,64 with an empty descriptor: 12; with one word: 13."
  pub k7 : Lists
      ("S,1\n" gives "1,0,0,0,0,0\n"
      ∷ "L,64\n" gives "2,12,0,0,0,0\n"
      ∷ "P,5\n" gives "3,0,1,0,0,0\n"
      ∷ "L,64\n" gives "4,13,0,0,0,0\n"
      ∷ "L,63\n" gives "5,0,1,0,0,0,63,1,5\n"
      ∷ [])
  -- K8: "D at power-on: 7; after S,1: 8."
  pub k8 : Lists
      ("D\n" gives "1,7,0,0,0,0\n"
      ∷ "S,1\n" gives "2,0,0,0,0,0\n"
      ∷ "D\n" gives "3,8,0,0,0,0\n"
      ∷ [])
  -- "Nobody runs: 256 times A,1,7 accepted, moved 1 each; the next: 6. S,1 D A,1,7: 6 again. After eight D in all: accepted, moved 1.", and
  -- "01's 256 arrivals become 768"
  pub full-frames : Lists
      (times 768 1 "A,1,7\n" ",0,0,0,0,1\n"
      ++ ("A,1,7\n" gives "769,6,0,0,0,0\n"
      ∷ "S,1\n" gives "770,0,0,0,1,0\n"
      ∷ "D\n" gives "771,0,0,1,0,0\n"
      ∷ "A,1,7\n" gives "772,6,0,0,0,0\n"
      ∷ times 7 773 "D\n" ",0,0,1,0,0\n"
      ++ ("A,1,7\n" gives "780,0,0,0,0,1\n"
      ∷ [])))
  -- "S,8 accepted, S,9: 14. T,65536: 15."
  pub limits : Lists
      ("S,8\n" gives "1,0,0,0,0,0\n"
      ∷ "S,9\n" gives "2,14,0,0,0,0\n"
      ∷ "T,65535\n" gives "3,0,0,0,0,0\n"
      ∷ "T,65536\n" gives "4,15,0,0,0,0\n"
      ∷ [])
  -- "Going back to direct while older messages are still buffered": what arrives for a buffered runner is buffered too
  pub older-buffered : Lists
      ("A,1,1\n" gives "1,0,0,0,0,1\n"
      ∷ "S,1\n" gives "2,0,0,0,1,0\n"
      ∷ "A,1,2\n" gives "3,0,0,0,0,1\n"
      ∷ "D\n" gives "4,0,0,1,0,0\n"
      ∷ "E,0\n" gives "5,0,2,0,0,0\n"
      ∷ "D\n" gives "6,0,0,1,0,0\n"
      ∷ "A,1,3\n" gives "7,0,0,0,0,0\n"
      ∷ [])
  -- "Ending the atomic section at a timeout. Only its hold on the hardware ends."
  pub section-goes-on : Lists
      ("S,1\n" gives "1,0,0,0,0,0\n"
      ∷ "B\n" gives "2,0,0,0,0,0\n"
      ∷ "A,1,7\n" gives "3,0,0,0,0,0\n"
      ∷ "T,256\n" gives "4,0,0,3,0,1\n"
      ∷ "A,1,8\n" gives "5,0,0,0,0,1\n"
      ∷ "N\n" gives "6,0,0,2,1,0\n"
      ∷ [])
  -- "Setting the timer back on N or B: a hog could then hold the queue for ever."
  pub timer-goes-on : Lists
      ("S,1\n" gives "1,0,0,0,0,0\n"
      ∷ "B\n" gives "2,0,0,0,0,0\n"
      ∷ "A,1,7\n" gives "3,0,0,0,0,0\n"
      ∷ "T,254\n" gives "4,0,0,0,0,0\n"
      ∷ "B\n" gives "5,0,0,0,0,0\n"
      ∷ "T,1\n" gives "6,0,0,0,0,0\n"
      ∷ "N\n" gives "7,0,0,0,1,0\n"
      ∷ "T,1\n" gives "8,0,0,3,0,1\n"
      ∷ [])
  -- "Counting frames only for what is buffered already: a later drain finds none.": one queued message takes the last page's pledge
  pub queued-pledged : ListsFrom (crowded 95)
      ("S,1\n" gives "1,0,0,0,0,0\n"
      ∷ "B\n" gives "2,0,0,0,0,0\n"
      ∷ "A,1,7\n" gives "3,0,0,0,0,0\n"
      ∷ "A,3,7\n" gives "4,6,0,0,0,0\n"
      ∷ "S,0\n" gives "5,0,0,0,0,1\n"
      ∷ [])
