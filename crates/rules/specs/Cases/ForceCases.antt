-- Order 2, the forced timer: each sentence of it and each of its readings, seen by a later report or by words in memory. Addresses are
-- docs/MEMORY.md's: the running group, the timer and the count of the queue are at 0, 1 and 2, and groups 1 and 3 have their flags atomic,
-- pending, force and revoked from 196 and 420 on, and then h, n and the counts of their pages and of their descriptor. Assumes nothing.
use Rattle.std.specs.Prelude.{[], ◌∷◌, replicate}
use Rattle.rules.specs.Text.{bytes}
use Rattle.rules.specs.Cases.Case.{◌gives◌, Lists, Stands, ◌holds◌, Leaves, crowded, ListsFrom}

-- force, and the timer that it forces
pub record ForceCases : Type 0 where
  -- "times a section with no message waiting": with force on "ticks count with an empty queue too", 255 are no timeout, one more is
  pub force-counts : Lists
      ("S,1\n" gives "1,0,0,0,0,0\n"
      ∷ "B,1\n" gives "2,0,0,0,0,0\n"
      ∷ "T,255\n" gives "3,0,0,0,0,0\n"
      ∷ "T,1\n" gives "4,0,0,3,0,0\n"
      ∷ [])
  -- "`B,1` turns force on", and atomic, and nothing else
  pub force-words : Stands (bytes "S,3\nB,1\n") 420
      (1 ∷ 0 ∷ 1 ∷ 0 ∷ replicate 108 0)
  -- "turns force on": a second `B,1` does not turn it off
  pub begin-twice : Lists
      ("S,1\n" gives "1,0,0,0,0,0\n"
      ∷ "B,1\n" gives "2,0,0,0,0,0\n"
      ∷ "B,1\n" gives "3,0,0,0,0,0\n"
      ∷ "T,256\n" gives "4,0,0,3,0,0\n"
      ∷ [])
  -- "any other field on B is 2", before 7; leading zeros are read
  pub force-fields : Lists
      ("B,2\n" gives "1,2,0,0,0,0\n"
      ∷ "B,1\n" gives "2,7,0,0,0,0\n"
      ∷ "S,1\n" gives "3,0,0,0,0,0\n"
      ∷ "B,00\n" gives "4,0,0,0,0,0\n"
      ∷ "T,256\n" gives "5,0,0,0,0,0\n"
      ∷ "B,01\n" gives "6,0,0,0,0,0\n"
      ∷ "T,256\n" gives "7,0,0,3,0,0\n"
      ∷ "B,2\n" gives "8,2,0,0,0,0\n"
      ∷ "B,10\n" gives "9,2,0,0,0,0\n"
      ∷ "B,4294967295\n" gives "10,2,0,0,0,0\n"
      ∷ "B,1,1\n" gives "11,2,0,0,0,0\n"
      ∷ "B,\n" gives "12,2,0,0,0,0\n"
      ∷ "B,x\n" gives "13,2,0,0,0,0\n"
      ∷ "B,0000000001\n" gives "14,0,0,0,0,0\n"
      ∷ "B,00000000001\n" gives "15,2,0,0,0,0\n"
      ∷ [])
  -- "`B,0` and plain `B` leave it": on
  pub begin-leaves-on : Lists
      ("S,1\n" gives "1,0,0,0,0,0\n"
      ∷ "B,1\n" gives "2,0,0,0,0,0\n"
      ∷ "B\n" gives "3,0,0,0,0,0\n"
      ∷ "B,0\n" gives "4,0,0,0,0,0\n"
      ∷ "T,256\n" gives "5,0,0,3,0,0\n"
      ∷ [])
  -- and off
  pub begin-leaves-off : Lists
      ("S,1\n" gives "1,0,0,0,0,0\n"
      ∷ "B\n" gives "2,0,0,0,0,0\n"
      ∷ "B,0\n" gives "3,0,0,0,0,0\n"
      ∷ "T,256\n" gives "4,0,0,0,0,0\n"
      ∷ [])
  -- "an accepted N turns it off": the section that the next upcall begins has none
  pub end-turns-off : Lists
      ("S,1\n" gives "1,0,0,0,0,0\n"
      ∷ "B,1\n" gives "2,0,0,0,0,0\n"
      ∷ "N\n" gives "3,0,0,0,0,0\n"
      ∷ "T,256\n" gives "4,0,0,0,0,0\n"
      ∷ "A,1,7\n" gives "5,0,0,0,1,0\n"
      ∷ "D\n" gives "6,0,0,0,0,0\n"
      ∷ "T,256\n" gives "7,0,0,0,0,0\n"
      ∷ [])
  -- its word, and atomic's
  pub force-ended-words : Stands (bytes "S,3\nB,1\nN\n") 420
      (replicate 112 0)
  -- a refused one leaves it
  pub refused-end-force : Lists
      ("S,1\n" gives "1,0,0,0,0,0\n"
      ∷ "A,1,7\n" gives "2,0,0,0,1,0\n"
      ∷ "B,1\n" gives "3,0,0,0,0,0\n"
      ∷ "N\n" gives "4,10,0,0,0,0\n"
      ∷ "D\n" gives "5,0,0,0,0,0\n"
      ∷ "T,256\n" gives "6,0,0,3,0,0\n"
      ∷ [])
  -- and so do M, E, P, L and D
  pub force-until-n : Lists
      ("S,1\n" gives "1,0,0,0,0,0\n"
      ∷ "B,1\n" gives "2,0,0,0,0,0\n"
      ∷ "A,1,7\n" gives "3,0,0,0,0,0\n"
      ∷ "M\n" gives "4,0,1,0,0,0\n"
      ∷ "E,0\n" gives "5,0,7,0,0,0\n"
      ∷ "P,1\n" gives "6,0,1,0,0,0\n"
      ∷ "L,0\n" gives "7,0,1,0,0,0,0,1,1\n"
      ∷ "D\n" gives "8,0,0,0,0,0\n"
      ∷ "T,256\n" gives "9,0,0,3,0,0\n"
      ∷ [])
  -- none of which turns it on
  pub force-by-b-alone : Lists
      ("S,1\n" gives "1,0,0,0,0,0\n"
      ∷ "A,1,7\n" gives "2,0,0,0,1,0\n"
      ∷ "M\n" gives "3,0,1,0,0,0\n"
      ∷ "E,0\n" gives "4,0,7,0,0,0\n"
      ∷ "P,1\n" gives "5,0,1,0,0,0\n"
      ∷ "L,0\n" gives "6,0,1,0,0,0,0,1,1\n"
      ∷ "D\n" gives "7,0,0,0,0,0\n"
      ∷ "T,256\n" gives "8,0,0,0,0,0\n"
      ∷ [])
  -- "and the group running": that of another is nothing to the runner's section
  pub force-of-another : Lists
      ("S,1\n" gives "1,0,0,0,0,0\n"
      ∷ "B,1\n" gives "2,0,0,0,0,0\n"
      ∷ "S,2\n" gives "3,0,0,0,0,0\n"
      ∷ "B\n" gives "4,0,0,0,0,0\n"
      ∷ "T,256\n" gives "5,0,0,0,0,0\n"
      ∷ [])
  -- with nobody running no tick counts
  pub force-of-nobody : Lists
      ("S,1\n" gives "1,0,0,0,0,0\n"
      ∷ "B,1\n" gives "2,0,0,0,0,0\n"
      ∷ "S,0\n" gives "3,0,0,0,0,0\n"
      ∷ "T,256\n" gives "4,0,0,0,0,0\n"
      ∷ [])
  -- and the timer is 0
  pub nobodys-timer : Stands (bytes "S,1\nB,1\nS,0\nT,100\n") 0
      (0 ∷ 0 ∷ 0 ∷ 32 ∷ [])
  -- force is the group's: it survives "the loss of the processor"
  pub force-survives : Lists
      ("S,1\n" gives "1,0,0,0,0,0\n"
      ∷ "B,1\n" gives "2,0,0,0,0,0\n"
      ∷ "S,2\n" gives "3,0,0,0,0,0\n"
      ∷ "S,1\n" gives "4,0,0,0,0,0\n"
      ∷ "T,256\n" gives "5,0,0,3,0,0\n"
      ∷ [])
  -- "and settling leaves the timer": accepted steps with an empty queue, and refused ones, change nothing of it
  pub settling-leaves : Lists
      ("S,1\n" gives "1,0,0,0,0,0\n"
      ∷ "B,1\n" gives "2,0,0,0,0,0\n"
      ∷ "T,100\n" gives "3,0,0,0,0,0\n"
      ∷ "M\n" gives "4,0,0,0,0,0\n"
      ∷ "P,5\n" gives "5,0,1,0,0,0\n"
      ∷ "L,3\n" gives "6,0,1,0,0,0,3,1,5\n"
      ∷ "A,2,9\n" gives "7,0,0,0,0,1\n"
      ∷ "S,1\n" gives "8,0,0,0,0,0\n"
      ∷ "D\n" gives "9,8,0,0,0,0\n"
      ∷ "T,155\n" gives "10,0,0,0,0,0\n"
      ∷ "T,1\n" gives "11,0,0,3,0,0\n"
      ∷ [])
  -- nor does B, with any field
  pub begin-leaves-timer : Lists
      ("S,1\n" gives "1,0,0,0,0,0\n"
      ∷ "B,1\n" gives "2,0,0,0,0,0\n"
      ∷ "T,100\n" gives "3,0,0,0,0,0\n"
      ∷ "B\n" gives "4,0,0,0,0,0\n"
      ∷ "B,0\n" gives "5,0,0,0,0,0\n"
      ∷ "B,1\n" gives "6,0,0,0,0,0\n"
      ∷ "T,155\n" gives "7,0,0,0,0,0\n"
      ∷ "T,1\n" gives "8,0,0,3,0,0\n"
      ∷ [])
  -- it is one timer: a message that comes finds the ticks counted
  pub one-timer : Lists
      ("S,1\n" gives "1,0,0,0,0,0\n"
      ∷ "B,1\n" gives "2,0,0,0,0,0\n"
      ∷ "T,100\n" gives "3,0,0,0,0,0\n"
      ∷ "A,1,7\n" gives "4,0,0,0,0,0\n"
      ∷ "T,155\n" gives "5,0,0,0,0,0\n"
      ∷ "T,1\n" gives "6,0,0,3,0,1\n"
      ∷ [])
  -- D sets it to 0 as before
  pub dispose-sets-back : Lists
      ("S,1\n" gives "1,0,0,0,0,0\n"
      ∷ "B,1\n" gives "2,0,0,0,0,0\n"
      ∷ "A,1,7\n" gives "3,0,0,0,0,0\n"
      ∷ "T,200\n" gives "4,0,0,0,0,0\n"
      ∷ "D\n" gives "5,0,0,0,0,0\n"
      ∷ "T,56\n" gives "6,0,0,0,0,0\n"
      ∷ [])
  -- of a buffered message too
  pub dispose-sets-back-buffered : Lists
      ("A,1,7\n" gives "1,0,0,0,0,1\n"
      ∷ "S,1\n" gives "2,0,0,0,1,0\n"
      ∷ "B,1\n" gives "3,0,0,0,0,0\n"
      ∷ "T,200\n" gives "4,0,0,0,0,0\n"
      ∷ "D\n" gives "5,0,0,1,0,0\n"
      ∷ "T,56\n" gives "6,0,0,0,0,0\n"
      ∷ "T,200\n" gives "7,0,0,3,0,0\n"
      ∷ [])
  -- and of a revoked group
  pub dispose-sets-back-revoked : Lists
      ("S,1\n" gives "1,0,0,0,0,0\n"
      ∷ "B,1\n" gives "2,0,0,0,0,0\n"
      ∷ "T,256\n" gives "3,0,0,3,0,0\n"
      ∷ "A,1,7\n" gives "4,0,0,0,0,1\n"
      ∷ "T,200\n" gives "5,0,0,0,0,0\n"
      ∷ "D\n" gives "6,0,0,1,0,0\n"
      ∷ "T,56\n" gives "7,0,0,0,0,0\n"
      ∷ "T,200\n" gives "8,0,0,3,0,0\n"
      ∷ [])
  -- S to another sets it to 0, though that one has force on too
  pub schedule-sets-back : Lists
      ("S,2\n" gives "1,0,0,0,0,0\n"
      ∷ "B,1\n" gives "2,0,0,0,0,0\n"
      ∷ "S,1\n" gives "3,0,0,0,0,0\n"
      ∷ "B,1\n" gives "4,0,0,0,0,0\n"
      ∷ "T,200\n" gives "5,0,0,0,0,0\n"
      ∷ "S,2\n" gives "6,0,0,0,0,0\n"
      ∷ "T,56\n" gives "7,0,0,0,0,0\n"
      ∷ [])
  -- and so does a timeout, behind which it counts on
  pub timeout-sets-back : Lists
      ("S,1\n" gives "1,0,0,0,0,0\n"
      ∷ "B,1\n" gives "2,0,0,0,0,0\n"
      ∷ "T,256\n" gives "3,0,0,3,0,0\n"
      ∷ "T,255\n" gives "4,0,0,0,0,0\n"
      ∷ "T,1\n" gives "5,0,0,3,0,0\n"
      ∷ [])
  -- "n single ticks", all played: those behind a timeout count
  pub ticks-behind : Lists
      ("S,1\n" gives "1,0,0,0,0,0\n"
      ∷ "B,1\n" gives "2,0,0,0,0,0\n"
      ∷ "T,300\n" gives "3,0,0,3,0,0\n"
      ∷ "T,212\n" gives "4,0,0,3,0,0\n"
      ∷ [])
  -- several timeouts in one T: trap 3 once, moved summed
  pub several-timeouts : Lists
      ("S,1\n" gives "1,0,0,0,0,0\n"
      ∷ "B,1\n" gives "2,0,0,0,0,0\n"
      ∷ "A,1,7\n" gives "3,0,0,0,0,0\n"
      ∷ "A,2,5\n" gives "4,0,0,0,0,0\n"
      ∷ "T,600\n" gives "5,0,0,3,0,2\n"
      ∷ "T,167\n" gives "6,0,0,0,0,0\n"
      ∷ "T,1\n" gives "7,0,0,3,0,0\n"
      ∷ [])
  -- and the timer is the rest
  pub timer-rest : Leaves (bytes "S,1\nB,1\nA,1,7\nA,2,5\nT,600\n")
      (0 holds (1 ∷ 88 ∷ 0 ∷ []) ∷ 196 holds (1 ∷ 0 ∷ 1 ∷ 1 ∷ 0 ∷ 1 ∷ 1 ∷ 0 ∷ []) ∷ [])
  -- three timeouts, and one tick fewer than the next takes
  pub longest-rest : Stands (bytes "S,1\nB,1\nT,1023\n") 0
      (1 ∷ 255 ∷ 0 ∷ [])
  -- N with an empty queue: force is off, and so "If the queue is then empty, the timer is 0."
  pub end-rests-timer : Lists
      ("S,1\n" gives "1,0,0,0,0,0\n"
      ∷ "B,1\n" gives "2,0,0,0,0,0\n"
      ∷ "T,200\n" gives "3,0,0,0,0,0\n"
      ∷ "N\n" gives "4,0,0,0,0,0\n"
      ∷ "B,1\n" gives "5,0,0,0,0,0\n"
      ∷ "T,56\n" gives "6,0,0,0,0,0\n"
      ∷ [])
  -- its word
  pub rested-timer : Stands (bytes "S,1\nB,1\nT,200\nN\n") 0
      (1 ∷ 0 ∷ 0 ∷ [])
  -- with a message in the queue N leaves it
  pub end-keeps-timer : Lists
      ("S,1\n" gives "1,0,0,0,0,0\n"
      ∷ "B,1\n" gives "2,0,0,0,0,0\n"
      ∷ "A,1,7\n" gives "3,0,0,0,0,0\n"
      ∷ "D\n" gives "4,0,0,0,0,0\n"
      ∷ "A,1,8\n" gives "5,0,0,0,0,0\n"
      ∷ "T,100\n" gives "6,0,0,0,0,0\n"
      ∷ "N\n" gives "7,0,0,0,1,0\n"
      ∷ "T,156\n" gives "8,0,0,3,0,1\n"
      ∷ [])

-- revoked: "it counts as buffered, empty or not, until its next accepted N, which reports trap 2"
pub record RevokedCases : Type 0 where
  -- "At any timeout the running group is marked revoked": with force off too, and D does not end it
  pub any-timeout : Lists
      ("S,1\n" gives "1,0,0,0,0,0\n"
      ∷ "A,1,7\n" gives "2,0,0,0,1,0\n"
      ∷ "T,256\n" gives "3,0,0,3,0,1\n"
      ∷ "D\n" gives "4,0,0,1,0,0\n"
      ∷ "A,1,8\n" gives "5,0,0,0,0,1\n"
      ∷ "N\n" gives "6,0,0,2,1,0\n"
      ∷ "D\n" gives "7,0,0,1,0,0\n"
      ∷ "N\n" gives "8,0,0,0,0,0\n"
      ∷ "A,1,9\n" gives "9,0,0,0,1,0\n"
      ∷ "D\n" gives "10,0,0,0,0,0\n"
      ∷ [])
  -- its word, the buffer empty again
  pub revoked-words : Stands (bytes "S,3\nA,3,7\nT,256\nD\n") 420
      (1 ∷ 0 ∷ 0 ∷ 1 ∷ replicate 108 0)
  -- and after N
  pub revoked-ended : Stands (bytes "S,3\nA,3,7\nT,256\nD\nN\n") 420
      (replicate 112 0)
  -- a timeout that moves nothing marks it too
  pub nothing-moved : Stands (bytes "S,3\nB,1\nT,256\n") 420
      (1 ∷ 0 ∷ 1 ∷ 1 ∷ replicate 108 0)
  -- with an empty line D and E are still 8, and M is 0; N has trap 2 once
  pub revoked-empty : Lists
      ("S,1\n" gives "1,0,0,0,0,0\n"
      ∷ "B,1\n" gives "2,0,0,0,0,0\n"
      ∷ "T,256\n" gives "3,0,0,3,0,0\n"
      ∷ "D\n" gives "4,8,0,0,0,0\n"
      ∷ "E,0\n" gives "5,8,0,0,0,0\n"
      ∷ "M\n" gives "6,0,0,0,0,0\n"
      ∷ "N\n" gives "7,0,0,2,0,0\n"
      ∷ "N\n" gives "8,0,0,0,0,0\n"
      ∷ [])
  -- its pledge is its messages' as before: the last page is still there for another
  pub pledges-nothing : ListsFrom (crowded 95)
      ("S,1\n" gives "1,0,0,0,0,0\n"
      ∷ "B,1\n" gives "2,0,0,0,0,0\n"
      ∷ "T,256\n" gives "3,0,0,3,0,0\n"
      ∷ "A,3,7\n" gives "4,0,0,0,0,1\n"
      ∷ "A,1,7\n" gives "5,6,0,0,0,0\n"
      ∷ [])
  -- it counts as buffered for settling: its own messages move, in their order, and no upcall comes before N
  pub settles-own : Lists
      ("S,1\n" gives "1,0,0,0,0,0\n"
      ∷ "B,1\n" gives "2,0,0,0,0,0\n"
      ∷ "T,256\n" gives "3,0,0,3,0,0\n"
      ∷ "A,1,7\n" gives "4,0,0,0,0,1\n"
      ∷ "A,2,5\n" gives "5,0,0,0,0,1\n"
      ∷ "A,1,8\n" gives "6,0,0,0,0,1\n"
      ∷ "E,0\n" gives "7,0,7,0,0,0\n"
      ∷ "N\n" gives "8,0,0,2,1,0\n"
      ∷ "D\n" gives "9,0,0,1,0,0\n"
      ∷ "E,0\n" gives "10,0,8,0,0,0\n"
      ∷ "D\n" gives "11,0,0,1,0,0\n"
      ∷ "N\n" gives "12,0,0,0,0,0\n"
      ∷ [])
  -- a timeout marks a group that is buffered already
  pub buffered-already : Lists
      ("A,1,7\n" gives "1,0,0,0,0,1\n"
      ∷ "S,1\n" gives "2,0,0,0,1,0\n"
      ∷ "B,1\n" gives "3,0,0,0,0,0\n"
      ∷ "T,256\n" gives "4,0,0,3,0,0\n"
      ∷ "D\n" gives "5,0,0,1,0,0\n"
      ∷ "A,1,8\n" gives "6,0,0,0,0,1\n"
      ∷ "N\n" gives "7,0,0,2,1,0\n"
      ∷ [])
  -- and one that is revoked already
  pub revoked-already : Lists
      ("S,1\n" gives "1,0,0,0,0,0\n"
      ∷ "B,1\n" gives "2,0,0,0,0,0\n"
      ∷ "T,256\n" gives "3,0,0,3,0,0\n"
      ∷ "T,256\n" gives "4,0,0,3,0,0\n"
      ∷ "N\n" gives "5,0,0,2,0,0\n"
      ∷ "N\n" gives "6,0,0,0,0,0\n"
      ∷ [])
  -- B does not end it, with any field
  pub begin-leaves-revoked : Lists
      ("S,1\n" gives "1,0,0,0,0,0\n"
      ∷ "A,1,7\n" gives "2,0,0,0,1,0\n"
      ∷ "T,256\n" gives "3,0,0,3,0,1\n"
      ∷ "D\n" gives "4,0,0,1,0,0\n"
      ∷ "B\n" gives "5,0,0,0,0,0\n"
      ∷ "B,0\n" gives "6,0,0,0,0,0\n"
      ∷ "B,1\n" gives "7,0,0,0,0,0\n"
      ∷ "A,1,8\n" gives "8,0,0,0,0,1\n"
      ∷ [])
  -- nor do D, M, P, L, S to the one running, an arrival for another, or ticks
  pub nothing-ends-revoked : Lists
      ("S,1\n" gives "1,0,0,0,0,0\n"
      ∷ "A,1,7\n" gives "2,0,0,0,1,0\n"
      ∷ "T,256\n" gives "3,0,0,3,0,1\n"
      ∷ "D\n" gives "4,0,0,1,0,0\n"
      ∷ "M\n" gives "5,0,0,0,0,0\n"
      ∷ "P,1\n" gives "6,0,1,0,0,0\n"
      ∷ "L,0\n" gives "7,0,1,0,0,0,0,1,1\n"
      ∷ "S,1\n" gives "8,0,0,0,0,0\n"
      ∷ "A,2,9\n" gives "9,0,0,0,0,1\n"
      ∷ "T,1\n" gives "10,0,0,0,0,0\n"
      ∷ "A,1,8\n" gives "11,0,0,0,0,1\n"
      ∷ [])
  -- nor does a refused N
  pub refused-end-revoked : Lists
      ("S,1\n" gives "1,0,0,0,0,0\n"
      ∷ "A,1,7\n" gives "2,0,0,0,1,0\n"
      ∷ "T,256\n" gives "3,0,0,3,0,1\n"
      ∷ "N\n" gives "4,10,0,0,0,0\n"
      ∷ "D\n" gives "5,0,0,1,0,0\n"
      ∷ "A,1,8\n" gives "6,0,0,0,0,1\n"
      ∷ [])
  -- "the running group": group 2, whose message the timeout moved, is not
  pub runner-alone : Lists
      ("S,1\n" gives "1,0,0,0,0,0\n"
      ∷ "A,1,7\n" gives "2,0,0,0,1,0\n"
      ∷ "A,2,5\n" gives "3,0,0,0,0,0\n"
      ∷ "T,256\n" gives "4,0,0,3,0,2\n"
      ∷ "S,2\n" gives "5,0,0,0,2,0\n"
      ∷ "D\n" gives "6,0,0,1,0,0\n"
      ∷ "A,2,6\n" gives "7,0,0,0,0,0\n"
      ∷ "N\n" gives "8,0,0,0,2,0\n"
      ∷ [])
  -- nor where it is in a section of its own
  pub runner-alone-atomic : Lists
      ("S,2\n" gives "1,0,0,0,0,0\n"
      ∷ "B\n" gives "2,0,0,0,0,0\n"
      ∷ "S,1\n" gives "3,0,0,0,0,0\n"
      ∷ "A,1,7\n" gives "4,0,0,0,1,0\n"
      ∷ "A,2,5\n" gives "5,0,0,0,0,0\n"
      ∷ "T,256\n" gives "6,0,0,3,0,2\n"
      ∷ "S,2\n" gives "7,0,0,0,0,0\n"
      ∷ "D\n" gives "8,0,0,1,0,0\n"
      ∷ "N\n" gives "9,0,0,0,0,0\n"
      ∷ [])
  -- revoked is the group's: it survives "the loss of the processor"
  pub revoked-survives : Lists
      ("S,1\n" gives "1,0,0,0,0,0\n"
      ∷ "A,1,7\n" gives "2,0,0,0,1,0\n"
      ∷ "T,256\n" gives "3,0,0,3,0,1\n"
      ∷ "D\n" gives "4,0,0,1,0,0\n"
      ∷ "S,2\n" gives "5,0,0,0,0,0\n"
      ∷ "S,1\n" gives "6,0,0,0,0,0\n"
      ∷ "A,1,8\n" gives "7,0,0,0,0,1\n"
      ∷ "N\n" gives "8,0,0,2,1,0\n"
      ∷ [])
  -- a queued message of the revoked group has moved as it gets the processor, and its section goes on: no upcall
  pub schedule-revoked : Lists
      ("S,1\n" gives "1,0,0,0,0,0\n"
      ∷ "B,1\n" gives "2,0,0,0,0,0\n"
      ∷ "T,256\n" gives "3,0,0,3,0,0\n"
      ∷ "S,2\n" gives "4,0,0,0,0,0\n"
      ∷ "A,2,5\n" gives "5,0,0,0,2,0\n"
      ∷ "A,1,7\n" gives "6,0,0,0,0,0\n"
      ∷ "S,1\n" gives "7,0,0,0,0,2\n"
      ∷ "D\n" gives "8,0,0,1,0,0\n"
      ∷ [])
  -- both flags of a group that lost the processor
  pub timer-flags-kept : Stands (bytes "S,3\nB,1\nT,256\nS,1\nS,0\n") 420
      (1 ∷ 0 ∷ 1 ∷ 1 ∷ replicate 108 0)
