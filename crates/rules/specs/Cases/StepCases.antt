-- S, T and M to L, settling and the upcall: each effect seen by a later report, or by words in memory, whose addresses are
-- docs/MEMORY.md's. Assumes nothing.
use Rattle.std.specs.Prelude.{[], ◌∷◌, ◌++◌, replicate}
use Rattle.rules.specs.Text.{bytes}
use Rattle.rules.specs.Cases.Case.{◌gives◌, Lists, Stands}

-- S, and settling
pub record ScheduleCases : Type 0 where
  -- "timer to 0": what comes for the new runner waits 256 ticks, whatever was counted before S
  pub schedule-timer : Lists
      ("S,1\n" gives "1,0,0,0,0,0\n"
      ∷ "A,1,7\n" gives "2,0,0,0,1,0\n"
      ∷ "A,2,5\n" gives "3,0,0,0,0,0\n"
      ∷ "T,255\n" gives "4,0,0,0,0,0\n"
      ∷ "S,3\n" gives "5,0,0,0,0,2\n"
      ∷ "A,3,6\n" gives "6,0,0,0,3,0\n"
      ∷ "T,255\n" gives "7,0,0,0,0,0\n"
      ∷ "T,1\n" gives "8,0,0,3,0,1\n"
      ∷ [])
  -- "To the one already running (or 0 to 0): changes nothing", the timer neither
  pub schedule-same : Lists
      ("S,0\n" gives "1,0,0,0,0,0\n"
      ∷ "S,1\n" gives "2,0,0,0,0,0\n"
      ∷ "A,1,7\n" gives "3,0,0,0,1,0\n"
      ∷ "T,255\n" gives "4,0,0,0,0,0\n"
      ∷ "S,1\n" gives "5,0,0,0,0,0\n"
      ∷ "T,1\n" gives "6,0,0,3,0,1\n"
      ∷ [])
  -- "0 to nobody": all that is queued moves, and nobody has a line
  pub schedule-nobody : Lists
      ("S,1\n" gives "1,0,0,0,0,0\n"
      ∷ "A,1,7\n" gives "2,0,0,0,1,0\n"
      ∷ "A,2,5\n" gives "3,0,0,0,0,0\n"
      ∷ "A,1,8\n" gives "4,0,0,0,0,0\n"
      ∷ "S,0\n" gives "5,0,0,0,0,3\n"
      ∷ "M\n" gives "6,7,0,0,0,0\n"
      ∷ "S,1\n" gives "7,0,0,0,0,0\n"
      ∷ "E,0\n" gives "8,0,7,0,0,0\n"
      ∷ "D\n" gives "9,0,0,1,0,0\n"
      ∷ "E,0\n" gives "10,0,8,0,0,0\n"
      ∷ "D\n" gives "11,0,0,1,0,0\n"
      ∷ "S,2\n" gives "12,0,0,0,2,0\n"
      ∷ "E,0\n" gives "13,0,5,0,0,0\n"
      ∷ [])
  -- a switch moves all that is queued, in order: where the new runner is buffered, its own behind those that wait already
  pub schedule-buffered : Lists
      ("A,2,1\n" gives "1,0,0,0,0,1\n"
      ∷ "S,1\n" gives "2,0,0,0,0,0\n"
      ∷ "A,1,7\n" gives "3,0,0,0,1,0\n"
      ∷ "A,2,2\n" gives "4,0,0,0,0,0\n"
      ∷ "A,3,9\n" gives "5,0,0,0,0,0\n"
      ∷ "A,2,3\n" gives "6,0,0,0,0,0\n"
      ∷ "S,2\n" gives "7,0,0,0,2,4\n"
      ∷ "E,0\n" gives "8,0,1,0,0,0\n"
      ∷ "D\n" gives "9,0,0,1,0,0\n"
      ∷ "E,0\n" gives "10,0,2,0,0,0\n"
      ∷ "D\n" gives "11,0,0,1,0,0\n"
      ∷ "E,0\n" gives "12,0,3,0,0,0\n"
      ∷ "D\n" gives "13,0,0,1,0,0\n"
      ∷ "S,3\n" gives "14,0,0,0,3,0\n"
      ∷ "E,0\n" gives "15,0,9,0,0,0\n"
      ∷ [])
  -- and where it is direct: none of its own stays, nor what stood behind it
  pub schedule-empties : Lists
      ("S,1\n" gives "1,0,0,0,0,0\n"
      ∷ "A,1,7\n" gives "2,0,0,0,1,0\n"
      ∷ "A,3,9\n" gives "3,0,0,0,0,0\n"
      ∷ "A,2,2\n" gives "4,0,0,0,0,0\n"
      ∷ "A,1,8\n" gives "5,0,0,0,0,0\n"
      ∷ "A,2,3\n" gives "6,0,0,0,0,0\n"
      ∷ "S,2\n" gives "7,0,0,0,2,5\n"
      ∷ "D\n" gives "8,0,0,1,0,0\n"
      ∷ "D\n" gives "9,0,0,1,0,0\n"
      ∷ "S,1\n" gives "10,0,0,0,0,0\n"
      ∷ "E,0\n" gives "11,0,7,0,0,0\n"
      ∷ "D\n" gives "12,0,0,1,0,0\n"
      ∷ "E,0\n" gives "13,0,8,0,0,0\n"
      ∷ "S,3\n" gives "14,0,0,0,3,0\n"
      ∷ "E,0\n" gives "15,0,9,0,0,0\n"
      ∷ [])
  -- "All survive the loss of the processor.": atomic
  pub atomic-survives : Lists
      ("S,1\n" gives "1,0,0,0,0,0\n"
      ∷ "B\n" gives "2,0,0,0,0,0\n"
      ∷ "S,2\n" gives "3,0,0,0,0,0\n"
      ∷ "S,1\n" gives "4,0,0,0,0,0\n"
      ∷ "A,1,7\n" gives "5,0,0,0,0,0\n"
      ∷ "N\n" gives "6,0,0,0,1,0\n"
      ∷ "S,2\n" gives "7,0,0,0,0,1\n"
      ∷ "A,2,7\n" gives "8,0,0,0,2,0\n"
      ∷ [])
  -- pending: no second upcall, and N is still refused
  pub pending-survives : Lists
      ("S,1\n" gives "1,0,0,0,0,0\n"
      ∷ "A,1,7\n" gives "2,0,0,0,1,0\n"
      ∷ "S,2\n" gives "3,0,0,0,0,1\n"
      ∷ "S,1\n" gives "4,0,0,0,0,0\n"
      ∷ "N\n" gives "5,10,0,0,0,0\n"
      ∷ "D\n" gives "6,0,0,1,0,0\n"
      ∷ "N\n" gives "7,0,0,0,0,0\n"
      ∷ [])
  -- and the descriptor, each group's its own
  pub descriptor-survives : Lists
      ("S,1\n" gives "1,0,0,0,0,0\n"
      ∷ "P,5\n" gives "2,0,1,0,0,0\n"
      ∷ "S,2\n" gives "3,0,0,0,0,0\n"
      ∷ "L,9\n" gives "4,12,0,0,0,0\n"
      ∷ "P,6\n" gives "5,0,1,0,0,0\n"
      ∷ "S,1\n" gives "6,0,0,0,0,0\n"
      ∷ "P,7\n" gives "7,0,2,0,0,0\n"
      ∷ "L,3\n" gives "8,0,2,0,0,0,3,1,5,7\n"
      ∷ "S,2\n" gives "9,0,0,0,0,0\n"
      ∷ "L,4\n" gives "10,0,1,0,0,0,4,2,6\n"
      ∷ [])
  -- "gives the processor to that group"
  pub running-word : Stands (bytes "S,1\nS,8\n") 0
      (8 ∷ 0 ∷ 0 ∷ 32 ∷ [])
  -- the upcall "becomes atomic and pending": the flags of group 8 as it runs
  pub flags-words : Stands (bytes "A,8,5\nS,8\n") 980
      (1 ∷ 1 ∷ 0 ∷ 0 ∷ 0 ∷ 1 ∷ 1 ∷ 0 ∷ [])
  -- and after it lost the processor; group 1, running with no line, has none
  pub flags-kept : Stands (bytes "A,8,5\nS,8\nS,1\n") 980
      (1 ∷ 1 ∷ 0 ∷ 0 ∷ 0 ∷ 1 ∷ 1 ∷ 0 ∷ [])
  -- nobody running, nobody is called: group 1 with a message has its flags off
  pub no-upcall-for-nobody : Stands (bytes "A,1,5\nS,0\n") 196
      (0 ∷ 0 ∷ 0 ∷ 0 ∷ 0 ∷ 1 ∷ 1 ∷ 0 ∷ [])

-- T
pub record TickCases : Type 0 where
  -- "A tick adds 1 to the timer", over several T
  pub ticks-add : Lists
      ("S,1\n" gives "1,0,0,0,0,0\n"
      ∷ "A,1,7\n" gives "2,0,0,0,1,0\n"
      ∷ "T,100\n" gives "3,0,0,0,0,0\n"
      ∷ "T,155\n" gives "4,0,0,0,0,0\n"
      ∷ "T,1\n" gives "5,0,0,3,0,1\n"
      ∷ "T,1\n" gives "6,0,0,0,0,0\n"
      ∷ [])
  -- "if the hardware queue isn't empty": ticks before the arrival do not count, nor those of a buffered group
  pub ticks-idle : Lists
      ("S,1\n" gives "1,0,0,0,0,0\n"
      ∷ "T,255\n" gives "2,0,0,0,0,0\n"
      ∷ "A,1,7\n" gives "3,0,0,0,1,0\n"
      ∷ "T,255\n" gives "4,0,0,0,0,0\n"
      ∷ "T,1\n" gives "5,0,0,3,0,1\n"
      ∷ "T,256\n" gives "6,0,0,0,0,0\n"
      ∷ "D\n" gives "7,0,0,1,0,0\n"
      ∷ "N\n" gives "8,0,0,2,0,0\n"
      ∷ "A,1,8\n" gives "9,0,0,0,1,0\n"
      ∷ "T,255\n" gives "10,0,0,0,0,0\n"
      ∷ "T,1\n" gives "11,0,0,3,0,1\n"
      ∷ [])
  -- with force off, ticks behind a timeout do not count, and there is one timeout in one T
  pub ticks-over : Lists
      ("S,1\n" gives "1,0,0,0,0,0\n"
      ∷ "A,1,7\n" gives "2,0,0,0,1,0\n"
      ∷ "T,300\n" gives "3,0,0,3,0,1\n"
      ∷ "D\n" gives "4,0,0,1,0,0\n"
      ∷ "N\n" gives "5,0,0,2,0,0\n"
      ∷ "A,1,8\n" gives "6,0,0,0,1,0\n"
      ∷ "T,255\n" gives "7,0,0,0,0,0\n"
      ∷ "T,1\n" gives "8,0,0,3,0,1\n"
      ∷ "D\n" gives "9,0,0,1,0,0\n"
      ∷ "N\n" gives "10,0,0,2,0,0\n"
      ∷ "A,1,9\n" gives "11,0,0,0,1,0\n"
      ∷ "T,1000\n" gives "12,0,0,3,0,1\n"
      ∷ [])
  -- "n single ticks" are T's alone: behind 254 come M, E, P, L, B, S to the one running, A and N, and it takes two more to the timeout
  pub ticks-by-t-alone : Lists
      ("S,1\n" gives "1,0,0,0,0,0\n"
      ∷ "B\n" gives "2,0,0,0,0,0\n"
      ∷ "A,1,7\n" gives "3,0,0,0,0,0\n"
      ∷ "T,254\n" gives "4,0,0,0,0,0\n"
      ∷ "M\n" gives "5,0,1,0,0,0\n"
      ∷ "E,0\n" gives "6,0,7,0,0,0\n"
      ∷ "P,1\n" gives "7,0,1,0,0,0\n"
      ∷ "L,0\n" gives "8,0,1,0,0,0,0,1,1\n"
      ∷ "B\n" gives "9,0,0,0,0,0\n"
      ∷ "B,1\n" gives "10,0,0,0,0,0\n"
      ∷ "S,1\n" gives "11,0,0,0,0,0\n"
      ∷ "A,2,5\n" gives "12,0,0,0,0,0\n"
      ∷ "N\n" gives "13,0,0,0,1,0\n"
      ∷ "T,1\n" gives "14,0,0,0,0,0\n"
      ∷ "T,1\n" gives "15,0,0,3,0,2\n"
      ∷ [])
  -- "the whole hardware queue moves to the buffers", of all groups, and moved counts them; the section goes on
  pub timeout-all : Lists
      ("S,1\n" gives "1,0,0,0,0,0\n"
      ∷ "A,1,7\n" gives "2,0,0,0,1,0\n"
      ∷ "A,2,5\n" gives "3,0,0,0,0,0\n"
      ∷ "A,1,8\n" gives "4,0,0,0,0,0\n"
      ∷ "A,3,6\n" gives "5,0,0,0,0,0\n"
      ∷ "T,255\n" gives "6,0,0,0,0,0\n"
      ∷ "T,1\n" gives "7,0,0,3,0,4\n"
      ∷ "N\n" gives "8,10,0,0,0,0\n"
      ∷ "E,0\n" gives "9,0,7,0,0,0\n"
      ∷ "D\n" gives "10,0,0,1,0,0\n"
      ∷ "E,0\n" gives "11,0,8,0,0,0\n"
      ∷ "D\n" gives "12,0,0,1,0,0\n"
      ∷ "N\n" gives "13,0,0,2,0,0\n"
      ∷ "S,2\n" gives "14,0,0,0,2,0\n"
      ∷ "E,0\n" gives "15,0,5,0,0,0\n"
      ∷ "S,3\n" gives "16,0,0,0,3,0\n"
      ∷ "E,0\n" gives "17,0,6,0,0,0\n"
      ∷ [])
  -- the timer after 255 ticks
  pub timer-word : Stands (bytes "S,1\nA,1,7\nT,255\n") 0
      (1 ∷ 255 ∷ 1 ∷ 32 ∷ [])
  -- "At 256: timeout, .. timer 0", the queue empty and a frame taken, whatever ticks follow
  pub timeout-word : Stands (bytes "S,1\nA,1,7\nT,300\n") 0
      (1 ∷ 0 ∷ 0 ∷ 31 ∷ replicate 160 0)

-- M, E, B, N, P and L, and the upcall
pub record UserCases : Type 0 where
  -- M and E take nothing away and change nothing, direct and buffered
  pub poll-peek : Lists
      ("S,1\n" gives "1,0,0,0,0,0\n"
      ∷ "A,1,7,8\n" gives "2,0,0,0,1,0\n"
      ∷ "T,255\n" gives "3,0,0,0,0,0\n"
      ∷ "M\n" gives "4,0,2,0,0,0\n"
      ∷ "E,1\n" gives "5,0,8,0,0,0\n"
      ∷ "E,0\n" gives "6,0,7,0,0,0\n"
      ∷ "M\n" gives "7,0,2,0,0,0\n"
      ∷ "T,1\n" gives "8,0,0,3,0,1\n"
      ∷ "M\n" gives "9,0,2,0,0,0\n"
      ∷ "E,1\n" gives "10,0,8,0,0,0\n"
      ∷ "E,0\n" gives "11,0,7,0,0,0\n"
      ∷ "M\n" gives "12,0,2,0,0,0\n"
      ∷ "D\n" gives "13,0,0,1,0,0\n"
      ∷ "M\n" gives "14,0,0,0,0,0\n"
      ∷ [])
  -- B: "Not counted: two B and one N end the section"; it leaves pending on, and reports nothing
  pub begin-not-counted : Lists
      ("S,1\n" gives "1,0,0,0,0,0\n"
      ∷ "B\n" gives "2,0,0,0,0,0\n"
      ∷ "B\n" gives "3,0,0,0,0,0\n"
      ∷ "N\n" gives "4,0,0,0,0,0\n"
      ∷ "A,1,7\n" gives "5,0,0,0,1,0\n"
      ∷ "B\n" gives "6,0,0,0,0,0\n"
      ∷ "N\n" gives "7,10,0,0,0,0\n"
      ∷ "D\n" gives "8,0,0,0,0,0\n"
      ∷ "N\n" gives "9,0,0,0,0,0\n"
      ∷ [])
  -- N with a message left is followed by an upcall, once for each N
  pub end-again : Lists
      ("S,1\n" gives "1,0,0,0,0,0\n"
      ∷ "A,1,7\n" gives "2,0,0,0,1,0\n"
      ∷ "A,1,8\n" gives "3,0,0,0,0,0\n"
      ∷ "D\n" gives "4,0,0,0,0,0\n"
      ∷ "N\n" gives "5,0,0,0,1,0\n"
      ∷ "D\n" gives "6,0,0,0,0,0\n"
      ∷ "N\n" gives "7,0,0,0,0,0\n"
      ∷ [])
  -- "2 atomicity-extend, on N begun while buffered", with the upcall in one report; direct it has no trap
  pub end-extends : Lists
      ("A,1,7\n" gives "1,0,0,0,0,1\n"
      ∷ "A,1,8\n" gives "2,0,0,0,0,1\n"
      ∷ "S,1\n" gives "3,0,0,0,1,0\n"
      ∷ "D\n" gives "4,0,0,1,0,0\n"
      ∷ "N\n" gives "5,0,0,2,1,0\n"
      ∷ "D\n" gives "6,0,0,1,0,0\n"
      ∷ "N\n" gives "7,0,0,0,0,0\n"
      ∷ "A,1,9\n" gives "8,0,0,0,1,0\n"
      ∷ "D\n" gives "9,0,0,0,0,0\n"
      ∷ "N\n" gives "10,0,0,0,0,0\n"
      ∷ [])
  -- "accepted also when it is off", where it changes nothing
  pub end-off : Lists
      ("S,1\n" gives "1,0,0,0,0,0\n"
      ∷ "N\n" gives "2,0,0,0,0,0\n"
      ∷ "N\n" gives "3,0,0,0,0,0\n"
      ∷ "A,1,7\n" gives "4,0,0,0,1,0\n"
      ∷ [])
  -- a section is the running group's: another has its upcall
  pub own-section : Lists
      ("S,1\n" gives "1,0,0,0,0,0\n"
      ∷ "B\n" gives "2,0,0,0,0,0\n"
      ∷ "S,2\n" gives "3,0,0,0,0,0\n"
      ∷ "A,2,5\n" gives "4,0,0,0,2,0\n"
      ∷ "D\n" gives "5,0,0,0,0,0\n"
      ∷ "N\n" gives "6,0,0,0,0,0\n"
      ∷ "S,1\n" gives "7,0,0,0,0,0\n"
      ∷ "A,1,7\n" gives "8,0,0,0,0,0\n"
      ∷ "N\n" gives "9,0,0,0,1,0\n"
      ∷ [])
  -- an upcall comes once: not with the next message, nor while atomic
  pub upcall-once : Lists
      ("S,1\n" gives "1,0,0,0,0,0\n"
      ∷ "A,1,7\n" gives "2,0,0,0,1,0\n"
      ∷ "A,1,8\n" gives "3,0,0,0,0,0\n"
      ∷ "B\n" gives "4,0,0,0,0,0\n"
      ∷ "A,1,9\n" gives "5,0,0,0,0,0\n"
      ∷ "T,1\n" gives "6,0,0,0,0,0\n"
      ∷ "M\n" gives "7,0,1,0,0,0\n"
      ∷ [])
  -- P: "adds to the descriptor; value: its new length"; L: "stamped with the running group; value: its length; empties it"
  pub describe-launch : Lists
      ("S,3\n" gives "1,0,0,0,0,0\n"
      ∷ "P,7\n" gives "2,0,1,0,0,0\n"
      ∷ "P,8\n" gives "3,0,2,0,0,0\n"
      ∷ "P,9\n" gives "4,0,3,0,0,0\n"
      ∷ "L,63\n" gives "5,0,3,0,0,0,63,3,7,8,9\n"
      ∷ "L,63\n" gives "6,12,0,0,0,0\n"
      ∷ "P,1\n" gives "7,0,1,0,0,0\n"
      ∷ "L,0\n" gives "8,0,1,0,0,0,0,3,1\n"
      ∷ [])
  -- the descriptor in memory: its length, its words, 0 past them
  pub descriptor-words : Stands (bytes "S,3\nP,7\nP,8\nP,9\n") 420
      (replicate 7 0 ++ (3 ∷ 7 ∷ 8 ∷ 9 ∷ replicate 101 0))
  -- after L it is empty, its words 0
  pub descriptor-emptied : Stands (bytes "S,3\nP,7\nP,8\nP,9\nL,5\n") 420
      (replicate 112 0)
  -- B: atomic on, pending off
  pub begin-words : Stands (bytes "S,3\nB\n") 420
      (1 ∷ replicate 111 0)
  -- N: both off
  pub end-words : Stands (bytes "S,3\nB\nN\n") 420
      (replicate 112 0)
  -- after the upcall and D: atomic on, pending off
  pub dispose-words : Stands (bytes "S,3\nA,3,7\nD\n") 420
      (1 ∷ replicate 111 0)
