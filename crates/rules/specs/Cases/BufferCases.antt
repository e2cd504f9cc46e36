-- The hardware queue, the buffers and the frames, as A fills them and D empties them: each effect seen by a later report, or by words in
-- memory, whose addresses are docs/MEMORY.md's. Assumes nothing.
use Rattle.std.specs.Prelude.{[], ◌∷◌, ◌++◌, replicate}
use Rattle.rules.specs.Lists.{concat_map, up_from}
use Rattle.rules.specs.Text.{bytes}
use Rattle.rules.specs.Cases.Case.{◌gives◌, copies, Lists, Stands}

-- A, and how a message is moved to its buffer
pub record ArriveCases : Type 0 where
  -- "joins the hardware queue", "in order of arrival"
  pub arrive-order : Lists
      ("S,1\n" gives "1,0,0,0,0,0\n"
      ∷ "A,1,7\n" gives "2,0,0,0,1,0\n"
      ∷ "A,1,8\n" gives "3,0,0,0,0,0\n"
      ∷ "A,1,9\n" gives "4,0,0,0,0,0\n"
      ∷ "E,0\n" gives "5,0,7,0,0,0\n"
      ∷ "D\n" gives "6,0,0,0,0,0\n"
      ∷ "E,0\n" gives "7,0,8,0,0,0\n"
      ∷ "D\n" gives "8,0,0,0,0,0\n"
      ∷ "E,0\n" gives "9,0,9,0,0,0\n"
      ∷ "D\n" gives "10,0,0,0,0,0\n"
      ∷ "M\n" gives "11,0,0,0,0,0\n"
      ∷ [])
  -- "that head moves to the end of its group's buffer"
  pub arrive-buffered-order : Lists
      ("A,1,7\n" gives "1,0,0,0,0,1\n"
      ∷ "A,1,8\n" gives "2,0,0,0,0,1\n"
      ∷ "A,1,9\n" gives "3,0,0,0,0,1\n"
      ∷ "S,1\n" gives "4,0,0,0,1,0\n"
      ∷ "E,0\n" gives "5,0,7,0,0,0\n"
      ∷ "D\n" gives "6,0,0,1,0,0\n"
      ∷ "E,0\n" gives "7,0,8,0,0,0\n"
      ∷ "D\n" gives "8,0,0,1,0,0\n"
      ∷ "E,0\n" gives "9,0,9,0,0,0\n"
      ∷ "D\n" gives "10,0,0,1,0,0\n"
      ∷ "M\n" gives "11,0,0,0,0,0\n"
      ∷ [])
  -- "The queue .. stand[s] head first": running, timer, counts, then the places, each with group, length and words; unused ones are 0
  pub queue-words : Stands (bytes "S,1\nB\nA,1,7\nA,2,8,9\nT,5\n") 0
      (1 ∷ 5 ∷ 2 ∷ 32 ∷ 1 ∷ 1 ∷ 7 ∷ replicate 7 0 ++ (2 ∷ 2 ∷ 8 ∷ 9 ∷ replicate 6 0 ++ replicate 140 0))
  -- a place that becomes unused is 0 whole, and the next message is the head
  pub queue-moves-up : Stands (bytes "S,1\nB\nA,1,7,7,7\nA,1,8\nD\n") 0
      (1 ∷ 0 ∷ 1 ∷ 32 ∷ 1 ∷ 1 ∷ 8 ∷ replicate 7 0 ++ replicate 150 0)
  -- "a list of frames, filled in order": frame 0, place after place, then frame 1
  pub frame-filled : Stands (bytes "A,3,1\nA,3,2\nA,3,3\nA,3,4\nA,3,5\nA,3,6\nA,3,7\nA,3,8,8\nA,3,1,2,3,4,5,6,7,8\n") 1092
      (concat_map (λ w. 1 ∷ w ∷ replicate 7 0) (up_from 1 7) ++ (2 ∷ 8 ∷ 8 ∷ replicate 6 0 ++ (8 ∷ 1 ∷ 2 ∷ 3 ∷ 4 ∷ 5 ∷ 6 ∷ 7 ∷ 8 ∷ replicate 63 0)))
  -- a message is written behind the waiting ones, the used-up places counted too
  pub arrive-behind-used : Lists
      ("A,1,5\n" gives "1,0,0,0,0,1\n"
      ∷ "A,1,6\n" gives "2,0,0,0,0,1\n"
      ∷ "S,1\n" gives "3,0,0,0,1,0\n"
      ∷ "D\n" gives "4,0,0,1,0,0\n"
      ∷ "A,1,7\n" gives "5,0,0,0,0,1\n"
      ∷ "E,0\n" gives "6,0,6,0,0,0\n"
      ∷ "D\n" gives "7,0,0,1,0,0\n"
      ∷ "E,0\n" gives "8,0,7,0,0,0\n"
      ∷ "D\n" gives "9,0,0,1,0,0\n"
      ∷ "M\n" gives "10,0,0,0,0,0\n"
      ∷ [])
  -- with a place used up and all others written, the next message takes a frame
  pub arrive-next-frame : Stands (copies 8 "A,3,5\n" ++ bytes "S,3\nD\nA,3,9\n") 420
      (1 ∷ 0 ∷ 0 ∷ 0 ∷ 1 ∷ 8 ∷ 2 ∷ 0 ∷ replicate 8 0 ++ (0 ∷ 1 ∷ replicate 94 0))
  -- and stands at its first place
  pub arrive-next-place : Stands (copies 8 "A,3,5\n" ++ bytes "S,3\nD\nA,3,9\n") 1164
      (1 ∷ 9 ∷ replicate 7 0)
  -- a group's record: flags, h, n, frames, descriptor, and its list, head first; unused places are 0
  pub list-head-first : Stands (bytes "A,4,5\n" ++ (copies 9 "A,3,5\n" ++ bytes "S,3\nP,4\nD\n")) 420
      (1 ∷ 0 ∷ 0 ∷ 0 ∷ 1 ∷ 8 ∷ 2 ∷ 1 ∷ 4 ∷ replicate 7 0 ++ (1 ∷ 2 ∷ replicate 94 0))
  -- "A frame is taken from the front": of three groups the frames 0, 1 and 2; the free line begins with 3
  pub taken-from-front : Stands (bytes "A,5,7\nA,1,7\nA,8,7\n") 164
      (up_from 3 29 ++ (0 ∷ 0 ∷ 0 ∷ []))
  -- group 5 took the first
  pub taken-by-whom : Stands (bytes "A,5,7\nA,1,7\nA,8,7\n") 660
      (0 ∷ 0 ∷ [])
  -- group 1 the second
  pub taken-by-group-1 : Stands (bytes "A,5,7\nA,1,7\nA,8,7\n") 212
      (1 ∷ 0 ∷ [])
  -- group 8 the third
  pub taken-by-group-8 : Stands (bytes "A,5,7\nA,1,7\nA,8,7\n") 996
      (2 ∷ 0 ∷ [])

-- D, and how frames are freed
pub record DisposeCases : Type 0 where
  -- "timer 0", with messages still queued: 255 ticks are no timeout, one more is
  pub dispose-timer : Lists
      ("S,1\n" gives "1,0,0,0,0,0\n"
      ∷ "A,1,7\n" gives "2,0,0,0,1,0\n"
      ∷ "A,1,8\n" gives "3,0,0,0,0,0\n"
      ∷ "T,255\n" gives "4,0,0,0,0,0\n"
      ∷ "D\n" gives "5,0,0,0,0,0\n"
      ∷ "T,255\n" gives "6,0,0,0,0,0\n"
      ∷ "T,1\n" gives "7,0,0,3,0,1\n"
      ∷ [])
  -- "pending off", and atomic stays: no upcall before N, then one for the next message
  pub dispose-pending : Lists
      ("S,1\n" gives "1,0,0,0,0,0\n"
      ∷ "A,1,7\n" gives "2,0,0,0,1,0\n"
      ∷ "A,1,8\n" gives "3,0,0,0,0,0\n"
      ∷ "D\n" gives "4,0,0,0,0,0\n"
      ∷ "A,1,9\n" gives "5,0,0,0,0,0\n"
      ∷ "N\n" gives "6,0,0,0,1,0\n"
      ∷ "N\n" gives "7,10,0,0,0,0\n"
      ∷ "D\n" gives "8,0,0,0,0,0\n"
      ∷ "D\n" gives "9,0,0,0,0,0\n"
      ∷ "N\n" gives "10,0,0,0,0,0\n"
      ∷ "A,1,5\n" gives "11,0,0,0,1,0\n"
      ∷ [])
  -- D takes the runner's first, and what stood behind it settles: one of another group moves, the next of the runner's stays, and all behind it:
  -- "The pass ends at the first head that may stay."
  pub dispose-only-own : Lists
      ("S,1\n" gives "1,0,0,0,0,0\n"
      ∷ "A,1,7\n" gives "2,0,0,0,1,0\n"
      ∷ "A,2,8\n" gives "3,0,0,0,0,0\n"
      ∷ "A,1,9\n" gives "4,0,0,0,0,0\n"
      ∷ "A,2,6\n" gives "5,0,0,0,0,0\n"
      ∷ "D\n" gives "6,0,0,0,0,1\n"
      ∷ "E,0\n" gives "7,0,9,0,0,0\n"
      ∷ "D\n" gives "8,0,0,0,0,1\n"
      ∷ "M\n" gives "9,0,0,0,0,0\n"
      ∷ "S,2\n" gives "10,0,0,0,2,0\n"
      ∷ "E,0\n" gives "11,0,8,0,0,0\n"
      ∷ "D\n" gives "12,0,0,1,0,0\n"
      ∷ "E,0\n" gives "13,0,6,0,0,0\n"
      ∷ "D\n" gives "14,0,0,1,0,0\n"
      ∷ [])
  -- "1 dispose-extend, on D begun while buffered", the last of them too; the next message is direct
  pub dispose-last-buffered : Lists
      ("A,1,7\n" gives "1,0,0,0,0,1\n"
      ∷ "S,1\n" gives "2,0,0,0,1,0\n"
      ∷ "D\n" gives "3,0,0,1,0,0\n"
      ∷ "A,1,8\n" gives "4,0,0,0,0,0\n"
      ∷ "D\n" gives "5,0,0,0,0,0\n"
      ∷ [])
  -- a used-up place: h and n, the frame still held
  pub used-up-place : Stands (bytes "A,3,5,6\nA,3,7\nS,3\nD\n") 420
      (1 ∷ 0 ∷ 0 ∷ 0 ∷ 1 ∷ 1 ∷ 1 ∷ 0 ∷ replicate 8 0 ++ (0 ∷ replicate 95 0))
  -- "A frame whose places are all used up is freed": after 8 of 9, h is 0, the list is frame 1 alone
  pub used-up-frame : Stands (copies 9 "A,3,5\n" ++ (bytes "S,3\n" ++ copies 8 "D\n")) 420
      (1 ∷ 0 ∷ 0 ∷ 0 ∷ 0 ∷ 1 ∷ 1 ∷ 0 ∷ replicate 8 0 ++ (1 ∷ replicate 95 0))
  -- and frame 0 stands at the end of the free line, which has 31
  pub used-up-frame-freed : Stands (copies 9 "A,3,5\n" ++ (bytes "S,3\n" ++ copies 8 "D\n")) 164
      (up_from 2 30 ++ (0 ∷ 0 ∷ []))
  -- after 7 of 9 it is held still
  pub not-yet-freed : Stands (copies 9 "A,3,5\n" ++ (bytes "S,3\n" ++ copies 7 "D\n")) 420
      (1 ∷ 0 ∷ 0 ∷ 0 ∷ 7 ∷ 2 ∷ 2 ∷ 0 ∷ replicate 8 0 ++ (0 ∷ 1 ∷ replicate 94 0))
  -- "when n becomes 0 its last frame is freed too", in the middle of it: h is 0, the list empty
  pub last-frame-freed : Stands (bytes "A,3,5\nA,3,6\nS,3\nD\nD\n") 420
      (1 ∷ replicate 111 0)
  -- a frame whose last place is also the last message is freed once
  pub eighth-disposed : Stands (copies 8 "A,3,5\n" ++ (bytes "S,3\n" ++ copies 8 "D\n")) 420
      (1 ∷ replicate 111 0)
  -- the free line has 32 again, frame 0 the last
  pub eighth-disposed-free : Stands (copies 8 "A,3,5\n" ++ (bytes "S,3\n" ++ copies 8 "D\n")) 3
      (32 ∷ replicate 160 0 ++ (up_from 1 31 ++ (0 ∷ [])))
  -- "a freed one joins the end", frame 0 too: behind it stands the one freed next
  pub freed-to-the-end : Stands (bytes "A,2,5\nA,3,6\nS,2\nD\nS,3\nD\n") 164
      (up_from 2 30 ++ (0 ∷ 1 ∷ []))
  -- and the line has all 32
  pub freed-count : Stands (bytes "A,2,5\nA,3,6\nS,2\nD\nS,3\nD\n") 3
      (32 ∷ [])
