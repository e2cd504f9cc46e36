-- The rules before order 5 by cases: what they gave where those of now give something else, so that they are the rules as they were; and two old scripts
-- in which an arrival meets 5 or 6 under one form of S and is accepted under the other, each with its listing under both: without the condition on
-- these answers old scripts would not give each group the same. Assumes nothing.
use Rattle.std.specs.Prelude.{ℕ, suc, ◌≡◌, true, List, [], ◌∷◌, ◌++◌, map, replicate}
use Rattle.rules.specs.Lists.{concat_map, up_from}
use Rattle.rules.specs.Build.{paper01}
use Rattle.rules.specs.Memory.{words}
use Rattle.rules.specs.Text.{bytes}
use Rattle.rules.specs.Script.{script_lines, report_line}
use Rattle.rules.specs.Run.{Input, script_line, Event, run, answers_of}
use Rattle.rules.specs.Before.{play_before, run_before}
use Rattle.rules.specs.Cases.Case.{Line, ◌gives◌, times, copies, Lists, ◌holds◌, all_stand, packed}
use Rattle.rules.specs.Cases.RunCases.{answer}

-- the listing's lines for what was seen of a run, the first of them line i
abbrev pub report_lines : ℕ → List Event → List ℕ
report_lines i [] = []
report_lines i (e ∷ es) = report_line i e.report ++ report_lines (suc i) es

-- the lines, put together to a script, as the steps of a run
abbrev pub steps : List Line → List Input
steps ls = map script_line (script_lines (concat_map (λ l. l.asked) ls))

-- they had these reports
abbrev pub ListedBefore : List Line → Type 0
ListedBefore ls = report_lines 1 (run_before paper01 (steps ls)).events ≡ concat_map (λ l. l.listed) ls

-- S as it was
pub record ScheduledBefore : Type 0 where
  -- K4, before order 5: "upcall 2, moved 1; then D: trap 0."
  pub k4-before : ListedBefore
      ("S,1\n" gives "1,0,0,0,0,0\n"
      ∷ "A,1,7\n" gives "2,0,0,0,1,0\n"
      ∷ "A,2,5\n" gives "3,0,0,0,0,0\n"
      ∷ "S,2\n" gives "4,0,0,0,2,1\n"
      ∷ "D\n" gives "5,0,0,0,0,0\n"
      ∷ [])
  -- "timer to 0", with messages still queued: the one of group 2 waited 256 ticks from S on
  pub timer-before : ListedBefore
      ("S,1\n" gives "1,0,0,0,0,0\n"
      ∷ "A,1,7\n" gives "2,0,0,0,1,0\n"
      ∷ "A,2,5\n" gives "3,0,0,0,0,0\n"
      ∷ "T,255\n" gives "4,0,0,0,0,0\n"
      ∷ "S,2\n" gives "5,0,0,0,2,1\n"
      ∷ "T,255\n" gives "6,0,0,0,0,0\n"
      ∷ "T,1\n" gives "7,0,0,3,0,1\n"
      ∷ [])
  -- "To the one already running (or 0 to 0): changes nothing", the timer neither, and "14: S above 8."; C, which came later, is as it is now
  pub same-before : ListedBefore
      ("S,0\n" gives "1,0,0,0,0,0\n"
      ∷ "S,1\n" gives "2,0,0,0,0,0\n"
      ∷ "A,1,7\n" gives "3,0,0,0,1,0\n"
      ∷ "T,255\n" gives "4,0,0,0,0,0\n"
      ∷ "S,1\n" gives "5,0,0,0,0,0\n"
      ∷ "S,9\n" gives "6,14,0,0,0,0\n"
      ∷ "T,1\n" gives "7,0,0,3,0,1\n"
      ∷ "C\n" gives "8,0,1,0,0,0\n"
      ∷ [])
  -- while S settled, the running group was the new one: group 2's first page, in frame 0, was spared
  pub spared-before :
      all_stand 0
      (212 holds (32 ∷ up_from 2 30 ++ (0 ∷ []))
      ∷ 324 holds (0 ∷ 0 ∷ [])
      ∷ 436 holds (1 ∷ 0 ∷ [])
      ∷ 8072 holds (0 ∷ up_from 2 30 ++ (1 ∷ []))
      ∷ [])
      (words (play_before paper01 (packed 1 (5 ∷ [])) (map script_line (script_lines (bytes "S,3\nA,3,3\nS,2\n")))).node)
      ≡ true

-- the queue is full, with one message of the running group before fifteen of another
abbrev pub full_queue : List Line
full_queue =
    "S,1\n" gives "1,0,0,0,0,0\n"
    ∷ "A,1,7\n" gives "2,0,0,0,1,0\n"
    ∷ times 15 3 "A,2,5\n" ",0,0,0,0,0\n"

-- the script that goes on with the switch to group 2 and two arrivals, and with seventeen D behind them
abbrev pub disposed_behind : List Input
disposed_behind = steps full_queue ++ map script_line (script_lines (bytes "S,2\nA,2,5\nA,2,5\n" ++ copies 17 "D\n"))

-- all 96 pages are pledged: group 4 has 93, a queued message of group 1 and nine of group 2 are pledged three
abbrev pub pledged_pages : List Line
pledged_pages =
    times 744 1 "A,4,4\n" ",0,0,0,0,1\n"
    ++ ("S,1\n" gives "745,0,0,0,0,0\n"
    ∷ "A,1,7\n" gives "746,0,0,0,1,0\n"
    ∷ times 9 747 "A,2,5\n" ",0,0,0,0,0\n")

-- "no arrival meets 5 or 6 under either form" is needed: before order 5 these two scripts went on so
pub record FullBefore : Type 0 where
  -- 5: S moved one message, and the second arrival behind it found sixteen in the queue
  pub queue-before : ListedBefore
      (full_queue
      ++ ("S,2\n" gives "18,0,0,0,2,1\n"
      ∷ "A,2,5\n" gives "19,0,0,0,0,0\n"
      ∷ "A,2,5\n" gives "20,5,0,0,0,0\n"
      ∷ []))
  -- and group 2 saw it: of seventeen D the last had no message
  pub queue-seen-before : answers_of 2 (run_before paper01 disposed_behind).events ≡ replicate 16 (answer 0 0 []) ++ (answer 8 0 [] ∷ [])
  -- not 6: group 2's messages were queued, and D left eight of them, which are one page
  pub pages-before : ListedBefore
      (pledged_pages
      ++ ("S,2\n" gives "756,0,0,0,2,1\n"
      ∷ "D\n" gives "757,0,0,0,0,0\n"
      ∷ "A,4,4\n" gives "758,0,0,0,0,0\n"
      ∷ []))

-- and now they go on so
pub record FullNow : Type 0 where
  -- not 5: S empties the queue
  pub queue-now : Lists
      (full_queue
      ++ ("S,2\n" gives "18,0,0,0,2,16\n"
      ∷ "A,2,5\n" gives "19,0,0,0,0,1\n"
      ∷ "A,2,5\n" gives "20,0,0,0,0,1\n"
      ∷ []))
  -- and group 2 sees it
  pub queue-seen-now : answers_of 2 (run paper01 disposed_behind).events ≡ replicate 17 (answer 0 0 [])
  -- 6: group 2's messages are buffered, and D leaves a used-up place before the eight: two pages, and none for group 4
  pub pages-now : Lists
      (pledged_pages
      ++ ("S,2\n" gives "756,0,0,0,2,10\n"
      ∷ "D\n" gives "757,0,0,1,0,0\n"
      ∷ "A,4,4\n" gives "758,6,0,0,0,0\n"
      ∷ []))
