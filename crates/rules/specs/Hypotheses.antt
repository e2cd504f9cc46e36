-- What the statements ask for, told from the other side: which builds make sense, which differ in their frames alone, which nodes agree, where a
-- message waits, which scripts are old, and what the tests of a node and of a memory ask. A hypothesis that asked for more would make a statement say less and leave it proved;
-- one of these it would make false. Assumes nothing.
use Rattle.std.specs.Prelude.{ℕ, ◌+◌, ◌≤◌, ◌≡◌, ◌≢◌, ◌↔◌, true, List, [], ◌∷◌, ◌++◌, map, drop}
use Rattle.rules.specs.Build.{Build, paper01, Sensible}
use Rattle.rules.specs.Lists.{filter, up_from}
use Rattle.rules.specs.Operation.{Request, arrive, schedule, tick, turn, user, unknown}
use Rattle.rules.specs.Text.{bytes}
use Rattle.rules.specs.Script.{script_lines}
use Rattle.rules.specs.Node.{Place, Buffer, Node, group_of, with_group, with_buffer, in_buffer}
use Rattle.rules.specs.Valid.{Valid, is_node}
use Rattle.rules.specs.Memory.{size, words, node_at}
use Rattle.rules.specs.MemoryTest.{is_memory}
use Rattle.rules.specs.Unseen.{SameButFrames}
use Rattle.rules.specs.Run.{Input, operation, script_line}
use Rattle.rules.specs.Before.{Old, is_full, OldScript}
use Rattle.rules.specs.Cases.Case.{◌gives◌}
use Rattle.rules.specs.Cases.BeforeCases.{steps, full_queue, pledged_pages}
use Rattle.rules.specs.Dumps.{WaitsIn, dump, Agree}

-- a build of these sizes: frames, swap pages, messages in a frame, places of the queue, ticks to a timeout
abbrev pub build : ℕ → ℕ → ℕ → ℕ → ℕ → Build
build f s p q t = record { frames = f; swap = s; per_frame = p; places = q; timeout = t }

-- builds
pub record BuildExamples : Type 0 where
  -- the smallest that makes sense has two frames, no swap page, and one of each other part
  pub smallest : Sensible (build 2 0 1 1 1)
  -- and one with more of any part makes sense too
  pub larger : (f s p q t : ℕ) → Sensible (build (2 + f) s (1 + p) (1 + q) (1 + t))
  -- that of papers 01 and 02 does, and one whose 96 pages are all frames, and they differ in nothing else
  pub papers : Sensible paper01
  pub all-frames : Sensible (build 96 0 8 16 256)
  pub papers-all-frames : SameButFrames paper01 (build 96 0 8 16 256)
  -- as do any two that part as many pages into frames and swap pages
  pub any-parting : (f s f' s' p q t : ℕ) → f + s ≡ f' + s' → SameButFrames (build f s p q t) (build f' s' p q t)

-- the node with these places in the buffer of group g
abbrev pub with_places : ℕ → List Place → Node → Node
with_places g ps n =
    let v = (group_of n g).buffer in
    with_group g (with_buffer (record { used = v.used; count = v.count; frames = v.frames; places = ps }) (group_of n g)) n

-- nodes that agree
pub record AgreeExamples : Type 0 where
  -- a node with itself, valid or not
  pub itself : (n : Node) → Agree n n
  -- a node with one whose places differ from its own where no message waits, or behind the words of one
  pub places-untold : (n : Node) (g : ℕ) (ps : List Place)
      → 1 ≤ g
      → in_buffer (with_places g ps n) g ≡ in_buffer n g
      → Agree (with_places g ps n) n
  -- the nodes of two memories with the same dump
  pub same-words : (m m' : List ℕ) → is_memory m ≡ true → dump m ≡ dump m' → Agree (node_at m) (node_at m')

-- a buffer whose two pages are in frame 4 and in the swap page with number 37, with 8 messages behind 2 used-up places; what stands in its places is
-- not asked
abbrev pub two_pages : Buffer
two_pages = record { used = 2; count = 8; frames = 4 ∷ 37 ∷ []; places = [] }

-- where a message of it waits, and where none does
pub record WaitsExamples : Type 0 where
  -- none at a used-up place, one at the place behind
  pub used-up : ¬ WaitsIn two_pages 4 1
  pub first : WaitsIn two_pages 4 2
  -- one at the second place of the second page, none behind it
  pub last : WaitsIn two_pages 37 1
  pub behind : ¬ WaitsIn two_pages 37 2
  -- and none in a page that the list does not name
  pub unlisted : (p i : ℕ) → p ≢ 4 → p ≢ 37 → ¬ WaitsIn two_pages p i

-- "the whole case"
abbrev pub whole_case : List Input
whole_case = map script_line (script_lines (bytes "S,1\nA,1,7\nA,2,5,6\nN\nE,0\nT,256\nD\nN\nS,2\nM\nD\nP,9\nL,3\n"))

-- the two scripts of BeforeCases
abbrev pub last_five : List Input
last_five = steps (full_queue ++ ("S,2\n" gives "" ∷ "A,2,5\n" gives "" ∷ "A,2,5\n" gives "" ∷ []))

abbrev pub last_six : List Input
last_six = steps (pledged_pages ++ ("S,2\n" gives "" ∷ "D\n" gives "" ∷ "A,4,4\n" gives "" ∷ []))

-- old scripts
pub record OldExamples : Type 0 where
  -- any operation of then, and a line that names one, or none
  pub arrival-old : (g : ℕ) (ws : List ℕ) → Old (operation (arrive g ws))
  pub schedule-old : (g : ℕ) → Old (operation (schedule g))
  pub tick-old : (k : ℕ) → Old (operation (tick k))
  pub turn-old : Old (operation turn)
  pub request-old : (r : Request) → Old (operation (user r))
  pub unknown-old : Old (operation unknown)
  pub line-old : Old (script_line (bytes "S,1"))
  -- of the answers 5 and 6 alone hang on the form of S
  pub full-answers : filter is_full (up_from 0 17) ≡ 5 ∷ 6 ∷ []
  -- the paper's whole case is an old script
  pub whole-case : OldScript paper01 whole_case
  -- one that met 5, before order 5 alone, is none, and neither is one that meets 6, now alone
  pub five-before : ¬ OldScript paper01 last_five
  pub six-now : ¬ OldScript paper01 last_six

-- what the tests ask
pub record TestSays : Type 0 where
  -- the test of a node passes exactly where its invariants hold
  pub node-test : (b : Build) (n : Node) → Sensible b → (is_node b n ≡ true) ↔ Valid b n
  -- the memory test passes exactly where the memory is the map of a valid node, with what stands behind it
  pub memory-valid : (m : List ℕ) → is_memory m ≡ true → Valid paper01 (node_at m)
  pub memory-map : (m : List ℕ) → is_memory m ≡ true → words (node_at m) ++ drop size m ≡ m
  pub memory-passes : (n : Node) (rest : List ℕ) → Valid paper01 n → is_memory (words n ++ rest) ≡ true
