-- Order 6 in cases: each reason, both refusals, and how the paper's open points are read. Each script is shown with what is told of its lines. Assumes
-- nothing.
use Rattle.std.specs.Prelude.{ℕ, ◌≡◌, true, false, List, [], ◌∷◌, map}
use Prim.Native.String.{String}
use Rattle.rules.specs.Text.{bytes}
use Rattle.reasons.specs.Moments.{Moment, Dated, joined, headed, disposed, moved}
use Rattle.reasons.specs.Why.{Told, told, untold, moments_of, why, why_all}

-- of each of these lines of a script
abbrev pub answers : String → List ℕ → List Told
answers s ws = map (why (bytes s)) ws

-- a script that meets every reason
abbrev pub each_reason : String
each_reason =
    "S,1\nA,1,7\nD\nN\nA,2,5\nA,1,7\nT,256\nA,1,8\nD\nD\nA,1,9\nD\nN\nA,1,3\nD\nN\nA,1,4\nA,2,6\nO\nI,3\nA,3,1\n"

-- the reasons
pub record WhyCases : Type 0 where
  -- "never buffered and disposed of": the line that disposed of it; buffered and later disposed of is none of these, and names the line that moved it
  pub never-buffered : answers "S,1\nA,1,7\nD\n" (2 ∷ []) ≡ told 1 3 ∷ []
  pub disposed-later : answers "A,1,7\nS,1\nD\n" (1 ∷ []) ≡ told 3 1 ∷ []
  -- "still in the hardware queue": the script's last line, though it can't be read
  pub waits-to-last : answers "S,1\nA,1,7\nX\n" (2 ∷ []) ≡ told 2 3 ∷ []
  -- "its group wasn't running when it became head": at its own line, with another group running or nobody, and behind what a D disposes of
  pub another-runs : answers "S,1\nA,2,5\n" (2 ∷ []) ≡ told 3 2 ∷ []
  pub nobody-runs : answers "O\nA,1,7\n" (2 ∷ []) ≡ told 3 2 ∷ []
  pub behind-disposed : answers "S,1\nA,1,1\nA,2,2\nA,3,3\nA,1,4\nA,2,5\nD\nD\n" (2 ∷ 3 ∷ 4 ∷ 5 ∷ 6 ∷ []) ≡ told 1 7 ∷ told 3 7 ∷ told 3 7 ∷ told 1 8 ∷ told 3 8 ∷ []
  -- another group's, with older ones of it in its buffer: "where several hold, the first in this list is named"
  pub not-running-first : answers "S,1\nA,2,5\nA,2,6\n" (3 ∷ []) ≡ told 3 3 ∷ []
  -- "older ones of its group were waiting in the buffer when it was moved"; revoked as well it is this
  pub older-wait : answers "A,1,1\nS,1\nA,1,2\nD\nA,1,3\n" (3 ∷ 5 ∷ []) ≡ told 4 3 ∷ told 4 5 ∷ []
  pub older-and-revoked : answers "S,1\nA,1,7\nT,256\nA,1,8\nD\nD\nA,1,9\n" (2 ∷ 4 ∷ 7 ∷ []) ≡ told 6 3 ∷ told 4 4 ∷ told 5 7 ∷ []
  -- "the group was revoked then", by a timeout with an empty queue too
  pub revoked-idle : answers "S,1\nB,1\nT,256\nA,1,7\n" (4 ∷ []) ≡ told 5 4 ∷ []
  -- "All that a timeout moves has that reason", whoever ran, and however many timeouts a line has
  pub timeout-all : answers "S,1\nA,1,7\nA,2,8\nA,1,9\nA,3,1\nT,255\nT,1\n" (2 ∷ 3 ∷ 4 ∷ 5 ∷ []) ≡ told 6 7 ∷ told 6 7 ∷ told 6 7 ∷ told 6 7 ∷ []
  -- "the processor was taken": by O, or by the O of an S, the head alone. Those behind it became head while nobody ran
  pub taken-head : answers "S,1\nA,1,7\nA,1,8\nA,2,5\nO\n" (2 ∷ 3 ∷ 4 ∷ []) ≡ told 7 5 ∷ told 3 5 ∷ told 3 5 ∷ []
  pub switched-head : answers "S,1\nA,1,7\nA,2,5\nS,2\n" (2 ∷ 3 ∷ []) ≡ told 7 4 ∷ told 3 4 ∷ []
  -- an S to the one running takes nothing, one to nobody does
  pub switched-still : answers "S,1\nA,1,7\nS,1\nS,0\nS,0\n" (2 ∷ []) ≡ told 7 4 ∷ []
  -- a refused step moves nothing
  pub refused-still : answers "S,1\nA,1,7\nS,9\nI,2\nT,0\n" (2 ∷ []) ≡ told 2 5 ∷ []
  -- C moves nothing either: a message waits over it, for the line that moves it or to the last
  pub turn-still : answers "S,1\nA,1,7\nC\nO\nS,2\nA,2,5\nC\n" (2 ∷ 6 ∷ []) ≡ told 7 4 ∷ told 2 7 ∷ []

-- the refusals
pub record RefusalCases : Type 0 where
  -- "It refuses with 2 a line that the listing answers with 2", an arrival that can't be read too
  pub unread : answers "X\nA\n" (1 ∷ 2 ∷ []) ≡ untold 2 ∷ untold 2 ∷ []
  -- "then with 17 one that isn't an accepted arrival": another operation, and an arrival that is refused
  pub other-line : answers "S,1\nA,9,1\n" (1 ∷ 2 ∷ []) ≡ untold 17 ∷ untold 17 ∷ []
  -- C too, which is accepted; with a field it can't be read
  pub turn-line : answers "C\nC,0\n" (1 ∷ 2 ∷ []) ≡ untold 17 ∷ untold 2 ∷ []
  -- "or isn't in the script": line 0, and the line behind the last, in an empty script too
  pub no_line : answers "A,1,7\nA,1,8\n" (0 ∷ 3 ∷ 4 ∷ []) ≡ untold 17 ∷ untold 17 ∷ untold 17 ∷ []
  pub no-script : answers "" (0 ∷ 1 ∷ []) ≡ untold 17 ∷ untold 17 ∷ []
  -- a last line without its newline is one
  pub no-newline : answers "S,1\nA,1,7\nM" (2 ∷ 3 ∷ 4 ∷ []) ≡ told 2 3 ∷ untold 17 ∷ untold 17 ∷ []

-- a moment of line i
abbrev pub at : ℕ → Moment → Dated
at i m = record { line = i; moment = m }

-- the moments themselves
pub record MomentCases : Type 0 where
  -- a message joins an empty queue, and is its head at once; one behind it becomes head as that is disposed of, while group 1 runs
  pub disposing :
      moments_of (bytes "S,1\nA,1,7\nA,2,8\nD\n")
      ≡ at 2 joined
      ∷ at 2 (headed 1 1)
      ∷ at 3 joined
      ∷ at 4 disposed
      ∷ at 4 (headed 2 1)
      ∷ at 4 (moved (record { timeout = false; older = false; revoked = false; taken = false }))
      ∷ []
  -- O takes the processor: what is behind the head becomes head while nobody runs
  pub taking :
      moments_of (bytes "S,1\nA,1,7\nA,1,8\nO\n")
      ≡ at 2 joined
      ∷ at 2 (headed 1 1)
      ∷ at 3 joined
      ∷ at 4 (moved (record { timeout = false; older = false; revoked = false; taken = true }))
      ∷ at 4 (headed 1 0)
      ∷ at 4 (moved (record { timeout = false; older = true; revoked = false; taken = true }))
      ∷ []
  -- a timeout moves both while group 1 runs, and revokes it behind the second; then it is revoked, and its buffer holds a message
  pub timing-out :
      moments_of (bytes "S,1\nA,1,7\nA,2,8\nT,256\nA,1,9\n")
      ≡ at 2 joined
      ∷ at 2 (headed 1 1)
      ∷ at 3 joined
      ∷ at 4 (moved (record { timeout = true; older = false; revoked = false; taken = false }))
      ∷ at 4 (headed 2 1)
      ∷ at 4 (moved (record { timeout = true; older = false; revoked = false; taken = false }))
      ∷ at 5 joined
      ∷ at 5 (headed 1 1)
      ∷ at 5 (moved (record { timeout = false; older = true; revoked = true; taken = false }))
      ∷ []
  -- with nobody running there is none to take the processor from, and a refused step has no moments
  pub nothing : moments_of (bytes "O\nS,0\nD\nA,9,1\nX\n") ≡ []

-- the answers as lines of text
pub record LineCases : Type 0 where
  pub every-reason :
      why_all (bytes each_reason)
      ≡ bytes "line 2: reason 1 at line 3: never buffered, disposed of\nline 5: reason 3 at line 5: its group wasn't running when it became head\nline 6: reason 6 at line 7: timeout\nline 8: reason 4 at line 8: older messages of its group were waiting in the buffer\nline 11: reason 5 at line 11: its group was revoked\nline 14: reason 1 at line 15: never buffered, disposed of\nline 17: reason 7 at line 19: the processor was taken\nline 18: reason 3 at line 19: its group wasn't running when it became head\nline 21: reason 2 at line 21: still in the hardware queue\n"
  pub none-accepted : why_all (bytes "S,1\nA,9,1\n") ≡ []
