-- Feeding a script in portions: the lines that are whole so far, the line that has begun, and what the lines so far list and leave. Assumes
-- nothing.
use Rattle.std.specs.Prelude.{ℕ, suc, cond, List, [], ◌∷◌, ◌++◌}
use Rattle.rules.specs.Lists.{is_empty}
use Rattle.rules.specs.MemoryTest.{step_memory}
use Rattle.rules.specs.Script.{newline, read_line, report_line}
use Rattle.rules.specs.Text.{split}

-- all parts but the last
unfoldable pub all_but_last : List (List ℕ) → List (List ℕ)
all_but_last [] = []
all_but_last (l ∷ []) = []
all_but_last (l ∷ m ∷ ls) = l ∷ all_but_last (m ∷ ls)

-- the last part
unfoldable pub last_part : List (List ℕ) → List ℕ
last_part [] = []
last_part (l ∷ []) = l
last_part (l ∷ m ∷ ls) = last_part (m ∷ ls)

-- the lines of the bytes that have met their newline
unfoldable pub whole : List ℕ → List (List ℕ)
whole s = all_but_last (split newline s)

-- and the line that has begun behind them
unfoldable pub begun : List ℕ → List ℕ
begun s = last_part (split newline s)

-- the parts of a portion where a line b has begun, which goes on in the first
unfoldable pub join_first : List ℕ → List (List ℕ) → List (List ℕ)
join_first b [] = b ∷ []
join_first b (p ∷ ps) = (b ++ p) ∷ ps

-- the lines that a portion completes
unfoldable pub lines_behind : List ℕ → List ℕ → List (List ℕ)
lines_behind b s = all_but_last (join_first b (split newline s))

-- and the line that has begun at its end
unfoldable pub rest_behind : List ℕ → List ℕ → List ℕ
rest_behind b s = last_part (join_first b (split newline s))

-- "A last line may lack its newline.": at the end of the input a line that has begun is one
unfoldable pub last_line : List ℕ → List (List ℕ)
last_line b = cond (is_empty b) [] (b ∷ [])

-- what the lines list on memory m, the first of them as line i
unfoldable pub list_memory : ℕ → List ℕ → List (List ℕ) → List ℕ
list_memory i m [] = []
list_memory i m (l ∷ ls) =
    let s = step_memory m (read_line l) in
    report_line i s.report ++ list_memory (suc i) s.memory ls

-- the memory after them
unfoldable pub after_lines : List ℕ → List (List ℕ) → List ℕ
after_lines m [] = m
after_lines m (l ∷ ls) = after_lines (step_memory m (read_line l)).memory ls
