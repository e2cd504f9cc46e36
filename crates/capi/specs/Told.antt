-- What the exported calls promise: each tells by words, in a part that is lent for it. Assumes nothing.
use Rattle.std.specs.Prelude.{ℕ, ◌≤◌, ◌<◌, List, ◌∷◌, ◌++◌, ◌≡◌, length, drop}
use Rattle.rules.specs.MemoryTest.{MemoryStep, head_part, page_counts}
use Rattle.rules.specs.Types.{report_of}
use Rattle.rules.specs.declared.Report.{Report as Report·rt}

-- a report's words
abbrev pub report_room : ℕ
report_room = 16

-- answer, value, trap, upcall, moved; then what was sent: node, group, how many words, and eight words
unfoldable pub report_words : Report·rt → List ℕ
report_words r =
    r.answer
    ∷ r.value
    ∷ r.trap
    ∷ r.upcall
    ∷ r.moved
    ∷ r.sent.node
    ∷ r.sent.group
    ∷ r.sent.len
    ∷ r.sent.words

-- a call that takes step s on memory m and tells its report in part p, what it leaves of both, and the count of words that it returns
pub record Reports (m p : List ℕ) (s : MemoryStep) (m' p' : List ℕ) (count : ℕ) : Type 0 where
  -- the part has room: memory and report are those of the step, and what stands behind the report stays
  pub memory : report_room ≤ length p → m' ≡ s.memory
  pub report : report_room ≤ length p → p' ≡ report_words (report_of s.report) ++ drop report_room p
  pub counted : report_room ≤ length p → count ≡ report_room
  -- it is too short: no step is taken, and nothing is told
  pub memory_kept : length p < report_room → m' ≡ m
  pub part-kept : length p < report_room → p' ≡ p
  pub nothing : length p < report_room → count ≡ 0

-- the words of two numbers
abbrev pub pair_room : ℕ
pair_room = 2

-- a call that tells the numbers x and y
pub record TellsPair (x y : ℕ) (p p' : List ℕ) (count : ℕ) : Type 0 where
  -- the part has room
  pub told : pair_room ≤ length p → p' ≡ x ∷ y ∷ drop pair_room p
  pub counted : pair_room ≤ length p → count ≡ pair_room
  -- it is too short
  pub part-kept : length p < pair_room → p' ≡ p
  pub nothing : length p < pair_room → count ≡ 0

-- where the head message of memory m stands, and how long it is
abbrev pub TellsHead : List ℕ → List ℕ → List ℕ → ℕ → Type 0
TellsHead m = TellsPair (head_part m).start (head_part m).len

-- the pages of memory m that were sent out, and those that were brought in
abbrev pub TellsPages : List ℕ → List ℕ → List ℕ → ℕ → Type 0
TellsPages m = TellsPair (page_counts m).out (page_counts m).brought
