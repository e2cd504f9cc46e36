-- What is told why a message was buffered: a script is played on lent memory, and the words go into a part that is lent for them. Assumes nothing.
use Rattle.std.specs.Prelude.{ℕ, ◌/◌, ◌%◌, ◌≤◌, ◌<◌, true, false, List, [], ◌∷◌, ◌++◌, ◌≡◌, leb, length, drop}
use Rattle.rules.specs.Memory.{size}
use Rattle.rules.specs.MemoryTest.{power_on_memory}
use Rattle.rules.specs.Operation.{not_node}
use Rattle.rules.specs.Script.{script_lines}
use Rattle.reasons.specs.Why.{Told, untold, why}
use Rattle.script.specs.Feeding.{after_lines}
use Rattle.follow.specs.One.{told_of}
use Rattle.follow.specs.declared.one.Told.{Told as Told·rt}

-- the words
abbrev pub why_room : ℕ
why_room = 4

-- how many numbers a word has
abbrev pub word_numbers : ℕ
word_numbers = 4_294_967_296

-- answer, reason, and the line's low and high 32 bits
unfoldable pub why_words : Told → List ℕ
why_words t = t.answer ∷ t.reason ∷ t.line % word_numbers ∷ t.line / word_numbers ∷ []

-- what is told, and the memory that is left
pub record WhyStep : Type 0 where
  pub told : Told
  pub memory : List ℕ

-- line w of script s asked for on memory m: the script is played from power-on; memory that is too short is refused first, and stays
unfoldable pub why_memory : List ℕ → List ℕ → ℕ → WhyStep
why_memory m s w =
    elim (leb size (length m)) [
      | true ↦ record { told = why s w; memory = after_lines (power_on_memory m).memory (script_lines s) }
      | false ↦ record { told = untold not_node; memory = m }
    ]

-- the memory at exit and what is told are these
pub record WhyAnswers (exit : List ℕ) (t : Told·rt) (s : WhyStep) : Type 0 where
  pub told : told_of t ≡ s.told
  pub left : exit ≡ s.memory

-- a call that does this on memory m and tells it in part p, what it leaves of both, and the count of words that it returns
pub record TellsWhy (m p : List ℕ) (s : WhyStep) (m' p' : List ℕ) (count : ℕ) : Type 0 where
  -- the part has room
  pub memory : why_room ≤ length p → m' ≡ s.memory
  pub told : why_room ≤ length p → p' ≡ why_words s.told ++ drop why_room p
  pub counted : why_room ≤ length p → count ≡ why_room
  -- it is too short: nothing is played, and nothing is told
  pub memory_kept : length p < why_room → m' ≡ m
  pub part-kept : length p < why_room → p' ≡ p
  pub nothing : length p < why_room → count ≡ 0
