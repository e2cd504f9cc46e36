-- Calls over a script's portions, each handed the memory, the state and the kept line that the last one left. Assumes nothing.
use Rattle.std.specs.Prelude.{ℕ, List, [], ◌∷◌}

-- one call: what it was handed beside memory, state and kept line, and what it left
pub record Call : Type 0 where
  pub input : List ℕ
  pub output : List ℕ
  pub part : List ℕ
  pub memory-after : List ℕ
  pub state-after : List ℕ
  pub kept-after : List ℕ
  pub output-after : List ℕ
  pub part-after : List ℕ
  pub count : ℕ

-- the state and the kept line that calls leave
unfoldable pub last_words : List ℕ → List Call → List ℕ
last_words w [] = w
last_words w (c ∷ cs) = last_words c.state-after cs

unfoldable pub last_bytes : List ℕ → List Call → List ℕ
last_bytes b [] = b
last_bytes b (c ∷ cs) = last_bytes c.kept-after cs
