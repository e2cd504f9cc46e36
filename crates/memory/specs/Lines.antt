-- What is done to a line of numbers in memory: a count at one address, and so many numbers from another on. Assumes nothing.
use Rattle.std.specs.Prelude.{ℕ, suc, ◌+◌, ◌-◌, ◌≤◌, ◌<◌, cond, ◌≡◌, List, [], ◌∷◌, ◌++◌, eqb, length}
use Rattle.rules.specs.Memory.{word, words_at}
use Rattle.memory.specs.Writes.{Wrote}

-- a line lies within the memory
pub record InLine (m : List ℕ) (count line : ℕ) : Type 0 where
  pub counted : count < length m
  pub inside : line + word m count ≤ length m

-- the number x at index i leaves: those behind it move up, 0 follows them, and the count is one less
pub record Left (m m' : List ℕ) (count line i x : ℕ) : Type 0 where
  pub number : x ≡ word m (line + i)
  pub between : List ℕ
  pub moved : Wrote m between (line + i) (words_at m (line + i + 1) (word m count - i - 1) ++ (0 ∷ []))
  pub counted : Wrote between m' count ((word m count - 1) ∷ [])

-- the number x joins the end, and the count is one more
pub record Joined (m m' : List ℕ) (count line x : ℕ) : Type 0 where
  pub between : List ℕ
  pub written : Wrote m between (line + word m count) (x ∷ [])
  pub counted : Wrote between m' count ((word m count + 1) ∷ [])

-- the index at which a number first stands, the length if it stands nowhere
unfoldable pub index_of : ℕ → List ℕ → ℕ
index_of x [] = 0
index_of x (y ∷ ys) = cond (eqb y x) 0 (suc (index_of x ys))
