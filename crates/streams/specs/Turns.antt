-- What it means to play a script by portions, to the end of the input or until its answer is settled. It is said by how bytes lead from a memory and a
-- player to others (reaches), by the answer at the end of the input (ends) and by the one that is settled before it (settles). Assumes nothing.
use Rattle.std.specs.Prelude.{ℕ, ◌≤◌, ◌<◌, List, [], ◌++◌, ◌≡◌, ◌⊎◌, Result, Ok, length, take}
use Rattle.std.specs.declared.ops.ControlFlow.{ControlFlow}
use Rattle.std.specs.declared.ops.ControlFlow.TheVariants.{Break, Continue}
use Rattle.streams.specs.Moved.{Moved}
use Rattle.streams.specs.declared.Failed.{Failed as Failed·rt}

-- from a memory and a player to others
abbrev pub Reach : (P : Type 0) → Type 1
Reach P = List ℕ → P → List ℕ → List ℕ → P → Type 0

-- from a memory, a player and an output to others and an answer
abbrev pub End : (P A : Type 0) → Type 1
End P A = List ℕ → P → List ℕ → List ℕ → List ℕ → A → Type 0

-- bytes lead from a memory and a player to others by steps that can be made one after the other
pub record Leads {P : Type 0} (reaches : Reach P) : Type 0 where
  pub none : (m : List ℕ) (p : P) → reaches m p [] m p
  pub more : (m : List ℕ) (p : P) (a m' : List ℕ) (p' : P) (b m'' : List ℕ) (p'' : P)
      → reaches m p a m' p' → reaches m' p' b m'' p'' → reaches m p (a ++ b) m'' p''

-- of a portion some bytes are played, those that stand first in it
pub record Plays {P : Type 0} (reaches : Reach P) (m : List ℕ) (p : P) (input m' : List ℕ) (p' : P) (used : ℕ) : Type 0 where
  pub reached : reaches m p (take used input) m' p'
  pub some : 0 < used
  pub inside : used ≤ length input

-- a read answered got: the bytes that it brought, which stand first in the input, are played; it brought none where the input is at its end
pub record TakesIn {P A : Type 0} (reaches : Reach P) (ends : End P A) (m : List ℕ) (p : P) (got : Result ℕ Failed·rt) (input out m' out' : List ℕ)
    (turn : ControlFlow A P) : Type 0 where
  pub answered : ℕ
  pub read : got ≡ Ok answered
  pub portion : 0 < answered → (p' : P) × ((turn ≡ Continue p') × reaches m p (take answered input) m' p')
  pub at-end : answered ≡ 0 → (a : A) × ((turn ≡ Break a) × ends m p out m' out' a)

-- what a turn has done: that of some read, which brought no more than the input has room for
pub record Turns {P A : Type 0} (reaches : Reach P) (ends : End P A) (m : List ℕ) (p : P) (input out m' out' : List ℕ) (turn : ControlFlow A P) : Type 0 where
  pub got : Result ℕ Failed·rt
  pub moved : Moved (length input) got
  pub takes-in : TakesIn reaches ends m p got input out m' out' turn

-- turns one after the other, so far: what their reads brought is played
pub record GoesOn {P : Type 0} (reaches : Reach P) (m : List ℕ) (p : P) (m' : List ℕ) (p' : P) : Type 0 where
  pub script : List ℕ
  pub reached : reaches m p script m' p'

-- and up to the answer: that at the end of the input, or the one that is settled before it
pub record Runs {P A : Type 0} (reaches : Reach P) (ends : End P A) (settles : P → A → Type 0) (m : List ℕ) (p : P) (m' : List ℕ) (a : A) : Type 0 where
  pub memory : List ℕ
  pub player : P
  pub goes_on : GoesOn reaches m p memory player
  pub stops : ((out : List ℕ) × ((out' : List ℕ) × ends memory player out m' out' a)) ⊎ ((m' ≡ memory) × settles player a)
