-- What an argument asks for. Assumes nothing.
use Rattle.std.specs.Prelude.{ℕ, List, ◌≡◌, Option, None, Some}
use Rattle.std.proofs.Math.Option.{none, some}
use Rattle.std.proofs.Math.Option as number
use Rattle.rules.specs.Script.{number}
use Rattle.rules.specs.Text.{bytes}
use Rattle.why.specs.declared.asked.Asked.{Asked as Asked·rt}
use Rattle.why.specs.declared.asked.Asked.TheVariants.{All, Line}

-- a line, where there is a number, or nothing
unfoldable pub line_asked : number.Option ℕ → Option Asked·rt
line_asked none = None
line_asked (some w) = Some (Line w)

-- every accepted arrival, or a line by its number, written as the numbers of a script are
pub record Asks (text : List ℕ) (a : Option Asked·rt) : Type 0 where
  pub all : text ≡ bytes "--all" → a ≡ Some All
  pub line : (text ≡ bytes "--all" → ⊥) → a ≡ line_asked (number text)
