-- The line number that a counter stands at, and a bound of it. Assumes nothing.
use Rattle.std.specs.Prelude.{ℕ, ◌≤◌}
use Rattle.script.specs.Written.{Counts}
use Rattle.script.specs.declared.write.Counter.{Counter as Counter·rt}

-- a counter stands at a number up to `most`
pub record CountsTo (counter : Counter·rt) (most : ℕ) : Type 0 where
  pub number : ℕ
  pub counts : Counts counter number
  pub few : number ≤ most
