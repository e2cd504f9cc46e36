-- One line more. Assumes nothing.
use Prim.Native.Nat.{ℕ, ◌+◌, ◌≤◌, ◌<◌}
use native.Mathlib.Omega.{arith}
use Rattle.script.specs.Written.{Counts, Countable, last_count}
use Rattle.script.specs.declared.write.Counter.{Counter as Counter·rt}
use Rattle.tested.specs.Counted.{CountsTo}

pub counts-one : {counter counter' : Counter·rt} {most : ℕ} → CountsTo counter most
    → ((i : ℕ) → Counts counter i → Counts counter' (i + 1)) → CountsTo counter' (most + 1)
counts-one c more = record { number = _; counts = more c.number c.counts; few = let f = c.few in omega arith }

-- a larger bound
pub counts-within : {counter : Counter·rt} {most more : ℕ} → CountsTo counter most → most ≤ more → CountsTo counter more
counts-within c h = record { number = c.number; counts = c.counts; few = let f = c.few in omega arith }

-- the next number can be written
pub counts-countable : {counter : Counter·rt} {most : ℕ} → CountsTo counter most → most < last_count → Countable counter
counts-countable c h = record { number = c.number; counts = c.counts; below = let f = c.few in omega arith }
