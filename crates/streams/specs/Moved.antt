-- What a read may answer. Assumes nothing.
use Rattle.std.specs.Prelude.{ℕ, ◌≤◌, Result, IfOk}
use Rattle.streams.specs.declared.Failed.{Failed as Failed·rt}

-- a read that is handed room for n bytes: how many it brought, at most n, or that it failed
abbrev pub Moved : ℕ → Result ℕ Failed·rt → Type 0
Moved n r = IfOk r (λ k. k ≤ n)
