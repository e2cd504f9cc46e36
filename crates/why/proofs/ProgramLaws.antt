-- What the program ends with, by what is asked. Assumes nothing.
use Prim.Native.Nat.{ℕ, ◌≤◌}
use native.Mathlib.Omega.{arith}
use mathlib.Core.List.{List}
use mathlib.Core.Path.{◌≡◌, subst}
use lib.ListN.{length}
use Rattle.std.proofs.Common.{Err, Ok, OnOk, Option, Result, Some, if◌then◌else◌, is_ok}
use Rattle.streams.specs.declared.Failed.{Failed}
use Rattle.rules.specs.Memory.{size}
use Rattle.why.specs.All.{Tells}
use Rattle.why.specs.Asked.{Asks}
use Rattle.why.specs.Program.{Ends, LineTold, of-all, of-line}
use Rattle.why.specs.declared.asked.Asked.{Asked as Asked·rt}
use Rattle.why.specs.declared.asked.Asked.TheVariants.{All, Line}

-- 0 is the exit status of what was told alone
told_of-status : {P : Type 0} (told : Result (Unit {0}) Failed) {status : ℕ} → status ≡ (if is_ok told then 0 else 1) → OnOk told P
    → (status ≡ 0 → P) × (status ≤ 1)
told_of-status (Ok a) e p = (λ _. p, omega arith)
told_of-status (Err f) e p = (λ z. absurd (omega arith), omega arith)

module _ {argument : List ℕ} {asked : Option Asked·rt} (asks : Asks argument asked) (told : Result (Unit {0}) Failed) {status : ℕ}
    (ends : status ≡ (if is_ok told then 0 else 1)) where
  pub ends-line : (m : List ℕ) (w : ℕ) → asked ≡ Some (Line w) → size ≤ length m → OnOk told (LineTold m w) → Ends argument status
  ends-line m w e long line = let h = told_of-status told ends line in of-line m w (subst (Asks argument) e asks) long h.0 h.1

  pub ends-all : (m : List ℕ) → asked ≡ Some All → size ≤ length m → OnOk told (Tells m) → Ends argument status
  ends-all m e long all = let h = told_of-status told ends all in of-all m (subst (Asks argument) e asks) long h.0 h.1
