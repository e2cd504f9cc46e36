-- What the program promises by its exit status. Assumes nothing.
use Rattle.std.specs.Prelude.{ℕ, ◌≤◌, false, List, None, Some, ◌≡◌, length}
use Rattle.rules.specs.Memory.{size}
use Rattle.why.specs.Asked.{Asks}
use Rattle.why.specs.One.{Answers, refused}
use Rattle.why.specs.All.{Tells}
use Rattle.why.specs.declared.asked.Asked.TheVariants.{All, Line}
use Rattle.why.specs.declared.one.Text.{Text as Text·rt}

-- line w is answered from memory m, which is no refusal
pub record LineTold (m : List ℕ) (w : ℕ) : Type 0 where
  pub output : List ℕ
  pub text : Text·rt
  pub answers : Answers m w output text
  pub told : refused text ≡ false

-- what an argument asks for, and the exit status: 0 only where that is told, from some memory, and 2 exactly where it is nothing
pub data Ends (argument : List ℕ) (status : ℕ) : Type 0 where
  of-line : (m : List ℕ) (w : ℕ) → Asks argument (Some (Line w)) → size ≤ length m → (status ≡ 0 → LineTold m w) → status ≤ 1 → Ends argument status
  of-all : (m : List ℕ) → Asks argument (Some All) → size ≤ length m → (status ≡ 0 → Tells m) → status ≤ 1 → Ends argument status
  of-nothing : Asks argument None → status ≡ 2 → Ends argument status
