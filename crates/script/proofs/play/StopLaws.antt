-- Why playing stopped: one of three reasons, no two of which are one. Assumes nothing.
use native.Mathlib.Omega.{arith}
use mathlib.Core.Path.{◌≡◌, refl, ap}
use Rattle.script.specs.Play.{stop_number}
use Rattle.script.specs.declared.play.Stop.{Stop as Stop·rt}
use Rattle.script.specs.declared.play.Stop.TheVariants.{AllUsed, NoRoom, LastNumber}

pub stop-cases : (s : Stop·rt) {C : Type 0} → (s ≡ AllUsed → C) → (s ≡ NoRoom → C) → (s ≡ LastNumber → C) → C
stop-cases AllUsed all room last = all refl
stop-cases NoRoom all room last = room refl
stop-cases LastNumber all room last = last refl

pub all-or-room : AllUsed ≡ NoRoom → ⊥
all-or-room e = let n = ap stop_number e in omega arith

pub all-or-number : AllUsed ≡ LastNumber → ⊥
all-or-number e = let n = ap stop_number e in omega arith

pub room-or-number : NoRoom ≡ LastNumber → ⊥
room-or-number e = let n = ap stop_number e in omega arith

-- the number of the first is that of no other
pub stop-all : (s : Stop·rt) → stop_number s ≡ 0 → s ≡ AllUsed
stop-all AllUsed e = refl
stop-all NoRoom e = absurd (omega arith)
stop-all LastNumber e = absurd (omega arith)
