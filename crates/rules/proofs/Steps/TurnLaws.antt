-- C: the search through a round, and the step, after which nothing is due. Assumes nothing.
use Prim.Native.Nat.{ℕ, zero, suc, ◌+◌, ◌-◌, ◌≤◌, ◌<◌}
use native.Mathlib.Decide.{ℕ_discrete}
use native.Mathlib.Omega.{arith}
use mathlib.Core.Bool.{Bool, true, false, not}
use mathlib.Core.List.{List, [], ◌∷◌, ◌++◌}
use mathlib.Core.Path.{◌≡◌, ◌∙◌, ap, refl}
use lib.ListN.{get_or}
use Rattle.rules.specs.Lists.{Every, filter, is_empty, up_from}
use Rattle.rules.specs.Build.{Build, group_count}
use Rattle.rules.specs.Node.{Message, Node, line}
use Rattle.rules.specs.Operation.{turn, no_trap, accepted_with}
use Rattle.rules.specs.Refusal.{refusal}
use Rattle.rules.specs.Turn.{has_mail, turn_order, whose_turn}
use Rattle.rules.specs.Step.{Stepped, valued, act, step}
use Rattle.rules.specs.Valid.{Valid}
use Rattle.rules.proofs.Steps.EveryLaws.{every_append, every-up_from}
use Rattle.rules.proofs.Steps.ListLaws.{filter-agree}
use Rattle.rules.proofs.Steps.StepLaws.{step-accepted}
use Rattle.rules.proofs.Steps.QuietLaws.{quiet-finish, valid-quiet}

-- The search.

-- the first that passes the test, 0 if there is none
abbrev pub first_of : (ℕ → Bool) → List ℕ → ℕ
first_of p gs = get_or (filter p gs) 0 0

-- x is what is found first among k numbers from a on, or behind them
pub data Found (p : ℕ → Bool) (a k : ℕ) (behind : List ℕ) (x : ℕ) : Type 0 where
  within : a ≤ x → x < a + k → p x ≡ true → ((i : ℕ) → a ≤ i → i < x → p i ≡ false) → Found p a k behind x
  beyond : x ≡ first_of p behind → ((i : ℕ) → a ≤ i → i < a + k → p i ≡ false) → Found p a k behind x

pub found-upward : (p : ℕ → Bool) (a k : ℕ) (behind : List ℕ) → Found p a k behind (first_of p (up_from a k ++ behind))
found-upward p a zero behind = beyond refl (λ i low high. absurd (omega arith))
found-upward p a (suc k) behind = go (found-upward p (suc a) k behind) (p a) refl
  where
    rest : List ℕ
    rest = up_from (suc a) k ++ behind

    from : p a ≡ false → (x : ℕ) → ((i : ℕ) → suc a ≤ i → i < x → p i ≡ false) → (i : ℕ) → a ≤ i → i < x → p i ≡ false
    from off x none i low high = at (ℕ_discrete i a)
      where
        at : Dec (i ≡ a) → p i ≡ false
        at (yes same) = ap p same ∙ off
        at (no other) = none i (omega arith) high

    step : p a ≡ false → (x : ℕ) → Found p (suc a) k behind x → Found p a (suc k) behind x
    step off x (within low high on none) = within (omega arith) (omega arith) on (from off x none)
    step off x (beyond e none) = beyond e (λ i low high. from off (suc a + k) none i low (omega arith))

    go : Found p (suc a) k behind (first_of p rest) → (t : Bool) → p a ≡ t → Found p a (suc k) behind (get_or (elim t as (λ t. List ℕ) [ true ↦ a ∷ filter p rest | false ↦ filter p rest ]) 0 0)
    go later true on = within (omega arith) (omega arith) on (λ i low high. absurd (omega arith))
    go later false off = step off (first_of p rest) later

-- a round has the eight groups alone
round-groups : (P : ℕ → Type 0) → ((g : ℕ) → 1 ≤ g → g ≤ group_count → P g) → (r : ℕ) → r ≤ group_count → Every P (turn_order r)
unfolding turn_order
round-groups P each r bound =
    (every_append P (up_from (r + 1) (group_count - r)) (up_from 1 r)).1
    (every-up_from P (r + 1) (group_count - r) (λ i low high. each i (omega arith) (omega arith)), every-up_from P 1 r (λ i low high. each i low (omega arith)))

-- so tests that agree on them find the same
pub round_same : (p q : ℕ → Bool) → ((g : ℕ) → 1 ≤ g → g ≤ group_count → p g ≡ q g) → (r : ℕ) → r ≤ group_count
    → first_of p (turn_order r) ≡ first_of q (turn_order r)
round_same p q same r bound =
    ap (λ (gs : List ℕ). get_or gs 0 0) (filter-agree p q (turn_order r) (round-groups (λ g. p g ≡ q g) same r bound))

-- nodes with the same lines and the same runner have the same turn
pub turn-same : (n k : Node) → n.running ≡ k.running → n.running ≤ group_count → ((g : ℕ) → 1 ≤ g → g ≤ group_count → line n g ≡ line k g)
    → whose_turn n ≡ whose_turn k
unfolding whose_turn has_mail
turn-same n k runs bound lines =
    round_same (has_mail n) (has_mail k) (λ g low high. ap (λ (l : List Message). not (is_empty l)) (lines g low high)) n.running bound
    ∙ ap (λ (r : ℕ). first_of (has_mail k) (turn_order r)) runs

-- The step.

-- nothing is due after it
pub turn-whole : {b : Build} {n : Node} → Valid b n → step b n turn ≡ record { report = accepted_with (whose_turn n) no_trap 0 0; node = n }
unfolding refusal act valued
turn-whole {b} {n} v = step-accepted b n turn tt refl ∙ quiet-finish (act b n turn) (valid-quiet v)

-- "C changes nothing"
pub turn-kept : {b : Build} {n : Node} → Valid b n → (step b n turn).node ≡ n
turn-kept v = ap (λ (s : Stepped). s.node) (turn-whole v)
