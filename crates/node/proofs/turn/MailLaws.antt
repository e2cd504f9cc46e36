-- Mail as it is read from memory, and the set of the groups that have it. Assumes nothing.
use Prim.Native.Nat.{ℕ, zero, suc, ◌+◌, ◌-◌, ◌*◌, ◌/◌, ◌%◌, ◌^◌, ◌≤◌, ◌<◌}
use native.Mathlib.Nat.{lt_of_lt_of_le, pow-suc}
use native.Mathlib.Omega.{arith}
use mathlib.Core.Bool.{Bool, true, false, cond, not}
use mathlib.Core.List.{List, [], ◌∷◌}
use mathlib.Core.Logic.{◌≢◌}
use mathlib.Core.Path.{◌≡◌, refl, sym, ap, ◌∙◌}
use lib.Count.{count_trailing_zeros}
use lib.Dec.{ltb}
use lib.ListN.{length}
use lib.Pow.{pow_mono}
use borrow.Author.Tests.{lt-ltb, ltb-true}
use Rattle.rules.specs.Build.{group_count, paper01}
use Rattle.rules.specs.Lists.{is_empty}
use Rattle.rules.specs.Node.{Message, Node, buffer_holds, group_of, in_queue}
use Rattle.rules.specs.Operation.{accepted_with, no_trap, turn}
use Rattle.rules.specs.Refusal.{refusal}
use Rattle.rules.specs.Step.{act, valued}
use Rattle.rules.specs.Turn.{has_mail, whose_turn}
use Rattle.rules.specs.Turns.{set_from, mail_set, by_bits}
use Rattle.rules.specs.Types.{report_of}
use Rattle.rules.specs.Valid.{Valid}
use Rattle.memory.specs.Holds.{Holds}
use Rattle.rules.proofs.Steps.LineLaws.{direct-line, line-buffered}
use Rattle.rules.proofs.Steps.QuietLaws.{valid-quiet}
use Rattle.rules.proofs.Steps.SoundLaws.{valid-sound}
use Rattle.rules.proofs.Demands.TurnsLaws.{turns}
use Rattle.std.specs.Prelude.{Ok}
use Rattle.node.specs.Steps.{Acted, done}
use Rattle.node.proofs.StepMap.{one-act, stepping-quiet}

-- a group with a message in its buffer has mail
pub buffered-mail : {n : Node} → Valid paper01 n → (g : ℕ) → 1 ≤ g → g ≤ group_count → buffer_holds n g ≡ true → has_mail n g ≡ true
unfolding has_mail buffer_holds
buffered-mail {n} v g low high holds = ap not (line-buffered (valid-sound v) g low high (ltb-true 0 (group_of n g).buffer.count holds))

-- one with none in it has mail where one of its messages is queued
pub queued-mail : (n : Node) (g : ℕ) → buffer_holds n g ≡ false → ltb 0 (length (in_queue n g)) ≡ has_mail n g
unfolding has_mail
queued-mail n g none = counted (in_queue n g) ∙ ap (λ (l : List Message). not (is_empty l)) (sym (direct-line n g none))
  where
    counted : (l : List Message) → ltb 0 (length l) ≡ not (is_empty l)
    counted [] = refl
    counted (m ∷ l) = lt-ltb 0 (suc (length l)) (omega arith)

-- the set of the groups from g on is that of those above it, doubled, and 1 more where g is in it
pub set_more : (p : ℕ → Bool) (g : ℕ) → 1 ≤ g → g ≤ group_count → (t : Bool) → p g ≡ t → (above set : ℕ)
    → above ≡ set_from p (suc g) (group_count - g) → set ≡ cond t 1 0 + 2 * above → set ≡ set_from p (suc (g - 1)) (group_count - (g - 1))
unfolding set_from
set_more p g low high t on above set e f =
    let first : suc (g - 1) ≡ g = omega arith in
    let rest : group_count - (g - 1) ≡ suc (group_count - g) = omega arith in
    f ∙ (λ i. cond (sym on i) 1 0 + 2 * e i) ∙ sym (ap (λ (a : ℕ). set_from p a (group_count - (g - 1))) first ∙ ap (set_from p g) rest)

-- k groups make a set below 2 ^ k
set_below : (p : ℕ → Bool) (g k : ℕ) → set_from p g k < 2 ^ k
unfolding set_from
set_below p g zero = omega arith
set_below p g (suc k) = go (p g) (set_below p (suc g) k)
  where
    go : (t : Bool) → set_from p (suc g) k < 2 ^ k → cond t 1 0 + 2 * set_from p (suc g) k < 2 ^ suc k
    go true below = rw (pow-suc 2 k) (omega arith)
    go false below = rw (pow-suc 2 k) (omega arith)

pub set-within : (p : ℕ → Bool) (g k j : ℕ) → k ≤ j → set_from p g k < 2 ^ j
set-within p g k j few = lt_of_lt_of_le (set_below p g k) (pow_mono few)

pub mail-byte : (n : Node) → mail_set n < 256
unfolding mail_set
mail-byte n = set-within (has_mail n) 1 group_count 8 (omega arith)

-- a set that is not empty names a group
pub bits-some : (s r : ℕ) → s ≢ 0 → by_bits s r ≡ (count_trailing_zeros 32 (s * 257 / 2 ^ r) + r) % 8 + 1
unfolding by_bits
bits-some zero r some = absurd (some refl)
bits-some (suc s) r some = refl

-- C names the group that the bits name, and nothing is due after it
pub turn-acts : {m : List ℕ} {n : Node} {r : List ℕ} {g : ℕ} → Holds m n r → Valid paper01 n → g ≡ by_bits (mail_set n) n.running
    → Acted m n r turn (Ok (done g))
unfolding refusal act valued
turn-acts {n = n} h v named =
    stepping-quiet turn (valued (whose_turn n) n) (one-act n turn tt refl refl) (valid-quiet v) h
    (ap (λ (g : ℕ). report_of (accepted_with g no_trap 0 0)) (named ∙ turns.by-bits n v.running-bound))
