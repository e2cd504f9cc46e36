-- The operation of a letter and its numbers, by their count and the first of them. Assumes nothing.
use Prim.Native.Nat.{ℕ, zero, suc, ◌<◌}
use native.Mathlib.Omega.{arith}
use borrow.Author.Tests.{eqb-true}
use mathlib.Core.Path.{◌≡◌, refl, sym}
use mathlib.Core.Logic.{◌≢◌}
use mathlib.Core.List.{List, [], ◌∷◌}
use mathlib.Core.Option.{some}
use lib.Dec.{eqb}
use Rattle.rules.specs.Lists.{Every}
use Rattle.rules.specs.Operation.{unknown}
use Rattle.rules.specs.Script.{Letter, letters, lettered, group_and_words, one_field, no_field, yes_or_no, force_field}
use Rattle.rules.specs.Script as script
use Rattle.rules.specs.Types.{operation_of}
use Rattle.rules.specs.declared.Operation.{Operation as Operation·rt}
use Rattle.rules.specs.declared.Operation.TheVariants.{Arrive, Unknown}
use Rattle.script.specs.Read.{Alone, BeginRead, Lettered, WithNumber}
use Rattle.script.proofs.read.LineEndLaws.{by-test}

-- no operation where each letter of the table is another or has another count of fields
passed : (c : ℕ) (ns : List ℕ) (ls : List Letter) → Every (λ (l : Letter). c ≡ l.letter → l.fields ns ≡ unknown) ls → lettered c ls ns ≡ unknown
unfolding lettered
passed c ns [] each = refl
passed c ns (l ∷ ls) each =
    by-test
    (eqb c l.letter)
    (λ e. rw (lettered, e) (each.0 (eqb-true c l.letter e)))
    (λ e. rw (lettered, e) (passed c ns ls each.1))

-- the letters that may stand without a field, and those that may stand with one
pub record NotAlone (c : ℕ) : Type 0 where
  pub no-preempt : c ≡ 79 → ⊥
  pub no-turn : c ≡ 67 → ⊥
  pub no-poll : c ≡ 77 → ⊥
  pub no-dispose : c ≡ 68 → ⊥
  pub no-begin : c ≡ 66 → ⊥
  pub no_end : c ≡ 78 → ⊥

pub record NotOne (c : ℕ) : Type 0 where
  pub no-arrive : c ≡ 65 → ⊥
  pub no-schedule : c ≡ 83 → ⊥
  pub no-dispatch : c ≡ 73 → ⊥
  pub no-tick : c ≡ 84 → ⊥
  pub no-peek : c ≡ 69 → ⊥
  pub no-begin : c ≡ 66 → ⊥
  pub no-describe : c ≡ 80 → ⊥
  pub no-launch : c ≡ 76 → ⊥

module _ (c : ℕ) where
  -- any other without a field
  none-unknown : NotAlone c → lettered c letters [] ≡ unknown
  unfolding letters group_and_words one_field no_field force_field
  none-unknown other = passed c [] letters (λ q. refl, (λ q. refl, (λ q. absurd (other.no-preempt q), (λ q. refl, (λ q. refl, (λ q. absurd (other.no-turn q), (λ q. absurd (other.no-poll q), (λ q. refl, (λ q. absurd (other.no-dispose q), (λ q. absurd (other.no-begin q), (λ q. absurd (other.no_end q), (λ q. refl, (λ q. refl, tt)))))))))))))

  -- any other with one field
  one-unknown : (n : ℕ) → NotOne c → lettered c letters (n ∷ []) ≡ unknown
  unfolding letters group_and_words one_field no_field force_field
  one-unknown n other = passed c (n ∷ []) letters (λ q. absurd (other.no-arrive q), (λ q. absurd (other.no-schedule q), (λ q. refl, (λ q. absurd (other.no-dispatch q), (λ q. absurd (other.no-tick q), (λ q. refl, (λ q. refl, (λ q. absurd (other.no-peek q), (λ q. refl, (λ q. absurd (other.no-begin q), (λ q. refl, (λ q. absurd (other.no-describe q), (λ q. absurd (other.no-launch q), tt)))))))))))))

  -- any other with more
  more-unknown : (n m : ℕ) (ns : List ℕ) → (c ≡ 65 → ⊥) → lettered c letters (n ∷ m ∷ ns) ≡ unknown
  unfolding letters group_and_words one_field no_field force_field
  more-unknown n m ns other = passed c (n ∷ m ∷ ns) letters (λ q. absurd (other q), (λ q. refl, (λ q. refl, (λ q. refl, (λ q. refl, (λ q. refl, (λ q. refl, (λ q. refl, (λ q. refl, (λ q. refl, (λ q. refl, (λ q. refl, (λ q. refl, tt)))))))))))))

-- a number that tells neither no nor yes
pub begins-not : (force : ℕ) → force ≢ 0 → force ≢ 1 → BeginRead force Unknown
unfolding BeginRead operation_of yes_or_no
begins-not zero none one = absurd (none refl)
begins-not (suc zero) none one = absurd (one refl)
begins-not (suc (suc k)) none one = refl

module _ (letter : ℕ) (op : Operation·rt) where
  -- a letter of the table without numbers
  pub reads-alone : (c : ℕ) → letter ≡ c → operation_of op [] ≡ script.operation_of c (some []) → Alone letter op
  unfolding Alone
  reads-alone c e same = rw e same

  -- and with one
  pub reads-number : (number c : ℕ) → letter ≡ c → operation_of op [] ≡ script.operation_of c (some (number ∷ [])) → WithNumber letter number op
  unfolding WithNumber
  reads-number number c e same other = rw e same

-- any other without numbers
pub reads-not-alone : (letter : ℕ) → NotAlone letter → Alone letter Unknown
unfolding Alone operation_of script.operation_of
reads-not-alone letter other = sym (none-unknown letter other)

-- and with one
pub reads-not-one : (letter number : ℕ) → (letter ≢ 65 → NotOne letter) → WithNumber letter number Unknown
unfolding WithNumber operation_of script.operation_of
reads-not-one letter number other no-arrive = sym (one-unknown letter number (other no-arrive))

module _ (letter count first : ℕ) where
  -- no number
  pub reads_none : (op : Operation·rt) → count ≡ 0 → Alone letter op → Lettered letter count first op
  unfolding Alone Lettered
  reads_none op z same [] l f = same
  reads_none op z same (n ∷ ns) l f = absurd (omega arith)

  -- one, behind another letter than A
  pub reads-one : (op : Operation·rt) → count ≡ 1 → letter ≢ 65 → WithNumber letter first op → Lettered letter count first op
  unfolding WithNumber Lettered
  reads-one op z other same [] l f = absurd (omega arith)
  reads-one op z other same (n ∷ []) l f = rw f (same other)
  reads-one op z other same (n ∷ m ∷ ns) l f = absurd (omega arith)

  -- an arrival
  pub reads-arrival : letter ≡ 65 → 0 < count → Lettered letter count first (Arrive first)
  unfolding Lettered operation_of script.operation_of lettered letters group_and_words
  reads-arrival e h [] l f = absurd (omega arith)
  reads-arrival e h (n ∷ ns) l f = rw (e, f)

  -- several fields
  pub reads-many : 1 < count → (letter ≡ 65 → ⊥) → Lettered letter count first Unknown
  unfolding Lettered operation_of script.operation_of
  reads-many h other [] l f = absurd (omega arith)
  reads-many h other (n ∷ []) l f = absurd (omega arith)
  reads-many h other (n ∷ m ∷ ns) l f = sym (more-unknown letter n m ns other)
