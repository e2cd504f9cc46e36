-- The flags of a group, of which all is asked in one pass. Assumes nothing.
use Prim.Native.Nat.{ℕ, zero, suc, ◌+◌, ◌≤◌, ◌<◌}
use mathlib.Core.Path.{◌≡◌, refl, ◌∙◌}
use mathlib.Core.Logic.{◌⊎◌, inl, inr}
use mathlib.Core.Bool.{Bool, true, false, not, ◌&&◌, ◌||◌, and-true, and-false}
use mathlib.Core.List.{List}
use native.Mathlib.Omega.{arith}
use borrow.Author.Tests.{le-leb, lt-leb}
use lib.Dec.{leb, eqb}
use Rattle.std.proofs.lemmas.Bool.{cases_lt}
use Rattle.rules.specs.Valid.{only_atomic}
use Rattle.rules.specs.Memory.{word, group_address, atomic_offset, pending_offset, force_offset, revoked_offset, flag_at, group_at}
use Rattle.rules.specs.MemoryTest.{group_flags}
use Rattle.validate.specs.Clauses.{flags_atomic, flags_good}

-- a flag is 0 or 1 and only with atomic exactly where it is at most atomic
only_one : (a x : ℕ) → a ≤ 1 → leb x 1 && (eqb a 1 || not (eqb x 1)) ≡ leb x a
only_one zero zero h = refl
only_one zero (suc zero) h = refl
only_one zero (suc (suc x)) h = rw (lt-leb (suc (suc x)) 1 (omega arith), lt-leb (suc (suc x)) 0 (omega arith))
only_one (suc zero) x h = and-true (leb x 1)
only_one (suc (suc a)) x h = absurd (omega arith)

-- what is asked of one flag beside the others
only-parted : (a p q : Bool) (r s : Bool) → (p && r) && (a || not (q || s)) ≡ (p && (a || not q)) && (r && (a || not s))
only-parted true true q r s = refl
only-parted true false q r s = refl
only-parted false true true r s = and-false r
only-parted false true false r s = refl
only-parted false false q r s = refl

-- The flags of a group: all that is asked of them is that none is above atomic, whose word is a, and that a is at most 1.
pub flags_parted : (m : List ℕ) (g a : ℕ) → a ≡ word m (group_address g + atomic_offset)
    → flags_good m g
    ≡ leb a 1
    && (leb (word m (group_address g + pending_offset)) a
    && (leb (word m (group_address g + force_offset)) a && leb (word m (group_address g + revoked_offset)) a))
unfolding flags_good group_flags flags_atomic only_atomic group_at flag_at
flags_parted m g a atomic = go (cases_lt 1 a)
  where
    p : ℕ
    p = word m (group_address g + pending_offset)

    f : ℕ
    f = word m (group_address g + force_offset)

    r : ℕ
    r = word m (group_address g + revoked_offset)

    go : (1 < a) ⊎ (a ≤ 1) → flags_good m g ≡ leb a 1 && (leb p a && (leb f a && leb r a))
    go (inr h) =
        rw (← atomic, le-leb a 1 h)
        (only-parted (eqb a 1) (leb p 1) (eqb p 1) (leb f 1 && leb r 1) (eqb f 1 || eqb r 1)
        ∙ rw (only-parted (eqb a 1) (leb f 1) (eqb f 1) (leb r 1) (eqb r 1), only_one a p h, only_one a f h, only_one a r h))
    go (inl h) = rw (← atomic, lt-leb a 1 h)
