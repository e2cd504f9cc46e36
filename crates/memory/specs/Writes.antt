-- What a write does to memory: the one relation by which the functions over lent words say what they change. Assumes nothing.
use Rattle.std.specs.Prelude.{ℕ, ◌+◌, ◌≤◌, ◌<◌, ◌≡◌, List, [], ◌∷◌, length}
use Rattle.rules.specs.Build.{group_count}
use Rattle.rules.specs.Memory.{size, group_stride, atomic_offset, pending_offset, force_offset, revoked_offset, used_offset, count_offset, word, words_at, group_address}
use Rattle.memory.specs.declared.group.Group.{Group as Group·rt}

-- m' is m with the words ws at address a
pub record Wrote (m m' : List ℕ) (a : ℕ) (ws : List ℕ) : Type 0 where
  pub same_length : length m' ≡ length m
  pub here : words_at m' a (length ws) ≡ ws
  pub below : (b : ℕ) → b < a → word m' b ≡ word m b
  pub above : (b : ℕ) → a + length ws ≤ b → word m' b ≡ word m b

-- m' is m with the n words at addresses a and b exchanged
pub record Swapped (m m' : List ℕ) (a b n : ℕ) : Type 0 where
  pub same_length : length m' ≡ length m
  pub first : words_at m' a n ≡ words_at m b n
  pub second : words_at m' b n ≡ words_at m a n
  pub else : (c : ℕ) → (a ≤ c → a + n ≤ c) → (b ≤ c → b + n ≤ c) → word m' c ≡ word m c

-- word k of the record of group g is within the memory
pub record InGroup (m : List ℕ) (g k : ℕ) : Type 0 where
  pub long : size ≤ length m
  pub low : 1 ≤ g
  pub high : g ≤ group_count
  pub inside : k < group_stride

-- the flags and counts of group g, as they are read
abbrev pub group_read : List ℕ → ℕ → Group·rt
group_read m g =
    record {
      atomic = word m (group_address g + atomic_offset);
      pending = word m (group_address g + pending_offset);
      force = word m (group_address g + force_offset);
      revoked = word m (group_address g + revoked_offset);
      used = word m (group_address g + used_offset);
      count = word m (group_address g + count_offset);
    }

-- their words, which stand first in a group's record
abbrev pub group_front : Group·rt → List ℕ
group_front x = x.atomic ∷ x.pending ∷ x.force ∷ x.revoked ∷ x.used ∷ x.count ∷ []

-- the same with these of the flags atomic and pending
abbrev pub reflagged : ℕ → ℕ → Group·rt → Group·rt
reflagged a p x = record { atomic = a; pending = p; force = x.force; revoked = x.revoked; used = x.used; count = x.count }

-- with these of the timer's flags
abbrev pub retimed : ℕ → ℕ → Group·rt → Group·rt
retimed f r x = record { atomic = x.atomic; pending = x.pending; force = f; revoked = r; used = x.used; count = x.count }

-- and with these counts
abbrev pub recounted : ℕ → ℕ → Group·rt → Group·rt
recounted h n x = record { atomic = x.atomic; pending = x.pending; force = x.force; revoked = x.revoked; used = h; count = n }
