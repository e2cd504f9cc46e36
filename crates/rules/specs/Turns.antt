-- What C says of a node, told without the search by which it is found: the group named has mail, and no group nearer to the running one has; and
-- the set of eight bits by which the code finds it. Assumes nothing.
use Rattle.std.specs.Prelude.{ℕ, zero, suc, ◌+◌, ◌-◌, ◌*◌, ◌/◌, ◌%◌, ◌^◌, ◌≤◌, ◌<◌, ◌≡◌, ◌≢◌, Bool, true, cond, List, [], ltb}
use Rattle.std.specs.Int.Count.{count_trailing_zeros}
use Rattle.rules.specs.Build.{Build, group_count}
use Rattle.rules.specs.Node.{Node, line}
use Rattle.rules.specs.Operation.{turn, no_trap, accepted_with}
use Rattle.rules.specs.Turn.{has_mail, whose_turn}
use Rattle.rules.specs.Step.{step}
use Rattle.rules.specs.Valid.{Valid}
use Rattle.rules.specs.Memory.{node_at}
use Rattle.rules.specs.MemoryTest.{is_memory, step_memory}

-- how far group g is from the running one, "upward and round from 8 to 1": 1 for the next, 8 for the running one itself
unfoldable pub ahead : ℕ → ℕ → ℕ
ahead r g = cond (ltb r g) (g - r) (g + group_count - r)

-- the set of those among k groups from g on that pass the test: g's bit is the lowest
unfoldable pub set_from : (ℕ → Bool) → ℕ → ℕ → ℕ
set_from p g zero = 0
set_from p g (suc k) = cond (p g) 1 0 + 2 * set_from p (suc g) k

-- "the groups with mail are a set of eight bits, one for each group": bit g - 1 for group g
unfoldable pub mail_set : Node → ℕ
mail_set n = set_from (has_mail n) 1 group_count

-- the group that a set names next behind the running one: times 257 the set is written twice, one behind the other, so that shifted down by the
-- running group its lowest bit stands for the group after it, and the eighth for the running one itself
unfoldable pub by_bits : ℕ → ℕ → ℕ
by_bits zero r = 0
by_bits (suc s) r = (count_trailing_zeros 32 (suc s * 257 / 2 ^ r) + r) % 8 + 1

-- no group has mail
unfoldable pub NoMail : Node → Type 0
NoMail n = (g : ℕ) → 1 ≤ g → g ≤ group_count → line n g ≡ []

-- a group with mail, and none with mail is nearer to the running one
pub record NextWithMail (n : Node) (g : ℕ) : Type 0 where
  pub least : 1 ≤ g
  pub most : g ≤ group_count
  pub has-mail : line n g ≢ []
  pub nearest : (h : ℕ) → 1 ≤ h → h ≤ group_count → ahead n.running h < ahead n.running g → line n h ≡ []

-- for every node whose running group is one of the eight, or nobody
pub record Turns : Type 0 where
  -- C names 0 exactly if no group has mail
  pub none_named : (n : Node) → n.running ≤ group_count → whose_turn n ≡ 0 → NoMail n
  pub none-has-mail : (n : Node) → n.running ≤ group_count → NoMail n → whose_turn n ≡ 0
  -- else the next that has
  pub named : (n : Node) → n.running ≤ group_count → whose_turn n ≢ 0 → NextWithMail n (whose_turn n)
  -- the code's way by bits names the same
  pub by-bits : (n : Node) → n.running ≤ group_count → by_bits (mail_set n) n.running ≡ whose_turn n
  -- "C changes nothing", and no upcall is due after it: the whole step on a valid node
  pub whole : (b : Build) (n : Node) → Valid b n
      → step b n turn ≡ record { report = accepted_with (whose_turn n) no_trap 0 0; node = n }
  -- and on memory that is a node
  pub on-memory : (m : List ℕ) → is_memory m ≡ true
      → step_memory m turn ≡ record { report = accepted_with (whose_turn (node_at m)) no_trap 0 0; memory = m }
