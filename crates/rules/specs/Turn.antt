-- Order 7, "Whose turn": the group that C names. Assumes nothing.
use Rattle.std.specs.Prelude.{ℕ, ◌+◌, ◌-◌, Bool, not, List, ◌++◌, get_or}
use Rattle.rules.specs.Lists.{filter, is_empty, up_from}
use Rattle.rules.specs.Build.{group_count}
use Rattle.rules.specs.Node.{Node, line}

-- a group has mail: it "has a line not empty"
unfoldable pub has_mail : Node → ℕ → Bool
has_mail n g = not (is_empty (line n g))

-- "after the running one, upward and round from 8 to 1, the running one last"; "With nobody running it starts at 1."
unfoldable pub turn_order : ℕ → List ℕ
turn_order r = up_from (r + 1) (group_count - r) ++ up_from 1 r

-- C "has as its value the first group .. that has a line not empty; 0 if there is none"
unfoldable pub whose_turn : Node → ℕ
whose_turn n = get_or (filter (has_mail n) (turn_order n.running)) 0 0
