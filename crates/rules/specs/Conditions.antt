-- "Who can cause a refusal" as a table: the number of each refusal, and when it is due. It is written from the paper with the paper's own
-- numbers, and not from Refusal: DemandOne says that the two agree. Assumes nothing.
use Rattle.std.specs.Prelude.{ℕ, ◌+◌, ◌/◌, ◌≤◌, ◌<◌, ◌≡◌, ◌≢◌, ◌⊎◌, true, false, cond, List, [], ◌∷◌, eqb, length}
use Rattle.rules.specs.Node.{Message, Node, group_of, in_queue, line}
use Rattle.rules.specs.Operation.{peek, dispose, end_atomic, describe, launch}
use Rattle.rules.specs.Operation.{Request, Operation, arrive, schedule, dispatch, tick, user, unknown}
use Rattle.rules.specs.MemoryTest.{is_memory}

-- "(h + n + k) / 8 rounded up", with k the messages of group g in the hardware queue once one more has arrived for group a
unfoldable pub pledge_with : Node → ℕ → ℕ → ℕ
pledge_with n a g =
    ((group_of n g).buffer.used + (group_of n g).buffer.count + (length (in_queue n g) + cond (eqb a g) 1 0) + 7) / 8

-- the pledges of the eight groups
unfoldable pub pledges_with : Node → ℕ → ℕ
pledges_with n a =
    pledge_with n a 1 + pledge_with n a 2 + pledge_with n a 3 + pledge_with n a 4 + pledge_with n a 5 + pledge_with n a 6 + pledge_with n a 7
    + pledge_with n a 8

-- the table: which operation is due which refusal, by its number, on memory m that holds node n
pub data Due (m : List ℕ) (n : Node) : Operation → ℕ → Type 0 where
  -- "1: memory too short, or not a node."
  not-node : {op : Operation} → is_memory m ≡ false → Due m n op 1
  -- "2: unknown operation or unreadable line."
  unreadable : Due m n unknown 2
  -- "3: group not 1 to 8."
  bad-group : {g : ℕ} {ws : List ℕ} → ¬ ((1 ≤ g) × (g ≤ 8)) → Due m n (arrive g ws) 3
  -- "4: no words, or more than 8."
  bad-words : {g : ℕ} {ws : List ℕ} → (length ws ≡ 0) ⊎ (8 < length ws) → Due m n (arrive g ws) 4
  -- "5: 16 messages already in the hardware queue."
  queue-full : {g : ℕ} {ws : List ℕ} → length n.queue ≡ 16 → Due m n (arrive g ws) 5
  -- "6: with this message the pledges would sum to above 32."; "Answer 6 .. now read[s] 96 for 32"
  no-frames : {g : ℕ} {ws : List ℕ} → 96 < pledges_with n g → Due m n (arrive g ws) 6
  -- "7: nobody runs"
  nobody-runs : {r : Request} → n.running ≡ 0 → Due m n (user r) 7
  -- "8: D or E with an empty line."
  nothing-to-dispose : line n n.running ≡ [] → Due m n (user dispose) 8
  nothing-to-peek : {i : ℕ} → line n n.running ≡ [] → Due m n (user (peek i)) 8
  -- "9: E with i not below the message's length."
  past-message : {i : ℕ} {first : Message} {others : List Message}
      → line n n.running ≡ first ∷ others
      → length first.words ≤ i
      → Due m n (user (peek i)) 9
  -- "10: N while pending."
  still-pending : (group_of n n.running).pending ≡ true → Due m n (user end_atomic) 10
  -- "11: P with 8 words in the descriptor."
  descriptor-full : {w : ℕ} → length (group_of n n.running).descriptor ≡ 8 → Due m n (user (describe w)) 11
  -- "12: L with an empty descriptor; 13, after it: node above 63."
  descriptor-empty : {k : ℕ} → (group_of n n.running).descriptor ≡ [] → Due m n (user (launch k)) 12
  bad-node : {k : ℕ} → 63 < k → Due m n (user (launch k)) 13
  -- "14: S above 8."
  bad-schedule : {g : ℕ} → 8 < g → Due m n (schedule g) 14
  -- "14 for a group outside 1 to 8"
  bad-dispatch : {g : ℕ} → ¬ ((1 ≤ g) × (g ≤ 8)) → Due m n (dispatch g) 14
  -- "15: T with 0 or above 65,535."
  bad-ticks : {k : ℕ} → (k ≡ 0) ⊎ (65535 < k) → Due m n (tick k) 15
  -- "It refuses I with 16 when a group already runs"
  already-runs : {g : ℕ} → n.running ≢ 0 → Due m n (dispatch g) 16

-- the answer is the first number that is due, in the paper's order, which is that of the numbers; it is 0 where none is
pub record FirstDue (m : List ℕ) (n : Node) (op : Operation) (answer : ℕ) : Type 0 where
  pub none : answer ≡ 0 → (k : ℕ) → ¬ Due m n op k
  pub due : answer ≢ 0 → Due m n op answer
  pub first : (k : ℕ) → k < answer → ¬ Due m n op k
