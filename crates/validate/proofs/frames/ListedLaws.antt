-- The order of entry, the free line, the swap line and the groups' lists as eleven lists, walked one number at a time: the numbers of some of
-- them are those of the lists passed, those passed of the present list, the present number, and the rest. Assumes nothing.
use Prim.Native.Nat.{ℕ, zero, suc, ◌+◌, ◌-◌, ◌≤◌, ◌<◌}
use mathlib.Core.Path.{◌≡◌, refl, ap, ◌∙◌}
use mathlib.Core.List.{List, [], ◌∷◌, ◌++◌, append-nil, append_assoc}
use native.Mathlib.Omega.{arith}
use native.Mathlib.Nat.{add-zero, zero-add, suc-add}
use lib.ListN.{length, length-append}
use Rattle.rules.specs.Lists.{concat_map, up_from}
use Rattle.rules.specs.Valid.{frame_list, idle, frame_numbers, frame_order}
use Rattle.rules.specs.Memory.{free_at, free_count_at, swap_at, swap_count_at, entered_at, entered_count_at, list_offset, held_offset, size, word, words_at, list_at, buffer_at, group_at, groups_from, group_address, paging_from, node_at}
use Rattle.rules.proofs.Steps.ListLaws.{up_from-append}
use Rattle.rules.proofs.Map.MapWords.{length-words_at}
use Rattle.validate.specs.Clauses.{list_start, list_count, list_numbers, listed}
use Rattle.validate.specs.Known.{Counted}

-- lists joined in two parts
concat-append : {A B : Type 0} (f : A → List B) (xs ys : List A) → concat_map f (xs ++ ys) ≡ concat_map f xs ++ concat_map f ys
concat-append f [] ys = refl
concat-append f (x ∷ xs) ys = rw (concat-append f xs ys, append_assoc)

module _ (m : List ℕ) where
  -- words in two parts
  pub words-split : (a j k : ℕ) → words_at m a (j + k) ≡ words_at m a j ++ words_at m (a + j) k
  unfolding words_at
  words-split a zero k = rw (zero-add, add-zero)
  words-split a (suc j) k =
      let e : a + 1 + j ≡ a + suc j = omega arith in
      rw (suc-add, ← e) (ap (λ (r : List ℕ). word m a ∷ r) (words-split (a + 1) j k))

  -- one word more
  pub words_more : (a j : ℕ) → words_at m a (j + 1) ≡ words_at m a j ++ (word m (a + j) ∷ [])
  unfolding words_at
  words_more a j = words-split a j 1

  -- Lists from list a on.

  -- at first none
  pub listed-none : (a : ℕ) → listed m a (a - a) ≡ []
  unfolding listed
  listed-none a = let e : a - a ≡ 0 = omega arith in rw e

  -- in two parts
  listed-split : (a j k : ℕ) → listed m a (j + k) ≡ listed m a j ++ listed m (a + j) k
  unfolding listed
  listed-split a j k =
      ap (concat_map (list_numbers m)) (up_from-append a j k) ∙ concat-append (list_numbers m) (up_from a j) (up_from (a + j) k)

  -- one list more
  pub listed_more : (a l : ℕ) → a ≤ l → listed m a (l + 1 - a) ≡ listed m a (l - a) ++ list_numbers m l
  unfolding listed
  listed_more a l h =
      let e : l + 1 - a ≡ (l - a) + 1 = omega arith in
      let here : a + (l - a) ≡ l = omega arith in
      ap (listed m a) e ∙ listed-split a (l - a) 1 ∙ rw (here, append-nil)

  -- as many numbers more as the list has
  pub listed-length : (a l : ℕ) → a ≤ l → length (listed m a (l + 1 - a)) ≡ length (listed m a (l - a)) + list_count m l
  unfolding list_numbers
  listed-length a l h =
      ap length (listed_more a l h)
      ∙ length-append (listed m a (l - a)) (list_numbers m l)
      ∙ ap (λ (k : ℕ). length (listed m a (l - a)) + k) (length-words_at m (list_start l) (list_count m l))

  -- those of the lists from the free line on are those of the node
  pub numbers-listed : frame_numbers (node_at m) ≡ listed m 1 10
  unfolding frame_numbers idle node_at paging_from listed list_numbers list_start list_count groups_from group_at buffer_at list_at frame_list group_address
  numbers-listed = append_assoc (words_at m free_at (word m free_count_at)) (words_at m swap_at (word m swap_count_at)) _

  -- those of the order of entry and the free line are its frames, in another order
  pub order-listed : (P : List ℕ → Type 0) → ((xs ys : List ℕ) → P (ys ++ xs) → P (xs ++ ys)) → P (listed m 0 2) → P (frame_order (node_at m))
  unfolding frame_order node_at paging_from listed list_numbers list_start list_count
  order-listed P turn h =
      let free = words_at m free_at (word m free_count_at) in
      turn free (words_at m entered_at (word m entered_count_at)) (rw (append-nil free) at h)

  -- what stands behind number i of list l, up to list b
  unfoldable pub behind : ℕ → ℕ → ℕ → List ℕ
  behind b l i = words_at m (list_start l + i + 1) (list_count m l - (i + 1)) ++ listed m (l + 1) (b - (l + 1))

  -- a list, from its number i on
  list-split : (l i : ℕ) → i < list_count m l
      → list_numbers m l ≡ words_at m (list_start l) i ++ (word m (list_start l + i) ∷ words_at m (list_start l + i + 1) (list_count m l - (i + 1)))
  unfolding list_numbers words_at
  list-split l i h =
      let e : list_count m l ≡ i + suc (list_count m l - (i + 1)) = omega arith in
      ap (words_at m (list_start l)) e ∙ words-split (list_start l) i (suc (list_count m l - (i + 1)))

  -- all numbers of the lists from a up to b, from number i of list l on
  pub numbers-split : (a b l i : ℕ) → a ≤ l → l < b → i < list_count m l
      → listed m a (b - a) ≡ (listed m a (l - a) ++ words_at m (list_start l) i) ++ (word m (list_start l + i) ∷ behind b l i)
  unfolding behind
  numbers-split a b l i low high h =
      let e : b - a ≡ (l + 1 - a) + (b - (l + 1)) = omega arith in
      let next : a + (l + 1 - a) ≡ l + 1 = omega arith in
      ap (listed m a) e
      ∙ listed-split a (l + 1 - a) (b - (l + 1))
      ∙ rw (next, listed_more a l low, list-split l i h) (simp append_assoc)

  -- a list has at most 96 numbers, and they are within the memory
  pub list-bound : Counted m → (l : ℕ) → l < 11 → (list_count m l ≤ 96) × (list_start l + list_count m l ≤ size)
  unfolding list_count list_start group_address
  list-bound c zero h = (omega (arith, c.entered), omega (arith, c.entered))
  list-bound c (suc zero) h = (omega (arith, c.free), omega (arith, c.free))
  list-bound c (suc (suc zero)) h = (omega (arith, c.swap), omega (arith, c.swap))
  list-bound c (suc (suc (suc g))) h =
      let held = c.held (suc g) (omega arith) (omega arith) in
      (held, omega (arith, held))

-- Where the list of a group begins.
pub group-start : (l : ℕ) → 2 < l → list_start l ≡ group_address (l - 2) + list_offset
unfolding list_start
group-start zero h = absurd (omega arith)
group-start (suc zero) h = absurd (omega arith)
group-start (suc (suc zero)) h = absurd (omega arith)
group-start (suc (suc (suc g))) h = let e : suc (suc (suc g)) - 2 ≡ suc g = omega arith in rw e

-- How many numbers it has.
pub group-count : (m : List ℕ) (l : ℕ) → 2 < l → list_count m l ≡ word m (group_address (l - 2) + held_offset)
unfolding list_count
group-count m zero h = absurd (omega arith)
group-count m (suc zero) h = absurd (omega arith)
group-count m (suc (suc zero)) h = absurd (omega arith)
group-count m (suc (suc (suc g))) h = let e : suc (suc (suc g)) - 2 ≡ suc g = omega arith in rw e
