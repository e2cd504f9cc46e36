-- Two numbers traded in the lists of the groups, list by list. Assumes nothing.
use Prim.Native.Nat.{ℕ, ◌+◌, ◌≤◌, ◌<◌}
use native.Mathlib.Decide.{dec_lt, dec_le}
use native.Mathlib.Omega.{arith}
use mathlib.Core.Path.{◌≡◌, ap, ◌∙◌}
use mathlib.Core.List.{List, [], ◌∷◌, map, map-append}
use lib.ListN.{length, set, length-map}
use Rattle.rules.specs.Build.{group_count}
use Rattle.rules.specs.Memory.{held_offset, list_offset, word, words_at, list_at, group_address, frame_address}
use Rattle.rules.specs.Paging.{traded}
use Rattle.rules.proofs.Map.MapWords.{length-words_at}
use Rattle.memory.specs.Writes.{Wrote, Swapped}
use Rattle.memory.specs.Paging.{Listing, ListTraded, InList, Traded}
use Rattle.memory.proofs.WriteLaws.{same-words_at, words_at-more, wrote_as, wrote-next}

-- one number more of a list
pub list-next : {m m' : List ℕ} (p q a i x : ℕ) → a + i < length m → Wrote m m' a (map (traded p q) (words_at m a i)) → x ≡ traded p q (word m' (a + i))
    → Wrote m (set m' (a + i) x) a (map (traded p q) (words_at m a (i + 1)))
list-next {m} {m'} p q a i x inside w e =
    let l : length (map (traded p q) (words_at m a i)) ≡ i = length-map (words_at m a i) (traded p q) ∙ length-words_at m a i in
    let same : word m' (a + i) ≡ word m (a + i) = w.above (a + i) (omega arith) in
    let f : x ≡ traded p q (word m (a + i)) = e ∙ ap (traded p q) same in
    wrote_as (wrote-next w (a + i) x (omega arith) inside)
    (rw (f, words_at-more m a i, map-append (traded p q) (words_at m a i) (word m (a + i) ∷ [])))

module _ {m m' m'' : List ℕ} (L : Listing m) (p q k : ℕ) (more : k < group_count) (s : Traded m m' p q k) (w : ListTraded m' m'' p q (k + 1)) where
  -- the record of the next group is as it was
  record_same : (b : ℕ) → group_address (k + 1) ≤ b → word m' b ≡ word m b
  unfolding group_address
  record_same b h = s.else b (λ g l j i. omega (arith, L.short g l (omega arith), i.low, i.high))

  held_same : word m' (group_address (k + 1) + held_offset) ≡ word m (group_address (k + 1) + held_offset)
  held_same = record_same (group_address (k + 1) + held_offset) (omega arith)

  -- so what is written is the list as it was, traded
  list_same : list_at m' (group_address (k + 1)) ≡ list_at m (group_address (k + 1))
  unfolding list_at
  list_same =
      rw held_same
      (same-words_at m m' (group_address (k + 1) + list_offset) (word m (group_address (k + 1) + held_offset)) (λ b l h. record_same b (omega arith)))

  wrote : Wrote m' m'' (group_address (k + 1) + list_offset) (map (traded p q) (list_at m (group_address (k + 1))))
  wrote = wrote_as w (ap (map (traded p q)) list_same)

  wrote-length : length (map (traded p q) (list_at m (group_address (k + 1)))) ≡ word m (group_address (k + 1) + held_offset)
  unfolding list_at
  wrote-length =
      length-map (list_at m (group_address (k + 1))) (traded p q)
      ∙ length-words_at m (group_address (k + 1) + list_offset) (word m (group_address (k + 1) + held_offset))

  lists-more : (g : ℕ) → 1 ≤ g → g ≤ k + 1
      → words_at m'' (group_address g + list_offset) (word m (group_address g + held_offset)) ≡ map (traded p q) (list_at m (group_address g))
  unfolding group_address
  lists-more g low high = go (dec_le g k)
    where
      go : Dec (g ≤ k) → words_at m'' (group_address g + list_offset) (word m (group_address g + held_offset)) ≡ map (traded p q) (list_at m (group_address g))
      go (yes h) =
          same-words_at m' m'' (group_address g + list_offset) (word m (group_address g + held_offset))
          (λ b l j. wrote.below b (omega (arith, L.short g low (omega arith)))) ∙ s.lists g low h
      go (no h) = let e : g ≡ k + 1 = omega arith in rw (e, ← wrote-length) wrote.here

  else-more : (b : ℕ) → ((g : ℕ) → 1 ≤ g → g ≤ k + 1 → InList m g b → ⊥) → word m'' b ≡ word m b
  else-more b out = go (dec_lt b (group_address (k + 1) + list_offset)) ∙ s.else b (λ g l h. out g l (omega arith))
    where
      go : Dec (b < group_address (k + 1) + list_offset) → word m'' b ≡ word m' b
      go (yes h) = wrote.below b h
      go (no h) = behind (dec_lt b (group_address (k + 1) + list_offset + word m (group_address (k + 1) + held_offset)))
        where
          behind : Dec (b < group_address (k + 1) + list_offset + word m (group_address (k + 1) + held_offset)) → word m'' b ≡ word m' b
          behind (yes l) = absurd (out (k + 1) (omega arith) (omega arith) (record { low = omega arith; high = l }))
          behind (no l) = wrote.above b (omega (arith, wrote-length))

  -- one list more
  pub traded-more : Traded m m'' p q (k + 1)
  traded-more = record { same_length = w.same_length ∙ s.same_length; lists = lists-more; else = else-more }

-- the lists stay as long as they were
pub traded-listing : {m m' : List ℕ} {p q k : ℕ} → Listing m → k ≤ group_count → Traded m m' p q k → Listing m'
unfolding group_address
traded-listing {m} {m'} L few s =
    record {
      long = omega (arith, L.long, s.same_length);
      short = λ g l h.
          let same : word m' (group_address g + held_offset) ≡ word m (group_address g + held_offset) =
          s.else (group_address g + held_offset) (λ j i u t. omega (arith, L.short j i (omega arith), t.low, t.high)) in
          omega (arith, L.short g l h);
    }

-- a page is written above the lists
pub copied-listing : {m m' : List ℕ} {ws : List ℕ} (q : ℕ) → Listing m → Wrote m m' (frame_address q) ws → Listing m'
unfolding group_address frame_address
copied-listing {m} {m'} q L w =
    record {
      long = omega (arith, L.long, w.same_length);
      short = λ g l h. rw (w.below (group_address g + held_offset) (omega arith)) (L.short g l h);
    }

-- and so are two pages exchanged
pub swapped-listing : {m m' : List ℕ} (p q k : ℕ) → Listing m → Swapped m m' (frame_address p) (frame_address q) k → Listing m'
unfolding group_address frame_address
swapped-listing {m} {m'} p q k L s =
    record {
      long = omega (arith, L.long, s.same_length);
      short = λ g l h. rw (s.else (group_address g + held_offset) (λ i. absurd (omega arith)) (λ i. absurd (omega arith))) (L.short g l h);
    }
