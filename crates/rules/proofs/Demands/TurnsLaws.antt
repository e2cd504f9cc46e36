-- What C names: the next group with mail, by the search and by bits. Assumes nothing.
use Prim.Native.Nat.{ℕ, zero, suc, pred, ◌+◌, ◌-◌, ◌≤◌, ◌<◌}
use native.Mathlib.Omega.{arith}
use mathlib.Core.Bool.{Bool, true, false, false≢true, not, ◌&&◌, and-eq-true_iff}
use mathlib.Core.List.{List, [], ◌∷◌, ◌++◌, map, append-nil}
use mathlib.Core.Logic.{◌≢◌}
use mathlib.Core.Path.{◌≡◌, ◌∙◌, ap, refl, subst, sym}
use lib.Count.{count_trailing_zeros}
use lib.Dec.{eqb, ltb}
use lib.ListN.{length, get_or, drop}
use borrow.Author.Tests.{lt-ltb, le-ltb, ltb-true, ltb-false, eqb-true, not-false}
use Rattle.rules.specs.Lists.{all, is_empty, up_from}
use Rattle.rules.specs.Build.{group_count}
use Rattle.rules.specs.Node.{Message, Node, line}
use Rattle.rules.specs.Operation.{turn, no_trap, accepted_with}
use Rattle.rules.specs.Turn.{has_mail, turn_order, whose_turn}
use Rattle.rules.specs.Step.{Stepped}
use Rattle.rules.specs.Memory.{size, words, node_at}
use Rattle.rules.specs.MemoryTest.{is_memory, replaced, step_memory}
use Rattle.rules.specs.Turns.{ahead, set_from, mail_set, by_bits, NoMail, NextWithMail, Turns}
use Rattle.rules.proofs.Steps.ListLaws.{empty-none}
use Rattle.rules.proofs.Steps.TurnLaws.{first_of, Found, within, beyond, found-upward, round_same, turn-whole}
use Rattle.rules.proofs.Map.TestLaws.{range-tells}
use Rattle.rules.proofs.Map.MapLaws.{test-valid, test_words}
use Rattle.rules.proofs.Map.RunMemory.{step-tested}

-- The round: what is found first after r, upward and round.
data Rounded (p : ℕ → Bool) (r x : ℕ) : Type 0 where
  nobody : x ≡ 0 → ((h : ℕ) → 1 ≤ h → h ≤ group_count → p h ≡ false) → Rounded p r x
  somebody : 1 ≤ x → x ≤ group_count → p x ≡ true → ((h : ℕ) → 1 ≤ h → h ≤ group_count → ahead r h < ahead r x → p h ≡ false)
      → Rounded p r x

-- a group above r is as far as it is above it, and one that is not has gone round
ahead-up : (r g : ℕ) → r < g → ahead r g ≡ g - r
unfolding ahead
ahead-up r g above = rw (lt-ltb r g above)

ahead-round : (r g : ℕ) → g ≤ r → ahead r g ≡ g + group_count - r
unfolding ahead
ahead-round r g below = rw (le-ltb r g below)

module _ (p : ℕ → Bool) (r : ℕ) (bound : r ≤ group_count) where
  -- one above r: those nearer stand between
  above : (x : ℕ) → r + 1 ≤ x → x ≤ group_count → ((i : ℕ) → r + 1 ≤ i → i < x → p i ≡ false)
      → (h : ℕ) → 1 ≤ h → h ≤ group_count → ahead r h < ahead r x → p h ≡ false
  above x low high none h least most near = go (ltb r h) refl
    where
      go : (t : Bool) → ltb r h ≡ t → p h ≡ false
      go true e =
          let up = ltb-true r h e in
          none h (omega arith) (omega (arith, near, ahead-up r h up, ahead-up r x (omega arith)))
      go false e = absurd (omega (arith, near, ahead-round r h (ltb-false r h e), ahead-up r x (omega arith)))

  -- one that is not: all above r are nearer, and those below it
  round : (x : ℕ) → 1 ≤ x → x ≤ r → ((i : ℕ) → r + 1 ≤ i → i ≤ group_count → p i ≡ false) → ((i : ℕ) → 1 ≤ i → i < x → p i ≡ false)
      → (h : ℕ) → 1 ≤ h → h ≤ group_count → ahead r h < ahead r x → p h ≡ false
  round x low high up none h least most near = go (ltb r h) refl
    where
      go : (t : Bool) → ltb r h ≡ t → p h ≡ false
      go true e = let over = ltb-true r h e in up h (omega arith) most
      go false e = none h least (omega (arith, near, ahead-round r h (ltb-false r h e), ahead-round r x high))

  rounded : Rounded p r (first_of p (turn_order r))
  unfolding turn_order
  rounded = first (found-upward p (r + 1) (group_count - r) (up_from 1 r)) (subst (λ (l : List ℕ). Found p 1 r [] (first_of p l)) (append-nil (up_from 1 r)) (found-upward p 1 r []))
    where
      then : {x : ℕ} → x ≡ first_of p (up_from 1 r) → ((i : ℕ) → r + 1 ≤ i → i < r + 1 + (group_count - r) → p i ≡ false)
          → Found p 1 r [] (first_of p (up_from 1 r)) → Rounded p r x
      then e up (within low high on none) =
          rw e (somebody low (omega arith) on (round _ low (omega arith) (λ i low' high'. up i low' (omega arith)) none))
      then e up (beyond z none) = nobody (e ∙ z) (λ h low high. every h low high (ltb r h) refl)
        where
          every : (h : ℕ) → 1 ≤ h → h ≤ group_count → (t : Bool) → ltb r h ≡ t → p h ≡ false
          every h low high true e = let over = ltb-true r h e in up h (omega arith) (omega arith)
          every h low high false e = let under = ltb-false r h e in none h low (omega arith)

      first : {x : ℕ} → Found p (r + 1) (group_count - r) (up_from 1 r) x → Found p 1 r [] (first_of p (up_from 1 r)) → Rounded p r x
      first (within low high on none) later = somebody (omega arith) (omega arith) on (above _ low (omega arith) none)
      first (beyond e up) later = then e up later

-- The lines.

-- without mail a line is empty, and with it is not
off-empty : (n : Node) (g : ℕ) → has_mail n g ≡ false → line n g ≡ []
unfolding has_mail
off-empty n g off = empty-none (line n g) (not-false (is_empty (line n g)) off)

on_some : (n : Node) (g : ℕ) → has_mail n g ≡ true → line n g ≢ []
unfolding has_mail
on_some n g on empty = false≢true (ap (λ (l : List Message). not (is_empty l)) (sym empty) ∙ on)

module _ (n : Node) (bound : n.running ≤ group_count) where
  none_named : whose_turn n ≡ 0 → NoMail n
  unfolding whose_turn NoMail
  none_named none = go (rounded (has_mail n) n.running bound)
    where
      go : Rounded (has_mail n) n.running (whose_turn n) → NoMail n
      go (nobody z off) = λ g low high. off-empty n g (off g low high)
      go (somebody low high on off) = absurd (omega (arith, none))

  none-has-mail : NoMail n → whose_turn n ≡ 0
  unfolding whose_turn NoMail
  none-has-mail empty = go (rounded (has_mail n) n.running bound)
    where
      go : Rounded (has_mail n) n.running (whose_turn n) → whose_turn n ≡ 0
      go (nobody z off) = z
      go (somebody low high on off) = absurd (on_some n (whose_turn n) on (empty (whose_turn n) low high))

  named : whose_turn n ≢ 0 → NextWithMail n (whose_turn n)
  unfolding whose_turn
  named some = go (rounded (has_mail n) n.running bound)
    where
      go : Rounded (has_mail n) n.running (whose_turn n) → NextWithMail n (whose_turn n)
      go (nobody z off) = absurd (some z)
      go (somebody low high on off) =
          record {
            least = low;
            most = high;
            has-mail = on_some n (whose_turn n) on;
            nearest = λ h least most near. off-empty n h (off h least most near);
          }

-- By bits: computed for every set and every runner.

-- a test passes on every list of k answers
abbrev every_list : ℕ → (List Bool → Bool) → Bool
every_list zero t = t []
every_list (suc k) t = every_list k (λ bs. t (true ∷ bs)) && every_list k (λ bs. t (false ∷ bs))

every-list : (k : ℕ) (t : List Bool → Bool) → every_list k t ≡ true → (bs : List Bool) → length bs ≡ k → t bs ≡ true
every-list zero t all [] e = all
every-list zero t all (b ∷ bs) e = absurd (omega (arith, e))
every-list (suc k) t all [] e = absurd (omega (arith, e))
every-list (suc k) t all (b ∷ bs) e =
    let both = (and-eq-true_iff (every_list k (λ bs. t (true ∷ bs))) (every_list k (λ bs. t (false ∷ bs)))).0 all in
    go (every-list k (λ bs. t (true ∷ bs)) both.0 bs (omega (arith, e))) (every-list k (λ bs. t (false ∷ bs)) both.1 bs (omega (arith, e))) b
  where
    go : t (true ∷ bs) ≡ true → t (false ∷ bs) ≡ true → (b : Bool) → t (b ∷ bs) ≡ true
    go on off true = on
    go on off false = off

-- the answers for groups 1 to 8, in this order, as a test
abbrev answered : List Bool → ℕ → Bool
answered bs g = get_or bs (pred g) false

-- of these answers the bits name what the search finds, whoever runs
agrees : List Bool → ℕ → Bool
unfolding by_bits set_from count_trailing_zeros turn_order
agrees bs r = eqb (by_bits (set_from (answered bs) 1 group_count) r) (first_of (answered bs) (turn_order r))

computed : every_list group_count (λ bs. all (agrees bs) (up_from 0 (group_count + 1))) ≡ true
unfolding agrees by_bits set_from count_trailing_zeros turn_order
computed = refl

-- a test is that of its answers
answer_at : (p : ℕ → Bool) (a k i : ℕ) → i < k → get_or (map p (up_from a k)) i false ≡ p (a + i)
answer_at p a zero i below = absurd (omega arith)
answer_at p a (suc k) zero below = ap p (omega arith)
answer_at p a (suc k) (suc i) below = answer_at p (suc a) k i (omega arith) ∙ ap p (omega arith)

answered-same : (p : ℕ → Bool) (g : ℕ) → 1 ≤ g → g ≤ group_count → answered (map p (up_from 1 group_count)) g ≡ p g
answered-same p g low high = answer_at p 1 group_count (pred g) (omega arith) ∙ ap p (omega arith)

by-bits : (n : Node) → n.running ≤ group_count → by_bits (mail_set n) n.running ≡ whose_turn n
unfolding agrees mail_set whose_turn set_from
by-bits n bound =
    let p = has_mail n in
    let bs = map p (up_from 1 group_count) in
    let row : agrees bs n.running ≡ true =
    (range-tells (agrees bs) 0 (group_count + 1)).0 (every-list group_count (λ bs. all (agrees bs) (up_from 0 (group_count + 1))) computed bs refl) n.running (omega arith) (omega arith) in
    eqb-true _ _ row ∙ round_same (answered bs) p (answered-same p) n.running bound

-- The statement.

on-memory : (m : List ℕ) → is_memory m ≡ true
    → step_memory m turn ≡ record { report = accepted_with (whose_turn (node_at m)) no_trap 0 0; memory = m }
unfolding replaced
on-memory m e =
    step-tested m turn e
    ∙ ap (λ (s : Stepped). record { report = s.report; memory = words s.node ++ drop size m }) (turn-whole (test-valid m e))
    ∙ (λ i. record { report = accepted_with (whose_turn (node_at m)) no_trap 0 0; memory = test_words m e i })

pub turns : Turns
turns =
    record {
      none_named = none_named;
      none-has-mail = none-has-mail;
      named = named;
      by-bits = by-bits;
      whole = λ b n v. turn-whole v;
      on-memory = on-memory;
    }
