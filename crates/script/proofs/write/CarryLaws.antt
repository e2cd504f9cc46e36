-- The digits while the next number is made: those up to some place as they were, and behind it zeros where nines were. Assumes nothing.
use Prim.Native.Nat.{ℕ, zero, suc, ◌+◌, ◌-◌, ◌≤◌, ◌<◌}
use native.Mathlib.Numerals.{add-one}
use native.Mathlib.Omega.{arith}
use mathlib.Core.List.{List, [], ◌∷◌, ◌++◌, append_assoc}
use mathlib.Core.Path.{◌≡◌, refl, sym, subst, ap, ◌∙◌}
use lib.ListN.{length, take, drop, get_or, set, length-append, length-set, length-replicate, take-append-drop, replicate-append-replicate}
use lib.Seq.{take_all, take-suc, take_at, take-suc-set, take-set-lt, get_or_at, set_at, length-take-le}
use Rattle.rules.specs.Lists.{Every}
use Rattle.rules.specs.Text.{decimal}
use Rattle.rules.proofs.Steps.EveryLaws.{every_append}
use Rattle.script.specs.Written.{Counts, places}
use Rattle.script.specs.declared.write.Counter.{Counter as Counter·rt}
use Rattle.script.proofs.write.CounterLaws.{nines, zeros, decimal-next, decimal-grown}
use Rattle.script.proofs.write.DecimalLaws.{Digit, decimal-digits}

-- the counter with these digits
abbrev counted : List ℕ → ℕ → Counter·rt
counted d l = record { digits = d; len = l }

-- of the first l digits, which were those of d₀, those from place i on were nines and are zeros, and all others are as they were
pub record Carrying (d₀ : List ℕ) (l : ℕ) (d : List ℕ) (i : ℕ) : Type 0 where
  pub front : List ℕ
  pub count : ℕ
  pub tail : List ℕ
  pub up_to : length front ≡ i
  pub all : i + count ≡ l
  pub were : d₀ ≡ front ++ (nines count ++ tail)
  pub are : d ≡ front ++ (zeros count ++ tail)

-- at first none is
pub carry-none : {counter : Counter·rt} {n : ℕ} → Counts counter n → Carrying counter.digits counter.len counter.digits counter.len
carry-none {counter} h =
    let d = counter.digits in
    let l = counter.len in
    record {
      front = take l d;
      count = 0;
      tail = drop l d;
      up_to = length-take-le l d (omega (arith, h.whole, h.within));
      all = omega arith;
      were = sym (take-append-drop l d);
      are = sym (take-append-drop l d);
    }

-- where a place is left, there is one before it
pub at-place : {d₀ d : List ℕ} {l i : ℕ} → Carrying d₀ l d i → 0 < i → Carrying d₀ l d (suc (i - 1))
at-place {d₀} {d} {l} {i} c left = let e : i ≡ suc (i - 1) = omega arith in subst (λ (k : ℕ). Carrying d₀ l d k) e c

pub at-end : {d₀ d : List ℕ} {l i : ℕ} → Carrying d₀ l d i → i ≤ 0 → Carrying d₀ l d 0
at-end {d₀} {d} {l} {i} c end = let e : i ≡ 0 = omega arith in subst (λ (k : ℕ). Carrying d₀ l d k) e c

-- a list of no elements
none : (xs : List ℕ) → length xs ≡ 0 → xs ≡ []
none [] h = refl
none (x ∷ xs) h = absurd (omega arith)

-- of zeros the first becomes a one, and one more follows
lead-one : (d : List ℕ) (l : ℕ) → 1 ≤ l → l < length d → take l d ≡ zeros l → take (l + 1) (set (set d 0 49) l 48) ≡ 49 ∷ zeros l
lead-one d zero some room e = absurd (omega arith)
lead-one d (suc k) some room e =
    let f = set d 0 49 in
    let s = length-set d 0 49 in
    let m : k + 1 ≡ suc k = add-one k in
    ap (λ (j : ℕ). take j (set f (suc k) 48)) (add-one (suc k)) ∙ take-suc-set f (suc k) 48 (omega arith)
    ∙ ap (λ (t : List ℕ). t ++ (48 ∷ [])) (take-set-lt (suc k) d 0 49 (omega arith) ∙ ap (λ (t : List ℕ). set t 0 49) e)
    ∙ ap (λ (t : List ℕ). 49 ∷ t) (replicate-append-replicate k 1 48 ∙ ap zeros m)

module _ {d₀ d : List ℕ} {l i : ℕ} (c : Carrying d₀ l d (suc i)) where
  -- the digit at the place
  digit : ℕ
  digit = get_or d i 0

  -- the digits before it
  before : List ℕ
  before = take i c.front

  -- what is behind it, as it was and as it is
  then-nines : List ℕ
  then-nines = nines c.count ++ c.tail

  then-zeros : List ℕ
  then-zeros = zeros c.count ++ c.tail

  -- there are i of them
  long : length before ≡ i
  unfolding before
  long = length-take-le i c.front (omega (arith, c.up_to))

  -- the digits before it and the digit are the front
  split : c.front ≡ before ++ (digit ∷ [])
  unfolding before digit
  split =
      let x : ℕ = get_or c.front i 0 in
      let e : c.front ≡ take i c.front ++ (x ∷ []) =
      sym (take_all (suc i) c.front (omega (arith, c.up_to))) ∙ take-suc c.front i 0 (omega (arith, c.up_to)) in
      let rest : List ℕ = zeros c.count ++ c.tail in
      let s : d ≡ take i c.front ++ (x ∷ rest) = c.are ∙ ap (λ (t : List ℕ). t ++ rest) e ∙ append_assoc (take i c.front) (x ∷ []) rest in
      let same : get_or d i 0 ≡ x = ap (λ (t : List ℕ). get_or t i 0) s ∙ get_or_at (take i c.front) x rest 0 i long in
      e ∙ ap (λ (y : ℕ). take i c.front ++ (y ∷ [])) (sym same)

  -- the digits as they were
  were-split : d₀ ≡ before ++ (digit ∷ then-nines)
  unfolding then-nines
  were-split = c.were ∙ ap (λ (t : List ℕ). t ++ then-nines) split ∙ append_assoc before (digit ∷ []) then-nines

  -- the digit set to another
  are-set : (x : ℕ) → set d i x ≡ before ++ (x ∷ then-zeros)
  unfolding then-zeros
  are-set x =
      ap (λ (t : List ℕ). set t i x) (c.are ∙ ap (λ (t : List ℕ). t ++ then-zeros) split ∙ append_assoc before (digit ∷ []) then-zeros)
      ∙ set_at before digit then-zeros x i long

  -- there are as many digits as there were
  same : length d ≡ length d₀
  same =
      let z = length-replicate {A = ℕ} c.count 48 in
      let y = length-replicate {A = ℕ} c.count 57 in
      ap length c.are ∙ simp length-append (omega arith) ∙ ap length (sym c.were)

  -- the number's digits
  carry-number : {n : ℕ} → Counts (counted d₀ l) n → decimal n ≡ before ++ (digit ∷ nines c.count)
  unfolding then-nines
  carry-number h =
      let xs : List ℕ = before ++ (digit ∷ nines c.count) in
      let z = length-replicate {A = ℕ} c.count 57 in
      let m : length xs ≡ l = length-append before (digit ∷ nines c.count) ∙ omega (arith, long, c.all) in
      let e : d₀ ≡ xs ++ c.tail = were-split ∙ sym (append_assoc before (digit ∷ nines c.count) c.tail) in
      sym h.text ∙ ap (take l) e ∙ take_at xs c.tail l m

  -- a nine at the place becomes a zero
  pub carry-more : get_or d i 0 ≡ 57 → Carrying d₀ l (set d i 48) i
  unfolding digit then-nines then-zeros
  carry-more e =
      record {
        front = before;
        count = suc c.count;
        tail = c.tail;
        up_to = long;
        all = omega (arith, c.all);
        were = were-split ∙ ap (λ (x : ℕ). before ++ (x ∷ then-nines)) e;
        are = are-set 48;
      }

  -- the digit at the place is one
  pub carry-digit : {n : ℕ} → Counts (counted d₀ l) n → get_or d i 0 ≤ 57
  unfolding digit
  carry-digit {n} h = ((every_append Digit before (digit ∷ nines c.count)).0 (subst (Every Digit) (carry-number h) (decimal-digits n))).1.0.1

  -- another digit at the place is one more: the next number
  pub carried : {n : ℕ} → Counts (counted d₀ l) n → (get_or d i 0 ≡ 57 → ⊥) → Counts (counted (set d i (get_or d i 0 + 1)) l) (n + 1)
  unfolding digit then-zeros then-nines
  carried {n} h not-nine =
      let new : List ℕ = before ++ ((digit + 1) ∷ zeros c.count) in
      let z = length-replicate {A = ℕ} c.count 48 in
      let m : length new ≡ l = length-append before ((digit + 1) ∷ zeros c.count) ∙ omega (arith, long, c.all) in
      let e : set d i (digit + 1) ≡ new ++ c.tail = are-set (digit + 1) ∙ sym (append_assoc before ((digit + 1) ∷ zeros c.count) c.tail) in
      record {
        whole = length-set d i (digit + 1) ∙ same ∙ h.whole;
        within = h.within;
        text = ap (take l) e ∙ take_at new c.tail l m ∙ sym (decimal-next before digit c.count n (carry-number h) not-nine);
      }

-- where no place is left, all were nines
module _ {d₀ d : List ℕ} {l : ℕ} (c : Carrying d₀ l d 0) where
  -- the digits as they were and as they are
  were-nines : d₀ ≡ nines l ++ c.tail
  were-nines =
      let k : c.count ≡ l = omega (arith, c.all) in
      c.were ∙ ap (λ (t : List ℕ). t ++ (nines c.count ++ c.tail)) (none c.front c.up_to) ∙ ap (λ (j : ℕ). nines j ++ c.tail) k

  are-zeros : d ≡ zeros l ++ c.tail
  are-zeros =
      let k : c.count ≡ l = omega (arith, c.all) in
      c.are ∙ ap (λ (t : List ℕ). t ++ (zeros c.count ++ c.tail)) (none c.front c.up_to) ∙ ap (λ (j : ℕ). zeros j ++ c.tail) k

  pub carry-all : {n : ℕ} → Counts (counted d₀ l) n → decimal n ≡ nines l
  carry-all h = sym h.text ∙ ap (take l) were-nines ∙ take_at (nines l) c.tail l (length-replicate {A = ℕ} l 57)

  -- a one leads the zeros: the next number has a digit more
  pub carried-all : {n : ℕ} → Counts (counted d₀ l) n → 1 ≤ l → l < places → Counts (counted (set (set d 0 49) l 48) (l + 1)) (n + 1)
  carried-all {n} h some room =
      let z = length-replicate {A = ℕ} l 48 in
      let y = length-replicate {A = ℕ} l 57 in
      let a = ap length are-zeros ∙ length-append (zeros l) c.tail in
      let b = ap length were-nines ∙ length-append (nines l) c.tail in
      let w : length d ≡ places = let e = h.whole in omega arith in
      let e : take l d ≡ zeros l = ap (take l) are-zeros ∙ take_at (zeros l) c.tail l z in
      record {
        whole = simp length-set w;
        within = omega arith;
        text = lead-one d l some (omega arith) e ∙ sym (decimal-grown l n (carry-all h));
      }
