-- The page to send out, as it is read: the first in the order of entry, or the second where the first is the running group's first page. The
-- second is not, since each frame stands once in that order. Assumes nothing.
use Prim.Native.Nat.{ℕ, ◌+◌, ◌≤◌}
use native.Mathlib.Omega.{arith}
use mathlib.Core.Bool.{Bool, true, false, not}
use mathlib.Core.List.{List, [], ◌∷◌}
use mathlib.Core.Logic.{◌≢◌}
use mathlib.Core.Path.{◌≡◌, refl, sym, ap, ◌∙◌}
use lib.ListN.{length, get_or}
use borrow.Author.Tests.{eq-eqb, ne_eqb}
use Rattle.rules.specs.Build.{paper01}
use Rattle.rules.specs.Lists.{filter}
use Rattle.rules.specs.Memory.{entered_at, entered_count_at, group_address, held_offset, list_offset, running_at, word}
use Rattle.rules.specs.Node.{Node, group_of}
use Rattle.rules.specs.Paging.{spared, stands_first, victim}
use Rattle.rules.proofs.Steps.ListLaws.{filter-fail, filter-pass}
use Rattle.rules.proofs.Steps.PagingLaws.{entered-once}
use Rattle.rules.proofs.Steps.SoundLaws.{line-lengths}
use Rattle.memory.specs.Holds.{Holds}
use Rattle.memory.specs.Paging.{Crowded}
use Rattle.memory.proofs.LinePieces.{entered-line}
use Rattle.memory.proofs.lines.LineLaws.{LineStands, line_at, line_first}
use Rattle.memory.proofs.PieceLaws.{holds-pieces}
use Rattle.memory.proofs.paging.RunnerLaws.{runner-first, runner-held, runs}

-- the first in the order of entry, where it is not spared
victim-first : (n : Node) (x : ℕ) (es : List ℕ) → n.paging.entered ≡ x ∷ es → spared n x ≡ false → victim n ≡ x
unfolding victim
victim-first n x es e s =
    let t : ℕ → Bool = λ f. not (spared n f) in
    ap (λ (l : List ℕ). get_or l 0 0) (ap (filter t) e ∙ filter-pass t x es (ap not s))

-- the second, where the first is
victim-second : (n : Node) (x y : ℕ) (es : List ℕ) → n.paging.entered ≡ x ∷ y ∷ es → spared n x ≡ true → spared n y ≡ false → victim n ≡ y
unfolding victim
victim-second n x y es e s u =
    let t : ℕ → Bool = λ f. not (spared n f) in
    ap (λ (l : List ℕ). get_or l 0 0) (ap (filter t) e ∙ filter-fail t x (y ∷ es) (ap not s) ∙ filter-pass t y es (ap not u))

-- nothing is spared where nobody runs
spared-nobody : (n : Node) (x : ℕ) → n.running ≡ 0 → spared n x ≡ false
unfolding spared
spared-nobody n x e = rw (eq-eqb n.running 0 e)

-- else what stands first in the running group's list
spared-runs : (n : Node) (x : ℕ) → 1 ≤ n.running → spared n x ≡ stands_first x (group_of n n.running).buffer.frames
unfolding spared
spared-runs n x low = rw (ne_eqb n.running 0 (λ e. omega arith))

module _ {m : List ℕ} {n : Node} {r : List ℕ} (h : Holds m n r) (c : Crowded n) where
  -- every frame is in use, so there are two
  many : 2 ≤ length n.paging.entered
  many = omega (arith, line-lengths c.sound, ap length c.full)

  order : LineStands m entered_count_at entered_at paper01.frames n.paging.entered
  order = entered-line (holds-pieces h) h.mapped.swap-short h.mapped.entered-short

  first : ℕ
  first = get_or n.paging.entered 0 0

  second : ℕ
  second = get_or n.paging.entered 1 0

  -- and they are read
  first_read : word m entered_at ≡ first
  unfolding first
  first_read = line_first order (omega (arith, many))

  second-read : word m (entered_at + 1) ≡ second
  unfolding second
  second-read = line_at order 1 (omega (arith, many))

  -- where the first is not spared, it is the victim
  unspared : spared n first ≡ false → first ≡ victim n
  unfolding first
  unspared s = go n.paging.entered refl
    where
      go : (es : List ℕ) → n.paging.entered ≡ es → first ≡ victim n
      go [] e = absurd (omega (arith, many, ap length e))
      go (x ∷ es) e = let same : first ≡ x = ap (λ (l : List ℕ). get_or l 0 0) e in same ∙ sym (victim-first n x es e (ap (spared n) (sym same) ∙ s))

  -- the two are not the same
  apart : second ≢ first
  unfolding first second
  apart same = go n.paging.entered refl
    where
      go : (es : List ℕ) → n.paging.entered ≡ es → ⊥
      go [] e = omega (arith, many, ap length e)
      go (x ∷ []) e = omega (arith, many, ap length e)
      go (x ∷ y ∷ es) e =
          let one = (entered-once c.sound x (rw (e, eq-eqb x x refl) (omega arith))).0 in
          let both = rw (e, eq-eqb x x refl, eq-eqb y x (rw e at same)) at one in
          omega arith

  -- where the first is spared, the second is the victim
  spared-second : spared n first ≡ true → spared n second ≡ false → second ≡ victim n
  unfolding first second
  spared-second s t = go n.paging.entered refl
    where
      go : (es : List ℕ) → n.paging.entered ≡ es → second ≡ victim n
      go [] e = absurd (omega (arith, many, ap length e))
      go (x ∷ []) e = absurd (omega (arith, many, ap length e))
      go (x ∷ y ∷ es) e =
          let one : first ≡ x = ap (λ (l : List ℕ). get_or l 0 0) e in
          let two : second ≡ y = ap (λ (l : List ℕ). get_or l 1 0) e in
          two ∙ sym (victim-second n x y es e (ap (spared n) (sym one) ∙ s) (ap (spared n) (sym two) ∙ t))

  -- What is read decides.

  -- nobody runs
  pub nobody-chosen : word m running_at ≡ 0 → word m entered_at ≡ victim n
  nobody-chosen e = first_read ∙ unspared (spared-nobody n first (sym (holds-pieces h).running ∙ e))

  module _ (low : 1 ≤ word m running_at) where
    list_read : (z : ℕ) (zs : List ℕ) → (group_of n n.running).buffer.frames ≡ z ∷ zs → word m (group_address (word m running_at) + list_offset) ≡ z
    list_read z zs e = runner-first h c.sound low (omega (arith, ap length e)) ∙ ap (λ (l : List ℕ). get_or l 0 0) e

    -- it has no page
    pub empty-chosen : word m (group_address (word m running_at) + held_offset) ≡ 0 → word m entered_at ≡ victim n
    unfolding stands_first
    empty-chosen e = first_read ∙ unspared (spared-runs n first (runs h c.sound low) ∙ go (group_of n n.running).buffer.frames refl)
      where
        go : (zs : List ℕ) → (group_of n n.running).buffer.frames ≡ zs → stands_first first (group_of n n.running).buffer.frames ≡ false
        go [] q = rw q
        go (z ∷ zs) q = absurd (omega (arith, runner-held h c.sound low, ap length q))

    -- its first page is another
    pub other-chosen : word m (group_address (word m running_at) + held_offset) ≢ 0 → word m (group_address (word m running_at) + list_offset) ≢ word m entered_at
        → word m entered_at ≡ victim n
    unfolding stands_first
    other-chosen some d = first_read ∙ unspared (spared-runs n first (runs h c.sound low) ∙ go (group_of n n.running).buffer.frames refl)
      where
        go : (zs : List ℕ) → (group_of n n.running).buffer.frames ≡ zs → stands_first first (group_of n n.running).buffer.frames ≡ false
        go [] q = absurd (some (runner-held h c.sound low ∙ ap length q))
        go (z ∷ zs) q = rw q (ne_eqb z first (λ same. d (list_read z zs q ∙ same ∙ sym first_read)))

    -- its first page is the first in the order
    pub second-chosen : word m (group_address (word m running_at) + held_offset) ≢ 0 → word m (group_address (word m running_at) + list_offset) ≡ word m entered_at
        → word m (entered_at + 1) ≡ victim n
    unfolding stands_first
    second-chosen some same =
        second-read ∙ go (group_of n n.running).buffer.frames refl
      where
        go : (zs : List ℕ) → (group_of n n.running).buffer.frames ≡ zs → second ≡ victim n
        go [] q = absurd (some (runner-held h c.sound low ∙ ap length q))
        go (z ∷ zs) q =
            let one : z ≡ first = sym (list_read z zs q) ∙ same ∙ first_read in
            spared-second (spared-runs n first (runs h c.sound low) ∙ rw q (eq-eqb z first one))
            (spared-runs n second (runs h c.sound low) ∙ rw q (ne_eqb z second (λ e. apart (sym e ∙ one))))
