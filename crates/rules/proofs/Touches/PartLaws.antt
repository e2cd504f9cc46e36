-- Lists of parts and rows compared: parts are told apart by numbers, what is none of a list is none of a list inside it, a node touched twice within a row is touched within it,
-- and a row may be taken for one with more in it, or for one without a part that is as it was. Assumes nothing.
use Prim.Native.Nat.{ℕ, ◌≤◌}
use mathlib.Core.Bool.{Bool, true, false, true≢false, false≢true, ◌||◌, and-eq-true_iff, or-true}
use mathlib.Core.List.{List, [], ◌∷◌, ◌++◌, Memᴰ}
use mathlib.Core.Path.{◌≡◌, refl, sym, ap, ◌∙◌}
use lib.Dec.{eqb}
use lib.ListN.{get_or}
use borrow.Author.Tests.{eqb-true}
use Rattle.rules.specs.Lists.{all}
use Rattle.rules.specs.Build.{group_count}
use Rattle.rules.specs.Node.{Node, group_of}
use Rattle.rules.specs.Touches.{NodePart, GroupPart, running, timer, queue, free, swap, entered, out, brought, atomic, pending, force, revoked, used, count, places, pages, descriptor, part, group_part, Row, row, both, when, filling, Touched}

-- Parts told apart.

-- by these numbers, so that a list can be looked through
abbrev pub node_number : NodePart → ℕ
node_number running = 0
node_number timer = 1
node_number queue = 2
node_number free = 3
node_number swap = 4
node_number entered = 5
node_number out = 6
node_number brought = 7

abbrev pub group_number : GroupPart → ℕ
group_number atomic = 0
group_number pending = 1
group_number force = 2
group_number revoked = 3
group_number used = 4
group_number count = 5
group_number places = 6
group_number pages = 7
group_number descriptor = 8

-- x is one of these
abbrev pub among : {A : Type 0} → (A → ℕ) → A → List A → Bool
among number x [] = false
among number x (y ∷ ys) = eqb (number x) (number y) || among number x ys

-- no two parts have one number: the part is told by it
abbrev node_part_of : ℕ → NodePart
node_part_of n = get_or (running ∷ timer ∷ queue ∷ free ∷ swap ∷ entered ∷ out ∷ brought ∷ []) n running

node-told : (p : NodePart) → node_part_of (node_number p) ≡ p
node-told running = refl
node-told timer = refl
node-told queue = refl
node-told free = refl
node-told swap = refl
node-told entered = refl
node-told out = refl
node-told brought = refl

abbrev group_part_of : ℕ → GroupPart
group_part_of n = get_or (atomic ∷ pending ∷ force ∷ revoked ∷ used ∷ count ∷ places ∷ pages ∷ descriptor ∷ []) n atomic

group-told : (p : GroupPart) → group_part_of (group_number p) ≡ p
group-told atomic = refl
group-told pending = refl
group-told force = refl
group-told revoked = refl
group-told used = refl
group-told count = refl
group-told places = refl
group-told pages = refl
group-told descriptor = refl

-- so what is not named is none of the list
module _ {A : Type 0} (number : A → ℕ) (back : ℕ → A) (told : (x : A) → back (number x) ≡ x) where
  among-named : (x : A) (xs : List A) → among number x xs ≡ true → Memᴰ x xs
  among-named x [] e = absurd (false≢true e)
  among-named x (y ∷ xs) e = go (eqb (number x) (number y)) refl e (among-named x xs)
    where
      go : (t : Bool) → eqb (number x) (number y) ≡ t → t || among number x xs ≡ true → (among number x xs ≡ true → Memᴰ x xs) → Memᴰ x (y ∷ xs)
      go true same h later = Memᴰ.head (sym (told x) ∙ ap back (eqb-true _ _ same) ∙ told y)
      go false other h later = Memᴰ.tail (later h)

  unnamed-none : (x : A) (xs : List A) → ¬ Memᴰ x xs → among number x xs ≡ false
  unnamed-none x xs unnamed = go (among number x xs) refl
    where
      go : (t : Bool) → among number x xs ≡ t → t ≡ false
      go true e = absurd (unnamed (among-named x xs e))
      go false e = refl

-- Lists of parts.

module _ {A : Type 0} (number : A → ℕ) where
  -- each of the first list is one of the second
  abbrev pub inside : List A → List A → Bool
  inside xs ys = all (λ x. among number x ys) xs

  among_same : (x y : A) (ys : List A) → number x ≡ number y → among number x ys ≡ among number y ys
  among_same x y [] same = refl
  among_same x y (z ∷ ys) same = let r = among_same x y ys same in cc

  -- so what is none of the second is none of the first
  pub inside-none : (x : A) (xs ys : List A) → inside xs ys ≡ true → among number x ys ≡ false → among number x xs ≡ false
  inside-none x [] ys h none = refl
  inside-none x (y ∷ xs) ys h none =
      let both = (and-eq-true_iff (among number y ys) (inside xs ys)).0 h in
      go (eqb (number x) (number y)) refl both.0 (inside-none x xs ys both.1 none)
    where
      go : (t : Bool) → eqb (number x) (number y) ≡ t → among number y ys ≡ true → among number x xs ≡ false → t || among number x xs ≡ false
      go true e here later = absurd (true≢false (sym here ∙ sym (among_same x y ys (eqb-true _ _ e)) ∙ none))
      go false e here later = later

  -- of two lists joined
  pub join-none : (x : A) (xs ys : List A) → among number x xs ≡ false → among number x ys ≡ false → among number x (xs ++ ys) ≡ false
  join-none x [] ys e d = d
  join-none x (y ∷ xs) ys e d = go (eqb (number x) (number y)) e (λ h. join-none x xs ys h d)
    where
      go : (t : Bool) → t || among number x xs ≡ false → (among number x xs ≡ false → among number x (xs ++ ys) ≡ false)
          → t || among number x (xs ++ ys) ≡ false
      go true h later = h
      go false h later = later h

  -- what is one of a list is one of a longer one
  among-left : (x : A) (ys zs : List A) → among number x ys ≡ true → among number x (ys ++ zs) ≡ true
  among-left x [] zs e = absurd (false≢true e)
  among-left x (y ∷ ys) zs e = go (eqb (number x) (number y)) e (among-left x ys zs)
    where
      go : (t : Bool) → t || among number x ys ≡ true → (among number x ys ≡ true → among number x (ys ++ zs) ≡ true)
          → t || among number x (ys ++ zs) ≡ true
      go true h later = refl
      go false h later = later h

  among-right : (x : A) (ys zs : List A) → among number x zs ≡ true → among number x (ys ++ zs) ≡ true
  among-right x [] zs e = e
  among-right x (y ∷ ys) zs e = rw (among-right x ys zs e) (or-true (eqb (number x) (number y)))

  -- and what is none of two lists joined is none of each
  pub apart : (x : A) (ys zs : List A) → among number x (ys ++ zs) ≡ false → (among number x ys ≡ false) × (among number x zs ≡ false)
  apart x ys zs none =
      (not_named (among number x ys) (among-left x ys zs), not_named (among number x zs) (among-right x ys zs))
    where
      not_named : (t : Bool) → (t ≡ true → among number x (ys ++ zs) ≡ true) → t ≡ false
      not_named true named = absurd (true≢false (sym (named refl) ∙ none))
      not_named false named = refl

  inside-more : (xs ys zs : List A) → ((x : A) → among number x ys ≡ true → among number x zs ≡ true) → inside xs ys ≡ true → inside xs zs ≡ true
  inside-more [] ys zs more h = refl
  inside-more (x ∷ xs) ys zs more h =
      let both = (and-eq-true_iff (among number x ys) (inside xs ys)).0 h in
      (and-eq-true_iff (among number x zs) (inside xs zs)).1 (more x both.0, inside-more xs ys zs more both.1)

  pub inside-left : (xs ys zs : List A) → inside xs ys ≡ true → inside xs (ys ++ zs) ≡ true
  inside-left xs ys zs h = inside-more xs ys (ys ++ zs) (λ x. among-left x ys zs) h

  pub inside-right : (xs ys zs : List A) → inside xs zs ≡ true → inside xs (ys ++ zs) ≡ true
  inside-right xs ys zs h = inside-more xs zs (ys ++ zs) (λ x. among-right x ys zs) h

  pub inside-join : (xs ys zs : List A) → inside xs zs ≡ true → inside ys zs ≡ true → inside (xs ++ ys) zs ≡ true
  inside-join [] ys zs h d = d
  inside-join (x ∷ xs) ys zs h d =
      let both = (and-eq-true_iff (among number x zs) (inside xs zs)).0 h in
      (and-eq-true_iff (among number x zs) (inside (xs ++ ys) zs)).1 (both.0, inside-join xs ys zs both.1 d)

-- Rows.

-- each part that the row does not name is as it was
pub record Kept (t : Row) (k n : Node) : Type 0 where
  pub node : (p : NodePart) → among node_number p t.node ≡ false → part p k ≡ part p n
  pub group : (g : ℕ) → 1 ≤ g → g ≤ group_count → (p : GroupPart) → among group_number p (t.group g) ≡ false
      → group_part p (group_of k g) ≡ group_part p (group_of n g)

-- which is what the table says
pub kept-touched : {t : Row} {k n : Node} → Kept t k n → Touched t k n
kept-touched {t} h =
    record {
      node = λ p unnamed. h.node p (unnamed-none node_number node_part_of node-told p t.node unnamed);
      group = λ g low high p unnamed. h.group g low high p (unnamed-none group_number group_part_of group-told p (t.group g) unnamed);
    }

pub touched-same : {t : Row} {k n : Node} → k ≡ n → Kept t k n
touched-same e = record { node = λ p none. ap (part p) e; group = λ g low high p none. ap (λ (m : Node). group_part p (group_of m g)) e }

pub touched-then : {t : Row} {l k n : Node} → Kept t l k → Kept t k n → Kept t l n
touched-then later first =
    record {
      node = λ p none. later.node p none ∙ first.node p none;
      group = λ g low high p none. later.group g low high p none ∙ first.group g low high p none;
    }

-- a row with more in it
pub touched-inside : {t u : Row} {k n : Node} → inside node_number t.node u.node ≡ true
    → ((g : ℕ) → inside group_number (t.group g) (u.group g) ≡ true) → Kept t k n → Kept u k n
touched-inside {t} {u} nodes groups h =
    record {
      node = λ p none. h.node p (inside-none node_number p t.node u.node nodes none);
      group = λ g low high p none. h.group g low high p (inside-none group_number p (t.group g) (u.group g) (groups g) none);
    }

-- two rows, or one of them
pub touched-left : (t u : Row) {k n : Node} → Kept t k n → Kept (both t u) k n
touched-left t u h =
    record {
      node = λ p none. h.node p (apart node_number p t.node u.node none).0;
      group = λ g low high p none. h.group g low high p (apart group_number p (t.group g) (u.group g) none).0;
    }

pub touched-right : (t u : Row) {k n : Node} → Kept u k n → Kept (both t u) k n
touched-right t u h =
    record {
      node = λ p none. h.node p (apart node_number p t.node u.node none).1;
      group = λ g low high p none. h.group g low high p (apart group_number p (t.group g) (u.group g) none).1;
    }

-- a part that is not named is not named under a condition
pub when-none : (p : GroupPart) (ps : List GroupPart) → among group_number p ps ≡ false → (t : Bool) → among group_number p (when t ps) ≡ false
when-none p ps none true = none
when-none p ps none false = refl

-- parts named under a condition are inside those named under a weaker one
pub when-inside : (t u : Bool) (ps qs : List GroupPart) → (t ≡ true → u ≡ true) → inside group_number ps qs ≡ true → inside group_number (when t ps) (when u qs) ≡ true
when-inside true true ps qs more h = h
when-inside true false ps qs more h = absurd (false≢true (more refl))
when-inside false u ps qs more h = refl

pub filling-inside : (t u : Bool) → (t ≡ true → u ≡ true) → inside group_number (filling t) (filling u) ≡ true
filling-inside true true more = refl
filling-inside true false more = absurd (false≢true (more refl))
filling-inside false true more = refl
filling-inside false false more = refl

-- buffers filled, and one group's parts
pub filled-inside : (t u w : Bool) (ps : List GroupPart) → (t ≡ true → u ≡ true) → inside group_number ps ps ≡ true
    → inside group_number (filling t ++ when w ps) (filling u ++ when w ps) ≡ true
filled-inside t u w ps more self =
    inside-join group_number (filling t) (when w ps) (filling u ++ when w ps)
    (inside-left group_number (filling t) (filling u) (when w ps) (filling-inside t u more))
    (inside-right group_number (when w ps) (filling u) (when w ps) (when-inside w w ps ps (λ e. e) self))

-- a row without the upcall's parts, where the flags are as they were
pub flags-kept : {ps : List NodePart} {k n : Node} (gs : ℕ → List GroupPart) (t : ℕ → Bool)
    → Kept (row ps (λ g. gs g ++ when (t g) (atomic ∷ pending ∷ []))) k n
    → ((g : ℕ) → 1 ≤ g → g ≤ group_count → among group_number atomic (gs g) ≡ false → (group_of k g).atomic ≡ (group_of n g).atomic)
    → ((g : ℕ) → 1 ≤ g → g ≤ group_count → among group_number pending (gs g) ≡ false → (group_of k g).pending ≡ (group_of n g).pending)
    → Kept (row ps gs) k n
flags-kept {ps} {k} {n} gs t h atomics pendings = record { node = h.node; group = go }
  where
    other : (g : ℕ) → 1 ≤ g → g ≤ group_count → (p : GroupPart) → among group_number p (atomic ∷ pending ∷ []) ≡ false → among group_number p (gs g) ≡ false
        → group_part p (group_of k g) ≡ group_part p (group_of n g)
    other g low high p e none =
        h.group g low high p (join-none group_number p (gs g) (when (t g) (atomic ∷ pending ∷ [])) none (when-none p (atomic ∷ pending ∷ []) e (t g)))

    go : (g : ℕ) → 1 ≤ g → g ≤ group_count → (p : GroupPart) → among group_number p (gs g) ≡ false
        → group_part p (group_of k g) ≡ group_part p (group_of n g)
    go g low high atomic none = atomics g low high none
    go g low high pending none = pendings g low high none
    go g low high force none = other g low high force refl none
    go g low high revoked none = other g low high revoked refl none
    go g low high used none = other g low high used refl none
    go g low high count none = other g low high count refl none
    go g low high places none = other g low high places refl none
    go g low high pages none = other g low high pages refl none
    go g low high descriptor none = other g low high descriptor refl none

-- a row without timer and queue, where they are as they were
pub front_kept : {ps : List NodePart} {gs : ℕ → List GroupPart} {k n : Node} → Kept (row (timer ∷ queue ∷ ps) gs) k n
    → k.timer ≡ n.timer → k.queue ≡ n.queue → Kept (row ps gs) k n
front_kept {ps} {gs} {k} {n} h timers queues = record { node = go; group = h.group }
  where
    go : (p : NodePart) → among node_number p ps ≡ false → part p k ≡ part p n
    go running none = h.node running none
    go timer none = timers
    go queue none = queues
    go free none = h.node free none
    go swap none = h.node swap none
    go entered none = h.node entered none
    go out none = h.node out none
    go brought none = h.node brought none
