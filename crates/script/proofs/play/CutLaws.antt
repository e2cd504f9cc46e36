-- Whole lines taken one after the other off a text: each line is what stands before the next newline. Assumes nothing.
use lib.Seq.{drop-drop, take-add, take-append-add}
use Prim.Native.Nat.{◌+◌, ◌≤◌, ℕ, ◌-◌, ◌<◌, suc}
use native.Mathlib.Omega.{arith}
use mathlib.Core.Bool.{Bool, false, true}
use mathlib.Core.List.{List, [], ◌++◌, ◌∷◌}
use mathlib.Core.Path.{◌∙◌, ◌≡◌, ap, refl, subst, sym}
use lib.Dec.{eqb}
use lib.ListN.{drop, length, length-append, length-drop, take}
use borrow.Author.Tests.{eqb-true}
use Rattle.rules.specs.Script.{newline}
use Rattle.script.specs.Play.{part}
use Rattle.script.specs.Feeding.{begun, whole}
use Rattle.script.specs.Read.{line_of}
use Rattle.script.proofs.OneLineLaws.{line-newline, line_other}
use Rattle.script.proofs.PortionLaws.{join_lines, join_rest, joins, whole-newline, whole-nil, whole-other, begun-nil}

-- l is the first line of t, and whole lines follow it
pub record First (t l : List ℕ) : Type 0 where
  pub parts : t ≡ l ++ (newline ∷ drop (suc (length l)) t)
  pub rest : begun (drop (suc (length l)) t) ≡ []

begun-tail : (x : ℕ) (xs : List ℕ) → eqb x newline ≡ false → begun (x ∷ xs) ≡ [] → begun xs ≡ []
begun-tail x xs q e = go (whole xs) refl
  where
    go : (ls : List (List ℕ)) → whole xs ≡ ls → begun xs ≡ []
    go [] w = absurd (let f = sym ((whole-other x xs q).1 ∙ ap (λ (ks : List (List ℕ)). join_rest x ks (begun xs)) w) ∙ e in let z : ◌≡◌ {A = ℕ} 0 1 = cc in omega arith)
    go (l ∷ ls) w = sym ((whole-other x xs q).1 ∙ ap (λ (ks : List (List ℕ)). join_rest x ks (begun xs)) w) ∙ e

-- a byte alone that is no newline has begun a line
begun-alone : (x : ℕ) → eqb x newline ≡ false → begun (x ∷ []) ≡ [] → ⊥
begun-alone x q e =
    let f : x ∷ begun [] ≡ [] = sym ((whole-other x [] q).1 ∙ ap (λ (ks : List (List ℕ)). join_rest x ks (begun [])) whole-nil) ∙ e in
    let z : ◌≡◌ {A = ℕ} 0 1 = cc in omega arith

-- a text of whole lines begins with a line and its newline
pub first-line : (t : List ℕ) → begun t ≡ [] → 1 ≤ length t → First t (line_of t)
first-line [] e some = absurd (omega arith)
first-line (x ∷ []) e some = go (eqb x newline) refl
  where
    go : (t : Bool) → eqb x newline ≡ t → First (x ∷ []) (line_of (x ∷ []))
    go true q =
        subst (First (x ∷ [])) (sym (line-newline x [] q))
        (record { parts = ap (λ (y : ℕ). y ∷ []) (eqb-true x newline q); rest = sym (whole-newline x [] q).1 ∙ e })
    go false q = absurd (begun-alone x q e)
first-line (x ∷ y ∷ ys) e some = go (eqb x newline) refl (first-line (y ∷ ys))
  where
    go : (t : Bool) → eqb x newline ≡ t → (begun (y ∷ ys) ≡ [] → 1 ≤ length (y ∷ ys) → First (y ∷ ys) (line_of (y ∷ ys))) → First (x ∷ y ∷ ys) (line_of (x ∷ y ∷ ys))
    go true q r =
        subst (First (x ∷ y ∷ ys)) (sym (line-newline x (y ∷ ys) q))
        (record { parts = ap (λ (z : ℕ). z ∷ y ∷ ys) (eqb-true x newline q); rest = sym (whole-newline x (y ∷ ys) q).1 ∙ e })
    go false q r =
        let f = r (begun-tail x (y ∷ ys) q e) (omega arith) in
        subst (First (x ∷ y ∷ ys)) (sym (line_other x (y ∷ ys) q)) (record { parts = ap (λ (zs : List ℕ). x ∷ zs) f.parts; rest = f.rest })

-- a line with its newline is one line, and nothing has begun
pub record OneLine (l : List ℕ) : Type 0 where
  pub lines : whole (l ++ (newline ∷ [])) ≡ l ∷ []
  pub rest : begun (l ++ (newline ∷ [])) ≡ []

empty-line : OneLine []
empty-line =
    record {
      lines = (whole-newline newline [] refl).0 ∙ ap (λ (ls : List (List ℕ)). [] ∷ ls) whole-nil;
      rest = (whole-newline newline [] refl).1 ∙ begun-nil;
    }

line-nil : line_of [] ≡ []
unfolding line_of
line-nil = refl

pub one-line : (t : List ℕ) → OneLine (line_of t)
one-line [] = subst OneLine (sym line-nil) empty-line
one-line (x ∷ xs) = go (eqb x newline) refl (one-line xs)
  where
    go : (t : Bool) → eqb x newline ≡ t → OneLine (line_of xs) → OneLine (line_of (x ∷ xs))
    go true q r = subst OneLine (sym (line-newline x xs q)) empty-line
    go false q r =
        let f = whole-other x (line_of xs ++ (newline ∷ [])) q in
        subst OneLine (sym (line_other x xs q))
        (record {
          lines = f.0 ∙ ap (join_lines x) r.lines;
          rest = f.1 ∙ ap (λ (ls : List (List ℕ)). join_rest x ls (begun (line_of xs ++ (newline ∷ [])))) r.lines ∙ r.rest;
        })

-- whole lines, and one more behind them
pub one-more : (c t : List ℕ) → begun c ≡ []
    → (whole (c ++ (line_of t ++ (newline ∷ []))) ≡ whole c ++ (line_of t ∷ [])) × (begun (c ++ (line_of t ++ (newline ∷ []))) ≡ [])
one-more c t none =
    let j = joins c (line_of t ++ (newline ∷ [])) in
    let o = one-line t in
    (j.lines ∙ rw (none, o.lines), j.rest ∙ rw (none, o.rest))

-- The part of a text between two positions grows by a line.

pub part_none : (s : List ℕ) (from : ℕ) → part s from from ≡ []
unfolding part
part_none s from = let e : from - from ≡ 0 = omega arith in rw e

pub part-front : (s : List ℕ) (used : ℕ) → part s 0 used ≡ take used s
unfolding part
part-front s used = let e : used - 0 ≡ used = omega arith in rw e

pub record Grown (s : List ℕ) (from used : ℕ) : Type 0 where
  pub inside : used + length (line_of (drop used s)) + 1 ≤ length s
  pub grows : part s from (used + length (line_of (drop used s)) + 1) ≡ part s from used ++ (line_of (drop used s) ++ (newline ∷ []))
  pub rest : begun (drop (used + length (line_of (drop used s)) + 1) s) ≡ []

pub grown : (s : List ℕ) (from used : ℕ) → from ≤ used → used < length s → begun (drop used s) ≡ [] → Grown s from used
unfolding part
grown s from used low inside lines =
    let t = drop used s in
    let l = line_of t in
    let lt = length-drop used s in
    let f = first-line t lines (omega arith) in
    let r = drop (suc (length l)) t in
    let long : length t ≡ length l + suc (length r) = ap length f.parts ∙ length-append l (newline ∷ r) in
    let step : used + length l + 1 - from ≡ (used - from) + (length l + 1) = omega arith in
    let there : from + (used - from) ≡ used = omega arith in
    let off : drop (used - from) (drop from s) ≡ t = drop-drop (used - from) from s ∙ ap (λ (k : ℕ). drop k s) there in
    let line : take (length l + 1) t ≡ l ++ (newline ∷ []) = ap (take (length l + 1)) f.parts ∙ take-append-add l (newline ∷ r) 1 in
    let behind : used + length l + 1 ≡ used + suc (length l) = omega arith in
    record {
      inside = omega arith;
      grows = ap (λ (k : ℕ). take k (drop from s)) step ∙ take-add (used - from) (length l + 1) (drop from s)
          ∙ ap (λ (bs : List ℕ). take (used - from) (drop from s) ++ bs) (ap (take (length l + 1)) off ∙ line);
      rest = ap (λ (k : ℕ). begun (drop k s)) behind ∙ ap begun (sym (drop-drop (suc (length l)) used s)) ∙ f.rest;
    }
