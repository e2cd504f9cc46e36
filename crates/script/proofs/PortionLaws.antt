-- Portions of a script: lines that are whole stay whole, and a line that has begun goes on in the next portion. So what is listed portion by
-- portion is what is listed of the whole. Assumes nothing.
use mathlib.Core.List.{append_assoc, List, [], ◌++◌, ◌∷◌}
use Rattle.rules.specs.MemoryTest.{step_memory, power_on_memory, MemoryStep, replaced}
use Rattle.rules.specs.Step.{step}
use Rattle.rules.specs.Memory.{words, size}
use Prim.Native.Nat.{◌≤◌, ℕ, ◌+◌, suc}
use native.Mathlib.Nat.{add-zero}
use native.Mathlib.Omega.{arith}
use mathlib.Core.Bool.{Bool, false, true}
use mathlib.Core.Path.{◌∙◌, ◌≡◌, ap, refl, sym}
use lib.Dec.{eqb}
use lib.ListN.{length, drop}
use borrow.Author.Tests.{le-leb}
use Rattle.rules.specs.Build.{paper01}
use Rattle.rules.specs.Node.{Node, power_on}
use Rattle.rules.specs.Script.{ended, newline, script_lines, header, list_from, listing, read_line, report_line}
use Rattle.rules.specs.Text.{extend_first, split}
use Rattle.rules.specs.Valid.{Valid}
use Rattle.rules.proofs.Map.RunMemory.{paper-sensible, power-on-tested, step-written}
use Rattle.rules.proofs.Steps.StepLaws.{power-on-valid, step-valid}
use Rattle.script.specs.Feeding.{all_but_last, begun, last_line, last_part, whole, after_lines, list_memory}

-- a split has a first part
pub split-some : (s : ℕ) (xs : List ℕ) → 1 ≤ length (split s xs)
unfolding split extend_first
split-some s [] = omega arith
split-some s (x ∷ xs) = go (eqb x s) (split s xs)
  where
    go : (t : Bool) (ps : List (List ℕ)) → 1 ≤ length {A = List ℕ} (elim t [ true ↦ [] ∷ ps | false ↦ extend_first x ps ])
    go true ps = omega arith
    go false [] = omega arith
    go false (p ∷ ps) = omega arith

-- Behind a newline a line begins.

pub last-behind : (ps : List (List ℕ)) → 1 ≤ length ps → (l : List ℕ) → (all_but_last (l ∷ ps) ≡ l ∷ all_but_last ps) × (last_part (l ∷ ps) ≡ last_part ps)
unfolding all_but_last last_part
last-behind [] some l = absurd (omega arith)
last-behind (p ∷ ps) some l = (refl, refl)

module _ (x : ℕ) (xs : List ℕ) where
  pub whole-newline : eqb x newline ≡ true → (whole (x ∷ xs) ≡ [] ∷ whole xs) × (begun (x ∷ xs) ≡ begun xs)
  unfolding whole begun split
  whole-newline e = rw (e, split) (last-behind (split newline xs) (split-some newline xs) [])

-- Any other byte joins the first line, or what has begun where there is none.

abbrev pub join_lines : ℕ → List (List ℕ) → List (List ℕ)
join_lines x [] = []
join_lines x (l ∷ ls) = (x ∷ l) ∷ ls

abbrev pub join_rest : ℕ → List (List ℕ) → List ℕ → List ℕ
join_rest x [] r = x ∷ r
join_rest x (l ∷ ls) r = r

joined-first : (x : ℕ) (ps : List (List ℕ)) → 1 ≤ length ps
    → (all_but_last (extend_first x ps) ≡ join_lines x (all_but_last ps)) × (last_part (extend_first x ps) ≡ join_rest x (all_but_last ps) (last_part ps))
unfolding all_but_last last_part extend_first
joined-first x [] some = absurd (omega arith)
joined-first x (p ∷ []) some = (refl, refl)
joined-first x (p ∷ q ∷ ps) some = (refl, refl)

module _ (x : ℕ) (xs : List ℕ) where
  pub whole-other : eqb x newline ≡ false → (whole (x ∷ xs) ≡ join_lines x (whole xs)) × (begun (x ∷ xs) ≡ join_rest x (whole xs) (begun xs))
  unfolding whole begun split
  whole-other e = rw (e, split) (joined-first x (split newline xs) (split-some newline xs))

-- Where no line is whole, all has begun.

pub whole-nil : whole [] ≡ []
unfolding whole split all_but_last
whole-nil = refl

pub begun-nil : begun [] ≡ []
unfolding begun split last_part
begun-nil = refl

pub begun_all : (xs : List ℕ) → whole xs ≡ [] → begun xs ≡ xs
begun_all [] e = begun-nil
begun_all (x ∷ xs) e = go (eqb x newline) refl (begun_all xs)
  where
    inner : (ls : List (List ℕ)) → join_lines x ls ≡ [] → ls ≡ []
    inner [] q = refl
    inner (l ∷ ls) q = absurd (let z : ◌≡◌ {A = ℕ} 0 1 = cc in omega arith)

    go : (t : Bool) → eqb x newline ≡ t → (whole xs ≡ [] → begun xs ≡ xs) → begun (x ∷ xs) ≡ x ∷ xs
    go true q r = absurd (let f = (whole-newline x xs q).0 in let z : ◌≡◌ {A = ℕ} 0 1 = cc in omega arith)
    go false q r =
        let none : whole xs ≡ [] = inner (whole xs) (sym (whole-other x xs q).0 ∙ e) in
        (whole-other x xs q).1 ∙ ap (λ (ls : List (List ℕ)). join_rest x ls (begun xs)) none ∙ ap (λ (l : List ℕ). x ∷ l) (r none)

-- Two portions: the first one's lines, then those of what it has begun with the second.

pub record Joins (xs ys : List ℕ) : Type 0 where
  pub lines : whole (xs ++ ys) ≡ whole xs ++ whole (begun xs ++ ys)
  pub rest : begun (xs ++ ys) ≡ begun (begun xs ++ ys)

pub joins : (xs ys : List ℕ) → Joins xs ys
joins [] ys = record { lines = rw (whole-nil, begun-nil); rest = rw begun-nil }
joins (x ∷ xs) ys = go (eqb x newline) refl (joins xs ys)
  where
    after : (ls : List (List ℕ)) (r : List ℕ) → whole xs ≡ ls → begun xs ≡ r → eqb x newline ≡ false → Joins xs ys
        → (whole (x ∷ (xs ++ ys)) ≡ join_lines x ls ++ whole (join_rest x ls r ++ ys)) × (begun (x ∷ (xs ++ ys)) ≡ begun (join_rest x ls r ++ ys))
    after [] r e f q j = let all : r ≡ xs = sym f ∙ begun_all xs e in rw all (refl, refl)
    after (l ∷ ls) r e f q j =
        let w : whole (xs ++ ys) ≡ (l ∷ ls) ++ whole (r ++ ys) = j.lines ∙ rw (e, f) in
        let b : begun (xs ++ ys) ≡ begun (r ++ ys) = j.rest ∙ rw f in (
          (whole-other x (xs ++ ys) q).0 ∙ ap (join_lines x) w,
          (whole-other x (xs ++ ys) q).1 ∙ ap (λ (ks : List (List ℕ)). join_rest x ks (begun (xs ++ ys))) w ∙ b,
        )

    go : (t : Bool) → eqb x newline ≡ t → Joins xs ys → Joins (x ∷ xs) ys
    go true q j =
        let f = whole-newline x xs q in
        let g = whole-newline x (xs ++ ys) q in
        record {
          lines = g.0 ∙ ap (λ (ls : List (List ℕ)). [] ∷ ls) j.lines ∙ rw (f.0, f.1);
          rest = g.1 ∙ j.rest ∙ rw f.1;
        }
    go false q j =
        let f = whole-other x xs q in
        let t = after (whole xs) (begun xs) refl refl q j in
        record { lines = t.0 ∙ rw (f.0, f.1); rest = t.1 ∙ rw f.1 }

-- At the end of the input the lines are the script's.

ended-parts : (ps : List (List ℕ)) → 1 ≤ length ps → ended ps ≡ all_but_last ps ++ last_line (last_part ps)
unfolding ended all_but_last last_part last_line
ended-parts [] some = absurd (omega arith)
ended-parts (l ∷ []) some = refl
ended-parts (l ∷ m ∷ ls) some = ap (λ (ks : List (List ℕ)). l ∷ ks) (ended-parts (m ∷ ls) (omega arith))

pub lines-ended : (s : List ℕ) → script_lines s ≡ whole s ++ last_line (begun s)
unfolding script_lines whole begun
lines-ended s = ended-parts (split newline s) (split-some newline s)

-- Lines one behind the other: what they list and leave.

pub list-append : (i : ℕ) (m : List ℕ) (ks ls : List (List ℕ))
    → list_memory i m (ks ++ ls) ≡ list_memory i m ks ++ list_memory (i + length ks) (after_lines m ks) ls
unfolding list_memory after_lines
list-append i m [] ls = rw (add-zero i)
list-append i m (k ∷ ks) ls =
    let s = step_memory m (read_line k) in
    let e : suc i + length ks ≡ i + suc (length ks) = omega arith in
    ap (λ (bs : List ℕ). report_line i s.report ++ bs) (list-append (suc i) s.memory ks ls ∙ rw e)
    ∙ sym (append_assoc (report_line i s.report) (list_memory (suc i) s.memory ks) (list_memory (i + suc (length ks)) (after_lines s.memory ks) ls))

pub after-append : (m : List ℕ) (ks ls : List (List ℕ)) → after_lines m (ks ++ ls) ≡ after_lines (after_lines m ks) ls
unfolding after_lines
after-append m [] ls = refl
after-append m (k ∷ ks) ls = after-append (step_memory m (read_line k)).memory ks ls

-- On the memory of a node the lines list what they list on the node.

pub list_written : (i : ℕ) (n : Node) (rest : List ℕ) → Valid paper01 n → (ls : List (List ℕ))
    → list_memory i (words n ++ rest) ls ≡ list_from paper01 i n ls
unfolding list_memory list_from
list_written i n rest v [] = refl
list_written i n rest v (l ∷ ls) =
    let op = read_line l in
    let e = step-written n rest v op in
    let r = list_written (suc i) (step paper01 n op).node rest (step-valid v op) ls in
    ap (λ (s : MemoryStep). report_line i s.report ++ list_memory (suc i) s.memory ls) e
    ∙ ap (λ (bs : List ℕ). report_line i (step paper01 n op).report ++ bs) r

-- so the script's listing is the header and what its lines list from power-on on
pub listing-memory : (m s : List ℕ) → size ≤ length m → listing s ≡ header ++ list_memory 1 (power_on_memory m).memory (script_lines s)
unfolding listing replaced
listing-memory m s long =
    ap (λ (bs : List ℕ). header ++ bs)
    (sym (ap (λ (k : List ℕ). list_memory 1 k (script_lines s)) (power-on-tested m (le-leb size (length m) long))
    ∙ list_written 1 (power_on paper01) (drop size m) (power-on-valid paper01 paper-sensible) (script_lines s)))
