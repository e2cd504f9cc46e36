-- Those that wait: one joins them, and some at the head leave. Assumes nothing.
use Prim.Native.Nat.{ℕ, zero, suc, ◌+◌, ◌≤◌, ◌<◌}
use native.Mathlib.Omega.{arith}
use native.Mathlib.Numerals.{add-one}
use mathlib.Core.Bool.{Bool, true, false, cond}
use mathlib.Core.List.{List, [], ◌∷◌, ◌++◌, append-nil}
use mathlib.Core.Path.{◌≡◌, refl, sym, ap, ◌∙◌}
use lib.ListN.{length, take, drop, get_or, set, length-append, length-drop, length-set}
use lib.Seq.{drop-drop, drop-set-lt, get_or-drop, get_or-take, length-take-le, take_all, take-append-le, take-suc, take-suc-set}
use Rattle.rules.specs.Build.{paper01}

-- One joins.

module _ (w : List ℕ) (count i : ℕ) (arrival : Bool) (all : length w ≡ paper01.places) (few : count ≤ paper01.places) where
  pub joined-none : arrival ≡ false → take count w ≡ take paper01.places (take count w ++ cond arrival (i ∷ []) [])
  joined-none e =
      let l = length-take-le count w (omega arith) in
      sym (ap (λ (t : Bool). take paper01.places (take count w ++ cond t (i ∷ []) [])) e ∙ ap (take paper01.places) (append-nil (take count w))
      ∙ take_all paper01.places (take count w) (omega arith))

  pub joined-full : count ≡ paper01.places → take count w ≡ take paper01.places (take count w ++ cond arrival (i ∷ []) [])
  joined-full e =
      let l = length-take-le count w (omega arith) in
      sym (take-append-le paper01.places (take count w) (cond arrival (i ∷ []) []) (omega arith) ∙ take_all paper01.places (take count w) (omega arith))

  pub joined-last : arrival ≡ true → count < paper01.places → take (count + 1) (set w count i) ≡ take paper01.places (take count w ++ cond arrival (i ∷ []) [])
  joined-last e room =
      let l = length-take-le count w (omega arith) in
      let k = length-append (take count w) (i ∷ []) in
      ap (λ (n : ℕ). take n (set w count i)) (add-one count) ∙ take-suc-set w count i (omega arith)
      ∙ sym (ap (λ (t : Bool). take paper01.places (take count w ++ cond t (i ∷ []) [])) e ∙ take_all paper01.places (take count w ++ (i ∷ [])) (omega arith))

-- Some leave.

pub drop-short : (n : ℕ) (xs : List ℕ) → length xs ≤ n → drop n xs ≡ []
drop-short zero [] h = refl
drop-short zero (x ∷ xs) h = absurd (omega arith)
drop-short (suc n) [] h = refl
drop-short (suc n) (x ∷ xs) h = drop-short n xs (omega arith)

-- so many of those that stay are moved to the front
pub record Shifted (w : List ℕ) (count n : ℕ) (w' : List ℕ) (k : ℕ) : Type 0 where
  pub same : length w' ≡ length w
  pub few : k + n ≤ count
  pub front : take k w' ≡ take k (drop n (take count w))
  pub rest : drop k w' ≡ drop k w

pub shifted_start : (w : List ℕ) (count n : ℕ) → n ≤ count → Shifted w count n w 0
shifted_start w count n h = record { same = refl; few = omega arith; front = refl; rest = refl }

module _ (w : List ℕ) (count n : ℕ) {w' : List ℕ} {k : ℕ} (inside : count ≤ length w) (s : Shifted w count n w' k) where
  pub shifted-more : k + n < count → Shifted w count n (set w' k (get_or w' (k + n) 0)) (k + 1)
  shifted-more more =
      let f = s.same in
      let t = take count w in
      let lt = length-take-le count w inside in
      let ld = length-drop n t in
      let turn : k + n ≡ n + k = omega arith in
      let x : get_or w' (k + n) 0 ≡ get_or (drop n t) k 0 =
      sym (get_or-drop k w' n 0) ∙ ap (λ (l : List ℕ). get_or l n 0) s.rest ∙ get_or-drop k w n 0
      ∙ ap (λ (j : ℕ). get_or w j 0) turn ∙ sym (get_or-take count w (n + k) 0 (omega arith)) ∙ sym (get_or-drop n t k 0) in
      record {
        same = length-set w' k (get_or w' (k + n) 0) ∙ s.same;
        few = omega arith;
        front = ap (λ (j : ℕ). take j (set w' k (get_or w' (k + n) 0))) (add-one k) ∙ take-suc-set w' k (get_or w' (k + n) 0) (omega arith)
            ∙ ap (λ (l : List ℕ). l ++ (get_or w' (k + n) 0 ∷ [])) s.front ∙ ap (λ (y : ℕ). take k (drop n t) ++ (y ∷ [])) x
            ∙ sym (take-suc (drop n t) k 0 (omega arith)) ∙ ap (λ (j : ℕ). take j (drop n t)) (sym (add-one k));
        rest = drop-set-lt (k + 1) w' k (get_or w' (k + n) 0) (omega arith) ∙ sym (drop-drop 1 k w') ∙ ap (drop 1) s.rest ∙ drop-drop 1 k w;
      }

  pub shifted_end : count ≤ k + n → take k w' ≡ drop n (take count w)
  shifted_end end =
      let t = take count w in
      let lt = length-take-le count w inside in
      let ld = length-drop n t in
      let f = s.few in
      s.front ∙ take_all k (drop n t) (omega arith)
