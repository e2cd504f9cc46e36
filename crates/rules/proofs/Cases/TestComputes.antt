-- How the cases of memory are computed: the memory test fails where one clause does, and passes where each does, read in the memory's parts; numbers
-- stand once each where they can be drawn one after the other; two lists of words are the same where each word is. Assumes nothing.
use Prim.Native.Nat.{ℕ, zero, suc, ◌+◌}
use mathlib.Core.Path.{◌≡◌, refl, sym, ap, ◌∙◌}
use mathlib.Core.Bool.{Bool, true, false, cond, ◌&&◌, false≢true}
use mathlib.Core.List.{List, [], ◌∷◌, ◌++◌}
use borrow.Author.Tests.{eqb-true}
use lib.Dec.{eqb, leb}
use lib.ListN.{length, take, drop, get_or}
use native.Mathlib.Omega.{arith}
use Rattle.rules.specs.Lists.{passes, all, is_empty, count_of, up_from}
use Rattle.rules.specs.Build.{paper01, page_count}
use Rattle.rules.specs.Operation.{Operation, not_node, refused}
use Rattle.rules.specs.Step.{step}
use Rattle.rules.specs.Node.{Node}
use Rattle.rules.specs.Valid.{frame_numbers, frame_order, stands_once, node_tests, is_node}
use Rattle.rules.specs.Memory.{out_at, brought_at, size, word}
use Rattle.rules.specs.MemoryTest.{memory_tests, is_memory, replaced, step_memory, empty_part, runner_part, head_part, head_words, page_counts}
use Rattle.rules.proofs.Cases.MemoryParts.{Parts, parts_of, node_in, node-in, counts_in, counts-in, flags_in, flags-in, unused_in, unused-in, all_same, idle_in, idle-in}

-- word by word
abbrev pub same : List ℕ → List ℕ → Bool
same [] [] = true
same [] (y ∷ ys) = false
same (x ∷ xs) [] = false
same (x ∷ xs) (y ∷ ys) = elim (eqb x y) [ true ↦ same xs ys | false ↦ false ]

-- where that holds they are equal
pub same-words : (xs ys : List ℕ) → same xs ys ≡ true → xs ≡ ys
same-words [] [] e = refl
same-words [] (y ∷ ys) e = absurd (false≢true e)
same-words (x ∷ xs) [] e = absurd (false≢true e)
same-words (x ∷ xs) (y ∷ ys) e = go (eqb x y) refl (same-words xs ys)
  where
    go : (b : Bool) → eqb x y ≡ b → (same xs ys ≡ true → xs ≡ ys) → x ∷ xs ≡ y ∷ ys
    go true q r = let h : x ≡ y = eqb-true x y q in let t : xs ≡ ys = r (rw (q, same) at e) in cc
    go false q r = absurd (false≢true (rw (q, same) at e))

-- Lists of tests.

-- a test that always passes
abbrev pub always : {A : Type 0} → A → Bool
always x = true

-- the i-th test fails
pub fails : {A : Type 0} (ts : List (A → Bool)) (x : A) (i : ℕ) → get_or ts i always x ≡ false → passes ts x ≡ false
fails [] x i e = e
fails (t ∷ ts) x zero e = rw e
fails (t ∷ ts) x (suc i) e = go (t x) refl (fails ts x i e)
  where
    go : (b : Bool) → t x ≡ b → passes ts x ≡ false → passes (t ∷ ts) x ≡ false
    go true q r = rw q r
    go false q r = rw q

-- where all pass, the first does and the others do
pub pass-both : {A : Type 0} (t : A → Bool) (ts : List (A → Bool)) (x : A) → passes (t ∷ ts) x ≡ true → (t x ≡ true) × (passes ts x ≡ true)
pass-both t ts x e = go (t x) refl
  where
    go : (b : Bool) → t x ≡ b → (t x ≡ true) × (passes ts x ≡ true)
    go true q = (q, rw (q, passes) at e)
    go false q = absurd (false≢true (rw (q, passes) at e))

-- the list without its i-th element
abbrev pub lacking : {A : Type 0} → ℕ → List A → List A
lacking i xs = take i xs ++ drop (suc i) xs

-- all pass where the i-th does and the others do
pub pass-at : {A : Type 0} (ts : List (A → Bool)) (x : A) (i : ℕ)
    → get_or ts i always x ≡ true
    → passes (lacking i ts) x ≡ true
    → passes ts x ≡ true
pass-at [] x i e r = refl
pass-at (t ∷ ts) x zero e r = rw e r
pass-at (t ∷ ts) x (suc i) e r =
    let both = pass-both t (lacking i ts) x r in
    rw both.0 (pass-at ts x i e both.1)

-- the last test may give way to one that passes where it does
pub pass-last : {A : Type 0} (ts : List (A → Bool)) (t u : A → Bool) (x : A)
    → (t x ≡ true → u x ≡ true)
    → passes (ts ++ (t ∷ [])) x ≡ true
    → passes (ts ++ (u ∷ [])) x ≡ true
pass-last [] t u x f e = rw (f (pass-both t [] x e).0)
pass-last (s ∷ ts) t u x f e =
    let both = pass-both s (ts ++ (t ∷ [])) x e in
    rw both.0 (pass-last ts t u x f both.1)

-- two lists of tests, each of something of its own, agree test by test
abbrev pub TestsAgree : {A B : Type 0} → List (A → Bool) → List (B → Bool) → A → B → Type 0
TestsAgree [] [] x y = Unit {0}
TestsAgree [] (u ∷ us) x y = ⊥
TestsAgree (t ∷ ts) [] x y = ⊥
TestsAgree (t ∷ ts) (u ∷ us) x y = (t x ≡ u y) × TestsAgree ts us x y

-- both pass or none does
pub passes_same : {A B : Type 0} (ts : List (A → Bool)) (us : List (B → Bool)) (x : A) (y : B) → TestsAgree ts us x y → passes ts x ≡ passes us y
passes_same [] [] x y a = refl
passes_same [] (u ∷ us) x y a = absurd a
passes_same (t ∷ ts) [] x y a = absurd a
passes_same (t ∷ ts) (u ∷ us) x y a = go (u y) refl (passes_same ts us x y a.1)
  where
    go : (b : Bool) → u y ≡ b → passes ts x ≡ passes us y → passes (t ∷ ts) x ≡ passes (u ∷ us) y
    go true q r = rw (a.0, q) r
    go false q r = rw (a.0, q)

-- a test fails on a list of numbers where it does on the i-th
pub all-fails : (t : ℕ → Bool) (xs : List ℕ) (i : ℕ) → all t (take 1 (drop i xs)) ≡ false → all t xs ≡ false
all-fails t [] zero e = e
all-fails t [] (suc i) e = e
all-fails t (x ∷ xs) zero e = go (t x) e
  where
    go : (b : Bool) → b && true ≡ false → b && all t xs ≡ false
    go true f = absurd (false≢true (sym f))
    go false f = refl
all-fails t (x ∷ xs) (suc i) e = go (t x) (all-fails t xs i e)
  where
    go : (b : Bool) → all t xs ≡ false → b && all t xs ≡ false
    go true f = f
    go false f = refl

-- Numbers that stand once each.

-- x stands in the list
abbrev pub has : ℕ → List ℕ → Bool
has x [] = false
has x (y ∷ ys) = elim (eqb y x) [ true ↦ true | false ↦ has x ys ]

-- the list without the first x
abbrev pub drawn : ℕ → List ℕ → List ℕ
drawn x [] = []
drawn x (y ∷ ys) = elim (eqb y x) [ true ↦ ys | false ↦ y ∷ drawn x ys ]

-- the numbers xs, drawn from the list one after the other, are all that it has
abbrev pub draws : List ℕ → List ℕ → Bool
draws [] ys = is_empty ys
draws (x ∷ xs) ys = elim (has x ys) [ true ↦ draws xs (drawn x ys) | false ↦ false ]

-- one that is drawn stands there once more than in what is left
pub drawn-count : (x k : ℕ) (ys : List ℕ) → has x ys ≡ true → count_of k ys ≡ cond (eqb x k) 1 0 + count_of k (drawn x ys)
drawn-count x k [] e = absurd (false≢true e)
drawn-count x k (y ∷ ys) e = go (eqb y x) refl (drawn-count x k ys)
  where
    go : (b : Bool)
        → eqb y x ≡ b
        → (has x ys ≡ true → count_of k ys ≡ cond (eqb x k) 1 0 + count_of k (drawn x ys))
        → count_of k (y ∷ ys) ≡ cond (eqb x k) 1 0 + count_of k (drawn x (y ∷ ys))
    go true q r = let h : y ≡ x = eqb-true y x q in rw (q, drawn, h)
    go false q r = let left = r (rw (q, has) at e) in rw (q, drawn) (omega (arith, left))

-- so each number stands as often in both lists
pub draws-count : (xs ys : List ℕ) (k : ℕ) → draws xs ys ≡ true → count_of k ys ≡ count_of k xs
draws-count [] [] k e = refl
draws-count [] (y ∷ ys) k e = absurd (false≢true e)
draws-count (x ∷ xs) ys k e = go (has x ys) refl (draws-count xs (drawn x ys) k)
  where
    go : (b : Bool)
        → has x ys ≡ b
        → (draws xs (drawn x ys) ≡ true → count_of k (drawn x ys) ≡ count_of k xs)
        → count_of k ys ≡ count_of k (x ∷ xs)
    go true q r = drawn-count x k ys q ∙ ap (λ (n : ℕ). cond (eqb x k) 1 0 + n) (r (rw (q, draws) at e))
    go false q r = absurd (false≢true (rw (q, draws) at e))

-- where those below k are drawn, each stands in the list as it does among those below k: once
pub once : (k : ℕ) (ys : List ℕ)
    → draws (up_from 0 k) ys ≡ true
    → all (stands_once ys) (up_from 0 k) ≡ all (stands_once (up_from 0 k)) (up_from 0 k)
unfolding stands_once
once k ys e =
    let same : (i : ℕ) → stands_once ys i ≡ stands_once (up_from 0 k) i = λ i. ap (λ (n : ℕ). eqb n 1) (draws-count (up_from 0 k) ys i e) in
    all_same (stands_once ys) (stands_once (up_from 0 k)) same (up_from 0 k)

-- The memory test.

-- memory is no node where the i-th clause on its words fails
pub words-fail : (m : List ℕ) (i : ℕ) → get_or memory_tests i always m ≡ false → is_memory m ≡ false
unfolding is_memory
words-fail m i e = fails memory_tests m i e

-- and where the i-th on the node that they hold does
pub node-fails : (m : List ℕ) (i : ℕ) → get_or (node_tests paper01) i always (node_in (parts_of m)) ≡ false → is_memory m ≡ false
unfolding memory_tests is_node
node-fails m i e = words-fail m 5 (rw (node-in m) (fails (node_tests paper01) (node_in (parts_of m)) i e))

-- and where the frame or swap page with number f does not stand once
pub page-fails : (m : List ℕ) (f : ℕ)
    → all (stands_once (frame_numbers (node_in (parts_of m)))) (take 1 (drop f (up_from 0 (page_count paper01)))) ≡ false
    → is_memory m ≡ false
unfolding node_tests
page-fails m f e = node-fails m 6 (all-fails (stands_once (frame_numbers (node_in (parts_of m)))) (up_from 0 (page_count paper01)) f e)

-- the clauses on words, in the memory's parts
abbrev pub word_tests : List (Parts → Bool)
word_tests = (λ p. leb size (length p.start)) ∷ counts_in ∷ flags_in ∷ unused_in ∷ idle_in ∷ []

-- a test of the node, there
abbrev pub of_node : (Node → Bool) → Parts → Bool
of_node t p = t (node_in p)

-- all clauses, with this test of the node
abbrev pub part_tests : (Node → Bool) → List (Parts → Bool)
part_tests t = word_tests ++ (of_node t ∷ [])

-- they are the memory test's
pub parts-tested : (m : List ℕ) → is_memory m ≡ passes (part_tests (is_node paper01)) (parts_of m)
unfolding is_memory memory_tests
parts-tested m =
    passes_same memory_tests (part_tests (is_node paper01)) m (parts_of m)
    (refl, (counts-in m, (flags-in m, (unused-in m, (idle-in m, (ap (is_node paper01) (node-in m), tt))))))

-- the clauses on the node, where the numbers that stand once, of all frames and swap pages and of the frames, are drawn
abbrev pub drawn_tests : List (Node → Bool)
drawn_tests =
    (λ n. draws (up_from 0 (page_count paper01)) (frame_numbers n))
    ∷ (λ n. draws (up_from 0 paper01.frames) (frame_order n))
    ∷ lacking 8 (lacking 6 (node_tests paper01))

-- a node passes where it passes these
pub drawn-node : (n : Node) → passes drawn_tests n ≡ true → is_node paper01 n ≡ true
unfolding is_node node_tests stands_once
drawn-node n e =
    let pages = pass-both (λ n. draws (up_from 0 (page_count paper01)) (frame_numbers n)) (drop 1 drawn_tests) n e in
    let frames = pass-both (λ n. draws (up_from 0 paper01.frames) (frame_order n)) (drop 2 drawn_tests) n pages.1 in
    pass-at (node_tests paper01) n 6 (once (page_count paper01) (frame_numbers n) pages.0)
    (pass-at (lacking 6 (node_tests paper01)) n 8 (once paper01.frames (frame_order n) frames.0) frames.1)

-- memory is a node where its parts pass
pub is-node : (m : List ℕ) → passes (part_tests (passes drawn_tests)) (parts_of m) ≡ true → is_memory m ≡ true
is-node m e =
    parts-tested m ∙ pass-last word_tests (of_node (passes drawn_tests)) (of_node (is_node paper01)) (parts_of m) (drawn-node (node_in (parts_of m))) e

-- a step on memory that is a node, and on one that is none
pub step-report : (m : List ℕ) (op : Operation) → is_memory m ≡ true → (step_memory m op).report ≡ (step paper01 (node_in (parts_of m)) op).report
unfolding step_memory
step-report m op e = rw (e, step_memory, node-in m)

-- the words that it leaves, as far as they are looked at
pub step-writes : (m : List ℕ) (op : Operation) (look : List ℕ → List ℕ) (ws : List ℕ)
    → is_memory m ≡ true
    → same (look (replaced (step paper01 (node_in (parts_of m)) op).node m)) ws ≡ true
    → look (step_memory m op).memory ≡ ws
unfolding step_memory
step-writes m op look ws e r = rw (e, step_memory, node-in m) (same-words _ _ r)

pub step-refused : (m : List ℕ) (op : Operation) → is_memory m ≡ false → step_memory m op ≡ record { report = refused not_node; memory = m }
unfolding step_memory
step-refused m op e = rw (e, step_memory)

-- the head message's part, of both
pub head_of : (m : List ℕ) → is_memory m ≡ true → head_part m ≡ runner_part m (node_in (parts_of m))
unfolding head_part
head_of m e = rw (e, head_part, node-in m)

pub head-reads : (m ws : List ℕ)
    → is_memory m ≡ true
    → same (take (runner_part m (node_in (parts_of m))).len (drop (runner_part m (node_in (parts_of m))).start m)) ws ≡ true
    → head_words m ≡ ws
unfolding head_words
head-reads m ws e r = rw (head_of m e) (same-words _ _ r)

pub head-none : (m : List ℕ) → is_memory m ≡ false → head_part m ≡ empty_part
unfolding head_part
head-none m e = rw (e, head_part)

-- the counts of pages, of both
pub counts-of : (m : List ℕ) → is_memory m ≡ true → page_counts m ≡ record { out = word m out_at; brought = word m brought_at }
unfolding page_counts
counts-of m e = rw (e, page_counts)

pub counts-none : (m : List ℕ) → is_memory m ≡ false → page_counts m ≡ record { out = 0; brought = 0 }
unfolding page_counts
counts-none m e = rw (e, page_counts)
