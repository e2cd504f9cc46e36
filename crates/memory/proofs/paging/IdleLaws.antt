-- A page goes to where none is, and leaves an empty one, or trades places with another: from words to the pieces of the node. Each number
-- stands once, so that the pages of the lines and the lists are others than those written over. Assumes nothing.
use Prim.Native.Nat.{ℕ, suc, ◌<◌}
use native.Mathlib.Omega.{arith}
use mathlib.Core.List.{List, [], ◌∷◌, map}
use mathlib.Core.Logic.{◌≢◌}
use mathlib.Core.Path.{◌≡◌, refl, ap, ◌∙◌}
use lib.ListN.{length, get_or}
use Rattle.rules.specs.Build.{paper01, page_count, group_count}
use Rattle.rules.specs.Memory.{place_words}
use Rattle.rules.specs.Lists.{Every, concat_map, count_of}
use Rattle.rules.specs.Node.{Group, Node, empty_group, group_of, with_buffer, with_groups, empty_page}
use Rattle.rules.specs.Paging.{traded, traded_in, trading}
use Rattle.rules.specs.Sound.{Mapped}
use Rattle.rules.specs.Valid.{frame_list}
use Rattle.rules.proofs.Steps.EveryLaws.{every-mono}
use Rattle.rules.proofs.Steps.ListLaws.{count-part}
use Rattle.rules.proofs.Map.PageLaws.{empty-good}
use Rattle.memory.specs.Paging.{PageMoved, PagesSwapped}
use Rattle.memory.proofs.CountLaws.{count_none, lists-short}
use Rattle.memory.proofs.PieceLaws.{PageStands, Pieces, emptied, page-stands}
use Rattle.memory.proofs.WriteLaws.{wrote-stands}
use Rattle.memory.proofs.paging.MoveLaws.{Follows, moved-else, moved-follows, moved-kept, swapped-else, swapped-follows, swapped-kept, traded-sym}
use Rattle.memory.proofs.paging.PiecesLaws.{Laid, beside-put, pages-put}

-- a node that can be mapped
pub mapped-laid : {n : Node} → Mapped n → Laid n
unfolding group_of
mapped-laid {n} v =
    record {
      group-count = v.group-count;
      groups-whole = v.groups-whole;
      short = λ i h. omega (arith, lists-short v (suc i) (omega arith) (omega arith));
    }

-- the pages of a list are others than one that is no group's
list-others : (q : ℕ) (n : Node) → length n.groups ≡ group_count → count_of q (concat_map frame_list n.groups) ≡ 0 → (i : ℕ) → i < group_count
    → Every (λ x. x ≢ q) (get_or n.groups i empty_group).buffer.frames
unfolding frame_list
list-others q n count none i h =
    count_none q (get_or n.groups i empty_group).buffer.frames
    (omega (arith, count-part q frame_list empty_group n.groups i (omega arith)))

-- trading goes both ways
pub trading-sym : (p q : ℕ) (n : Node) → trading p q n ≡ trading q p n
unfolding trading with_groups traded_in with_buffer
trading-sym p q n = ap (λ (Gs : List Group). with_groups Gs n) (groups n.groups)
  where
    numbers : (xs : List ℕ) → map (traded p q) xs ≡ map (traded q p) xs
    numbers [] = refl
    numbers (x ∷ xs) = let e = traded-sym p q x in let r = numbers xs in cc

    groups : (Gs : List Group) → map (traded_in p q) Gs ≡ map (traded_in q p) Gs
    groups [] = refl
    groups (G ∷ Gs) =
        let r = groups Gs in
        let e : traded_in p q G ≡ traded_in q p G =
        ap (λ (fs : List ℕ). with_buffer (record { used = G.buffer.used; count = G.buffer.count; frames = fs; places = G.buffer.places }) G) (numbers G.buffer.frames) in
        cc

-- the words of a line's pages are kept where those of all pages but p and q are, and neither stands in the line
line_kept : (m m₁ : List ℕ) (p q : ℕ) → ((x : ℕ) → x ≢ p → x ≢ q → Follows m m₁ x x) → (xs : List ℕ) → count_of p xs ≡ 0 → count_of q xs ≡ 0
    → Every (λ x. Follows m m₁ x x) xs
line_kept m m₁ p q kept xs no-p no-q = both xs (count_none p xs no-p) (count_none q xs no-q)
  where
    both : (xs : List ℕ) → Every (λ x. x ≢ p) xs → Every (λ x. x ≢ q) xs → Every (λ x. Follows m m₁ x x) xs
    both [] a b = tt
    both (x ∷ xs) a b = (kept x a.0 b.0, both xs a.1 b.1)

module _ {m m' : List ℕ} {n : Node} {r : List ℕ} (k : Pieces m n r) (v : Laid n) (p q : ℕ) (lp : p < page_count paper01) (lq : q < page_count paper01)
    (idle-free : count_of q n.free ≡ 0) (idle-swap : count_of q n.paging.swap ≡ 0) where
  module _ (p-free : count_of p n.free ≡ 0) (p-swap : count_of p n.paging.swap ≡ 0) where
    -- the page in p has gone to q, which is no group's and in no line
    pub moved-put : p ≢ q → count_of q (concat_map frame_list n.groups) ≡ 0 → PageMoved m m' p q → Pieces m' (trading p q n) r
    moved-put apart unlisted moved =
        let w = moved.copied in
        let z = moved.wiped in
        pages-put k v lp lq (z.same_length ∙ w.same_length) (moved-else p q apart w z lp lq) moved.lists
        (line_kept m moved.once p q (moved-kept p q apart w z) n.free p-free idle-free)
        (line_kept m moved.once p q (moved-kept p q apart w z) n.paging.swap p-swap idle-swap)
        (λ i h.
        every-mono _ _ (λ x other. moved-follows p q apart w z x other) (get_or n.groups i empty_group).buffer.frames
        (list-others q n v.group-count unlisted i h))

    -- and p is empty
    pub moved-empty : p ≢ q → PageMoved m m' p q → PageStands m' (emptied p)
    unfolding place_words empty_page
    moved-empty apart moved =
        let w = moved.copied in
        let z = moved.wiped in
        beside-put k v lp lq (z.same_length ∙ w.same_length) (moved-else p q apart w z lp lq) moved.lists (emptied p)
        (page-stands moved.once (emptied p) (empty-good paper01) lp (wrote-stands z))

    -- the pages in p and q, which are in no line, have traded places
    pub swapped-put : PagesSwapped m m' p q → Pieces m' (trading p q n) r
    swapped-put swapped =
        let s = swapped.swapped in
        pages-put k v lp lq s.same_length (swapped-else p q s lp lq) swapped.lists
        (line_kept m swapped.between p q (swapped-kept p q s) n.free p-free idle-free)
        (line_kept m swapped.between p q (swapped-kept p q s) n.paging.swap p-swap idle-swap)
        (λ i h. every-all swapped (get_or n.groups i empty_group).buffer.frames)
      where
        every-all : (s : PagesSwapped m m' p q) (xs : List ℕ) → Every (λ x. Follows m s.between x (traded p q x)) xs
        every-all s [] = tt
        every-all s (x ∷ xs) = (swapped-follows p q s.swapped x, every-all s xs)
