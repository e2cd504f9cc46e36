-- Pledges with one message more, and the law of early acceptance. A group's messages in the queue add no more pages to those it holds
-- than they are many; the queue's messages are each of one group; the pages that the groups hold and the free ones are all pages. So
-- where more pages are free than messages are queued, no arrival brings the pledges above the pages. Assumes nothing.
use Prim.Native.Nat.{ℕ, suc, ◌+◌, ◌≤◌, ◌<◌}
use native.Mathlib.Decide.{ℕ_discrete}
use native.Mathlib.Nat.{le-mul_of_pos_right, lt_of_mul-lt-mul_right}
use native.Mathlib.Omega.{arith}
use mathlib.Core.Bool.{Bool, true, false}
use mathlib.Core.List.{List, [], ◌∷◌, ◌++◌, map, map-map}
use mathlib.Core.Logic.{◌≢◌}
use mathlib.Core.Path.{◌≡◌, refl, sym, ap, ◌∙◌}
use lib.ListN.{length, get_or, length-append}
use borrow.Author.Tests.{eq-eqb, ne_eqb}
use Rattle.rules.specs.Build.{Build, group_count, page_count}
use Rattle.rules.specs.Frames.{ceil_div, pledge, pledges}
use Rattle.rules.specs.Lists.{Every, filter, concat_map, sum, up_from}
use Rattle.rules.specs.Node.{Group, Message, Node, empty_group, group_of, in_queue, is_of, with_queue}
use Rattle.rules.specs.Refusal.{queued}
use Rattle.rules.specs.Valid.{GoodMessage, frame_list, frame_numbers, idle}
use Rattle.rules.proofs.Steps.EveryLaws.{every_append}
use Rattle.rules.proofs.Steps.FrameLaws.{ceil-enough, ceil-least}
use Rattle.rules.proofs.Steps.ListLaws.{count-weight, count-within, filter-append, filter-fail, filter-pass, hit, length-concat_map, map-up_from, sum-le}
use Rattle.rules.proofs.Steps.NodeLaws.{filled, group-good, is-of, not-of}
use Rattle.rules.specs.Sound.{Sound}

-- The messages of one group.

-- of a list with one more at its end
pub filter_same : (g : ℕ) (q : List Message) (x : Message) → x.group ≡ g → length (filter (is_of g) (q ++ (x ∷ []))) ≡ length (filter (is_of g) q) + 1
filter_same g q x same =
    rw (filter-append (is_of g) q (x ∷ []), filter-pass (is_of g) x [] (is-of g x same)) (length-append (filter (is_of g) q) (x ∷ []))

pub filter-other : (g : ℕ) (q : List Message) (x : Message) → x.group ≢ g → length (filter (is_of g) (q ++ (x ∷ []))) ≡ length (filter (is_of g) q)
filter-other g q x other =
    rw (filter-append (is_of g) q (x ∷ []), filter-fail (is_of g) x [] (not-of g x other)) (omega (arith, length-append (filter (is_of g) q) []))

-- so of the queue: a message that joins it is one of its own group
pub queued-same : (n : Node) (x : Message) (g : ℕ) → x.group ≡ g → length (in_queue (queued x n) g) ≡ length (in_queue n g) + 1
unfolding queued with_queue in_queue
queued-same n x g same = filter_same g n.queue x same

-- and none of another
pub queued-other : (n : Node) (x : Message) (g : ℕ) → x.group ≢ g → length (in_queue (queued x n) g) ≡ length (in_queue n g)
unfolding queued with_queue in_queue
queued-other n x g other = filter-other g n.queue x other

-- no more pass a test than there are
pub filter-short : {A : Type 0} (p : A → Bool) (xs : List A) → length (filter p xs) ≤ length xs
filter-short p [] = omega arith
filter-short p (x ∷ xs) = go (p x) refl (filter-short p xs)
  where
    go : (t : Bool) → p x ≡ t → length (filter p xs) ≤ length xs → length (filter p (x ∷ xs)) ≤ suc (length xs)
    go true e r = rw (filter-pass p x xs e) (omega arith)
    go false e r = rw (filter-fail p x xs e) (omega arith)

-- Each message of a queue is of one group.

-- a sum of sums
sum-join : {A : Type 0} (f g h : A → ℕ) → ((x : A) → f x ≡ g x + h x) → (xs : List A) → sum (map f xs) ≡ sum (map g xs) + sum (map h xs)
sum-join f g h e [] = refl
sum-join f g h e (x ∷ xs) = omega (arith, e x, sum-join f g h e xs)

-- a message is counted with its group
filter-first : (x : Message) (q : List Message) (g : ℕ) → length (filter (is_of g) (x ∷ q)) ≡ hit x.group g + length (filter (is_of g) q)
filter-first x q g = go (ℕ_discrete x.group g)
  where
    go : Dec (x.group ≡ g) → length (filter (is_of g) (x ∷ q)) ≡ hit x.group g + length (filter (is_of g) q)
    go (yes e) = rw (filter-pass (is_of g) x q (is-of g x e), eq-eqb g x.group (sym e)) (omega arith)
    go (no d) = rw (filter-fail (is_of g) x q (not-of g x d), ne_eqb g x.group (λ e. d (sym e))) (omega arith)

-- so the groups' messages are all of them
pub queue-by-group : (q : List Message) → Every GoodMessage q → sum (map (λ g. length (filter (is_of g) q)) (up_from 1 group_count)) ≡ length q
queue-by-group [] good = refl
queue-by-group (x ∷ q) good =
    let one : sum (map (hit x.group) (up_from 1 group_count)) ≡ 1 =
    sym (count-weight x.group (up_from 1 group_count)) ∙ count-within x.group 1 group_count good.0.group-low (omega (arith, good.0.group-high)) in
    omega (
      arith,
      sum-join (λ g. length (filter (is_of g) (x ∷ q))) (hit x.group) (λ g. length (filter (is_of g) q)) (filter-first x q) (up_from 1 group_count),
      queue-by-group q good.1,
    )

-- Pledges and pages.

-- k messages more want at most k pages more
ceil-more : (a k d : ℕ) → 1 ≤ d → ceil_div (a + k) d ≤ ceil_div a d + k
ceil-more a k d some =
    omega (
      arith,
      lt_of_mul-lt-mul_right d {m = ceil_div (a + k) d} {n = ceil_div a d + k + 1}
          (omega (arith, ceil-least (a + k) d some, ceil-enough a d some, le-mul_of_pos_right {m = d} k some)),
    )

-- the pages that group g holds
abbrev pub held : Node → ℕ → ℕ
held n g = length (group_of n g).buffer.frames

-- a pledge is at most the pages held and the messages queued
pub pledge-held : {b : Build} {n : Node} → Sound b n → (q : List Message) (g : ℕ) → 1 ≤ g → g ≤ group_count
    → pledge b (with_queue q n) g ≤ held n g + length (filter (is_of g) q)
unfolding pledge with_queue in_queue group_of
pledge-held {b} {n} s q g low high =
    let good = (group-good s g low high).buffer in
    omega (arith, good.list_length, ceil-more (filled n g) (length (filter (is_of g) q)) b.per_frame (omega (arith, good.used-bound)))

-- the pages of all groups, group by group
held_all : {b : Build} {n : Node} → Sound b n → sum (map (held n) (up_from 1 group_count)) ≡ length (concat_map frame_list n.groups)
unfolding group_of frame_list
held_all {b} {n} s =
    let groups : map (group_of n) (up_from 1 (length n.groups)) ≡ n.groups =
    map-up_from (group_of n) n.groups 1 empty_group (λ i l. ap (λ (k : ℕ). get_or n.groups k empty_group) (omega arith)) in
    sym
    (length-concat_map frame_list n.groups
    ∙ ap (λ (l : List Group). sum (map (λ G. length (frame_list G)) l)) (sym groups)
    ∙ ap sum (map-map (λ G. length (frame_list G)) (group_of n) (up_from 1 (length n.groups)))
    ∙ ap (λ (k : ℕ). sum (map (held n) (up_from 1 k))) s.group-count)

-- the pledges are at most the pages held and the messages queued
pledges-held : {b : Build} {n : Node} → Sound b n → (q : List Message) → Every GoodMessage q
    → pledges b (with_queue q n) ≤ length (concat_map frame_list n.groups) + length q
unfolding pledges
pledges-held {b} {n} s q good =
    let each : ℕ → ℕ = λ g. held n g + length (filter (is_of g) q) in
    omega (
      arith,
      sum-le (pledge b (with_queue q n)) each 1 group_count (λ g low high. pledge-held s q g low (omega arith)),
      sum-join each (held n) (λ g. length (filter (is_of g) q)) (λ g. refl) (up_from 1 group_count),
      held_all s,
      queue-by-group q good,
    )

-- early acceptance: where more frames and swap pages are free than messages queued, the pledges with one message more are within the pages
pub early : {b : Build} {n : Node} → Sound b n → (x : Message) → GoodMessage x → length n.queue < length n.free + length n.paging.swap
    → pledges b (queued x n) ≤ page_count b
unfolding queued frame_numbers idle
early {b} {n} s x good free =
    omega (
      arith,
      pledges-held s (n.queue ++ (x ∷ [])) ((every_append GoodMessage n.queue (x ∷ [])).1 (s.queue-good, (good, tt))),
      length-append n.queue (x ∷ []),
      length-append (idle n) (concat_map frame_list n.groups),
      length-append n.free n.paging.swap,
      s.frames-all,
    )
