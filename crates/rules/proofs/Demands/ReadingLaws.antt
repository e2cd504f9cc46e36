-- Order 4's promise holds. On a node with a group running the head call's part shows the first message of that group's line, so E's refusal and value
-- are those that the part tells. With nobody running, and on memory that is no node, the part is empty, and E is refused with 7 and 1. Assumes
-- nothing.
use Prim.Native.Nat.{ℕ, ◌+◌, ◌≤◌, ◌<◌}
use native.Mathlib.Omega.{arith}
use native.Mathlib.Decide.{ℕ_discrete}
use mathlib.Core.Path.{◌≡◌, refl, sym, ap, ◌∙◌}
use mathlib.Core.Logic.{◌↔◌}
use mathlib.Core.Bool.{Bool, true, false, true≢false}
use mathlib.Core.List.{List, head-eq_of_cons-eq}
use lib.ListN.{length, get_or}
use lib.Seq.{drop-cons}
use lib.Dec.{leb}
use borrow.Author.Tests.{eq-eqb, ne_eqb, leb-false}
use Rattle.rules.specs.Build.{paper01}
use Rattle.rules.specs.Node.{line}
use Rattle.rules.specs.Operation.{peek, user}
use Rattle.rules.specs.Refusal.{refuse_peek, refuse_request, refusal}
use Rattle.rules.specs.Step.{first_word, valued, serve, act, finish, Stepped}
use Rattle.rules.specs.Memory.{running_at, word, node_at}
use Rattle.rules.specs.MemoryTest.{is_memory, MemoryStep, Part, head_part, head_words}
use Rattle.rules.specs.Reading.{peeked, InPlace, AnyPeek, Reading}
use Rattle.rules.proofs.Steps.StepLaws.{step-accepted}
use Rattle.rules.proofs.Map.TestLaws.{leb_tells}
use Rattle.rules.proofs.Map.RunMemory.{step-tested}
use Rattle.rules.proofs.Map.ShownLaws.{part_words, part-word, Shows, shown-none, shown-past, shown-below, shown-word}
use Rattle.rules.proofs.Map.MapHead.{untested-part, tested-part, nobody-part, head-shows, head-in-place}
use Rattle.rules.proofs.Demands.DemandOneLaws.{answer-tested, demand-one}

-- which word stands for one that is not there is nothing to one that is
any-default : (l : List ℕ) (i d e : ℕ) → i < length l → get_or l i d ≡ get_or l i e
any-default l i d e below = head-eq_of_cons-eq (sym (drop-cons l i d below) ∙ drop-cons l i e below)

-- The promise by the part and the answer, for each length of the part.

module _ (m : List ℕ) (i : ℕ) (inside : (head_part m).start + (head_part m).len ≤ length m) where
  -- no word: E is refused, with 8 exactly where a group of a node runs
  empty-peek : (head_part m).len ≡ 0 → 1 ≤ (peeked m i).answer → (peeked m i).answer ≤ 8
      → ((peeked m i).answer ≡ 8) ↔ ((is_memory m ≡ true) × (1 ≤ word m running_at))
      → AnyPeek m i
  empty-peek none low high eight =
      record {
        accepted = (λ z. absurd (omega arith), λ l. absurd (omega arith));
        by_address = λ z. absurd (omega arith);
        by_word = λ z. absurd (omega arith);
        in_place = λ z. absurd (omega arith);
        inside = inside;
        past-message = (λ z. absurd (omega arith), λ l. absurd (omega (arith, l.0)));
        no-message = (λ z. let r = eight.0 z in (r.0, (r.1, none)), λ r. eight.1 (r.0, r.1.0));
      }

  -- fewer than i + 1
  past-peek : 1 ≤ (head_part m).len → (head_part m).len ≤ i → (peeked m i).answer ≡ 9 → AnyPeek m i
  past-peek some past nine =
      record {
        accepted = (λ z. absurd (omega arith), λ l. absurd (omega arith));
        by_address = λ z. absurd (omega arith);
        by_word = λ z. absurd (omega arith);
        in_place = λ z. absurd (omega arith);
        inside = inside;
        past-message = (λ z. (some, past), λ l. nine);
        no-message = (λ z. absurd (omega arith), λ r. absurd (omega (arith, r.1.1)));
      }

  -- word i is one of them
  word-peek : i < (head_part m).len → (peeked m i).answer ≡ 0 → (peeked m i).value ≡ word m ((head_part m).start + i) → InPlace (head_part m) → AnyPeek m i
  unfolding head_words part_words word
  word-peek below zero value place =
      let p = head_part m in
      record {
        accepted = (λ z. below, λ l. zero);
        by_address = λ z. value;
        by_word = λ z d. value ∙ any-default m (p.start + i) 0 d (omega arith) ∙ sym (part-word m p i d below);
        in_place = λ z. place;
        inside = inside;
        past-message = (λ z. absurd (omega arith), λ l. absurd (omega (arith, l.1)));
        no-message = (λ z. absurd (omega arith), λ r. absurd (omega (arith, r.1.1)));
      }

-- Memory that is no node.

untested-peek : (m : List ℕ) (i : ℕ) → is_memory m ≡ false → AnyPeek m i
untested-peek m i e =
    let one = (demand-one.any_step m (user (peek i))).not-node.1 e in
    let none = untested-part m e in
    let len : (head_part m).len ≡ 0 = ap (λ (p : Part). p.len) none in
    let start : (head_part m).start ≡ 0 = ap (λ (p : Part). p.start) none in
    empty-peek m i (omega arith) len (omega arith) (omega arith) (λ z. absurd (omega arith), λ r. absurd (true≢false (sym r.0 ∙ e)))

-- A node.

module _ (m : List ℕ) (i : ℕ) (t : is_memory m ≡ true) where
  -- who runs is the memory's first word
  runner-word : (node_at m).running ≡ word m running_at
  unfolding node_at
  runner-word = refl

  -- nobody runs
  nobody-peek : (node_at m).running ≡ 0 → AnyPeek m i
  unfolding refusal
  nobody-peek e =
      let none = tested-part m t ∙ nobody-part m (node_at m) e in
      let len : (head_part m).len ≡ 0 = ap (λ (p : Part). p.len) none in
      let start : (head_part m).start ≡ 0 = ap (λ (p : Part). p.start) none in
      let seven : (peeked m i).answer ≡ 7 = answer-tested m (user (peek i)) t ∙ rw (eq-eqb (node_at m).running 0 e) in
      empty-peek m i (omega arith) len (omega arith) (omega arith) (λ z. absurd (omega arith), λ r. absurd (omega (arith, r.1, runner-word)))

  -- a group runs
  module _ (low : 1 ≤ (node_at m).running) where
    -- E is answered by the part
    answer : (peeked m i).answer ≡ refuse_peek (line (node_at m) (node_at m).running) i
    unfolding refusal refuse_request
    answer = answer-tested m (user (peek i)) t ∙ rw (ne_eqb (node_at m).running 0 (λ z. omega arith))

    -- and an accepted one has its value
    accepted-value : (peeked m i).answer ≡ 0 → (peeked m i).value ≡ first_word (line (node_at m) (node_at m).running) i
    unfolding finish act serve valued
    accepted-value zero =
        let none = sym (answer-tested m (user (peek i)) t) ∙ zero in
        ap (λ (x : MemoryStep). x.report.value) (step-tested m (user (peek i)) t)
        ∙ ap (λ (x : Stepped). x.report.value) (step-accepted paper01 (node_at m) (user (peek i)) tt none)

    shown : Shows m (head_part m) (line (node_at m) (node_at m).running)
    shown = rw (tested-part m t) (head-shows m t low)

    runner-peek : AnyPeek m i
    runner-peek = go (ℕ_discrete (head_part m).len 0) (leb (head_part m).len i) refl
      where
        go : Dec ((head_part m).len ≡ 0) → (b : Bool) → leb (head_part m).len i ≡ b → AnyPeek m i
        go (yes none) b e =
            let eight : (peeked m i).answer ≡ 8 = answer ∙ shown-none shown i none in
            empty-peek m i shown.inside none (omega arith) (omega arith) (λ z. (t, rw (← runner-word) low), λ r. eight)
        go (no some) true e =
            let past = (leb_tells (head_part m).len i).0 e in
            past-peek m i shown.inside (omega arith) past (answer ∙ shown-past shown i (omega arith) past)
        go (no some) false e =
            let below : i < (head_part m).len = leb-false (head_part m).len i e in
            let zero : (peeked m i).answer ≡ 0 = answer ∙ shown-below shown i below in
            word-peek m i shown.inside below zero (accepted-value zero ∙ shown-word shown i below)
            (rw (tested-part m t) (head-in-place m t low (rw (← tested-part m t) (omega arith))))

  tested-peek : AnyPeek m i
  tested-peek = go (ℕ_discrete (node_at m).running 0)
    where
      go : Dec ((node_at m).running ≡ 0) → AnyPeek m i
      go (yes e) = nobody-peek e
      go (no some) = runner-peek (omega arith)

-- order 4's promise
pub reading : Reading
reading = record { any-peek = λ m i. go m i (is_memory m) refl }
  where
    go : (m : List ℕ) (i : ℕ) (b : Bool) → is_memory m ≡ b → AnyPeek m i
    go m i true e = tested-peek m i e
    go m i false e = untested-peek m i e
