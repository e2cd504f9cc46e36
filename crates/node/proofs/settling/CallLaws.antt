-- The upcall: whether one is due is read from four words, in a node that has settled. Assumes nothing.
use Prim.Native.Nat.{◌+◌, ◌≤◌, ℕ}
use native.Mathlib.Omega.{arith}
use mathlib.Core.Bool.{Bool, false, true}
use mathlib.Core.List.{List, [], ◌∷◌}
use mathlib.Core.Logic.{◌≢◌}
use mathlib.Core.Path.{◌∙◌, ◌≡◌, ap, refl, sym, subst}
use lib.Dec.{eqb}
use lib.ListN.{length}
use borrow.Author.Tests.{eq-eqb, ne_eqb}
use Rattle.rules.specs.Build.{group_count, paper01}
use Rattle.rules.specs.Lists.{is_empty}
use Rattle.rules.specs.Memory.{atomic_offset, count_offset, flag_word, group_address, queued_at, word}
use Rattle.rules.specs.Node.{line, Group, Message, Node, buffer_holds, group_of, in_queue, is_of}
use Rattle.rules.specs.Paging.{runner_resident}
use Rattle.rules.specs.Settling.{settle, upcall, calls, upcall_group}
use Rattle.rules.proofs.Steps.LineLaws.{stays, direct-line, line-buffered}
use Rattle.rules.proofs.Steps.ListLaws.{filter-pass}
use Rattle.rules.proofs.Steps.NodeLaws.{is-of}
use Rattle.rules.proofs.Steps.PagingLaws.{runner-repaged, runner-sound}
use Rattle.rules.proofs.Steps.SettlingLaws.{settle-head, settle-sound}
use Rattle.rules.proofs.Steps.StepLaws.{repaged-stays}
use Rattle.rules.specs.Sound.{Sound}
use Rattle.memory.specs.Holds.{Holds, flagging}
use Rattle.memory.proofs.group.GroupLaws.{group-words}
use Rattle.memory.proofs.PieceLaws.{holds-pieces}
use Rattle.node.specs.Steps.{Called, Settles}

-- Lines.

-- a settled queue that is not empty is the running group's
pub line-queued : {n : Node} → Settles n → (group_of n n.running).buffer.count ≡ 0 → 1 ≤ length n.queue → is_empty (line n n.running) ≡ false
unfolding in_queue buffer_holds
line-queued {n} s none some = go n.queue refl
  where
    go : (q : List Message) → n.queue ≡ q → is_empty (line n n.running) ≡ false
    go [] e = absurd (omega (arith, ap length e))
    go (x ∷ q) e =
        let own = is-of n.running x (stays n x (s.head x q e)).0 in
        rw (direct-line n n.running (rw none), e, filter-pass (is_of n.running) x q own)

-- and a group without either has none
pub line-none : (n : Node) (g : ℕ) → (group_of n g).buffer.count ≡ 0 → length n.queue ≡ 0 → is_empty (line n g) ≡ true
unfolding in_queue buffer_holds
line-none n g none empty = go n.queue refl
  where
    go : (q : List Message) → n.queue ≡ q → is_empty (line n g) ≡ true
    go [] e = rw (direct-line n g (rw none), e)
    go (x ∷ q) e = absurd (omega (arith, ap length e))

-- The upcall.

-- a flag is read from its word
pub flag-on : (f : Bool) → flag_word f ≢ 0 → f ≡ true
unfolding flag_word
flag-on true d = refl
flag-on false d = absurd (d refl)

pub flag_off : (f : Bool) → flag_word f ≡ 0 → f ≡ false
unfolding flag_word
flag_off true e = absurd (omega arith)
flag_off false e = refl

-- none is due, and nothing changes
called-none : {m : List ℕ} {n : Node} {r : List ℕ} → Holds m n r → calls n ≡ false → Called m n r 0
unfolding upcall upcall_group
called-none {m} {n} {r} h e = record { group = rw e; holds = rw e h }

module _ {m : List ℕ} {n : Node} {r : List ℕ} (h : Holds m n r) (s : Settles n) where
  runner : word m 0 ≡ n.running
  runner = (holds-pieces h).running

  -- nobody runs
  pub called-nobody : word m 0 ≡ 0 → Called m n r 0
  unfolding calls
  called-nobody e = called-none h (rw (eq-eqb n.running 0 (sym runner ∙ e)))

  module _ (some : word m 0 ≢ 0) where
    low : 1 ≤ word m 0
    low = omega arith

    pub runner-high : word m 0 ≤ group_count
    runner-high = rw runner s.sound.running-bound

    own : group_of n (word m 0) ≡ group_of n n.running
    own = ap (group_of n) runner

    awake : eqb n.running 0 ≡ false
    awake = ne_eqb n.running 0 (λ e. some (runner ∙ e))

    -- the runner is atomic
    pub called-atomic : word m (group_address (word m 0) + atomic_offset) ≢ 0 → Called m n r 0
    unfolding calls
    called-atomic on =
        let words = group-words (holds-pieces h) h.mapped (word m 0) low runner-high in
        let atomic : (group_of n n.running).atomic ≡ true = ap (λ (G : Group). G.atomic) (sym own) ∙ flag-on _ (λ e. on (words.atomic ∙ e)) in
        called-none h (rw (awake, atomic))

    module _ (off : word m (group_address (word m 0) + atomic_offset) ≡ 0) where
      quiet : (group_of n n.running).atomic ≡ false
      quiet =
          let words = group-words (holds-pieces h) h.mapped (word m 0) low runner-high in
          ap (λ (G : Group). G.atomic) (sym own) ∙ flag_off _ (sym words.atomic ∙ off)

      count-read : word m (group_address (word m 0) + count_offset) ≡ (group_of n n.running).buffer.count
      count-read = (group-words (holds-pieces h) h.mapped (word m 0) low runner-high).count ∙ ap (λ (G : Group). G.buffer.count) own

      -- it has no line
      pub called-empty : word m (group_address (word m 0) + count_offset) ≡ 0 → word m queued_at ≡ 0 → Called m n r 0
      unfolding calls
      called-empty none empty =
          called-none h (rw (awake, quiet, line-none n n.running (sym count-read ∙ none) (sym (holds-pieces h).queued ∙ empty)))

      -- it has one
      due : is_empty (line n n.running) ≡ false → calls n ≡ true
      unfolding calls
      due some' = rw (awake, quiet, some')

      called : is_empty (line n n.running) ≡ false → {m' : List ℕ} → Holds m' (flagging (word m 0) true true n) r → Called m' n r (word m 0)
      unfolding upcall upcall_group flagging
      called some' {m'} k =
          let yes' = due some' in
          let k' : Holds m' (flagging n.running true true n) r = subst (λ (g : ℕ). Holds m' (flagging g true true n) r) runner k in
          record { group = rw yes' runner; holds = rw yes' k' }

      pub called-buffered : word m (group_address (word m 0) + count_offset) ≢ 0 → {m' : List ℕ} → Holds m' (flagging (word m 0) true true n) r → Called m' n r (word m 0)
      called-buffered more =
          called (line-buffered s.sound n.running (rw (← runner) low) s.sound.running-bound (let c = count-read in omega arith))

      pub called-queued : word m (group_address (word m 0) + count_offset) ≡ 0 → word m queued_at ≢ 0 → {m' : List ℕ} → Holds m' (flagging (word m 0) true true n) r → Called m' n r (word m 0)
      called-queued none more =
          called (line-queued s (sym count-read ∙ none) (let c = (holds-pieces h).queued in omega arith))

-- Settling leaves a node for which an upcall can be told, wherever its pages are.
pub settled-settles : {n : Node} → Sound paper01 n → Settles (runner_resident paper01 (settle paper01 n).node)
settled-settles {n} s =
    let k = (settle paper01 n).node in
    let same = runner-repaged paper01 k in
    record {
      sound = runner-sound (settle-sound s);
      head = λ x q e. repaged-stays same x ∙ settle-head paper01 n x q (sym same.queue ∙ e);
    }
