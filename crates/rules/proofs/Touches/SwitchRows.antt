-- The rows of O and I, and that of S by them. O leaves nobody running, so no group is called up. I finds the queue empty and the timer at rest, so
-- nothing moves but pages. Assumes nothing.
use Prim.Native.Nat.{ℕ, ◌+◌}
use mathlib.Core.Bool.{Bool, true, false, false≢true, cond}
use mathlib.Core.List.{[], ◌∷◌, ◌++◌, append-nil}
use mathlib.Core.Logic.{◌≢◌}
use mathlib.Core.Path.{◌≡◌, refl, sym, ap, ◌∙◌}
use native.Mathlib.Nat.{zero-add}
use native.Mathlib.Omega.{arith}
use lib.Dec.{eqb}
use lib.ListN.{length}
use borrow.Author.Tests.{eqb-true, ne_eqb}
use Rattle.rules.specs.Build.{Build}
use Rattle.rules.specs.Node.{Node, with_timer, with_running, timer_runs}
use Rattle.rules.specs.Operation.{Report, schedule, preempt, dispatch, all_zero}
use Rattle.rules.specs.Settling.{settle}
use Rattle.rules.specs.Step.{Stepped, valued, preempted, act, finish, in_arow}
use Rattle.rules.specs.Valid.{Valid}
use Rattle.rules.specs.Touches.{running, timer, queue, atomic, pending, pages, row, untouched, stores, when, runs, is_moved, filling, preempt_row, dispatch_row, row_of}
use Rattle.rules.proofs.Steps.ListLaws.{no_length}
use Rattle.rules.proofs.Steps.SettlingLaws.{settle-moved, settle-timer, settle-keeps}
use Rattle.rules.proofs.Steps.LineLaws.{nobody-empty, nobody-timer}
use Rattle.rules.proofs.Steps.StepLaws.{finish-queue, finish-timer, taken, given, taken-empty}
use Rattle.rules.proofs.Steps.SwitchLaws.{preempt-idle}
use Rattle.rules.proofs.Private.ViewLaws.{nobody}
use Rattle.rules.proofs.Touches.PartLaws.{group_number, among, Kept, inside, filling-inside, front_kept, touched-inside, touched-left, touched-right, touched-same, touched-then}
use Rattle.rules.proofs.Touches.TouchLaws.{Rows, finished-touched, grouped, moved_none, running-touched, timer-touched}

-- O.

module _ {b : Build} {n : Node} (v : Valid b n) where
  abbrev bare : Node
  bare = with_timer 0 (with_running 0 n)

  -- the queue moves, and nobody is called up
  taken-touched : Kept (row (running ∷ timer ∷ queue ∷ stores) (λ g. filling (is_moved g (0 + (settle b bare).moved) n.queue) ++ when (eqb 0 g) (atomic ∷ pending ∷ [])))
      (finish b (act b n preempt)).node n
  unfolding act valued preempted with_timer with_running
  taken-touched =
      let e = valued 0 bare in
      let s = (settle b bare).moved in
      finished-touched b e n (grouped v) (running ∷ timer ∷ queue ∷ stores) (λ g. []) (λ g. filling (is_moved g (0 + s) n.queue)) refl refl (λ g. refl)
      (λ g. filling-inside (is_moved g s n.queue) (is_moved g (0 + s) n.queue) (λ d. ap (λ (j : ℕ). is_moved g j n.queue) (zero-add s) ∙ d))
      (touched-then (touched-inside refl (λ g. refl) (timer-touched 0 (with_running 0 n))) (touched-inside refl (λ g. refl) (running-touched 0 n)))

  uncalled-touched : Kept (row (running ∷ timer ∷ queue ∷ stores) (λ g. filling (is_moved g (0 + (settle b bare).moved) n.queue)))
      (finish b (act b n preempt)).node n
  uncalled-touched =
      record {
        node = taken-touched.node;
        group = λ g low high p none.
            let ps = filling (is_moved g (0 + (settle b bare).moved) n.queue) in
            taken-touched.group g low high p
            (ap (λ (t : Bool). among group_number p (ps ++ when t (atomic ∷ pending ∷ []))) (nobody g low)
            ∙ ap (among group_number p) (append-nil ps) ∙ none);
      }

  pub preempt-row : Rows b n preempt (act b n preempt)
  unfolding row_of finish act valued preempted
  preempt-row = go (eqb n.running 0) refl
    where
      go : (t : Bool) → eqb n.running 0 ≡ t
          → Kept (cond t untouched (row (running ∷ timer ∷ queue ∷ stores) (λ g. filling (is_moved g (0 + (settle b bare).moved) n.queue))))
          (finish b (act b n preempt)).node n
      go true e = touched-same (ap (λ (s : Stepped). s.node) (preempt-idle v (eqb-true n.running 0 e)))
      go false e = uncalled-touched

-- I.

module _ {b : Build} {n : Node} (v : Valid b n) (h : ℕ) (none : n.running ≡ 0) where
  abbrev held : Node
  held = with_running h n

  held-empty : held.queue ≡ []
  unfolding with_running
  held-empty = nobody-empty v none

  settled-empty : (settle b held).node.queue ≡ []
  settled-empty = no_length _ (omega (arith, settle-moved b held, ap length held-empty))

  -- the timer stays at rest
  rest-kept : (settle b held).node.timer ≡ n.timer
  unfolding with_running
  rest-kept = go (timer_runs (settle b held).node) refl
    where
      go : (t : Bool) → timer_runs (settle b held).node ≡ t → (settle b held).node.timer ≡ n.timer
      go true counts = settle-keeps b held counts
      go false rests = settle-timer b held rests ∙ sym (nobody-timer v none)

  pub dispatch-row : Rows b n (dispatch h) (act b n (dispatch h))
  unfolding row_of act valued with_running
  dispatch-row =
      let e = valued 0 held in
      let s = (settle b held).moved in
      touched-inside refl (λ g. same-inside (eqb h g))
      (front_kept {ps = running ∷ stores} {gs = λ g. (pages ∷ []) ++ when (eqb h g) (atomic ∷ pending ∷ [])}
      (finished-touched b e n (rw held-empty tt) (timer ∷ queue ∷ running ∷ stores) (λ g. []) (λ g. pages ∷ []) refl refl (λ g. refl)
      (λ g. filling-inside (is_moved g s held.queue) false (λ e. absurd (false≢true (sym (ap (is_moved g s) held-empty ∙ moved_none g s) ∙ e))))
      (touched-inside refl (λ g. refl) (running-touched h n)))
      (finish-timer b e ∙ rest-kept) (finish-queue b e ∙ settled-empty ∙ sym (nobody-empty v none)))
    where
      same-inside : (t : Bool) → inside group_number ((pages ∷ []) ++ when t (atomic ∷ pending ∷ [])) (pages ∷ when t (atomic ∷ pending ∷ [])) ≡ true
      same-inside true = refl
      same-inside false = refl

-- S.

-- to the one running
pub still-row : (n : Node) → Kept (row_of n (schedule n.running) all_zero) n n
unfolding row_of
still-row n = touched-same refl

-- to nobody
pub takes-row : (n : Node) → n.running ≢ 0 → {k : Node} (r : Report) → Kept (row_of n preempt r) k n → Kept (row_of n (schedule 0) r) k n
unfolding row_of
takes-row n runs r took = rw (ne_eqb 0 n.running (λ e. runs (sym e))) (touched-left (preempt_row n r) (dispatch_row 0) took)

-- to another: I moves none
given-moved : {b : Build} {n : Node} → Valid b n → (g : ℕ) → (given b n g).report.moved ≡ 0
unfolding act valued finish with_running
given-moved {b} {n} v g =
    let k = with_running g (taken b n).node in
    omega (arith, settle-moved b k, ap length (taken-empty v))

pub switches-row : {b : Build} {n : Node} → Valid b n → (g : ℕ) → g ≢ n.running → Kept (row_of n preempt (taken b n).report) (taken b n).node n
    → Kept (row_of (taken b n).node (dispatch g) (given b n g).report) (given b n g).node (taken b n).node
    → Kept (row_of n (schedule g) (in_arow (taken b n) (given b n g)).report) (given b n g).node n
unfolding row_of in_arow
switches-row {b} {n} v g other took gave =
    let whole : (taken b n).report.moved + (given b n g).report.moved ≡ (taken b n).report.moved = omega (arith, given-moved v g) in
    let o = preempt_row n (taken b n).report in
    rw (ne_eqb g n.running other, whole) (touched-then (touched-right o (dispatch_row g) gave) (touched-left o (dispatch_row g) took))
