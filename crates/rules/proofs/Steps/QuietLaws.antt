-- Steps after which nothing settles, no page is brought in and no upcall is due: what they report and leave is what they did. In a node none is due, so this is
-- so of every step that leaves the queue, the buffers and the running group's section as they were. Assumes nothing.
use Prim.Native.Nat.{ℕ, pred, ◌≤◌, ◌<◌}
use native.Mathlib.Nat.{add-zero}
use native.Mathlib.Omega.{arith}
use mathlib.Core.Bool.{Bool, cond, false, true, false≢true, true≢false, not, ◌&&◌, ◌||◌, or-true}
use mathlib.Core.List.{List, [], ◌∷◌}
use mathlib.Core.Path.{◌≡◌, ◌∙◌, ap, refl, subst, sym}
use lib.Dec.{eqb}
use lib.ListN.{length, length-set}
use borrow.Author.Tests.{eqb-false}
use Rattle.rules.specs.Build.{Build}
use Rattle.rules.specs.Lists.{is_empty}
use Rattle.rules.specs.Node.{Group, Message, Node, buffer_holds, buffered, forced, group_of, in_buffer, in_queue, line, timer_runs, with_descriptor, with_flags, with_group, with_queue, with_timer, with_timer_flags}
use Rattle.rules.specs.Operation.{accepted}
use Rattle.rules.specs.Settling.{Moved, calls, may_stay, pass, rest_timer, settle, upcall, upcall_group}
use Rattle.rules.specs.Step.{Effect, section_begun, described, finish, flagged, timer_flagged}
use Rattle.rules.specs.Valid.{FirstInFrame, Valid}
use Rattle.rules.proofs.Steps.LineLaws.{neither, timer-rests}
use Rattle.rules.proofs.Steps.NodeLaws.{group-same, kept, reflagged-line}
use Rattle.rules.proofs.Steps.PagingLaws.{runner-quiet}

-- nothing to settle, no page to bring in, and no upcall due
pub record Quiet (b : Build) (n : Node) : Type 0 where
  pub head : (x : Message) (q : List Message) → n.queue ≡ x ∷ q → may_stay n x ≡ true
  pub idle : timer_runs n ≡ false → n.timer ≡ 0
  pub resident : 1 ≤ n.running → FirstInFrame b (group_of n n.running).buffer.frames
  pub uncalled : calls n ≡ false

-- a pass ends at once where the head may stay
pass-ends : (b : Build) (n : Node) (q : List Message) → ((x : Message) (r : List Message) → q ≡ x ∷ r → may_stay n x ≡ true)
    → pass b q n ≡ record { node = with_queue q n; moved = 0 }
unfolding pass
pass-ends b n [] stays = refl
pass-ends b n (x ∷ q) stays = rw (pass, stays x q refl)

-- a timer at rest is left
pub rest-left : (n : Node) → (timer_runs n ≡ false → n.timer ≡ 0) → rest_timer n ≡ n
unfolding rest_timer with_timer
rest-left n idle = go (timer_runs n) refl
  where
    go : (t : Bool) → timer_runs n ≡ t → cond t n (with_timer 0 n) ≡ n
    go true e = refl
    go false e = λ i. record { running = n.running; timer = sym (idle e) i; queue = n.queue; free = n.free; paging = n.paging; groups = n.groups }

-- where the head may stay settling does nothing but put the timer to rest
pub staying-settle : (b : Build) (n : Node) → ((x : Message) (q : List Message) → n.queue ≡ x ∷ q → may_stay n x ≡ true)
    → settle b n ≡ record { node = rest_timer n; moved = 0 }
unfolding settle with_queue
staying-settle b n stays = ap (λ (s : Moved). record { node = rest_timer s.node; moved = s.moved }) (pass-ends b n n.queue stays)

-- settling leaves such a node
pub quiet-settle : {b : Build} {n : Node} → Quiet b n → settle b n ≡ record { node = n; moved = 0 }
quiet-settle {b} {n} q = staying-settle b n q.head ∙ ap (λ (k : Node). record { node = k; moved = 0 }) (rest-left n q.idle)

-- and so does the rest of a step: what is reported and left is the operation's
pub quiet-finish : {b : Build} (e : Effect) → Quiet b e.node
    → finish b e
    ≡ record {
      report = record { answer = accepted; value = e.value; trap = e.trap; upcall = 0; moved = e.moved; sent = e.sent };
      node = e.node;
    }
unfolding finish upcall upcall_group
quiet-finish {b} e q = rw (quiet-settle q, runner-quiet b e.node q.resident, q.uncalled, add-zero e.moved)

-- an upcall is due where a group runs, isn't atomic and has a line
due : (nobody atomic empty : Bool) → (nobody ≡ false → empty ≡ false → atomic ≡ true) → (not nobody && (not atomic && not empty)) ≡ false
due true atomic empty h = refl
due false true empty h = refl
due false false true h = refl
due false false false h = absurd (false≢true (h refl refl))

-- so none is due where a running group with a line is atomic
none-due : (n : Node) → (1 ≤ n.running → is_empty (line n n.running) ≡ false → (group_of n n.running).atomic ≡ true) → calls n ≡ false
unfolding calls
none-due n h =
    due (eqb n.running 0) (group_of n n.running).atomic (is_empty (line n n.running))
    (λ e some. let runs = eqb-false n.running 0 e in h (omega arith) some)

-- a valid node is quiet
pub valid-quiet : {b : Build} {n : Node} → Valid b n → Quiet b n
valid-quiet {b} {n} v = record { head = v.head-stays; idle = timer-rests v; resident = v.runner-resident; uncalled = none-due n v.running-atomic }

-- and a timer that goes on makes nothing due
pub counted-quiet : {b : Build} {n : Node} → Valid b n → timer_runs n ≡ true → (t : ℕ) → Quiet b (with_timer t n)
unfolding with_timer may_stay buffered buffer_holds group_of calls line in_buffer in_queue timer_runs forced
counted-quiet v runs t =
    record {
      head = v.head-stays;
      idle = λ rests. absurd (true≢false (sym runs ∙ rests));
      resident = v.runner-resident;
      uncalled = (valid-quiet v).uncalled;
    }

-- no upcall becomes due to a group that is atomic where it was
undue : (nobody atomic atomic' empty : Bool) → (atomic ≡ true → atomic' ≡ true) → (not nobody && (not atomic && not empty)) ≡ false
    → (not nobody && (not atomic' && not empty)) ≡ false
undue true a a' e more none = refl
undue false a true e more none = refl
undue false a false true more none = refl
undue false false false false more none = none
undue false true false false more none = absurd (false≢true (more refl))

-- a timer that a group has forced stays so where force and atomic stay on
forced-still : (nobody force atomic force' atomic' : Bool) → (force ≡ true → force' ≡ true) → (atomic ≡ true → atomic' ≡ true)
    → (not nobody && (force' && atomic')) ≡ false → (not nobody && (force && atomic)) ≡ false
forced-still true f a f' a' more mores e = refl
forced-still false false a f' a' more mores e = refl
forced-still false true false f' a' more mores e = refl
forced-still false true true f' a' more mores e = sym (rw (more refl, mores refl)) ∙ e

-- it stays quiet when its running group is exchanged for one with the same buffer, revoked if it was, and atomic and with force on where it was so
exchanged-quiet : {b : Build} {n : Node} → Quiet b n → pred n.running < length n.groups → (G : Group) → G.buffer ≡ (group_of n n.running).buffer
    → G.revoked ≡ (group_of n n.running).revoked → ((group_of n n.running).force ≡ true → G.force ≡ true)
    → ((group_of n n.running).atomic ≡ true → G.atomic ≡ true) → Quiet b (with_group n.running G n)
unfolding may_stay buffered buffer_holds with_group timer_runs forced calls
exchanged-quiet {b} {n} q inside G same marked force atomic =
    let g = n.running in
    let k = with_group g G n in
    let own : group_of k g ≡ G = group-same n g G inside in
    let line_kept : line k g ≡ line n g = reflagged-line n g G same g in
    record {
      head = λ x p e.
          rw (kept (λ K. K.buffer.count) n g G (ap (λ B. B.count) same) x.group, kept (λ K. K.revoked) n g G marked x.group) (q.head x p e);
      idle = λ rests.
          let t = neither (not (is_empty n.queue)) (forced k) rests in
          let off : forced n ≡ false =
          forced-still (eqb g 0) (group_of n g).force (group_of n g).atomic G.force G.atomic force atomic
          (ap (λ (K : Group). not (eqb g 0) && (K.force && K.atomic)) (sym own) ∙ t.1) in
          q.idle (ap (λ (u : Bool). u || forced n) t.0 ∙ off);
      resident = λ low.
          subst (FirstInFrame b) (sym (kept (λ K. K.buffer.frames) n g G (ap (λ B. B.frames) same) g)) (q.resident low);
      uncalled =
          ap (λ (K : Group). not (eqb g 0) && (not K.atomic && not (is_empty (line k g)))) own
          ∙ ap (λ (l : List Message). not (eqb g 0) && (not G.atomic && not (is_empty l))) line_kept
          ∙ undue (eqb g 0) (group_of n g).atomic G.atomic (is_empty (line n g)) atomic q.uncalled;
    }

-- the running group's place among the groups, or the first where nobody runs
pub runner-within : {b : Build} {n : Node} → Valid b n → pred n.running < length n.groups
runner-within {b} {n} v = omega (arith, v.group-count, v.running-bound)

-- so with another descriptor
pub described-quiet : {b : Build} {n : Node} → Valid b n → (d : List ℕ) → Quiet b (described d n)
unfolding described with_descriptor
described-quiet {b} {n} v d =
    exchanged-quiet (valid-quiet v) (runner-within v) (with_descriptor d (group_of n n.running)) refl refl (λ e. e) (λ e. e)

-- and in an atomic section
pub begun-quiet : {b : Build} {n : Node} → Valid b n → (force : Bool) → Quiet b (section_begun force n)
unfolding section_begun flagged timer_flagged with_group with_flags with_timer_flags
begun-quiet {b} {n} v force =
    let r = n.running in
    let G = group_of n r in
    let k = flagged true G.pending n in
    let own : group_of k r ≡ with_flags true G.pending G = group-same n r (with_flags true G.pending G) (runner-within v) in
    let once = exchanged-quiet (valid-quiet v) (runner-within v) (with_flags true G.pending G) refl refl (λ e. e) (λ e. refl) in
    exchanged-quiet {n = k} once (rw (length-set n.groups (pred r) (with_flags true G.pending G)) (runner-within v))
    (with_timer_flags (force || G.force) G.revoked (group_of k r)) refl (sym (ap (λ (K : Group). K.revoked) own))
    (λ e. ap (λ (t : Bool). force || t) (sym (ap (λ (K : Group). K.force) own) ∙ e) ∙ or-true force) (λ e. e)
